-- The law, proved of the definitions.
use Rattle.osc_stored.proofs.Storing.{pages_are_data, stores_are_data}
use Rattle.osc_stored.proofs.laws.pages_are_data.Goals as goal

pub returns-clause-pages : goal.returns-clause-pages
returns-clause-pages c = pages_are_data

pub returns-clause-stores : goal.returns-clause-stores
returns-clause-stores c = stores_are_data
