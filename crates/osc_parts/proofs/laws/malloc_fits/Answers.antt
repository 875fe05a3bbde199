-- The law, proved of the definitions.
use Rattle.osc_parts.proofs.MallocParts.{mallocs_fit, mallocs_take_need, mallocs_give_nothing}
use Rattle.osc_parts.proofs.laws.malloc_fits.Goals as goal

pub returns-clause-fits : goal.returns-clause-fits
returns-clause-fits c = mallocs_fit

pub returns-clause-need : goal.returns-clause-need
returns-clause-need c = mallocs_take_need

pub returns-clause-nothing : goal.returns-clause-nothing
returns-clause-nothing c = mallocs_give_nothing
