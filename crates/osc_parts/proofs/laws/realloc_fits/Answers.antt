-- The law, proved of the definitions.
use Rattle.osc_parts.proofs.ReallocKinds.{reallocs_fit, reallocs_take_need}
use Rattle.osc_parts.proofs.laws.realloc_fits.Goals as goal

pub returns-clause-fits : goal.returns-clause-fits
returns-clause-fits c = reallocs_fit

pub returns-clause-need : goal.returns-clause-need
returns-clause-need c = reallocs_take_need
