-- The laws, proved of the definitions.
use Rattle.osc_hart.proofs.Ranges as within
use Rattle.osc_hart.proofs.within.boxes_fit.Goals as goal

pub returns-clause-told : goal.returns-clause-told
returns-clause-told c = within.boxes_fit

pub returns-clause-empty : goal.returns-clause-empty
returns-clause-empty c = within.new_fits
