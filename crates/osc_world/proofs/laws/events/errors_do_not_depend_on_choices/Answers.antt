-- The law is the lemma.
use Rattle.osc_world.proofs.Table.{does-errs}
use Rattle.osc_world.proofs.laws.events.errors_do_not_depend_on_choices.Goals as goal

pub returns : goal.returns
returns c = does-errs
