-- The law, proved of the definitions.
use Rattle.osc_showing.proofs.Shown.{turns-show}
use Rattle.osc_showing.proofs.laws.turns_show.Goals as goal

pub returns : goal.returns
returns c = turns-show
