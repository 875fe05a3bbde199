-- Without a box the hart looks into an empty cache.
use Rattle.osc_hart.proofs.Empty.{finds_nothing}
use Rattle.osc_hart.proofs.looking.look_in.Goals as goal

pub returns-in-None : goal.returns-in-None
returns-in-None c = rw c.in-None.is (finds_nothing c.args.page c.args.access)
