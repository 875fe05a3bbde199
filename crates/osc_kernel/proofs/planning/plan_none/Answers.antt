-- No call waits.
use Rattle.std.proofs.Common.{ap, sym}
use Rattle.osc_calls.specs.Kernel.{Shown}
use Rattle.osc_kernel.proofs.Committing.{plans_none}
use Rattle.osc_kernel.proofs.planning.plan_none.Goals as goal

pub returns-clause-kernel : goal.returns-clause-kernel
returns-clause-kernel c = λ found. sym (ap (λ (x : Shown). x.kernel) (plans_none found c.args.state.now c.requires.none))

pub returns-clause-shown : goal.returns-clause-shown
returns-clause-shown c = λ found. sym (ap (λ (x : Shown). x.shows) (plans_none found c.args.state.now c.requires.none))
