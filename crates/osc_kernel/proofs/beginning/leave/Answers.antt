-- A hart that leaves.
use Rattle.std.proofs.Common.{None}
use Rattle.osc_kernel.proofs.Taking.{leave_sound}
use Rattle.osc_kernel.proofs.beginning.leave.Goals as goal

pub returns-clause-sound : goal.returns-clause-sound
returns-clause-sound c = leave_sound c.args.state.now c.args.hart None c.requires.sound c.requires.quiet c.requires.jobs
