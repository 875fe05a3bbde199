-- A hart that is to ask again.
use Rattle.std.proofs.Common.{None}
use Rattle.osc_kernel.proofs.Taking.{retry_sound}
use Rattle.osc_kernel.proofs.beginning.retry.Goals as goal

pub returns-clause-sound : goal.returns-clause-sound
returns-clause-sound c = retry_sound c.args.state.now None c.requires.sound c.requires.quiet c.requires.jobs
