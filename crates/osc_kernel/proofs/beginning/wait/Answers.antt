-- A call that waits.
use Rattle.osc_kernel.proofs.Taking.{wait_sound}
use Rattle.osc_kernel.proofs.beginning.wait.Goals as goal

pub returns-clause-sound : goal.returns-clause-sound
returns-clause-sound c = wait_sound c.args.state.now c.args.calling.now c.requires.sound c.requires.quiet c.requires.jobs c.requires.runs c.requires.room
