-- Whether all processes have ended.
use Rattle.std.proofs.Common.{◌==◌, ap, ◌∙◌}
use Rattle.osc_kernel.proofs.Showing.{all_ended}
use Rattle.osc_kernel.proofs.spaces.is_over.Goals as goal

pub returns : goal.returns
returns c = ap (λ n. n == 0) c.requires.sound.rooms.counted ∙ all_ended c.args.state.now.processes.items
