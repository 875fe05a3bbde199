-- How many processes were made.
use Rattle.std.proofs.Common.{arith}
use Rattle.osc_ready.proofs.Limits.{in_range}
use Rattle.osc_kernel.proofs.spaces.count.Goals as goal

pub length_of-requires : goal.length_of-requires
length_of-requires c = record {
  few = (let a = c.requires.sound.rooms.few in let b = (in_range c.args.state.now.config c.requires.sound.rooms.valid).processes in omega (arith, a, b));
}
