-- A block has more bytes than its header.
use Rattle.std.proofs.Common.{arith}
use Rattle.osc_plain.proofs.Lying.{room_bytes}
use Rattle.osc_plain.proofs.blocks.kept_bytes.Goals as goal

pub returns-clause-within : goal.returns-clause-within
returns-clause-within c = let a = room_bytes c.args.block.room c.requires.is_room in omega (arith, a)
