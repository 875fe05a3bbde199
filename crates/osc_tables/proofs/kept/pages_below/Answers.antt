-- A power of 512.
use Rattle.std.proofs.Common.{◌≡◌, arith}
use Rattle.osc_tables.proofs.kept.pages_below.Goals as goal

pub returns-in_default : goal.returns-in_default
returns-in_default c = let three : c.args.level ≡ 3 = omega arith in rw three (omega arith)
