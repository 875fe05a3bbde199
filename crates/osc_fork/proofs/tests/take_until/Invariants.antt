use Rattle.std.proofs.Common.{◌≡◌, length}
use Rattle.osc_frames.specs.Free.{IsTaken}
use Rattle.osc_fork.proofs.tests.take_until.Given as goal

-- the first frame stays taken
abbrev pub invariant-loop : goal.invariant-loop
invariant-loop g l = record { count : length l.frames ≡ 64; taken : IsTaken l.frames 0 }
