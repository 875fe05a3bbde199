use Rattle.std.proofs.Common.{length}
use Rattle.osc_assemble.proofs.Cutting.{Reading}
use Rattle.osc_assemble.proofs.lines.read.Given as goal

abbrev pub invariant-loop-rest : goal.invariant-loop-rest
invariant-loop-rest l = Reading l.text l.rest l.number l.made

abbrev pub decreases-loop-rest : goal.decreases-loop-rest
decreases-loop-rest l = length l.rest
