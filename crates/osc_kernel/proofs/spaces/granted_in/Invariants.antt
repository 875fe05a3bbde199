-- The shadow pages granted so far: no process has granted more than the shadow range holds.
use Rattle.std.proofs.Common.{◌≡◌, ◌≤◌, ◌*◌, take}
use Rattle.std.specs.List.{sum_by}
use Rattle.osc_kernel.specs.Seen.{granted_by}
use Rattle.osc_kernel.proofs.spaces.granted_in.Given as goal

abbrev pub invariant-loop-process : goal.invariant-loop-process
invariant-loop-process l = (l.total ≡ sum_by granted_by (take l.process-index l.processes)) × (l.total ≤ 16777216 * l.process-index)
