-- The records before this one are changed.
use Rattle.std.proofs.Common.{◌≡◌, map}
use Rattle.osc_calls.specs.ProcessPlans.{record_stopped}
use Rattle.osc_under_way.proofs.EightRecords.{half_mapped}
use Rattle.osc_under_way.proofs.hart_records.stop_all.Given as goal

abbrev pub invariant-loop-kept : goal.invariant-loop-kept
invariant-loop-kept l = half_mapped (record_stopped l.pid) l.kept-index l.records ≡ map (record_stopped l.pid) l.fn.records
