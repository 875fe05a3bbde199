-- The topmost table has taken the least free frame.
use Rattle.std.proofs.Common.{ap, ◌≡◌, ◌+◌, ◌∙◌, Some, length}
use Rattle.osc_slot.specs.Heap.{empty_heap}
use Rattle.osc_frames.specs.Free.{all_free, least_free}
use Rattle.osc_mark.specs.Grants.{no_grants}
use Rattle.osc_paging.specs.KeptTables.{closed}
use Rattle.osc_paging.specs.TableChanges.{opened}
use Rattle.osc_shadow.proofs.Fresh.{fresh_agrees, long_free}
use Rattle.osc_shadow.proofs.tests.fresh.Goals as goal

pub returns-clause-agree : goal.returns-clause-agree
returns-clause-agree c =
    let marks : c.in_ok-marks.marks ≡ no_grants c.args.shadows = c.in_ok-marks.ensures.0 in
    let heap : c.in_ok-heap.heap ≡ empty_heap c.args.frames = c.in_ok-heap.ensures.0 in
    let free : c.in_ok-free.free ≡ all_free c.args.frames = c.in_ok-free.ensures in
    let count : length c.in_ok-free.free ≡ c.args.frames = ap length free ∙ long_free c.args.frames in
    let least : Some c.in-Some.root ≡ least_free c.in_ok-free.free = c.in-Some.ensures.least in
    let tables : c.open.new.self ≡ opened c.in-Some.root (closed c.args.levels c.args.frames (c.args.frames + c.args.shadows)) = c.open.ensures ∙ ap (λ t. opened c.in-Some.root t) c.in_ok-tables.ensures in
    rw (marks, heap)
    (fresh_agrees c.args.levels c.args.frames c.args.shadows c.in-Some.root c.open.new.self c.in_ok-free.free c.take.new.self count least c.in-Some.ensures.after tables)
