-- A process that has its topmost table alone is settled.
use Rattle.std.proofs.Common.{ℕ, ◌≡◌, ◌+◌, ◌∙◌, Some, ap, sym, arith, length}
use Rattle.osc_word.specs.declared.settings.HeapKind.TheVariants.{Plain}
use Rattle.osc_frames.specs.Free.{least_free, without_frame}
use Rattle.osc_slot.specs.Heap.{empty_heap}
use Rattle.osc_paging.specs.KeptTables.{closed}
use Rattle.osc_paging.specs.TableChanges.{opened}
use Rattle.osc_shadow.proofs.Fresh.{fresh_settled, long_free}
use Rattle.osc_plain.proofs.tests.fresh.Goals as goal

pub returns-clause-settled : goal.returns-clause-settled
returns-clause-settled g c =
    let heap : c.in_ok-heap.heap ≡ empty_heap c.args.frames = c.in_ok-heap.ensures.0 in
    let count : length c.in_ok-free.free ≡ c.args.frames = ap length c.in_ok-free.ensures ∙ long_free c.args.frames in
    let some : c.take.result ≡ Some c.expect-root.result = c.expect-root.ensures in
    let least : Some c.expect-root.result ≡ least_free c.in_ok-free.free = sym some ∙ c.take.ensures.least in
    let after : c.take.new.self ≡ without_frame c.in_ok-free.free (Some c.expect-root.result) = c.take.ensures.after ∙ ap (without_frame c.in_ok-free.free) some in
    let tables : c.open.new.self ≡ opened c.expect-root.result (closed c.args.levels c.args.frames (c.args.frames + 8)) = c.open.ensures ∙ ap (opened c.expect-root.result) c.in_ok-tables.ensures in
    rw heap (fresh_settled Plain c.args.levels c.args.frames 8 c.expect-root.result c.open.new.self c.in_ok-free.free c.take.new.self c.requires.levels c.requires.frames (omega arith) count least after tables)
