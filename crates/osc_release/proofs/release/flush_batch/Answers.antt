-- As many wait as a batch has.
use Rattle.std.proofs.Common.{arith, ◌≡◌, ◌==◌, true, subst, length, List, ℕ}
use Rattle.std.proofs.lemmas.Bool.Decides.{nat_tests}
use Rattle.osc_tables.specs.Calls.{changed}
use Rattle.osc_space.specs.Objects.{facts}
use Rattle.osc_shadow.specs.Flushing.{flushed, leaves_over}
use Rattle.osc_release.proofs.release.flush_batch.Goals as goal

pub returns-then-is_full-clause-next : goal.returns-then-is_full-clause-next
returns-then-is_full-clause-next c free =
    let count = c.count.ensures in
    let is = c.if-is_full.true in
    let full : (length c.args.waiting.now == c.args.batch) ≡ true = grind (arith, nat_tests, count, is) in
    rw full
    (subst (λ (g : List ℕ). changed c.flush.new.tables free c.flush.new.jobs.pushed ≡ flushed c.args.harts (leaves_over c.args.tables.now c.args.marks.now.objects (facts c.args.marks.now.objects g)) (changed c.args.tables.now free c.args.jobs.now.pushed))
    c.objects.ensures (c.flush.ensures.next free))
