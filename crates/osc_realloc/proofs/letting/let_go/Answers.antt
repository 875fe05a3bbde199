-- The list is that of all that wait and the one more.
use Rattle.std.proofs.Common.{ℕ, ◌≡◌, ◌+◌, ◌++◌, ◌∷◌, [], ◌∙◌, List, arith, ap, subst, length, take}
use Rattle.osc_tables.specs.Calls.{changed}
use Rattle.osc_space.specs.Objects.{facts}
use Rattle.osc_shadow.specs.Flushing.{flushed, leaves_over}
use Rattle.osc_realloc.proofs.letting.let_go.Goals as goal

pub returns-clause-next : goal.returns-clause-next
returns-clause-next c free =
    let front : take (length c.args.waiting.now + 1) c.followed_by-gone.result ≡ c.args.waiting.now ++ c.args.object ∷ [] =
    subst (λ (xs : List ℕ). take (length xs + 1) c.followed_by-gone.result ≡ xs ++ c.args.object ∷ []) c.objects.ensures c.followed_by-gone.ensures in
    let count = c.count.ensures in
    let many : c.count.result + 1 ≡ length c.args.waiting.now + 1 = omega arith in
    c.flush.ensures.next free
    ∙ ap (λ (gone : List ℕ). flushed c.args.harts (leaves_over c.args.tables.now c.args.marks.now.objects (facts c.args.marks.now.objects gone)) (changed c.args.tables.now free c.args.jobs.now.pushed))
    (ap (λ n. take n c.followed_by-gone.result) many ∙ front)
