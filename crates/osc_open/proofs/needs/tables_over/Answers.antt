-- One page more is counted.
use Rattle.std.proofs.Common.{◌≡◌, ◌+◌, ◌<◌, ◌∙◌, ◌∷◌, suc, length, take, drop, get_or, arith, subst, ap}
use Rattle.std.proofs.lemmas.List.{take_more}
use Rattle.std.proofs.Math.Seq as seq
use Rattle.osc_open.proofs.Counted.{Counting, counting_new, counting_same}
use Rattle.osc_open.proofs.needs.tables_over.Goals.{then-next-table, else-next-table}
use Rattle.osc_open.proofs.needs.tables_over.Goals as goal

pub loop-page-preserved : goal.loop-page-preserved
loop-page-preserved c =
    let i = c.loop-page.page-index in
    let here : i < length c.args.pages.now = c.loop-page-test.true in
    let p = get_or c.args.pages.now i (0, record { 0 = 0 }) in
    let next_place : suc i ≡ i + 1 = omega arith in
    let cons = seq.drop-cons c.args.pages.now i (0, record { 0 = 0 }) here ∙ ap (λ n. p ∷ drop n c.args.pages.now) next_place in
    let more = take_more c.args.pages.now i (0, record { 0 = 0 }) here in
    let so_far = subst (λ rest. Counting c.args.size (take i c.args.pages.now) rest c.loop-page.count c.loop-page.next) cons c.loop-page.invariant in
    elim c.if-next-table.branch [
      | then-next-table w ↦ rw (w.next-is, w.count-is, more)
          (counting_new c.args.size (take i c.args.pages.now) (drop (i + 1) c.args.pages.now) p c.loop-page.count c.loop-page.next c.requires.size w.if-next-table.true so_far)
      | else-next-table w ↦ rw (w.next-is, w.count-is, more)
          (counting_same c.args.size (take i c.args.pages.now) (drop (i + 1) c.args.pages.now) p c.loop-page.count c.loop-page.next c.requires.size w.if-next-table.false so_far)
    ]
