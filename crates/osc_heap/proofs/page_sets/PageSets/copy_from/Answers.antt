-- Each page is told as the other area tells it.
use Rattle.std.proofs.Common.{◌≡◌, arith, refl}
use Rattle.osc_frames.proofs.Rows.{same_lists}
use Rattle.osc_heap.proofs.page_sets.PageSets.copy_from.Goals as goal

pub returns : goal.returns
returns c =
    let i = c.loop-page.invariant in
    let past = c.loop-page-test.false in
    let counts = c.requires.counts in
    let own = c.requires.own in
    let others = c.requires.others in
    let same : c.loop-page.self.count ≡ c.args.other.now.count = omega arith in
    let partly : c.loop-page.self.partly ≡ c.args.other.now.partly = same_lists c.loop-page.self.partly c.args.other.now.partly (omega arith) (λ k l. i.partly k (omega arith)) in
    let empty : c.loop-page.self.empty ≡ c.args.other.now.empty = same_lists c.loop-page.self.empty c.args.other.now.empty (omega arith) (λ k l. i.empty k (omega arith)) in
    rw (same, partly, empty) refl
