-- The page at the loop's place is the next that is backed.
use Rattle.std.proofs.Common.{◌≡◌, ◌-◌, [], ◌++◌, arith, refl, sym, ap, ◌∙◌, ◌∷◌}
use Rattle.osc_frames.specs.Free.{without_frame}
use Rattle.osc_slot.specs.declared.HeapPage.{HeapPage}
use Rattle.osc_slot.specs.Heap.{back}
use Rattle.std.proofs.lemmas.List.{append_assoc, append-nil}
use Rattle.osc_heap.proofs.Ranges.{pushed, back_zero}
use Rattle.osc_heap.proofs.rest.push_backed.Goals as goal
use Rattle.osc_heap.proofs.rest.push_backed.Goals.{in-Some, in-None}

pub loop-page-init : goal.loop-page-init
loop-page-init c =
    let none = back_zero c.args.first (record { pages = []; free = c.args.frames.now }) in
    let room = c.requires.room in
    record {
      from = omega arith;
      to = omega arith;
      pages = rw none (sym (append-nil c.args.pages.now.items));
      free = rw none refl;
      left = omega arith;
      room = omega arith;
    }

pub loop-page-preserved : goal.loop-page-preserved
loop-page-preserved c =
    let i = c.loop-page.invariant in
    let from = i.from in
    let left = i.left in
    let room = i.room in
    let some = c.loop-page-test.true in
    let p = pushed c.args.first c.loop-page.page c.args.frames.now c.loop-page.frames c.take.result from i.free c.take.ensures.least in
    let free = c.take.ensures.after ∙ ap (λ f. without_frame f c.take.result) i.free ∙ sym p.free in
    let done = (back (c.loop-page.page - c.args.first) c.args.first (record { pages = []; free = c.args.frames.now })).pages in
    elim c.match-take.branch [
      | in-Some w ↦ (let len = w.push.ensures.len in
          let new : HeapPage = record { page = c.loop-page.page; frame = w.in-Some.frame } in
          rw w.pages-is (record {
            from = omega arith;
            to = omega arith;
            pages = (rw w.unwrap.ensures at w.push.ensures.items) ∙ ap (λ ps. ps ++ new ∷ []) i.pages ∙ append_assoc c.args.pages.now.items done (new ∷ []) ∙ ap (λ ps. c.args.pages.now.items ++ ps) (sym (p.some w.in-Some.frame w.in-Some.is));
            free = free;
            left = omega arith;
            room = omega arith;
          }))
      | in-None w ↦ rw w.pages-is (record {
        from = omega arith;
        to = omega arith;
        pages = i.pages ∙ ap (λ ps. c.args.pages.now.items ++ ps) (sym (p.none w.in-None.is));
        free = free;
        left = omega arith;
        room = room;
      })
    ]

pub returns : goal.returns
returns c =
    let i = c.loop-page.invariant in
    let to = i.to in
    let past = c.loop-page-test.false in
    let n : c.loop-page.page - c.args.first ≡ c.args.count = omega arith in
    record { pages = rw n at i.pages; free = rw n at i.free; room = i.room }
