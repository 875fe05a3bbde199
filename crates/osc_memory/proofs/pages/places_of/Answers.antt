use Rattle.std.proofs.Common.{◌≡◌, Some, arith, refl, ap, ◌∙◌, slice_get}
use Rattle.std.proofs.lemmas.Option.{slice_get_read, slice_get_within}
use Rattle.osc_memory.specs.Slots.{slot}
use Rattle.osc_memory.proofs.Slots.{stand-next}
use Rattle.osc_memory.proofs.pages.places_of.Goals as goal

pub loop-place-init : goal.loop-place-init
loop-place-init c = (
  λ i page at. let size = c.in_ok-places.ensures.len in let low = c.slots_of.ensures i page at in omega (arith, size, low),
  λ i page below at. absurd (omega (arith, below)),
)

pub index_mut-requires : goal.index_mut-requires
index_mut-requires c =
    let here : slice_get c.args.pages.now c.loop-place.place ≡ Some c.index-pages-place.result =
    slice_get_read c.args.pages.now _ c.loop-place.place c.index-pages-place.result refl c.loop-place-test.true c.index-pages-place.is in
    let named : c.slot_of-slot.result ≡ slot c.index-pages-place.result.number =
    rw (← c.page.view_is) (c.slot_of-slot.ensures.value ∙ ap slot c.from.ensures) in
    rw named (c.loop-place.invariant.0 c.loop-place.place c.index-pages-place.result here)

pub loop-place-preserved : goal.loop-place-preserved
loop-place-preserved c =
    let here : slice_get c.args.pages.now c.loop-place.place ≡ Some c.index-pages-place.result =
    slice_get_read c.args.pages.now _ c.loop-place.place c.index-pages-place.result refl c.loop-place-test.true c.index-pages-place.is in
    let named : c.slot_of-slot.result ≡ slot c.index-pages-place.result.number =
    rw (← c.page.view_is) (c.slot_of-slot.ensures.value ∙ ap slot c.from.ensures) in
    let low = c.loop-place.invariant.0 c.loop-place.place c.index-pages-place.result here in
    let size = c.loop-place.places.ok.0 in (
      c.loop-place.invariant.0,
      rw named (stand-next c.loop-place.places.items _ c.args.pages.now c.loop-place.place c.index-pages-place.result c.requires here (omega (arith, low, size)) refl c.loop-place.invariant.1),
    )

pub returns : goal.returns
returns c = λ i page at.
    let inside = slice_get_within c.args.pages.now i page at in c.loop-place.invariant.1 i page (omega (arith, inside)) at
