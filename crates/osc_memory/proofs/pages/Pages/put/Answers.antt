use Rattle.std.proofs.Common.{◌≡◌, Some, refl, sym, slice_get}
use Rattle.std.proofs.lemmas.Option.{slice_get_read}
use Rattle.osc_world.specs.Values.{spread}
use Rattle.osc_memory.proofs.Slots.{put-at, put-none}
use Rattle.osc_memory.proofs.pages.Pages.put.Goals as goal

pub returns-in-Some : goal.returns-in-Some
returns-in-Some c =
    let inside = rw (← c.self.view_is) at c.in-Some.ensures.inside in
    let found = rw (← c.self.view_is, c.from.ensures) at c.in-Some.ensures.page in
    let here : slice_get c.self.inside.list.items c.in-Some.place ≡ Some c.index_mut.result.now =
    slice_get_read c.self.inside.list.items _ c.in-Some.place c.index_mut.result.now refl inside c.index_mut.ensures.value in
    rw (c.put_if.ensures, ← c.self.view_is)
    (put-at c.self.inside.places.items c.self.inside.list.items c.args.number c.args.offset (spread c.args.width c.args.value) c.in-Some.place
    c.index_mut.result.now c.self.invariant here found)

pub returns-in-None : goal.returns-in-None
returns-in-None c =
    put-none c.args.number c.args.offset (spread c.args.width c.args.value) c.args.self.now (sym (rw c.from.ensures at c.in-None.ensures.page))
