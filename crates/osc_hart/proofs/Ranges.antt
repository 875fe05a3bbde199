-- A hart that runs a thread stays within the frames that the thread came with.
use Rattle.std.proofs.Common.{ℕ, ◌<◌, ◌≡◌, Bool, true, false, Option, Some, None, IfSome, refl, sym, ap, subst, arith, ◌∙◌}
use Rattle.osc_word.specs.declared.orders.Start as thread
use Rattle.osc_word.specs.declared.orders.Order.{Order}
use Rattle.osc_word.specs.declared.orders.Order.TheVariants as order
use Rattle.osc_paging.specs.Boxes.{BoxState, no_entries}
use Rattle.osc_guest.specs.declared.places.Place.{Place}
use Rattle.osc_guest.specs.declared.places.Place.TheVariants as at
use Rattle.osc_guest.specs.User.{UserHart, Answered, without_box, user_idle, user_begin}
use Rattle.osc_guest.specs.Asks.{ask, ask_at}
use Rattle.osc_guest.specs.Orders.{ordered}
use Rattle.osc_guest.specs.Told.{Told, Box, Done, told, told_at}
use Rattle.osc_guest.specs.Hands.{runs_thread, HandAgrees, HandsMove, HandKept}
use Rattle.osc_guest.specs.Laws.{GivingLooksAway}
use Rattle.osc_guest.specs.Carry.{CacheOk, PlaceOk}
use Rattle.osc_guest.specs.Ranges.{PageIn, TableIn, BoxIn, OrderIn, ToldIn, HartIn, AskIn, AsksIn, RangeKept, BeginsIn}
use Rattle.osc_hart.specs.Within.{InRange, GivenIn, TakenIn, ToldWithin, BoxesFit, NewFits, Driven, TellsOn, TakesOn, GivesOn, BeginsSo, IdlesSo}
use Rattle.osc_hart.proofs.Empty.{no_entry}

-- ---- without a box
no_page : (frames : ℕ) → CacheOk (PageIn frames) 0 no_entries
unfolding no_entries
no_page frames slot entry e = absurd (let n = no_entry 32 slot in let b : ⊥ = grind (arith, e, n) in b)

emptied : (frames : ℕ) (h : UserHart) → HartIn frames h → HartIn frames (without_box h)
emptied frames h k = record { count = k.count; root = k.root; place = k.place; gate = k.gate; box = (no_page frames, tt) }

pub emptied_in_range : (h : UserHart) → InRange h → InRange (without_box h)
emptied_in_range h k e = emptied h.frames h (k e)

-- ---- what it asks for
asked_at : (frames : ℕ) (p : Place) (h : UserHart) → (runs_thread p ≡ true → AskIn frames (ask_at p h)) → AskIn frames (ask_at p h)
asked_at frames at.Idle h k = tt
asked_at frames (at.GiveBox follows) h k = tt
asked_at frames (at.Call request) h k = tt
asked_at frames at.Rest h k = tt
asked_at frames p h k = k refl

pub asks_in_range : AsksIn → (h : UserHart) → InRange h → AskIn h.frames (ask h)
unfolding ask
asks_in_range law h k = asked_at h.frames h.place h (λ e. law h.frames h (k e))

-- ---- a hart that ran a thread
recounted : (frames count : ℕ) (h : UserHart) → count ≡ frames → HartIn frames h → HartIn count h
recounted frames count h e k = subst (λ n. HartIn n h) (sym e) k

told_to_running : (h : UserHart) (t : Told) → runs_thread h.place ≡ true → ToldWithin t h → ToldIn h.frames t
told_to_running h (Box box) e s = subst (λ b. TakenIn b h.frames box) e s
told_to_running h t e s = tt

after_running : RangeKept → (h : UserHart) (t : Told) → HartIn h.frames h → ToldIn h.frames t → InRange (told h t).hart
after_running law h t k s e =
    let after = law h.frames h t k s in recounted h.frames (told h t).hart.frames (told h t).hart (after.count e) after

-- ---- a hart that had no thread: the box that it had doesn't matter
idle_hart : (frames : ℕ) (h : UserHart) → h.place ≡ at.Idle → HartIn frames (without_box h)
idle_hart frames h e = record {
  count = λ r. absurd (let b : ⊥ = grind (arith, e, r) in b);
  root = λ r. absurd (let b : ⊥ = grind (arith, e, r) in b);
  place = subst (λ (p : Place). PlaceOk (PageIn frames) (TableIn frames) 0 p) (sym e) tt;
  gate = λ frame g. absurd (let b : ⊥ = grind (arith, e, g) in b);
  box = (no_page frames, tt);
}

retaken : (o : Order) (box : BoxState) (h : UserHart) → ordered false o box (without_box h) ≡ ordered false o box h
retaken order.Empty box h = refl
retaken (order.Start start) box h = refl
retaken order.Stop box h = refl
retaken order.Over box h = refl

retold : (h : UserHart) (box : BoxState) → h.place ≡ at.Idle → told (without_box h) (Box box) ≡ told h (Box box)
unfolding told
retold h box e =
    ap (λ (p : Place). told_at p (without_box h) (Box box)) e ∙ retaken box.order box h
    ∙ sym (ap (λ (p : Place). told_at p h (Box box)) e)

after_start : RangeKept → (h : UserHart) (box : BoxState) (start : thread.Start) → h.place ≡ at.Idle → BoxIn start.frames box → InRange (told h (Box box)).hart
after_start law h box start e s r =
    let after = law start.frames (without_box h) (Box box) (idle_hart start.frames h e) s in
    let same = subst (λ (a : Answered). HartIn start.frames a.hart) (retold h box e) after in
    recounted start.frames (told h (Box box)).hart.frames (told h (Box box)).hart (same.count r) same

after_order : RangeKept → HandsMove → (o : Order) (h : UserHart) (box : BoxState) → h.place ≡ at.Idle → box.order ≡ o → GivenIn o box → InRange (told h (Box box)).hart
after_order law moves (order.Start start) h box e f s r = after_start law h box start e s r
after_order law moves o h box e f s r =
    absurd (let m = moves h (Box box) in let b : ⊥ = grind (arith, e, f, r, m.runs) in b)

after_idle : RangeKept → HandsMove → (p : Place) (h : UserHart) (t : Told) → h.place ≡ p → runs_thread p ≡ false → ToldWithin t h → InRange (told h t).hart
after_idle law moves at.Idle h (Box box) e n s r =
    after_order law moves box.order h box e refl (subst (λ (p : Place). TakenIn (runs_thread p) h.frames box) e s) r
after_idle law moves p h t e n s r =
    absurd (let m = moves h t in let b : ⊥ = grind (arith, e, n, r, m.runs) in b)

pub told_in_range : RangeKept → HandsMove → (h : UserHart) (t : Told) → InRange h → ToldWithin t h → InRange (told h t).hart
told_in_range law moves h t k s = go (runs_thread h.place) refl
  where
    go : (b : Bool) → runs_thread h.place ≡ b → InRange (told h t).hart
    go true e = after_running law h t (k e) (told_to_running h t e s)
    go false e = after_idle law moves h.place h t refl e s

pub begun_in_range : BeginsIn → (start : thread.Start) → start.root < start.frames → InRange (user_begin start)
begun_in_range law start s e = (law start.frames start (refl, s)).1

-- ---- the boxes of a machine
given_in : (frames : ℕ) (o : Order) (box : BoxState) → box.order ≡ o → BoxIn frames box → GivenIn o box
given_in frames (order.Start start) box e s =
    let own = subst (OrderIn frames) e s.1 in subst (λ n. BoxIn n box) (sym own.0) s
given_in frames o box e s = tt

taken_in : (frames count : ℕ) (runs : Bool) (box : BoxState) → (runs ≡ true → count ≡ frames) → BoxIn frames box → TakenIn runs count box
taken_in frames count true box k s = subst (λ n. BoxIn n box) (sym (k refl)) s
taken_in frames count false box k s = given_in frames box.order box refl s

pub boxes_fit : BoxesFit
boxes_fit frames h (Box box) k s = taken_in frames h.frames (runs_thread h.place) box k.count s
boxes_fit frames h t k s = tt

pub new_fits : NewFits
new_fits frames = (no_page frames, tt)

-- ---- a hart that is driven
told_on : RangeKept → HandKept → (frames : ℕ) (h : UserHart) (t : Told) (home : Option BoxState) → HandAgrees h → HartIn frames h → ToldIn frames t
    → IfSome home (BoxIn frames) → Driven frames (told h t).hart home
told_on law kept frames h t home a k s b = record { hand = kept h t a; range = law frames h t k s; box = b }

pub tells_on : RangeKept → HandKept → TellsOn
tells_on law kept frames h t home next choice d s e =
    subst (λ (a : Answered). Driven frames a.hart home) (sym e) (told_on law kept frames h t home d.hand d.range s d.box)

pub takes_on : RangeKept → HandKept → TakesOn
takes_on law kept frames h home box next choice d f e =
    subst (λ (a : Answered). Driven frames a.hart None) (sym e)
    (told_on law kept frames h (Box box) None d.hand d.range (subst (λ m. IfSome m (BoxIn frames)) f d.box) tt)

pub gives_on : RangeKept → HandKept → GivingLooksAway → GivesOn
gives_on law kept away frames h empty home box next choice d g b f e =
    subst (λ (a : Answered). Driven frames a.hart (Some box)) (sym (e ∙ ap (λ (x : UserHart). told x Done) f ∙ away h g))
    (told_on law kept frames h Done (Some box) d.hand d.range tt (subst (BoxIn frames) (sym b) d.range.box))

pub begins_so : BeginsIn → BeginsSo
begins_so law frames start home s b = record { hand = refl; range = (law frames start s).1; box = b }

pub idles_so : IdlesSo
idles_so frames home b = record { hand = refl; range = idle_hart frames user_idle refl; box = b }
