-- What a hart has in its hand after an answer, place by place.
use Rattle.std.proofs.Common.{◌≡◌, is_some, arith, refl, sym, ap, ◌∙◌}
use Rattle.std.specs.Option.{option_map_or}
use Rattle.osc_word.specs.declared.orders.Start as thread
use Rattle.osc_word.specs.declared.orders.Order.{Order}
use Rattle.osc_word.specs.declared.orders.Order.TheVariants as order
use Rattle.osc_sv39.specs.Entries.{entry_of}
use Rattle.osc_paging.specs.Boxes.{BoxState}
use Rattle.osc_rv.specs.Instr.{instr_of}
use Rattle.osc_guest.specs.declared.places.Place.{Place}
use Rattle.osc_guest.specs.declared.places.Place.TheVariants as at
use Rattle.osc_guest.specs.declared.places.Stage.TheVariants as stage
use Rattle.osc_guest.specs.User.{UserHart, starting}
use Rattle.osc_guest.specs.Accesses.{found_by}
use Rattle.osc_guest.specs.Orders.{holding, obeyed}
use Rattle.osc_guest.specs.Told.{Told, Box, Word, told, told_at}
use Rattle.osc_guest.specs.Hands.{holds_box, held_after, order_in, order_after, gate_held, gate_after, start_told, runs_thread, runs_after, HandsMove, HandKept}
use Rattle.osc_guest.specs.Laws.{count_after, ChoicesCounted}
use Rattle.osc_guest.proofs.Seams.{walked-calm, decoded-calm, begun-calm}

abbrev Out : Place → UserHart → Told → Type 0
Out p h t =
    let a = told_at p h t in let start = start_told p t in
    (is_some a.hart.held ≡ held_after p t (is_some h.held)) × (order_in a.hart.held ≡ order_after p t (order_in h.held))
    × (gate_held a.hart.place ≡ gate_after p t) × (runs_thread a.hart.place ≡ runs_after p t)
    × (a.hart.pid ≡ option_map_or (λ (s : thread.Start). s.pid) start h.pid)
    × (a.hart.root ≡ option_map_or (λ (s : thread.Start). s.root) start h.root)
    × (a.hart.levels ≡ option_map_or (λ (s : thread.Start). s.levels) start h.levels)
    × (a.hart.frames ≡ option_map_or (λ (s : thread.Start). s.frames) start h.frames)
    × (holds_box a.hart.place ≡ held_after p t (holds_box p)) × (a.hart.retired ≡ count_after a.choice h.retired)

abbrev with_order : Order → BoxState → BoxState
with_order o box = record box { order = o }

run-out : (o : Order) (box : BoxState) (h : UserHart) → box.order ≡ o → Out at.Run h (Box box)
run-out o box h e = grind (arith, e, begun-calm (holding box h))

idle-out : (o : Order) (box : BoxState) (h : UserHart) → box.order ≡ o → Out at.Idle h (Box box)
idle-out (order.Start start) box h e = grind (arith, e, begun-calm (starting start (holding (obeyed box) h)))
idle-out o box h e = grind (arith, e)

told-out : (p : Place) (h : UserHart) (t : Told) → h.place ≡ p → Out p h t
told-out at.Run h (Box box) e = run-out box.order box h refl
told-out at.Idle h (Box box) e = idle-out box.order box h refl
told-out (at.Walk access level table) h (Word word) e = walked-calm access level (entry_of word) h
told-out (at.Access access frame stage.Fetch) h (Word word) e = decoded-calm (instr_of (found_by access word)) h
told-out (at.Access access frame stage) h t e = grind (arith, e)
told-out (at.GiveBox follows) h t e = grind (arith, e)
told-out (at.Call asked) h t e = grind (arith, e)
told-out p h t e = grind (arith, e)

pub hands_move : HandsMove
unfolding told
hands_move h t =
    let o = told-out h.place h t refl in
    record { box = o.0; order = o.1; gate = o.2; runs = o.3; pid = o.4; root = o.5; levels = o.6; frames = o.7 }

-- ---- the same, one by one, for those who rewrite by them
pub told-box : (h : UserHart) (t : Told) → is_some (told h t).hart.held ≡ held_after h.place t (is_some h.held)
told-box h t = let o = hands_move h t in o.box

pub told-order : (h : UserHart) (t : Told) → order_in (told h t).hart.held ≡ order_after h.place t (order_in h.held)
told-order h t = let o = hands_move h t in o.order

pub told-gate : (h : UserHart) (t : Told) → gate_held (told h t).hart.place ≡ gate_after h.place t
told-gate h t = let o = hands_move h t in o.gate

pub told-runs : (h : UserHart) (t : Told) → runs_thread (told h t).hart.place ≡ runs_after h.place t
told-runs h t = let o = hands_move h t in o.runs

pub told-pid : (h : UserHart) (t : Told) → (told h t).hart.pid ≡ option_map_or (λ (s : thread.Start). s.pid) (start_told h.place t) h.pid
told-pid h t = let o = hands_move h t in o.pid

pub told-root : (h : UserHart) (t : Told) → (told h t).hart.root ≡ option_map_or (λ (s : thread.Start). s.root) (start_told h.place t) h.root
told-root h t = let o = hands_move h t in o.root

pub told-levels : (h : UserHart) (t : Told) → (told h t).hart.levels ≡ option_map_or (λ (s : thread.Start). s.levels) (start_told h.place t) h.levels
told-levels h t = let o = hands_move h t in o.levels

pub told-frames : (h : UserHart) (t : Told) → (told h t).hart.frames ≡ option_map_or (λ (s : thread.Start). s.frames) (start_told h.place t) h.frames
told-frames h t = let o = hands_move h t in o.frames

pub hand_kept : HandKept
unfolding told
hand_kept h t agrees =
    let o = told-out h.place h t refl in o.0 ∙ ap (held_after h.place t) agrees ∙ sym o.8

pub choices_counted : ChoicesCounted
unfolding told
choices_counted h t = let o = told-out h.place h t refl in o.9
