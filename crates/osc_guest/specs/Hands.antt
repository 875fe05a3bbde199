-- What a hart has in its hand, and which thread it runs, place by place and after an answer.
use Rattle.std.specs.Prelude.{ℕ, ◌≡◌, Bool, true, false, Option, Some, None, is_some}
use Rattle.std.specs.Option.{option_map_or}
use Rattle.osc_word.specs.declared.calls.Request.{Request}
use Rattle.osc_word.specs.declared.calls.Request.TheVariants as request
use Rattle.osc_word.specs.declared.calls.Resume.{Resume}
use Rattle.osc_word.specs.declared.calls.Resume.TheVariants as resume
use Rattle.osc_word.specs.declared.orders.Start as thread
use Rattle.osc_word.specs.declared.orders.Order.{Order}
use Rattle.osc_word.specs.declared.orders.Order.TheVariants.{Empty, Start, Stop, Over}
use Rattle.osc_paging.specs.Boxes.{BoxState}
use Rattle.osc_guest.specs.declared.places.After.{After}
use Rattle.osc_guest.specs.declared.places.After.TheVariants as after
use Rattle.osc_guest.specs.declared.places.Place.{Place}
use Rattle.osc_guest.specs.declared.places.Place.TheVariants as at
use Rattle.osc_guest.specs.declared.places.Stage.{Stage}
use Rattle.osc_guest.specs.declared.places.Stage.TheVariants as stage
use Rattle.osc_guest.specs.User.{UserHart}
use Rattle.osc_guest.specs.Told.{Told, Box, Gate, Resumed, Done, told}

-- ---- its box
-- from the taking to the giving
abbrev pub holds_box : Place → Bool
holds_box at.Run = false
holds_box at.Idle = false
holds_box (at.Walk access level table) = true
holds_box (at.Access access frame stage) = true
holds_box (at.OpenGate frame version) = true
holds_box (at.GiveBox follows) = true
holds_box (at.Call asked) = false
holds_box at.Rest = false

abbrev pub HandAgrees : UserHart → Type 0
HandAgrees h = is_some h.held ≡ holds_box h.place

abbrev pub held_after : Place → Told → Bool → Bool
held_after at.Run (Box box) had = true
held_after at.Idle (Box box) had = true
held_after (at.GiveBox follows) Done had = false
held_after _ t had = had

-- the order in it
abbrev pub order_in : Option BoxState → Option Order
order_in None = None
order_in (Some box) = Some box.order

-- the order that is left in the box that a hart took, whether it runs a thread or is idle
abbrev pub order_left : Bool → Order → Order
order_left running Stop = Empty
order_left false (Start start) = Empty
order_left _ order = order

abbrev pub order_after : Place → Told → Option Order → Option Order
order_after at.Run (Box box) had = Some (order_left true box.order)
order_after at.Idle (Box box) had = Some (order_left false box.order)
order_after (at.GiveBox follows) Done had = None
order_after _ t had = had

-- ---- the frame whose gate it holds
abbrev pub gate_in : Stage → ℕ → Option ℕ
gate_in (stage.GatedLoad version) frame = Some frame
gate_in (stage.GatedStore version found) frame = Some frame
gate_in _ frame = None

abbrev pub gate_held : Place → Option ℕ
gate_held (at.Access access frame stage) = gate_in stage frame
gate_held (at.OpenGate frame version) = Some frame
gate_held _ = None

abbrev pub gate_after : Place → Told → Option ℕ
gate_after (at.Access access frame (stage.TakeGate only)) (Gate version) = Some frame
gate_after (at.OpenGate frame version) Done = None
gate_after place t = gate_held place

-- ---- its thread
-- the one that an idle hart is given
abbrev pub start_in : Order → Option thread.Start
start_in (Start start) = Some start
start_in _ = None

abbrev pub start_told : Place → Told → Option thread.Start
start_told at.Idle (Box box) = start_in box.order
start_told _ t = None

-- whether it runs one
abbrev pub calls_of_thread : Request → Bool
calls_of_thread (request.Call call) = true
calls_of_thread request.Idle = false

abbrev pub runs_then : After → Bool
runs_then after.Run = true
runs_then (after.Call asked) = calls_of_thread asked
runs_then after.Idle = false
runs_then after.Rest = false

abbrev pub runs_thread : Place → Bool
runs_thread at.Run = true
runs_thread at.Idle = false
runs_thread (at.Walk access level table) = true
runs_thread (at.Access access frame stage) = true
runs_thread (at.OpenGate frame version) = true
runs_thread (at.GiveBox follows) = runs_then follows
runs_thread (at.Call asked) = calls_of_thread asked
runs_thread at.Rest = false

abbrev pub runs_by : Bool → Order → Bool
runs_by running Empty = running
runs_by running (Start start) = true
runs_by running Stop = false
runs_by running Over = false

abbrev pub runs_resumed : Resume → Bool
runs_resumed resume.Idle = false
runs_resumed _ = true

abbrev pub runs_after : Place → Told → Bool
runs_after at.Run (Box box) = runs_by true box.order
runs_after at.Idle (Box box) = runs_by false box.order
runs_after (at.Call (request.Call call)) (Resumed said) = runs_resumed said
runs_after place t = runs_thread place

-- ---- after an answer
pub record HandAfter (h : UserHart) (t : Told) : Type 0 where
  pub box : is_some (told h t).hart.held ≡ held_after h.place t (is_some h.held)
  pub order : order_in (told h t).hart.held ≡ order_after h.place t (order_in h.held)
  pub gate : gate_held (told h t).hart.place ≡ gate_after h.place t
  pub runs : runs_thread (told h t).hart.place ≡ runs_after h.place t
  pub pid : (told h t).hart.pid ≡ option_map_or (λ (s : thread.Start). s.pid) (start_told h.place t) h.pid
  pub root : (told h t).hart.root ≡ option_map_or (λ (s : thread.Start). s.root) (start_told h.place t) h.root
  pub levels : (told h t).hart.levels ≡ option_map_or (λ (s : thread.Start). s.levels) (start_told h.place t) h.levels
  pub frames : (told h t).hart.frames ≡ option_map_or (λ (s : thread.Start). s.frames) (start_told h.place t) h.frames

-- what it holds, and its thread, change only so
abbrev pub HandsMove : Type 0
HandsMove = (h : UserHart) (t : Told) → HandAfter h t

abbrev pub HandKept : Type 0
HandKept = (h : UserHart) (t : Told) → HandAgrees h → HandAgrees (told h t).hart
