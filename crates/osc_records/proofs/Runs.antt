-- The records at the start, and after each run; and what follows for a hart in an instruction.
use Rattle.std.proofs.Common.{ℕ, zero, suc, ◌+◌, ◌≡◌, Bool, true, false, Option, Some, None, is_some, List, [], ◌∷◌, replicate, get_or, slice_get, arith, refl, sym, ap, subst, ◌∙◌}
use Rattle.std.proofs.lemmas.List.FromFn.{length-map-range_with_len}
use Rattle.osc_word.specs.declared.settings.Config.{Config}
use Rattle.osc_word.specs.declared.orders.Order.{Order}
use Rattle.osc_word.specs.declared.orders.Order.TheVariants.{Empty, Start, Stop, Over}
use Rattle.osc_image.specs.Image.{Image}
use Rattle.osc_paging.specs.Boxes.{BoxState, new_box}
use Rattle.osc_guest.specs.declared.places.Place.{Place}
use Rattle.osc_guest.specs.declared.places.Place.TheVariants as at
use Rattle.osc_guest.specs.Hands.{order_in, holds_box, runs_thread}
use Rattle.osc_calls.specs.declared.HartRecord.{HartRecord}
use Rattle.osc_calls.specs.declared.HartRecord.TheVariants.{Idle, Runs, Stopped}
use Rattle.osc_calls.specs.Boxes.{box_change}
use Rattle.osc_calls.specs.Kernel.{KernelState}
use Rattle.osc_calls.specs.Open.{first_records, open_kernel, open_start}
use Rattle.osc_machine.specs.Parts.{HartState, State}
use Rattle.osc_machine.specs.Step.{step}
use Rattle.osc_machine.specs.Run.{Ran, with_step, run_on}
use Rattle.osc_machine.specs.Start.{first_hart, started, start_of}
use Rattle.osc_machine.specs.Laws.{is_in_call}
use Rattle.osc_safe.specs.Holding.{is_asking}
use Rattle.osc_safe.proofs.HoldingSteps.{steps_hold}
use Rattle.osc_safe.proofs.HoldingRuns.{each-first}
use Rattle.osc_safe.proofs.KernelRows.{home-is}
use Rattle.osc_safe.proofs.StandingSteps.{steps_stand}
use Rattle.osc_safe.proofs.StandingRuns.{Both, first_ran, started-both}
use Rattle.osc_records.specs.Agreeing.{Setting, setting_of, setting_in, is_due, order_then, Agrees, IsObeyed}
use Rattle.osc_records.specs.Recorded.{HasOrder, AtHome, InHand, Called, runs_then, Recorded, AllRecorded, RunsRecord, IsRecorded, InstructionsRecorded}
use Rattle.osc_records.proofs.Taking.{no-put}
use Rattle.osc_records.proofs.GuestRows.{mild}
use Rattle.osc_records.proofs.Rows.{record-of}
use Rattle.osc_records.proofs.Steps.{steps_record}

-- ---- the start
get-replicate : {X : Type 0} (count n : ℕ) (x y : X) → slice_get (replicate count x) n ≡ Some y → y ≡ x
get-replicate zero n x y e = absurd (let b : ⊥ = grind (arith, e) in b)
get-replicate (suc count) zero x y e = cc
get-replicate (suc count) (suc n) x y e = get-replicate count n x y e

no-box : (count n : ℕ) (o : Order) → order_in (get_or (replicate count None) n None) ≡ Some o → ⊥
no-box zero n o e = grind (arith, e)
no-box (suc count) zero o e = grind (arith, e)
no-box (suc count) (suc n) o e = no-box count n o e

new-order : (count n : ℕ) (o : Order) → order_in (get_or (replicate count (Some new_box)) n None) ≡ Some o → Empty ≡ o
new-order zero n o e = absurd (let b : ⊥ = grind (arith, e) in b)
new-order (suc count) zero o e = cc
new-order (suc count) (suc n) o e = new-order count n o e

-- what is said of each hart of the start
abbrev First : Image → Config → KernelState → ℕ → HartState → Type 0
First image config kernel n h = (h ≡ first_hart config (open_start image kernel) n)

the-first : (image : Image) (config : Config) (kernel : KernelState) (n : ℕ) (h : HartState) → slice_get (started image config kernel).harts n ≡ Some h → h ≡ first_hart config (open_start image kernel) n
the-first image config kernel n h e =
    let same : 0 + n ≡ n = omega arith in
    subst (λ z. h ≡ first_hart config (open_start image kernel) z) same
    (each-first (First image config kernel) config (open_start image kernel) (λ i. refl) 0 config.harts n h e)

-- the one order in all boxes
first-order : (image : Image) (config : Config) (kernel : KernelState) (n : ℕ) (o : Order) (c : Bool) → HasOrder (started image config kernel) n o c → (c ≡ false) × (Empty ≡ o)
first-order image config kernel n o c (AtHome q e) = (q, new-order config.harts n o e)
first-order image config kernel n o c (InHand h q e f) = absurd (held n (subst (λ z. order_in z.user.held ≡ Some o) (the-first image config kernel n h e) f))
  where
    held : (n : ℕ) → order_in (first_hart config (open_start image kernel) n).user.held ≡ Some o → ⊥
    held zero g = grind (arith, g)
    held (suc n) g = grind (arith, g)
first-order image config kernel n o c (Called m h q e f) = absurd (called m (subst (λ (z : HartState). order_in (get_or z.boxes n None) ≡ Some o) (the-first image config kernel m h e) f))
  where
    called : (m : ℕ) → order_in (get_or (first_hart config (open_start image kernel) m).boxes n None) ≡ Some o → ⊥
    called m g = no-box config.harts n o g

first-agrees : (image : Image) (config : Config) (kernel : KernelState) (n : ℕ) (r : HartRecord) → slice_get (first_records config.harts) n ≡ Some r
    → (let h = first_hart config (open_start image kernel) n in Agrees kernel r (runs_then h.kernel h.user.place) (setting_of h.user) Empty)
first-agrees image config kernel zero r e = go config.harts e
  where
    go : (count : ℕ) → slice_get (first_records count) 0 ≡ Some r → Agrees kernel r true (setting_in kernel 0) Empty
    go zero e = absurd (let b : ⊥ = grind (arith, e) in b)
    go (suc count) e = let is : Runs 0 None ≡ r = cc in subst (λ z. Agrees kernel z true (setting_in kernel 0) Empty) is (refl, refl)
first-agrees image config kernel (suc n) r e = subst (λ z. Agrees kernel z false (setting_of (first_hart config (open_start image kernel) (suc n)).user) Empty) (sym (go config.harts e)) (refl, refl)
  where
    go : (count : ℕ) → slice_get (first_records count) (suc n) ≡ Some r → r ≡ Idle
    go zero e = absurd (let b : ⊥ = grind (arith, e) in b)
    go (suc count) e = get-replicate count n Idle r e

started-recorded : (image : Image) (config : Config) → Recorded (started image config (open_kernel image config)) (open_kernel image config)
unfolding open_kernel
started-recorded image config =
    let kernel = open_kernel image config in record {
      count = length-map-range_with_len (first_hart config (open_start image kernel)) 0 config.harts;
      agrees = λ n h r o c e f has. (let q = first-order image config kernel n o c has in
          let g : Agrees kernel r (runs_then h.kernel h.user.place) (setting_of h.user) Empty =
          subst (λ (z : HartState). Agrees kernel r (runs_then z.kernel z.user.place) (setting_of z.user) Empty) (sym (the-first image config kernel n h e)) (first-agrees image config kernel n r f) in
          let order_is : Empty ≡ order_then c kernel n o = q.1 ∙ sym (ap (λ b. order_then b kernel n o) q.0) in
          subst (Agrees kernel r (runs_then h.kernel h.user.place) (setting_of h.user)) order_is g);
      told = λ n o start has due put. absurd (let b : ⊥ = grind (arith, due) in b);
      obeyed = λ n h o e f. (let q = first-order image config kernel n o false (InHand h refl e f) in subst (IsObeyed (runs_thread h.user.place)) q.1 tt);
      due = tt;
      calls = λ n h own e f. absurd (let q : None ≡ Some own = sym (none n) ∙ ap (λ (z : HartState). z.kernel) (sym (the-first image config kernel n h e)) ∙ f in let b : ⊥ = grind (arith, q) in b);
    }
  where
    none : (n : ℕ) → (first_hart config (open_start image (open_kernel image config)) n).kernel ≡ None
    none n = refl

start-recorded : (image : Image) (config : Config) → AllRecorded (start_of image config)
unfolding start_of
start-recorded image config k has =
    subst (Recorded (started image config (open_kernel image config))) (home-is (started image config (open_kernel image config)) (open_kernel image config) k has refl) (started-recorded image config)

-- ---- runs
recorded-on : (picks : List ℕ) (ran : Ran) → Both ran → AllRecorded ran.state → AllRecorded (run_on picks ran).state
unfolding run_on
recorded-on [] ran b all = all
recorded-on (n ∷ picks) ran b all =
    recorded-on picks (with_step ran (step ran.state n)) (record { holds = steps_hold ran.state n b.holds; stands = steps_stand ran.state n b.holds b.stands })
    (steps_record ran.state n b.holds b.stands all)

pub runs_record : RunsRecord
runs_record file image config picks fit is_image room = recorded-on picks (first_ran image config) (started-both file image config fit is_image room) (start-recorded image config)

-- ---- a hart in an instruction
obeyed-empty : (o : Order) → IsObeyed true o → o ≡ Empty
obeyed-empty Empty e = refl
obeyed-empty (Start start) e = absurd e
obeyed-empty Stop e = absurd e
obeyed-empty Over e = absurd e

some-order : (o : Option BoxState) → is_some o ≡ true → (order : Order) × (order_in o ≡ Some order)
some-order None e = absurd (let b : ⊥ = grind (arith, e) in b)
some-order (Some box) e = (box.order, refl)

recorded-as : (s : State) (k : KernelState) (n : ℕ) (h : HartState) (r : HartRecord) → slice_get k.records n ≡ Some r → Agrees k r true (setting_of h.user) Empty → IsRecorded k n h
recorded-as s k n h Idle e a = absurd (let q = a.0 in let b : ⊥ = grind (arith, q) in b)
recorded-as s k n h (Runs pid number) e a =
    let pid_is : h.user.pid ≡ pid = ap (λ (x : Setting). x.pid) a.0 in record {
      number = number;
      is = e ∙ ap (λ z. Some (Runs z number)) (sym pid_is);
      setting = subst (λ z. setting_of h.user ≡ setting_in k z) (sym pid_is) a.0;
    }
recorded-as s k n h (Stopped pid) e a = absurd (let b : ⊥ = grind (arith, a) in b)

pub instructions_recorded : InstructionsRecorded
instructions_recorded s k n h holds stands has recorded here held running =
    let own = holds.hart n h here in
    let order = some-order h.user.held (own.own ∙ held) in
    let empty = obeyed-empty order.0 (subst (λ z. IsObeyed z order.0) running (recorded.obeyed n h order.0 here order.1)) in
    let r = record-of s n h k (record { here = here; holds = holds; stands = stands; has = has; recorded = recorded }) in
    let kernel = no_kernel h.kernel (has.in_hand n h here ∙ outside (is_in_call h.place) own.asking) in
    let a : Agrees k r.0 true (setting_of h.user) (order_then false k n order.0) =
    subst (λ z. Agrees k r.0 z (setting_of h.user) (order_then false k n order.0)) (ap (λ z. runs_then z h.user.place) kernel ∙ running) (recorded.agrees n h r.0 order.0 false here r.1 (InHand h refl here order.1)) in
    let stays : order_then false k n order.0 ≡ order.0 = no-put k r.0 (setting_of h.user) (is_due n k.jobs) (box_change n k) order.0 order.0 (mild k n recorded.due) a in
    recorded-as s k n h r.0 r.1 (subst (Agrees k r.0 true (setting_of h.user)) (stays ∙ empty) a)
  where
    no_kernel : (o : Option KernelState) → is_some o ≡ false → o ≡ None
    no_kernel None e = refl
    no_kernel (Some z) e = absurd (let b : ⊥ = grind (arith, e) in b)

    not_asking : (p : Place) → holds_box p ≡ true → is_asking p ≡ true → ⊥
    not_asking (at.Call asked) e f = grind (arith, e)
    not_asking at.Run e f = grind (arith, e)
    not_asking at.Idle e f = grind (arith, e)
    not_asking (at.Walk access level table) e f = grind (arith, f)
    not_asking (at.Access access frame stage) e f = grind (arith, f)
    not_asking (at.OpenGate frame version) e f = grind (arith, f)
    not_asking (at.GiveBox follows) e f = grind (arith, f)
    not_asking at.Rest e f = grind (arith, e)

    outside : (b : Bool) → (b ≡ true → is_asking h.user.place ≡ true) → b ≡ false
    outside false all = refl
    outside true all = absurd (not_asking h.user.place held (all refl))
