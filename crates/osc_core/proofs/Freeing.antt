-- The objects that a step lets go.
use Rattle.std.proofs.Common.{ℕ, ◌≡◌, Bool, true, false, Option, Some, None, is_some, [], length, option_map, slice_get, arith, refl, sym, ◌∙◌, ap, subst}
use Rattle.std.specs.Option.{option_to_list}
use Rattle.osc_guest.specs.declared.accesses.Touch.{Touch}
use Rattle.osc_calls.specs.Kernel.{KernelState}
use Rattle.osc_machine.specs.declared.HartAsk.{HartAsk}
use Rattle.osc_machine.specs.declared.HartAsk.TheVariants as does
use Rattle.osc_machine.specs.Parts.{Returning, Return, HartState, State}
use Rattle.osc_machine.specs.Turns.{HartTold, Done, Turn, touched, found_words, hart_ask, hart_told}
use Rattle.osc_machine.specs.Step.{Stepped, step}
use Rattle.osc_machine.specs.Views.{freed_in}
use Rattle.osc_machine.specs.Did.{Turned, Unmoved, InGuest, TakesKernel, TakesBox, TakesLastBox, FindsFirst, FindsSecond, Works, EndsJob, GivesBox, GivesKernel, Did, Stayed, TookBox, GaveBox, ChangedBox, Loaded, Stored, TookGate, FoundOldVersion, OpenedGate, TookKernel, GaveKernel}
use Rattle.osc_machine.specs.Laws.{is_in_call}
use Rattle.osc_machine.proofs.RowLaws.{turns_by_row, steps_by_row}
use Rattle.osc_machine.proofs.KernelLaws.{returns_of}
use Rattle.osc_guest.specs.Told.{told}
use Rattle.osc_turns.specs.Answers.{freed_of}
use Rattle.osc_turns.proofs.Labels.{begin_silent, plan_frees_none, done_silent, finish_freed}
use Rattle.osc_kernel.specs.Seen.{SeenKernel}
use Rattle.osc_core.specs.Sound.{PlaceSound, ReturnsIn, HartSound}
use Rattle.osc_core.specs.Ends.{freed_at, freed_home, GivesFreed, StepsFree}

touch_silent : (number : ℕ) (touch : Option Touch) → freed_in (option_to_list (option_map (touched number) touch)) ≡ []
touch_silent number None = refl
touch_silent number (Some touch) = refl

returning_asks : (h : HartState) (return : Return) → h.place ≡ Returning return → hart_ask h ≡ does.GiveKernel
unfolding hart_ask
returning_asks h return e = rw e refl

silent : (h : HartState) (t : HartTold) (turn : Turn) → (hart_ask h ≡ does.GiveKernel → ⊥) → Turned h t turn → freed_in turn.shows ≡ []
silent h t turn other (Unmoved is) = rw is refl
silent h t turn other (InGuest said p hears is) = rw is (touch_silent h.number (told h.user said).touch)
silent h t turn other (TakesKernel k asked p said asks is) = rw is (begin_silent h.number h.user.regs h.user.pc asked k)
silent h t turn other (TakesBox box state k p e said last is) = rw is refl
silent h t turn other (TakesLastBox box state k p e said last is) = rw is (plan_frees_none (found_words 0 0) k)
silent h t turn other (FindsFirst first second word k p e said is) = rw is refl
silent h t turn other (FindsSecond found word second k p e said is) = rw is (plan_frees_none (found_words found word) k)
silent h t turn other (Works moves left read now word k p e w more is) = rw is refl
silent h t turn other (EndsJob moves read word k p e w over is) = rw is (done_silent word k)
silent h t turn other (GivesBox box k p e said is) = rw is refl
silent h t turn other (GivesKernel return p said is) = absurd (other (returning_asks h return p))

shown_freed : (return : Return) (kernel : Option KernelState) → is_some kernel ≡ true → ReturnsIn return kernel → freed_in return.shows ≡ freed_of kernel
shown_freed return None there r = absurd (let z : ⊥ = grind (arith, there) in z)
shown_freed return (Some k) there r = ap freed_in r.1 ∙ finish_freed k

gone : (h : HartState) (return : Return) → h.place ≡ Returning return → (hart_told h Done).shows ≡ return.shows
unfolding hart_told
gone h return e = rw e refl

gives : (frames harts : ℕ) (h : HartState) → HartSound frames harts h → hart_ask h ≡ does.GiveKernel → freed_in (hart_told h Done).shows ≡ freed_of h.kernel
gives frames harts h s asks =
    let r = returns_of h asks in
    ap freed_in (gone h r.0 r.1) ∙ shown_freed r.0 h.kernel (s.kernel_held ∙ ap is_in_call r.1) (subst (λ q. PlaceSound q h.boxes h.kernel) r.1 s.place)

none_at : (a : HartAsk) (kernel : Option KernelState) → (a ≡ does.GiveKernel → ⊥) → freed_at a kernel ≡ []
none_at (does.TakeBox box) kernel other = refl
none_at (does.GiveBox box) kernel other = refl
none_at (does.ChangeBox box) kernel other = refl
none_at (does.Load at) kernel other = refl
none_at (does.Store at value) kernel other = refl
none_at (does.TakeGate frame only) kernel other = refl
none_at (does.OpenGate frame version) kernel other = refl
none_at does.TakeKernel kernel other = refl
none_at does.GiveKernel kernel other = absurd (other refl)
none_at does.Rest kernel other = refl

-- ---- a step
rows_silent : (s : State) (n : ℕ) (x : Stepped) (h : HartState) → slice_get s.harts n ≡ Some h → (hart_ask h ≡ does.GiveKernel → ⊥) → Did s n x → freed_in x.shows ≡ []
rows_silent s n x h here other (Stayed is) = rw is refl
rows_silent s n x h here other (TookBox g box state a at is) = let asks = a.asks in rw is (silent g _ _ (λ e. let z : ⊥ = grind (arith, asks, e) in z) (turns_by_row g _))
rows_silent s n x h here other (GaveBox g box a is) = let asks = a.asks in rw is (silent g _ _ (λ e. let z : ⊥ = grind (arith, asks, e) in z) (turns_by_row g _))
rows_silent s n x h here other (ChangedBox g box state a at is) = let asks = a.asks in rw is (silent g _ _ (λ e. let z : ⊥ = grind (arith, asks, e) in z) (turns_by_row g _))
rows_silent s n x h here other (Loaded g from a is) = let asks = a.asks in rw is (silent g _ _ (λ e. let z : ⊥ = grind (arith, asks, e) in z) (turns_by_row g _))
rows_silent s n x h here other (Stored g to value a is) = let asks = a.asks in rw is (silent g _ _ (λ e. let z : ⊥ = grind (arith, asks, e) in z) (turns_by_row g _))
rows_silent s n x h here other (TookGate g frame only gate a at shut wanted is) = let asks = a.asks in rw is (silent g _ _ (λ e. let z : ⊥ = grind (arith, asks, e) in z) (turns_by_row g _))
rows_silent s n x h here other (FoundOldVersion g frame only gate a at shut wanted is) = let asks = a.asks in rw is (silent g _ _ (λ e. let z : ⊥ = grind (arith, asks, e) in z) (turns_by_row g _))
rows_silent s n x h here other (OpenedGate g frame version a is) = let asks = a.asks in rw is (silent g _ _ (λ e. let z : ⊥ = grind (arith, asks, e) in z) (turns_by_row g _))
rows_silent s n x h here other (TookKernel g k a at is) = let asks = a.asks in rw is (silent g _ _ (λ e. let z : ⊥ = grind (arith, asks, e) in z) (turns_by_row g _))
rows_silent s n x h here other (GaveKernel g a is) =
    let both : Some g ≡ Some h = sym a.here ∙ here in
    let same : g ≡ h = grind (arith, both) in
    absurd (other (subst (λ (q : HartState). hart_ask q ≡ does.GiveKernel) same a.asks))

gave_shows : (s : State) (n : ℕ) (h : HartState) → slice_get s.harts n ≡ Some h → hart_ask h ≡ does.GiveKernel → (step s n).shows ≡ (hart_told h Done).shows
unfolding step
gave_shows s n h here asks = rw (here, asks) refl

other_frees : (s : State) (n : ℕ) (h : HartState) → slice_get s.harts n ≡ Some h → (hart_ask h ≡ does.GiveKernel → ⊥) → freed_in (step s n).shows ≡ freed_at (hart_ask h) h.kernel
other_frees s n h here other = rows_silent s n (step s n) h here other (steps_by_row s n) ∙ sym (none_at (hart_ask h) h.kernel other)

abbrev is_give : HartAsk → Bool
is_give does.GiveKernel = true
is_give _ = false

give_only : (a : HartAsk) → is_give a ≡ true → a ≡ does.GiveKernel
give_only does.GiveKernel e = refl
give_only _ e = absurd (let z : ⊥ = grind (arith, e) in z)

pub steps_free : StepsFree
steps_free s n h sound here = go (is_give (hart_ask h)) refl
  where
    go : (b : Bool) → is_give (hart_ask h) ≡ b → freed_in (step s n).shows ≡ freed_at (hart_ask h) h.kernel
    go true e =
        let asks = give_only (hart_ask h) e in
        rw asks (ap freed_in (gave_shows s n h here asks) ∙ gives (length s.gates) (length s.harts) h (sound.each n h here) asks)
    go false e = other_frees s n h here (λ asks. let f = sym e ∙ ap is_give asks in let z : ⊥ = grind (arith, f) in z)

pub home_freed : (a : HartAsk) (held : Option KernelState) (home : Option SeenKernel) → GivesFreed a held home → freed_at a held ≡ freed_home a home
home_freed (does.TakeBox box) held home g = refl
home_freed (does.GiveBox box) held home g = refl
home_freed (does.ChangeBox box) held home g = refl
home_freed (does.Load at) held home g = refl
home_freed (does.Store at value) held home g = refl
home_freed (does.TakeGate frame only) held home g = refl
home_freed (does.OpenGate frame version) held home g = refl
home_freed does.TakeKernel held home g = refl
home_freed does.GiveKernel held home g = sym g
home_freed does.Rest held home g = refl
