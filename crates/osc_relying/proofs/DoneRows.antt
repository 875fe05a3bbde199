-- Which steps show an access that was done: of an instruction, or of a write's job.
use Rattle.std.proofs.Common.{ℕ, zero, suc, ◌-◌, ◌≡◌, ◌<◌, ◌||◌, get_or, Bool, true, false, Option, Some, None, is_some, List, [], ◌∷◌, map, length, slice_get, option_map, arith, refl, sym, ap, subst, ◌∙◌}
use Rattle.std.specs.List.{Contains, list_any}
use Rattle.std.specs.Option.{option_to_list}
use Rattle.std.proofs.lemmas.List.Folds.{list_any-append}
use Rattle.osc_word.specs.declared.calls.Answer.{Answer}
use Rattle.osc_word.specs.declared.calls.Answer.TheVariants as answer
use Rattle.osc_word.specs.declared.calls.Call.{Call}
use Rattle.osc_word.specs.declared.calls.Call.TheVariants as calls
use Rattle.osc_word.specs.declared.calls.Request.{Request}
use Rattle.osc_word.specs.declared.steps.Label.{Label}
use Rattle.osc_word.specs.declared.steps.Label.TheVariants.{Touched}
use Rattle.osc_space.specs.declared.ObjectFact.{ObjectFact}
use Rattle.osc_space.specs.Header.{Found}
use Rattle.osc_space.specs.Objects.{fact}
use Rattle.osc_guest.specs.declared.accesses.Touch.{Touch}
use Rattle.osc_guest.specs.Told.{Told, told}
use Rattle.osc_calls.specs.declared.Begun.{Begun}
use Rattle.osc_calls.specs.declared.Begun.TheVariants as begun
use Rattle.osc_calls.specs.Kernel.{KernelState, Process, Calling, Committed, Effect, Nothing, Clears, Starts, Ends, UnderWay, Quiet, Retrying, Leaving, Waiting, Returning, process_at}
use Rattle.osc_calls.specs.Labels.{child_shows, effect_shows, plan_shows, freed_label, gave_shows, moved_shows, answer_shows}
use Rattle.osc_calls.specs.Requests.{calling_of}
use Rattle.osc_calls.specs.Begin.{no_words, begun_in, begin_as, begin_call, begin}
use Rattle.osc_calls.specs.Plan.{plan, plan_by, plan_waiting, plan_of}
use Rattle.osc_calls.specs.JobDone.{job_done}
use Rattle.osc_calls.specs.Finish.{freed_by, returned, finish_by, finish}
use Rattle.osc_machine.specs.Parts.{Outside, Returning as ReturningPlace, Return, HartState}
use Rattle.osc_machine.specs.Turns.{HartTold, Turn, touched, found_words}
use Rattle.osc_machine.specs.Did.{Turned, Unmoved, InGuest, TakesKernel, TakesBox, TakesLastBox, FindsFirst, FindsSecond, Works, EndsJob, GivesBox, GivesKernel}
use Rattle.osc_machine.specs.Laws.{is_in_call, HandAgrees}
use Rattle.osc_safe.specs.Standing.{InHand, HandStands}

abbrev pub is_done : Label → Bool
is_done (Touched pid hart address width kind done) = done
is_done label = false

-- ---- labels of calls
abbrev NoneDone : List Label → Type 0
NoneDone labels = list_any is_done labels ≡ false

child-none : (pid child : ℕ) (call : Call) → NoneDone (child_shows pid call child)
child-none pid child calls.Fork = refl
child-none pid child call = refl

effect-none : (c : Calling) (e : Effect) → NoneDone (effect_shows c e)
effect-none c (Starts hart start) = child-none c.pid start.pid c.call
effect-none c (Ends status) = refl
effect-none c Nothing = refl
effect-none c Clears = refl

shows-none : (c : Calling) (place : ℕ) (a : Answer) (e : Effect) → NoneDone (plan_shows c place a e)
shows-none c place (answer.Freed object) e = refl
shows-none c place (answer.Moved old object pointer) e = refl
shows-none c place (answer.BadBuffer address) e = refl
shows-none c place a e = effect-none c e

by-none : (found : Found) (c : Calling) (o : Option Process) (k : KernelState) → NoneDone (plan_by found c o k).shows
by-none found c None k = refl
by-none found c (Some p) k = let made = plan_of found c p k in shows-none c (length made.kernel.journal) made.answer made.effect

planned-none : (found : Found) (k : KernelState) → NoneDone (plan found k).shows
unfolding plan
planned-none found k = go k.under_way
  where
    go : (u : UnderWay) → NoneDone (plan_waiting found u k).shows
    go (Waiting c) = by-none found c (process_at k c.pid) k
    go Quiet = refl
    go Retrying = refl
    go (Leaving hart) = refl
    go (Returning done) = refl

begun-none : (b : Begun) (c : Calling) (k : KernelState) → NoneDone (begin_as b c k).shows
begun-none begun.Planned c k = planned-none no_words (record k { under_way = Waiting c })
begun-none begun.Again c k = refl
begun-none begun.JournalFull c k = refl
begun-none begun.Gone c k = refl
begun-none begun.Boxes c k = refl
begun-none (begun.Header first second) c k = refl

called-none : (hart : ℕ) (o : Option Calling) (k : KernelState) → NoneDone (begin_call hart o k).shows
called-none hart None k = refl
called-none hart (Some c) k = begun-none (begun_in (process_at k c.pid) c k) c k

begin-none : (hart : ℕ) (regs : List ℕ) (pc : ℕ) (asked : Request) (k : KernelState) → NoneDone (begin hart regs pc asked k).shows
unfolding begin
begin-none hart regs pc asked k = called-none hart (calling_of hart regs pc asked (slice_get k.records hart)) k

freed-none : (pid : ℕ) (objects : List ObjectFact) (freed : List ℕ) → NoneDone (map (freed_label pid objects) freed)
freed-none pid objects [] = refl
freed-none pid objects (object ∷ freed) = freed-none pid objects freed

gave-none : (pid object : ℕ) (o : Option ObjectFact) → NoneDone (gave_shows pid object o)
gave-none pid object None = refl
gave-none pid object (Some o) = refl

moved-none : (pid old place object : ℕ) (o : Option ObjectFact) → NoneDone (moved_shows pid old place object o)
moved-none pid old place object None = refl
moved-none pid old place object (Some o) = refl

answer-none : (pid place : ℕ) (objects : List ObjectFact) (a : Answer) → NoneDone (answer_shows pid place objects a)
answer-none pid place objects (answer.Given object pointer) = gave-none pid object (fact objects object)
answer-none pid place objects (answer.Moved old object pointer) = moved-none pid old place object (fact objects object)
answer-none pid place objects a = refl

returned-none : (done : Committed) (o : Option Process) (k : KernelState) → NoneDone (returned done o k).shows
returned-none done None k = refl
returned-none done (Some p) k =
    list_any-append is_done (map (freed_label done.calling.pid p.space.objects) (freed_by done.closing p.space.waiting)) (answer_shows done.calling.pid (length k.journal - 1) p.space.objects done.answer)
    ∙ ap (λ b. b || list_any is_done (answer_shows done.calling.pid (length k.journal - 1) p.space.objects done.answer)) (freed-none done.calling.pid p.space.objects (freed_by done.closing p.space.waiting))
    ∙ answer-none done.calling.pid (length k.journal - 1) p.space.objects done.answer

finished-none : (k : KernelState) → NoneDone (finish k).shows
unfolding finish
finished-none k = go k.under_way
  where
    go : (u : UnderWay) → NoneDone (finish_by u k).shows
    go (Returning done) = returned-none done (process_at k done.calling.pid) k
    go (Leaving hart) = refl
    go Quiet = refl
    go Retrying = refl
    go (Waiting c) = refl

-- ---- one label of a list
any-of : (labels : List Label) (label : Label) (i : ℕ) → i < length labels → get_or labels i label ≡ label → is_done label ≡ true → list_any is_done labels ≡ true
any-of [] label i l e d = absurd (let b : ⊥ = omega (arith, l) in b)
any-of (x ∷ labels) label zero l e d = ap (λ b. b || list_any is_done labels) (ap is_done e ∙ d)
any-of (x ∷ labels) label (suc i) l e d = let rest = any-of labels label i (omega (arith, l)) e d in grind (arith, rest)

pub contained : (labels : List Label) (label : Label) (i : ℕ) → i < length labels → get_or labels i label ≡ label → slice_get labels i ≡ Some label
contained [] label i l e = absurd (let b : ⊥ = omega (arith, l) in b)
contained (x ∷ labels) label zero l e = ap Some e
contained (x ∷ labels) label (suc i) l e = contained labels label i (omega (arith, l)) e

pub none-shown : (labels : List Label) (label : Label) → Contains labels label → is_done label ≡ true → NoneDone labels → ⊥
none-shown labels label c d none = let any = any-of labels label c.0 c.1 c.2 d in grind (arith, any, none)

-- ---- who shows it
pub data DoneBy (h : HartState) (label : Label) : Type 0 where
  ByGuest : (said : Told) (touch : Touch) → h.place ≡ Outside → (told h.user said).touch ≡ Some touch → label ≡ touched h.number touch → DoneBy h label
  ByJob : (k : KernelState) (word : ℕ) → h.kernel ≡ Some k → Contains (job_done word k).shows label → DoneBy h label

by-guest : (h : HartState) (label : Label) (said : Told) (o : Option Touch) → h.place ≡ Outside → (told h.user said).touch ≡ o → Contains (option_to_list (option_map (touched h.number) o)) label → is_done label ≡ true → DoneBy h label
by-guest h label said None pl e c d = absurd (none-shown [] label c d refl)
by-guest h label said (Some touch) pl e c d = ByGuest said touch pl e (only (touched h.number touch) c.0 c.1 c.2)
  where
    only : (x : Label) (i : ℕ) → i < 1 → get_or (x ∷ []) i label ≡ label → label ≡ x
    only x zero l q = sym q
    only x (suc i) l q = absurd (let b : ⊥ = omega (arith, l) in b)

has-one : (o : Option KernelState) → is_some o ≡ true → (k : KernelState) × (o ≡ Some k)
has-one None e = absurd (let b : ⊥ = grind (arith, e) in b)
has-one (Some k) e = (k, refl)

pub done-row : (n : ℕ) (h : HartState) (t : HartTold) (turn : Turn) (label : Label) → HandAgrees h → HandStands n h → Turned h t turn → Contains turn.shows label → is_done label ≡ true → DoneBy h label
done-row n h t turn label agrees stands row c d = go row
  where
    quiet : (labels : List Label) → turn.shows ≡ labels → NoneDone labels → DoneBy h label
    quiet labels i none = absurd (none-shown labels label (subst (λ z. Contains z label) i c) d none)

    go : Turned h t turn → DoneBy h label
    go (Unmoved i) = quiet [] (ap (λ (z : Turn). z.shows) i) refl
    go (InGuest said pl he i) = by-guest h label said (told h.user said).touch pl refl (subst (λ z. Contains z label) (ap (λ (z : Turn). z.shows) i) c) d
    go (TakesKernel k asked pl tk wa i) = quiet (begin h.number h.user.regs h.user.pc asked k).shows (ap (λ (z : Turn). z.shows) i) (begin-none h.number h.user.regs h.user.pc asked k)
    go (TakesBox box state k pl ke tk last i) = quiet [] (ap (λ (z : Turn). z.shows) i) refl
    go (TakesLastBox box state k pl ke tk last i) = quiet (plan (found_words 0 0) k).shows (ap (λ (z : Turn). z.shows) i) (planned-none (found_words 0 0) k)
    go (FindsFirst first second word k pl ke tk i) = quiet [] (ap (λ (z : Turn). z.shows) i) refl
    go (FindsSecond found word second k pl ke tk i) = quiet (plan (found_words found word) k).shows (ap (λ (z : Turn). z.shows) i) (planned-none (found_words found word) k)
    go (Works moves left read now word k pl ke wo pr i) = quiet [] (ap (λ (z : Turn). z.shows) i) refl
    go (EndsJob moves read word k pl ke wo pr i) = ByJob k word ke (subst (λ z. Contains z label) (ap (λ (z : Turn). z.shows) i) c)
    go (GivesBox box k pl ke tk i) = quiet [] (ap (λ (z : Turn). z.shows) i) refl
    go (GivesKernel return pl tk i) =
        let own = has-one h.kernel (agrees ∙ ap is_in_call pl) in
        let a : InHand n (ReturningPlace return) own.0 = subst (λ p. InHand n p own.0) pl (stands own.0 own.1) in
        quiet (finish own.0).shows (ap (λ (z : Turn). z.shows) i ∙ ap (λ (z : Return). z.shows) a.stands.2) (finished-none own.0)
