-- What the plan of each call makes of the objects of all processes, and what it shows of that.
use Rattle.std.proofs.Common.{ℕ, ◌%◌, ◌≡◌, ◌==◌, Bool, true, false, if◌then◌else◌, Option, Some, None, List, [], ◌∷◌, ◌++◌, length, find, cond, slice_set, option_map, arith, refl, sym, ap, subst}
use Rattle.std.specs.Prelude.{unwrap_or}
use Rattle.osc_word.specs.declared.calls.Answer.{Answer}
use Rattle.osc_word.specs.declared.calls.Answer.TheVariants as answer
use Rattle.osc_word.specs.declared.calls.Call.{Call}
use Rattle.osc_word.specs.declared.calls.Call.TheVariants as calls
use Rattle.osc_word.specs.declared.steps.Label.TheVariants.{Forked, Ended}
use Rattle.osc_paging.specs.KeptTables.{KeptTables}
use Rattle.osc_space.specs.Header.{Found}
use Rattle.osc_space.specs.Space.{Outcome, Reason, first_reason, Closing, Keeps, GivesBack}
use Rattle.osc_space.specs.Fork.{fork_reasons, fork_plan}
use Rattle.osc_space.specs.Share.{share_reasons}
use Rattle.osc_calls.specs.declared.JoinLook.{JoinLook}
use Rattle.osc_calls.specs.declared.JoinLook.TheVariants as joined
use Rattle.osc_calls.specs.declared.WaitLook.{WaitLook}
use Rattle.osc_calls.specs.declared.WaitLook.TheVariants as waited
use Rattle.osc_calls.specs.Kernel.{KernelState, Process, Calling, Effect, Nothing, is_last}
use Rattle.osc_calls.specs.Labels.{child_shows, effect_shows, plan_shows, is_fault}
use Rattle.osc_calls.specs.Threads.{join_look}
use Rattle.osc_calls.specs.Requests.{meant, join_answer, wait_answer, wait_look}
use Rattle.osc_calls.specs.Refusals.{draft_of, refusal_of, reasons_of}
use Rattle.osc_calls.specs.Planned.{Planned, answered, planned_unless, outcome_planned, closing_effect}
use Rattle.osc_calls.specs.HeapPlans.{terms_of}
use Rattle.osc_calls.specs.WritePlan.{write_by, first_unreadable, write_count}
use Rattle.osc_calls.specs.ProcessPlans.{process_ends, done_by, value_left, fork_done, spawn_done, share_done}
use Rattle.osc_calls.specs.Plan.{plan_meant}
use Rattle.osc_safe.specs.KernelSteps.{AllTouch}
use Rattle.osc_safe.proofs.SpacePlans.{is_plain, SpaceGoes, Stays, OutcomeGoes, malloc-goes, free-goes, realloc-goes}

-- what a plan makes of the processes
pub data PlanGoes (k : KernelState) (c : Calling) (p : Process) (place : ℕ) (made : Planned) : Type 0 where
  SameSpaces : made.kernel.processes ≡ k.processes → is_plain made.answer ≡ true → AllTouch (plan_shows c place made.answer made.effect) → PlanGoes k c p place made
  EndsOne : made.kernel.processes ≡ k.processes → is_plain made.answer ≡ true → (fault : Bool) (status : ℕ)
      → plan_shows c place made.answer made.effect ≡ Ended c.pid fault status ∷ [] → PlanGoes k c p place made
  OneSpace : (new : Process) → made.kernel.processes ≡ slice_set k.processes c.pid new → SpaceGoes (length k.journal) p.space new.space made.answer
      → AllTouch (effect_shows c made.effect) → PlanGoes k c p place made
  AddsOne : (child : Process) → made.kernel.processes ≡ k.processes ++ child ∷ [] → child.space.objects ≡ p.space.objects → child.space.waiting ≡ p.space.waiting
      → is_plain made.answer ≡ true → plan_shows c place made.answer made.effect ≡ Forked c.pid (length k.processes) ∷ [] → PlanGoes k c p place made

pub record Row (k : KernelState) (c : Calling) (p : Process) (place : ℕ) (made : Planned) : Type 0 where
  pub journal : made.kernel.journal ≡ k.journal
  pub goes : PlanGoes k c p place made

-- ---- labels
-- an answer that speaks of no object shows what the effect does
pub plain-shows : (c : Calling) (place : ℕ) (a : Answer) (e : Effect) → is_plain a ≡ true → AllTouch (effect_shows c e) → AllTouch (plan_shows c place a e)
plain-shows c place (answer.Freed object) e p q = absurd (let b : ⊥ = grind (arith, p) in b)
plain-shows c place (answer.Moved old object pointer) e p q = absurd (let b : ⊥ = grind (arith, p) in b)
plain-shows c place (answer.BadBuffer address) e p q = (refl, tt)
plain-shows c place _ e p q = q

answered-row : (k : KernelState) (c : Calling) (p : Process) (place : ℕ) (a : Answer) → is_plain a ≡ true → Row k c p place (answered a k)
answered-row k c p place a e = record { journal = refl; goes = SameSpaces refl e (plain-shows c place a Nothing e tt) }

-- ---- refusals
abbrev AllPlain : List Reason → Type 0
AllPlain [] = Unit {0}
AllPlain (r ∷ reasons) = (is_plain r.answer ≡ true) × AllPlain reasons

abbrev PlainOf : Option Answer → Type 0
PlainOf None = Unit {0}
PlainOf (Some a) = is_plain a ≡ true

first-plain : (reasons : List Reason) → AllPlain reasons → PlainOf (first_reason reasons)
first-plain [] h = tt
first-plain (x ∷ xs) h = go x.holds (first-plain xs h.1)
  where
    go : (b : Bool) → PlainOf (first_reason xs) → PlainOf (option_map (λ (r : Reason). r.answer) (cond b (Some x) (find (λ (r : Reason). r.holds) xs)))
    go true later = h.0
    go false later = later

unless-row : (k : KernelState) (c : Calling) (p : Process) (place : ℕ) (r : Option Answer) (made : Planned) → PlainOf r → Row k c p place made → Row k c p place (planned_unless r k made)
unless-row k c p place None made q row = row
unless-row k c p place (Some a) made q row = answered-row k c p place a q

fork-plain : (p : Process) (k : KernelState) → AllPlain (reasons_of calls.Fork p k)
unfolding fork_reasons
fork-plain p k = (refl, (refl, (refl, tt)))

spawn-plain : (pc sp arg : ℕ) (p : Process) (k : KernelState) → AllPlain (reasons_of (calls.Spawn pc sp arg) p k)
spawn-plain pc sp arg p k = (refl, (refl, tt))

share-plain : (count : ℕ) (p : Process) (k : KernelState) → AllPlain (reasons_of (calls.Share count) p k)
unfolding share_reasons
share-plain count p k = (refl, (refl, tt))

-- ---- memory
effect-quiet : (c : Calling) (closing : Closing) → AllTouch (effect_shows c (closing_effect closing))
effect-quiet c Keeps = tt
effect-quiet c (GivesBack blocks) = tt

outcome-row : (k : KernelState) (c : Calling) (p : Process) (place : ℕ) (o : Outcome) → OutcomeGoes (length k.journal) (draft_of k p) o → Row k c p place (outcome_planned c.pid p k o)
outcome-row k c p place o g = record { journal = refl; goes = OneSpace (record p { space = o.draft.space }) refl g (effect-quiet c o.closing) }

-- ---- the other calls
write-row : (k : KernelState) (c : Calling) (p : Process) (place : ℕ) (bad : Option ℕ) (t : KeptTables) (buf count : ℕ) → Row k c p place (write_by bad t buf count k)
write-row k c p place (Some address) t buf count = record { journal = refl; goes = SameSpaces refl refl (refl, tt) }
write-row k c p place None t buf count = record { journal = refl; goes = SameSpaces refl refl tt }

ends-row : (k kernel : KernelState) (c : Calling) (p : Process) (place status : ℕ) → kernel.journal ≡ k.journal → kernel.processes ≡ k.processes → Row k c p place (process_ends c status kernel)
ends-row k kernel c p place status j e = record { journal = j; goes = EndsOne e refl (is_fault c.call) status refl }

done-row : (k : KernelState) (c : Calling) (p : Process) (place : ℕ) (last : Bool) (thread : Option ℕ) (value : ℕ) → Row k c p place (done_by last c (value_left thread value k))
done-row k c p place true None value = ends-row k k c p place 0 refl refl
done-row k c p place true (Some number) value = ends-row k (value_left (Some number) value k) c p place 0 refl refl
done-row k c p place false None value = record { journal = refl; goes = SameSpaces refl refl tt }
done-row k c p place false (Some number) value = record { journal = refl; goes = SameSpaces refl refl tt }

joined-plain : (look : JoinLook) → is_plain (unwrap_or (join_answer look) answer.Unknown) ≡ true
joined-plain (joined.Value value) = refl
joined-plain joined.NotYet = refl
joined-plain joined.Unknown = refl

waited-plain : (look : WaitLook) → is_plain (unwrap_or (wait_answer look) answer.Unknown) ≡ true
waited-plain (waited.Status status) = refl
waited-plain waited.NotYet = refl
waited-plain waited.Unknown = refl

-- a fork is meant where it was asked for
meant-fork : (call : Call) → meant call ≡ calls.Fork → call ≡ calls.Fork
meant-fork (calls.Realloc pointer size) e = absurd (go (pointer == 0) e)
  where
    go : (b : Bool) → (if b then calls.Malloc size else calls.Realloc pointer size) ≡ calls.Fork → ⊥
    go true e = grind (arith, e)
    go false e = grind (arith, e)
meant-fork call e = e

not-fork : (pid child pc sp arg : ℕ) (call : Call) → meant call ≡ calls.Spawn pc sp arg → child_shows pid call child ≡ []
not-fork pid child pc sp arg calls.Fork e = absurd (let b : ⊥ = grind (arith, e) in b)
not-fork pid child pc sp arg call e = refl

fork-row : (k : KernelState) (c : Calling) (p : Process) (place : ℕ) → c.call ≡ calls.Fork → Row k c p place (fork_done c p k)
unfolding fork_plan
fork-row k c p place e = record { journal = refl; goes = AddsOne _ refl refl refl refl (ap (λ call. child_shows c.pid call (length k.processes)) e) }

spawn-row : (k : KernelState) (c : Calling) (p : Process) (place pc sp arg : ℕ) → meant c.call ≡ calls.Spawn pc sp arg → Row k c p place (spawn_done c p pc sp arg k)
spawn-row k c p place pc sp arg e =
    record { journal = refl; goes = SameSpaces refl refl (subst AllTouch (sym (not-fork c.pid c.pid pc sp arg c.call e)) tt) }

pub plan-row : (k : KernelState) (c : Calling) (p : Process) (place : ℕ) (found : Found) (call : Call) → meant c.call ≡ call → Row k c p place (plan_meant found c p k call)
plan-row k c p place found (calls.Exit status) e = ends-row k k c p place (status % 64) refl refl
plan-row k c p place found (calls.Write buf len) e =
    write-row k c p place (first_unreadable p.space.tables buf (write_count k.output len)) p.space.tables buf (write_count k.output len)
plan-row k c p place found (calls.Malloc size) e = outcome-row k c p place _ (malloc-goes (length k.journal) k.config.heap size (draft_of k p))
plan-row k c p place found (calls.Free pointer) e = outcome-row k c p place _ (free-goes k.config.heap (terms_of k) pointer found (draft_of k p))
plan-row k c p place found (calls.Realloc pointer size) e = outcome-row k c p place _ (realloc-goes k.config.heap (terms_of k) pointer size found (draft_of k p))
plan-row k c p place found calls.Fork e =
    unless-row k c p place (refusal_of calls.Fork p k) (fork_done c p k) (first-plain (reasons_of calls.Fork p k) (fork-plain p k)) (fork-row k c p place (meant-fork c.call e))
plan-row k c p place found (calls.Spawn pc sp arg) e =
    unless-row k c p place (refusal_of (calls.Spawn pc sp arg) p k) (spawn_done c p pc sp arg k) (first-plain (reasons_of (calls.Spawn pc sp arg) p k) (spawn-plain pc sp arg p k)) (spawn-row k c p place pc sp arg e)
plan-row k c p place found (calls.Join number) e = answered-row k c p place _ (joined-plain (join_look k.threads c.pid number))
plan-row k c p place found (calls.Done value) e = done-row k c p place (is_last k.records c.pid) c.thread value
plan-row k c p place found (calls.Share count) e =
    unless-row k c p place (refusal_of (calls.Share count) p k) (share_done c p count k) (first-plain (reasons_of (calls.Share count) p k) (share-plain count p k))
    (record { journal = refl; goes = OneSpace _ refl (Stays refl refl refl) tt })
plan-row k c p place found (calls.Wait number) e = answered-row k c p place _ (waited-plain (wait_look k c.pid number))
plan-row k c p place found (calls.Unknown number) e = answered-row k c p place answer.Unknown refl
plan-row k c p place found (calls.End fault) e = ends-row k _ c p place _ refl refl
