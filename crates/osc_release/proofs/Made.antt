-- What a free made is the definition's.
use Rattle.std.proofs.Common.{ℕ, ◌≡◌, ◌==◌, Bool, true, false, cond, List, [], ◌∷◌, ◌++◌, Option, Some, ap, sym, ◌∙◌, length}
use Rattle.std.specs.List.{range_with_len}
use Rattle.osc_word.specs.declared.job_list.Job.{Job}
use Rattle.osc_word.specs.declared.calls.Answer.{Answer}
use Rattle.osc_word.specs.declared.calls.Answer.TheVariants as answer
use Rattle.osc_word.specs.WaitingList.{with_waiting}
use Rattle.osc_slot.specs.Heap.{Heap}
use Rattle.osc_paging.specs.KeptTables.{KeptTables}
use Rattle.osc_paging.specs.TableChanges.{Changed}
use Rattle.osc_tables.specs.Calls.{changed}
use Rattle.osc_mark.specs.Grants.{Grants}
use Rattle.osc_space.specs.declared.ObjectState.TheVariants.{Live}
use Rattle.osc_space.specs.Objects.{Seen, facts, kill, object_at}
use Rattle.osc_space.specs.Header.{Found, damage_reason, object_reasons, death_reasons}
use Rattle.osc_space.specs.Space.{Draft, Terms, first_reason, unless}
use Rattle.osc_space.specs.Free.{unmap_all, let_wait, flush_where, closing_where, freed, free_seen, free_plan}
use Rattle.osc_shadow.specs.Flushing.{flushed, leaves_over}
use Rattle.osc_shadow.specs.Parts.{space_of, draft_of}
use Rattle.osc_release.specs.Outcomes.{freed_now}
use Rattle.osc_release.specs.declared.answer.FreePlan.TheVariants.{Freed}

-- the draft with changed tables
abbrev pub draft_with : Grants → Heap → List ℕ → Changed → Draft
draft_with marks heap waiting c = draft_of c.tables marks heap waiting c.free c.jobs

pub let_waits : (terms : Terms) (s : Seen) (t t1 : KeptTables) (marks marks1 : Grants) (heap : Heap) (waiting waiting1 : List ℕ) (free : List Bool) (jobs jobs1 : List Job)
    → marks1 ≡ record marks { objects = kill s.number terms.call marks.objects } → waiting1 ≡ with_waiting waiting s.number
    → changed t1 free jobs1 ≡ unmap_all (range_with_len s.fact.first s.fact.pages) (changed t free jobs)
    → draft_of t1 marks1 heap waiting1 free jobs1 ≡ let_wait terms s (draft_of t marks heap waiting free jobs)
let_waits terms s t t1 marks marks1 heap waiting waiting1 free jobs jobs1 e f g =
    ap (λ m. draft_of t1 m heap waiting1 free jobs1) e
    ∙ ap (λ w. draft_of t1 (record marks { objects = kill s.number terms.call marks.objects }) heap w free jobs1) f
    ∙ ap (λ c. draft_with (record marks { objects = kill s.number terms.call marks.objects }) heap (with_waiting waiting s.number) c) g

pub flush_made : (terms : Terms) (n : ℕ) (t t1 : KeptTables) (marks : Grants) (heap : Heap) (waiting : List ℕ) (free : List Bool) (jobs jobs1 : List Job) (b : Bool)
    → b ≡ (length waiting == terms.batch)
    → changed t1 free jobs1 ≡ cond (length waiting == terms.batch) (flushed terms.harts (leaves_over t marks.objects (facts marks.objects waiting)) (changed t free jobs)) (changed t free jobs)
    → freed_now (Freed n b) (draft_of t1 marks heap waiting free jobs1) ≡ freed n terms (draft_of t marks heap waiting free jobs)
flush_made terms n t t1 marks heap waiting free jobs jobs1 b e f = go (length waiting == terms.batch) e f
  where
    go : (k : Bool) → b ≡ k → changed t1 free jobs1 ≡ cond k (flushed terms.harts (leaves_over t marks.objects (facts marks.objects waiting)) (changed t free jobs)) (changed t free jobs)
        → freed_now (Freed n b) (draft_of t1 marks heap waiting free jobs1)
        ≡ record { answer = answer.Freed n; draft = flush_where k terms.harts (draft_of t marks heap waiting free jobs); closing = closing_where k (space_of t marks heap waiting) }
    go true e f = rw e (ap (λ c. freed_now (Freed n true) (draft_with marks heap waiting c)) f)
    go false e f = rw e (ap (λ c. freed_now (Freed n false) (draft_with marks heap waiting c)) f)

-- ---- refusals of a live object
first_damage : (s : Seen) (found : Found) → s.fact.state ≡ Live → first_reason (object_reasons (Some s) found) ≡ first_reason (damage_reason s.fact.canon found.first ∷ damage_reason s.fact.size found.second ∷ [])
first_damage s found e = ap (λ x. first_reason (death_reasons s.number x ++ damage_reason s.fact.canon found.first ∷ damage_reason s.fact.size found.second ∷ [])) e

pub free_is : (terms : Terms) (pointer : ℕ) (found : Found) (d : Draft) (s : Seen) (r : Option Answer) → object_at d.space.objects pointer ≡ Some s → s.fact.state ≡ Live
    → r ≡ first_reason (damage_reason s.fact.canon found.first ∷ damage_reason s.fact.size found.second ∷ [])
    → unless r d (freed s.number terms (let_wait terms s d)) ≡ free_plan terms pointer found d
unfolding free_plan
free_is terms pointer found d s r e live f =
    ap (λ x. unless x d (freed s.number terms (let_wait terms s d))) (f ∙ sym (first_damage s found live))
    ∙ ap (λ x. free_seen x terms found d) (sym e)
