-- What the plans made is what the definitions say.
use Rattle.std.proofs.Common.{ℕ, suc, ◌+◌, ◌≡◌, ◌≢◌, ◌≤◌, ◌==◌, Bool, true, false, cond, Option, Some, None, List, [], ◌∷◌, ◌++◌, length, arith, refl, ap, sym, ◌∙◌, subst}
use Rattle.std.proofs.lemmas.Bool.Decides.{nat_tests}
use Rattle.std.proofs.lemmas.List.{length-append}
use Rattle.osc_word.specs.declared.settings.HeapKind.TheVariants.{Oscar, Plain}
use Rattle.osc_word.specs.declared.job_list.Job.{Job}
use Rattle.osc_word.specs.declared.calls.Answer.{Answer}
use Rattle.osc_word.specs.declared.calls.Answer.TheVariants as answers
use Rattle.osc_class.specs.Rooms.{room_of, shadow_pages}
use Rattle.osc_slot.specs.declared.Block.{Block}
use Rattle.osc_slot.specs.Heap.{Heap}
use Rattle.osc_paging.specs.KeptTables.{KeptTables}
use Rattle.osc_mark.specs.Grants.{Grants}
use Rattle.osc_space.specs.declared.ObjectFact.{ObjectFact}
use Rattle.osc_space.specs.declared.ObjectState.{ObjectState}
use Rattle.osc_space.specs.declared.ObjectState.TheVariants.{Live, Dead}
use Rattle.osc_space.specs.Objects.{Seen, object_at}
use Rattle.osc_space.specs.Header.{Found, block_of, damage_reason, death_reasons, object_reasons, header_in, look_by_state}
use Rattle.osc_space.specs.Space.{Space, Draft, Outcome, Terms, Keeps, GivesBack, Reason, first_reason, unless, unchanged}
use Rattle.osc_space.specs.Malloc.{memory_reasons}
use Rattle.osc_space.specs.Free.{flush_where, is_full, let_wait, freed, free_seen, free_plan, waiting_blocks}
use Rattle.osc_space.specs.Realloc.{stays, frames_for, left_block, realloc_made, realloc_reasons, realloc_plan, realloc_seen}
use Rattle.osc_space.specs.Agree.{SpaceAgrees}
use Rattle.osc_shadow.specs.Parts.{space_of, draft_of, PartsAgree, PartsAgreeWaiting, PartsAgreeOnHeap}
use Rattle.osc_shadow.specs.Sight.{GivesWords, seen_of}
use Rattle.osc_realloc.specs.declared.answer.Realloced.{Realloced}
use Rattle.osc_realloc.specs.declared.answer.Realloced.TheVariants.{Moved, HeaderDamaged, NoShadow, NoFrames}
use Rattle.osc_realloc.specs.Outcomes.{realloced, answer_of, closing_of}
use Rattle.osc_plain.specs.Plan.{draft}
use Rattle.osc_plain.specs.Plan as plain
use Rattle.osc_process.specs.Fits.{HasParts, HasBatch}
use Rattle.osc_process.specs.Given.{answer_by, gone_answer, maybe_one, left_of, closing_if_moved}

-- ---- the parts agree
pub parts_agree : (t : KeptTables) (g : Grants) (h : Heap) (waiting : List ℕ) (free : List Bool) → HasParts Oscar (space_of t g h waiting) free → PartsAgree t g h waiting free
parts_agree t g h waiting free p = record { regions = p.regions; agree = p.fit.agrees }

pub parts_agree_waiting : (t : KeptTables) (g : Grants) (h : Heap) (waiting : List ℕ) (free : List Bool) → HasParts Oscar (space_of t g h waiting) free → PartsAgreeWaiting t g h free
parts_agree_waiting t g h waiting free p = record { waiting = waiting; agree = parts_agree t g h waiting free p }

pub parts_agree_on_heap : (batch : ℕ) (t : KeptTables) (g : Grants) (h : Heap) (waiting : List ℕ) → HasBatch Oscar batch (space_of t g h waiting) → PartsAgreeOnHeap t g waiting
parts_agree_on_heap batch t g h waiting p = record { heap = h; free = p.free; agree = record { regions = p.regions; agree = p.fit.agrees } }

-- ---- the plain heap has no objects
pub is_plain : (t : KeptTables) (g : Grants) (h : Heap) (waiting : List ℕ) (free : List Bool) (jobs : List Job) → g.objects ≡ [] → waiting ≡ [] → draft_of t g h waiting free jobs ≡ draft g.limit t h free jobs
is_plain t g h waiting free jobs a b = rw (a, b) refl

plain_space : (t : KeptTables) (g : Grants) (h : Heap) (waiting : List ℕ) → g.objects ≡ [] → waiting ≡ [] → space_of t g h waiting ≡ plain.space_of g.limit t h
plain_space t g h waiting a b = rw (a, b) refl

pub plain_agree : (t : KeptTables) (g : Grants) (h : Heap) (waiting : List ℕ) (free : List Bool) → HasParts Plain (space_of t g h waiting) free → plain.PartsAgree t h free
plain_agree t g h waiting free p = record {
  few = p.few;
  shadows = g.limit;
  regions = p.regions;
  agrees = subst (λ s. SpaceAgrees Plain s p.regions free) (plain_space t g h waiting p.fit.agrees.heap.objects p.fit.agrees.heap.waiting) p.fit.agrees;
}

pub plain_agree_on_frames : (batch : ℕ) (t : KeptTables) (g : Grants) (h : Heap) (waiting : List ℕ) → HasBatch Plain batch (space_of t g h waiting) → plain.PartsAgreeOnFrames t h
plain_agree_on_frames batch t g h waiting p = record {
  free = p.free;
  agree = plain_agree t g h waiting p.free (record { few = p.few; batch = batch; regions = p.regions; fit = p.fit });
}

-- ---- what is no live object
gone : (number : ℕ) (state : ObjectState) (answer : Answer) → answer_by number state ≡ Some answer → (rest : List Reason) → first_reason (death_reasons number state ++ rest) ≡ Some answer
gone number Live answer e rest = absurd (let z : ⊥ = cc in z)
gone number (Dead call) answer e rest = e

pub free_gone : (terms : Terms) (pointer : ℕ) (found : Found) (d : Draft) (answer : Answer) → gone_answer (object_at d.space.objects pointer) ≡ Some answer → unchanged answer d ≡ free_plan terms pointer found d
unfolding free_plan
free_gone terms pointer found d answer e = go (object_at d.space.objects pointer) e
  where
    go : (x : Option Seen) → gone_answer x ≡ Some answer → unchanged answer d ≡ free_seen x terms found d
    go None e = let a : answer ≡ answers.NotAnObject = cc in ap (λ y. unchanged y d) a
    go (Some s) e = ap (λ r. unless r d (freed s.number terms (let_wait terms s d))) (sym (gone s.number s.fact.state answer e (damage_reason s.fact.canon found.first ∷ damage_reason s.fact.size found.second ∷ [])))

pub realloc_gone : (terms : Terms) (pointer n : ℕ) (found : Found) (d : Draft) (answer : Answer) → gone_answer (object_at d.space.objects pointer) ≡ Some answer → unchanged answer d ≡ realloc_plan terms pointer n found d
unfolding realloc_plan
realloc_gone terms pointer n found d answer e = go (object_at d.space.objects pointer) e
  where
    by : (s : Seen) (state : ObjectState) → answer_by s.number state ≡ Some answer → (a b : List Reason) → first_reason ((death_reasons s.number state ++ a) ++ b) ≡ Some answer
    by s Live e a b = absurd (let z : ⊥ = cc in z)
    by s (Dead call) e a b = e

    go : (x : Option Seen) → gone_answer x ≡ Some answer → unchanged answer d ≡ realloc_seen x terms n found d
    go None e = let a : answer ≡ answers.NotAnObject = cc in ap (λ y. unchanged y d) a
    go (Some s) e = ap (λ r. unless r d (realloc_made (stays s.fact n) terms s n d))
        (sym (by s s.fact.state e (damage_reason s.fact.canon found.first ∷ damage_reason s.fact.size found.second ∷ []) (memory_reasons (frames_for (stays s.fact n) n d) (shadow_pages (room_of n)) d)))

-- ---- a live object has a header
pub has_words : (t : KeptTables) (objects : List ObjectFact) (pointer : ℕ) (s : Seen) → object_at objects pointer ≡ Some s → s.fact.state ≡ Live → pointer ≢ 0 → GivesWords (header_in t objects pointer)
unfolding header_in
has_words t objects pointer s e live some =
    let test : (pointer == 0) ≡ false = grind (arith, nat_tests, some) in
    rw (test, e) (go s.fact.state live)
  where
    go : (state : ObjectState) → state ≡ Live → GivesWords (look_by_state t pointer s.number state)
    go Live e = tt
    go (Dead call) e = absurd (let z : ⊥ = cc in z)

-- ---- no more wait than one more
pub free_waits : (terms : Terms) (pointer : ℕ) (found : Found) (d : Draft) → length (free_plan terms pointer found d).draft.space.waiting ≤ suc (length d.space.waiting)
unfolding free_plan
free_waits terms pointer found d = at (object_at d.space.objects pointer)
  where
    kept : (b : Bool) (e : Draft) → (flush_where b terms.harts e).space.waiting ≡ e.space.waiting
    kept true e = refl
    kept false e = refl

    go : (s : Seen) (r : Option Answer) → length (unless r d (freed s.number terms (let_wait terms s d))).draft.space.waiting ≤ suc (length d.space.waiting)
    go s (Some refused) = omega arith
    go s None =
        let e = let_wait terms s d in
        let k : length (flush_where (is_full terms e.space) terms.harts e).space.waiting ≡ length e.space.waiting = ap (λ xs. length xs) (kept (is_full terms e.space) e) in
        let l : length e.space.waiting ≡ length d.space.waiting + 1 = length-append d.space.waiting (s.number ∷ []) in
        omega (arith, k, l)

    at : (x : Option Seen) → length (free_seen x terms found d).draft.space.waiting ≤ suc (length d.space.waiting)
    at None = omega arith
    at (Some s) = go s (first_reason (object_reasons (Some s) found))

-- ---- a realloc gives back what it leaves
pub left_blocks : (o : ObjectFact) (n : ℕ) → maybe_one (left_of (block_of o) n) ≡ left_block (stays o n) o
left_blocks o n = go (stays o n)
  where
    go : (b : Bool) → maybe_one (cond b None (Some (block_of o))) ≡ left_block b o
    go true = refl
    go false = refl

pub realloc_closes : (terms : Terms) (pointer n : ℕ) (found : Found) (d new : Draft) (s : Seen) (planned : Realloced) → object_at d.space.objects pointer ≡ Some s
    → realloced n d planned new ≡ realloc_plan terms pointer n found d
    → record { answer = answer_of planned; draft = new; closing = closing_if_moved planned (GivesBack (waiting_blocks d.space ++ left_block (stays s.fact n) s.fact)) } ≡ realloc_plan terms pointer n found d
unfolding realloc_plan
realloc_closes terms pointer n found d new s planned at e =
    e' planned (e ∙ plan_is) ∙ sym plan_is
  where
    r : Option Answer
    r = first_reason (realloc_reasons (Some s) n found d)

    made : Outcome
    made = realloc_made (stays s.fact n) terms s n d

    plan_is : realloc_seen (object_at d.space.objects pointer) terms n found d ≡ unless (first_reason (realloc_reasons (Some s) n found d)) d (realloc_made (stays s.fact n) terms s n d)
    plan_is = ap (λ x. realloc_seen x terms n found d) at

    moved : (x : Option Answer) (old object user : ℕ) → realloced n d (Moved old object user) new ≡ unless x d (realloc_made (stays s.fact n) terms s n d)
        → GivesBack (waiting_blocks d.space ++ left_block (stays s.fact n) s.fact) ≡ closing_of (Moved old object user) n d.space
    moved (Some refused) old object user e = absurd (let c : closing_of (Moved old object user) n d.space ≡ Keeps = ap (λ (o : Outcome). o.closing) e in let z : ⊥ = cc in z)
    moved None old object user e = sym (ap (λ (o : Outcome). o.closing) e)

    e' : (p : Realloced) → realloced n d p new ≡ unless (first_reason (realloc_reasons (Some s) n found d)) d (realloc_made (stays s.fact n) terms s n d)
        → record { answer = answer_of p; draft = new; closing = closing_if_moved p (GivesBack (waiting_blocks d.space ++ left_block (stays s.fact n) s.fact)) } ≡ unless (first_reason (realloc_reasons (Some s) n found d)) d (realloc_made (stays s.fact n) terms s n d)
    e' (Moved old object user) e = ap (λ c. record { answer = answers.Moved old object user; draft = new; closing = c }) (moved (first_reason (realloc_reasons (Some s) n found d)) old object user e) ∙ e
    e' (HeaderDamaged object kept was) e = e
    e' NoShadow e = e
    e' NoFrames e = e
