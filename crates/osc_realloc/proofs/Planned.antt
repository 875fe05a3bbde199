-- A plan is refused for the first of its reasons, or it is done.
use Rattle.std.proofs.Common.{ℕ, ◌≡◌, Bool, true, false, cond, List, [], ◌∷◌, ◌++◌, Option, Some, None, refl, ap, sym, ◌∙◌}
use Rattle.std.specs.Prelude.{find, option_map}
use Rattle.osc_word.specs.declared.job_list.Job.{Job}
use Rattle.osc_word.specs.declared.calls.Answer.{Answer}
use Rattle.osc_class.specs.declared.Room.{Room}
use Rattle.osc_class.specs.Rooms.{room_of, shadow_pages}
use Rattle.osc_slot.specs.Slots.{is_room}
use Rattle.osc_slot.specs.Heap.{Heap}
use Rattle.osc_paging.specs.KeptTables.{KeptTables}
use Rattle.osc_mark.specs.Grants.{Grants}
use Rattle.osc_space.specs.declared.ObjectState.TheVariants.{Live}
use Rattle.osc_space.specs.Objects.{Seen, object_at}
use Rattle.osc_space.specs.Header.{Found, damage_reason, death_reasons}
use Rattle.osc_space.specs.Space.{Draft, Terms, Reason, first_reason, unless}
use Rattle.osc_space.specs.Malloc.{memory_reasons}
use Rattle.osc_space.specs.Realloc.{stays, frames_for, realloc_made, realloc_seen, realloc_plan}
use Rattle.osc_shadow.specs.Parts.{draft_of, memory_refusal}
use Rattle.osc_realloc.specs.Blocks.{newly_taken}

-- ---- the first of some reasons and then others
first_front : (xs ys : List Reason) (a : Answer) → Some a ≡ first_reason xs → Some a ≡ first_reason (xs ++ ys)
first_front [] ys a e = cc
first_front (x ∷ xs) ys a e = go x.holds e (first_front xs ys a)
  where
    go : (b : Bool) → Some a ≡ option_map (λ (r : Reason). r.answer) (cond b (Some x) (find (λ (r : Reason). r.holds) xs)) → (Some a ≡ first_reason xs → Some a ≡ first_reason (xs ++ ys))
        → Some a ≡ option_map (λ (r : Reason). r.answer) (cond b (Some x) (find (λ (r : Reason). r.holds) (xs ++ ys)))
    go true e on = e
    go false e on = on e

first_back : (xs ys : List Reason) → None ≡ first_reason xs → first_reason ys ≡ first_reason (xs ++ ys)
first_back [] ys e = refl
first_back (x ∷ xs) ys e = go x.holds e (first_back xs ys)
  where
    go : (b : Bool) → None ≡ option_map (λ (r : Reason). r.answer) (cond b (Some x) (find (λ (r : Reason). r.holds) xs)) → (None ≡ first_reason xs → first_reason ys ≡ first_reason (xs ++ ys))
        → first_reason ys ≡ option_map (λ (r : Reason). r.answer) (cond b (Some x) (find (λ (r : Reason). r.holds) (xs ++ ys)))
    go true e on = cc
    go false e on = on e

abbrev damages : Seen → Found → List Reason
damages s found = damage_reason s.fact.canon found.first ∷ damage_reason s.fact.size found.second ∷ []

abbrev wants : Seen → ℕ → Draft → List Reason
wants s n d = memory_reasons (frames_for (stays s.fact n) n d) (shadow_pages (room_of n)) d

-- ---- the frames that are asked for
frames_is : (stay : Bool) (n : ℕ) (t : KeptTables) (g : Grants) (h : Heap) (w : List ℕ) (f : List Bool) (j : List Job) → newly_taken stay h (room_of n) ≡ frames_for stay n (draft_of t g h w f j)
frames_is true n t g h w f j = refl
frames_is false n t g h w f j = refl

pub wants_is : (t : KeptTables) (g : Grants) (h : Heap) (w : List ℕ) (f : List Bool) (j : List Job) (n : ℕ) (s : Seen) (in_place : Bool) (room old : Room) (frames pages : ℕ) (r : Option Answer)
    → room ≡ room_of n → old ≡ room_of s.fact.size → in_place ≡ is_room room old → frames ≡ newly_taken in_place h room → pages ≡ shadow_pages room
    → r ≡ memory_refusal t g f frames pages → r ≡ first_reason (wants s n (draft_of t g h w f j))
wants_is t g h w f j n s in_place room old frames pages r e1 e2 e3 e4 e5 e =
    let here : in_place ≡ stays s.fact n = e3 ∙ ap (λ x. is_room x old) e1 ∙ ap (λ x. is_room (room_of n) x) e2 in
    let asked : frames ≡ frames_for (stays s.fact n) n (draft_of t g h w f j) =
    e4 ∙ ap (λ x. newly_taken in_place h x) e1 ∙ ap (λ b. newly_taken b h (room_of n)) here ∙ frames_is (stays s.fact n) n t g h w f j in
    let granted : pages ≡ shadow_pages (room_of n) = e5 ∙ ap shadow_pages e1 in
    e ∙ ap (λ x. memory_refusal t g f x pages) asked ∙ ap (λ x. memory_refusal t g f (frames_for (stays s.fact n) n (draft_of t g h w f j)) x) granted

-- ---- a plan for a live object
plan_is : (terms : Terms) (pointer n : ℕ) (found : Found) (d : Draft) (s : Seen) (r : Option Answer) → object_at d.space.objects pointer ≡ Some s → s.fact.state ≡ Live
    → r ≡ first_reason (damages s found ++ wants s n d)
    → unless r d (realloc_made (stays s.fact n) terms s n d) ≡ realloc_plan terms pointer n found d
unfolding realloc_plan
plan_is terms pointer n found d s r e live f =
    ap (λ x. unless x d (realloc_made (stays s.fact n) terms s n d)) (f ∙ sym (ap (λ x. first_reason (death_reasons s.number x ++ damages s found ++ wants s n d)) live))
    ∙ ap (λ x. realloc_seen x terms n found d) (sym e)

pub damaged_is : (terms : Terms) (pointer n : ℕ) (found : Found) (d : Draft) (s : Seen) (a : Answer) → object_at d.space.objects pointer ≡ Some s → s.fact.state ≡ Live
    → Some a ≡ first_reason (damages s found)
    → unless (Some a) d (realloc_made (stays s.fact n) terms s n d) ≡ realloc_plan terms pointer n found d
damaged_is terms pointer n found d s a e live f = plan_is terms pointer n found d s (Some a) e live (first_front (damages s found) (wants s n d) a f)

pub wanted_is : (terms : Terms) (pointer n : ℕ) (found : Found) (d : Draft) (s : Seen) (r : Option Answer) → object_at d.space.objects pointer ≡ Some s → s.fact.state ≡ Live
    → None ≡ first_reason (damages s found) → r ≡ first_reason (wants s n d)
    → unless r d (realloc_made (stays s.fact n) terms s n d) ≡ realloc_plan terms pointer n found d
wanted_is terms pointer n found d s r e live f w = plan_is terms pointer n found d s r e live (w ∙ first_back (damages s found) (wants s n d) f)
