-- The boxes that a hart holds while it is in a call.
use Rattle.std.proofs.Common.{ℕ, zero, suc, ◌≡◌, ◌<◌, ◌≤◌, ◌==◌, Bool, true, false, Option, Some, None, is_some, List, [], ◌∷◌, length, set, get_or, ltb, nat_le, cond, arith, refl, sym, subst, ◌∙◌}
use Rattle.std.specs.Option.{option_map_or}
use Rattle.std.proofs.lemmas.Bool.Decides.{nat_tests}
use Rattle.std.proofs.lemmas.List.Quantifiers.{position-Some}
use Rattle.osc_word.specs.declared.job_list.Job.{Job}
use Rattle.osc_paging.specs.Boxes.{BoxState}
use Rattle.osc_calls.specs.Kernel.{KernelState, next_job}
use Rattle.osc_calls.specs.Moves.{moves_of}
use Rattle.osc_calls.specs.JobDone.{entries}
use Rattle.osc_calls.specs.declared.Begun.{Begun}
use Rattle.osc_calls.specs.declared.Begun.TheVariants as begun
use Rattle.osc_machine.specs.Parts.{CallPlace, Working, GivingBoxes, Returning}
use Rattle.osc_machine.specs.Turns.{first_held, place_on, place_begun, return_of}
use Rattle.osc_safe.specs.Holding.{HoldsAt}

-- ---- lists of boxes
abbrev pub Boxes : Type 0
Boxes = List (Option BoxState)

-- whether a list has a box at a place
abbrev pub has : Boxes → ℕ → Bool
has boxes box = is_some (get_or boxes box None)

pub box-set : (xs : Boxes) (i j : ℕ) (y : Option BoxState) → get_or (set xs i y) j None ≡ cond (j == i) (cond (ltb i (length xs)) y (get_or xs j None)) (get_or xs j None)
box-set [] i j y = grind (arith, nat_tests)
box-set (x ∷ xs) zero zero y = grind (arith, nat_tests)
box-set (x ∷ xs) zero (suc j) y = grind (arith, nat_tests)
box-set (x ∷ xs) (suc i) zero y = grind (arith, nat_tests)
box-set (x ∷ xs) (suc i) (suc j) y = grind (arith, nat_tests, box-set xs i j y)

none-held : (xs : Boxes) (i : ℕ) → first_held xs ≡ None → has xs i ≡ false
none-held [] i e = refl
none-held (None ∷ xs) zero e = refl
none-held (None ∷ xs) (suc i) e = none-held xs i (grind (arith, e))
none-held (Some x ∷ xs) i e = absurd (let b : ⊥ = grind (arith, e) in b)

pub some-within : (xs : Boxes) (b : ℕ) → has xs b ≡ true → b < length xs
some-within [] b e = absurd (let x : ⊥ = grind (arith, e) in x)
some-within (x ∷ xs) zero e = omega arith
some-within (x ∷ xs) (suc b) e = let l = some-within xs b e in omega (arith, l)

-- ---- where a call goes on
-- with each box that a list has it has all later ones
abbrev pub FromOneOn : ℕ → Boxes → Type 0
FromOneOn count boxes = (a b : ℕ) → a ≤ b → b < count → has boxes a ≡ true → has boxes b ≡ true

abbrev pub AllOrNone : ℕ → Boxes → Type 0
AllOrNone count boxes = (b : ℕ) → b < count → has boxes b ≡ has boxes 0

pub all-from-one : (count : ℕ) (boxes : Boxes) → AllOrNone count boxes → FromOneOn count boxes
all-from-one count boxes all a b l m e = all b m ∙ sym (all a (omega (arith, l, m))) ∙ e

-- a call goes on at its jobs with all boxes or none, or else it has no job left
pub record GoesOn (count : ℕ) (k : KernelState) (boxes : Boxes) : Type 0 where
  pub room : length boxes ≡ count
  pub later : FromOneOn count boxes
  pub jobs : (job : Job) → next_job k ≡ Some job → AllOrNone count boxes

-- where it goes on, and that it has no job left where it gives boxes
pub record WentOn (count : ℕ) (k : KernelState) (boxes : Boxes) (place : CallPlace) : Type 0 where
  pub holds : HoldsAt place count (has boxes)
  pub done : (box : ℕ) → place ≡ GivingBoxes box → next_job k ≡ None

gives_on : (count : ℕ) (k : KernelState) (boxes : Boxes) (o : Option ℕ) → GoesOn count k boxes → first_held boxes ≡ o → next_job k ≡ None
    → WentOn count k boxes (option_map_or (λ box. GivingBoxes box) o (Returning (return_of false k)))
gives_on count k boxes None g e none = record { holds = λ b. none-held boxes b e; done = λ box d. none }
gives_on count k boxes (Some first) g e none =
    let f = position-Some (λ (x : Option BoxState). is_some x) boxes first None e in record {
      holds = (subst (λ c. first < c) g.room f.0, λ b l. each b (nat_le first b) refl l);
      done = λ box d. none;
    }
  where
    each : (b : ℕ) (t : Bool) → nat_le first b ≡ t → b < count → has boxes b ≡ nat_le first b
    each b true t l =
        let f = position-Some (λ (x : Option BoxState). is_some x) boxes first None e in
        g.later first b (let q : first ≤ b = grind (arith, nat_tests, t) in q) l f.1 ∙ sym t
    each b false t l =
        let f = position-Some (λ (x : Option BoxState). is_some x) boxes first None e in
        f.2 b (let q : b < first = grind (arith, nat_tests, t) in q) ∙ sym t

goes_by : (count : ℕ) (k : KernelState) (boxes : Boxes) (o : Option Job) → GoesOn count k boxes → next_job k ≡ o
    → WentOn count k boxes (option_map_or (λ job. Working (moves_of (entries k) job) None) o (option_map_or (λ box. GivingBoxes box) (first_held boxes) (Returning (return_of false k))))
goes_by count k boxes None g e = gives_on count k boxes (first_held boxes) g refl e
goes_by count k boxes (Some job) g e = record { holds = g.jobs job e; done = λ box d. absurd (let x : ⊥ = grind (arith, d) in x) }

pub goes_on : (count : ℕ) (k : KernelState) (boxes : Boxes) → GoesOn count k boxes → WentOn count k boxes (place_on k boxes)
goes_on count k boxes g = goes_by count k boxes (next_job k) g refl

-- once the kernel has looked at the request, with no box in hand
none-on : (count : ℕ) (k : KernelState) (boxes : Boxes) → length boxes ≡ count → ((b : ℕ) → has boxes b ≡ false) → GoesOn count k boxes
none-on count k boxes room none = record {
  room = room;
  later = λ a b l m e. absurd (let x : ⊥ = grind (arith, e, none a) in x);
  jobs = λ job e b l. none b ∙ sym (none 0);
}

pub begun_on : (b : Begun) (count : ℕ) (k : KernelState) (boxes : Boxes) → 0 < count → length boxes ≡ count → ((b : ℕ) → has boxes b ≡ false)
    → WentOn count k boxes (place_begun b k boxes)
begun_on begun.Again count k boxes l room none = record { holds = none; done = λ box d. absurd (let x : ⊥ = grind (arith, d) in x) }
begun_on begun.JournalFull count k boxes l room none = record { holds = none; done = λ box d. absurd (let x : ⊥ = grind (arith, d) in x) }
begun_on begun.Gone count k boxes l room none = record { holds = none; done = λ box d. absurd (let x : ⊥ = grind (arith, d) in x) }
begun_on begun.Boxes count k boxes l room none = record {
  holds = (l, λ b. (let q = none b in grind (arith, nat_tests, q)));
  done = λ box d. absurd (let x : ⊥ = grind (arith, d) in x);
}
begun_on (begun.Header first second) count k boxes l room none = record { holds = none; done = λ box d. absurd (let x : ⊥ = grind (arith, d) in x) }
begun_on begun.Planned count k boxes l room none = goes_on count k boxes (none-on count k boxes room none)
