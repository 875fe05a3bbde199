-- A machine of which the first frames are taken and the others are free: the least free frame is the one
-- after those, and linking tables keeps it so.
use Rattle.std.proofs.Common.{ℕ, zero, suc, ◌≡◌, ◌+◌, ◌-◌, ◌≤◌, Bool, true, false, cond, Option, Some, None, List, ◌∷◌, position, refl, ap, ◌∙◌, arith}
use Rattle.std.specs.Prelude.{slice_set}
use Rattle.std.proofs.lemmas.Bool.Decides.{nat_tests}
use Rattle.std.proofs.lemmas.List.Sums.{sum_by-cons}
use Rattle.osc_sv39.specs.Walk.{piece}
use Rattle.osc_frames.specs.Free.{free_count}
use Rattle.osc_paging.specs.TableChanges.{Changed, linked, link, link_all}
use Rattle.osc_open.specs.Row.{first_taken}

pub least_is : (taken left : ℕ) → position (λ b. b) (first_taken taken (suc left)) ≡ Some taken
least_is zero left = grind (arith, nat_tests)
least_is (suc taken) left = grind (arith, nat_tests, least_is taken left)

pub none_is : (taken : ℕ) → position (λ b. b) (first_taken taken zero) ≡ None
none_is zero = refl
none_is (suc taken) = grind (arith, nat_tests, none_is taken)

pub next_taken : (taken left : ℕ) → slice_set (first_taken taken (suc left)) taken false ≡ first_taken (suc taken) left
next_taken zero left = refl
next_taken (suc taken) left = ap (λ xs. false ∷ xs) (next_taken taken left)

pub count_is : (taken left : ℕ) → free_count (first_taken taken left) ≡ left
count_is zero zero = refl
count_is zero (suc left) = omega (arith, count_is zero left, sum_by-cons (λ (x : Bool). cond x 1 0) true (first_taken zero left))
count_is (suc taken) left = omega (arith, count_is taken left, sum_by-cons (λ (x : Bool). cond x 1 0) false (first_taken taken left))

-- so many more are taken
pub record TakesFirst (taken left : ℕ) (free : List Bool) : Type 0 where
  pub more : ℕ
  pub few : more ≤ left
  pub same : free ≡ first_taken (taken + more) (left - more)

takes_none : (taken left : ℕ) (free : List Bool) → free ≡ first_taken taken left → TakesFirst taken left free
takes_none taken left free e = record { more = 0; few = omega arith; same = rw e (let z : taken + 0 ≡ taken = omega arith in let y : left - 0 ≡ left = omega arith in rw (z, y) refl) }

links : (taken left l n : ℕ) (a b : Option ℕ) (c : Changed) → c.free ≡ first_taken taken left
    → TakesFirst taken left (linked l n a b (position (λ x. x) c.free) c).free
links taken left l n (Some f) b c e = takes_none taken left c.free e
links taken left l n None None c e = takes_none taken left c.free e
links taken zero l n None (Some p) c e =
    let none : position (λ x. x) c.free ≡ None = ap (position (λ x. x)) e ∙ none_is taken in
    rw none (takes_none taken zero c.free e)
links taken (suc left) l n None (Some p) c e =
    let least : position (λ x. x) c.free ≡ Some taken = ap (position (λ x. x)) e ∙ least_is taken left in
    rw least (record {
      more = 1;
      few = omega arith;
      same = ap (λ free. slice_set free taken false) e ∙ (next_taken taken left ∙ (let s : taken + 1 ≡ suc taken = omega arith in let d : suc left - 1 ≡ left = omega arith in rw (s, d) refl));
    })

pub link_all_first : (l number taken left : ℕ) (c : Changed) → c.free ≡ first_taken taken left
    → TakesFirst taken left (link_all l number c).free
unfolding link_all
link_all_first zero number taken left c e = takes_none taken left c.free e
link_all_first (suc l) number taken left c e =
    let one : TakesFirst taken left (link l (piece (suc l) number) c).free = links taken left l (piece (suc l) number) _ _ c e in
    let on = link_all_first l number (taken + one.more) (left - one.more) (link l (piece (suc l) number) c) one.same in
    let few = one.few in
    let rest = on.few in
    let a : taken + one.more + on.more ≡ taken + (one.more + on.more) = omega arith in
    let b : left - one.more - on.more ≡ left - (one.more + on.more) = omega arith in
    record { more = one.more + on.more; few = omega arith; same = on.same ∙ rw (a, b) refl }
