-- One pick after another.
use Rattle.std.proofs.Common.{ℕ, zero, suc, ◌≡◌, ◌+◌, ◌-◌, ◌<◌, ◌≤◌, Bool, true, false, if◌then◌else◌, List, [], ◌∷◌, length, arith, refl, sym, ap, ◌∙◌}
use Rattle.osc_machine.specs.Parts.{State}
use Rattle.osc_machine.specs.Step.{step}
use Rattle.osc_machine.specs.Views.{machine_over}
use Rattle.osc_machine.specs.Run.{Ran, with_step, run_on, run, until_over}
use Rattle.osc_machine.specs.Picks.{next_seed, picked, picks}
use Rattle.osc_seed.specs.declared.SeededEnd.TheVariants.{Over}
use Rattle.osc_seed.specs.Seeded.{end_after, SpentMakesAll}

-- the state of a run doesn't look at what was committed and shown before
same_state : (xs : List ℕ) (a b : Ran) → a.state ≡ b.state → (run_on xs a).state ≡ (run_on xs b).state
unfolding run_on
same_state [] a b e = e
same_state (x ∷ xs) a b e =
    same_state xs (with_step a (step a.state x)) (with_step b (step b.state x)) (ap (λ s. (step s x).state) e)

further : (s : State) (x : ℕ) (xs : List ℕ) → (run s (x ∷ xs)).state ≡ (run (step s x).state xs).state
unfolding run_on
further s x xs = same_state xs (with_step (record { state = s; commits = []; trace = [] }) (step s x)) (record { state = (step s x).state; commits = []; trace = [] }) refl

-- where nothing is to be run
nothing : (s : State) → (run s []).state ≡ s
unfolding run_on
nothing s = refl

-- the picks that are left to make, so many at most
abbrev pub rest : ℕ → ℕ → ℕ → State → List ℕ
rest harts seed left s = until_over s (picks harts seed left)

pub over_now : (harts seed left : ℕ) (s : State) → machine_over s ≡ true → rest harts seed left s ≡ []
unfolding until_over picks
over_now harts seed zero s e = refl
over_now harts seed (suc left) s e = rw e refl

pub one_more : (harts seed left : ℕ) (s : State) → machine_over s ≡ false
    → rest harts seed (suc left) s ≡ picked harts (next_seed seed) ∷ rest harts (next_seed seed) left (step s (picked harts (next_seed seed))).state
unfolding until_over picks
one_more harts seed left s e = rw e refl

pub none_left : (harts seed : ℕ) (s : State) → rest harts seed 0 s ≡ []
unfolding until_over picks
none_left harts seed s = refl

-- ---- from the start of the run
-- where the run stands after so many of all picks: what is left ends in the same state, after as many picks
pub record Stands (start : State) (harts seed all : ℕ) (s : State) (now made : ℕ) : Type 0 where
  pub state : (run s (rest harts now (all - made) s)).state ≡ (run start (rest harts seed all start)).state
  pub count : made + length (rest harts now (all - made) s) ≡ length (rest harts seed all start)

pub starts : (start : State) (harts seed all : ℕ) → Stands start harts seed all start seed 0
starts start harts seed all =
    let whole : all - 0 ≡ all = omega arith in record {
      state = ap (λ n. (run start (rest harts seed n start)).state) whole;
      count = ap (λ n. 0 + length (rest harts seed n start)) whole ∙ omega arith;
    }

pub left_more : (all made : ℕ) → made < all → all - made ≡ suc (all - (made + 1))
left_more all made l = omega (arith, l)

pub goes_on : (start : State) (harts seed all : ℕ) (s next : State) (now made : ℕ) → made < all → machine_over s ≡ false
    → next ≡ (step s (picked harts (next_seed now))).state → Stands start harts seed all s now made
    → Stands start harts seed all next (next_seed now) (made + 1)
goes_on start harts seed all s next now made l e is st =
    let x = picked harts (next_seed now) in
    let left = all - (made + 1) in
    let more : rest harts now (all - made) s ≡ x ∷ rest harts (next_seed now) left (step s x).state =
    ap (λ n. rest harts now n s) (left_more all made l) ∙ one_more harts now left s e in
    rw is (record {
      state = sym (further s x (rest harts (next_seed now) left (step s x).state)) ∙ sym (ap (λ xs. (run s xs).state) more) ∙ st.state;
      count = omega (arith, ap length more, st.count);
    })

-- where nothing is left to be made
pub record Stopped (start : State) (harts seed all : ℕ) (s : State) (made : ℕ) : Type 0 where
  pub state : s ≡ (run start (rest harts seed all start)).state
  pub count : made ≡ length (rest harts seed all start)

stopped : (start : State) (harts seed all : ℕ) (s : State) (now made : ℕ) → rest harts now (all - made) s ≡ []
    → Stands start harts seed all s now made → Stopped start harts seed all s made
stopped start harts seed all s now made none st = record {
  state = sym (nothing s) ∙ sym (ap (λ xs. (run s xs).state) none) ∙ st.state;
  count = omega (arith, ap length none, st.count);
}

pub stops_over : (start : State) (harts seed all : ℕ) (s : State) (now made : ℕ) → machine_over s ≡ true
    → Stands start harts seed all s now made → Stopped start harts seed all s made
stops_over start harts seed all s now made e st = stopped start harts seed all s now made (over_now harts now (all - made) s e) st

pub stops_spent : (start : State) (harts seed all : ℕ) (s : State) (now made : ℕ) → all ≤ made
    → Stands start harts seed all s now made → Stopped start harts seed all s made
stops_spent start harts seed all s now made l st =
    stopped start harts seed all s now made (ap (λ n. rest harts now n s) (omega (arith, l)) ∙ none_left harts now s) st

pub over_after : (over : Bool) (made all : ℕ) → over ≡ true → made ≡ all → Over made ≡ end_after over all
over_after over made all e is = rw (e, is) refl

-- ---- all picks
made_all : (xs : List ℕ) (s : State) → machine_over (run s (until_over s xs)).state ≡ false → until_over s xs ≡ xs
unfolding until_over
made_all [] s e = refl
made_all (x ∷ xs) s e = made_by (machine_over s) s x xs refl e (made_all xs (step s x).state)
  where
    made_by : (b : Bool) (s : State) (x : ℕ) (xs : List ℕ) → machine_over s ≡ b
        → machine_over (run s (if b then [] else x ∷ until_over (step s x).state xs)).state ≡ false
        → (machine_over (run (step s x).state (until_over (step s x).state xs)).state ≡ false → until_over (step s x).state xs ≡ xs)
        → (if b then [] else x ∷ until_over (step s x).state xs) ≡ x ∷ xs
    made_by true s x xs is e on = absurd (grind (arith, is, ap machine_over (nothing s), e))
    made_by false s x xs is e on = ap (λ ys. x ∷ ys) (on (sym (ap machine_over (further s x (until_over (step s x).state xs))) ∙ e))

pub spent_makes_all : SpentMakesAll
spent_makes_all s seed count e = made_all (picks (length s.harts) seed count) s e
