-- Whether a process lives besides the one whose call is committed.
use Rattle.std.proofs.Common.{ℕ, zero, suc, ◌+◌, ◌≡◌, ◌==◌, ◌&&◌, ◌||◌, nat_le, nat_lt, not, Bool, true, false, cond, Option, Some, None, is_none, is_some, List, [], ◌∷◌, length, slice_get, arith, refl, ap, sym, ◌∙◌, subst}
use Rattle.std.specs.List.{count_by, list_all, range_with_len}
use Rattle.std.specs.Option.{option_and_then}
use Rattle.std.proofs.lemmas.Bool.Decides.{nat_tests}
use Rattle.std.proofs.lemmas.List.Sums.{sum_by-cons}
use Rattle.osc_word.specs.declared.calls.Answer.{Answer}
use Rattle.osc_calls.specs.Boxes.{box_change, change_by, change_of}
use Rattle.osc_calls.specs.Kernel.{Process, Calling, Returning, none_lives, process_at}
use Rattle.osc_settled.specs.KernelFits.{KernelFits}
use Rattle.osc_settled.specs.Records.{is_living}
use Rattle.osc_settled.specs.UnderWay.{UnderWayFits}
use Rattle.osc_settled.proofs.Commits.{lives_none}
use Rattle.osc_under_way.specs.declared.effects.Effect.{Effect as Does}
use Rattle.osc_under_way.specs.Effects.{effect_of}
use Rattle.osc_kernel.specs.declared.state.State.{State}
use Rattle.osc_kernel.specs.declared.state.UnderWay.{UnderWay as Doing}
use Rattle.osc_kernel.specs.declared.state.UnderWay.TheVariants as doing
use Rattle.osc_kernel.specs.Inside.{kernel_of, under_way_of}
use Rattle.osc_kernel.specs.Returns.{done_of}
use Rattle.osc_kernel.specs.Sound.{Sound, begun, has_not_ended}
use Rattle.osc_kernel.proofs.Rooms.{one_by, some_count}
use Rattle.osc_kernel.proofs.Showing.{all_ended}

abbrev ended_in : List Process → ℕ → Bool
ended_in ps pid = is_some (option_and_then (λ (p : Process). p.status) (slice_get ps pid))

-- ---- tests of numbers in a row
same_tests : (f g : ℕ → Bool) (xs : List ℕ) → ((i : ℕ) → f i ≡ g i) → list_all f xs ≡ list_all g xs
same_tests f g [] h = refl
same_tests f g (x ∷ xs) h = ap (λ b. b && list_all f xs) (h x) ∙ ap (λ b. g x && b) (same_tests f g xs h)

moved_tests : (f : ℕ → Bool) (from n : ℕ) → list_all f (range_with_len (from + 1) n) ≡ list_all (λ i. f (i + 1)) (range_with_len from n)
moved_tests f from zero = refl
moved_tests f from (suc n) = ap (λ b. f (from + 1) && b) (moved_tests f (from + 1) n)

after_first : (f g : ℕ → Bool) (n : ℕ) → ((i : ℕ) → f (suc i) ≡ g i) → list_all f (range_with_len 1 n) ≡ list_all g (range_with_len 0 n)
after_first f g n h = moved_tests f 0 n ∙ same_tests (λ i. f (i + 1)) g (range_with_len 0 n) (λ i. (let e : i + 1 ≡ suc i = omega arith in ap f e ∙ h i))

-- ---- the processes
all_by_number : (ps : List Process) → list_all (ended_in ps) (range_with_len 0 (length ps)) ≡ list_all (λ (p : Process). is_some p.status) ps
all_by_number [] = refl
all_by_number (p ∷ ps) = ap (λ b. is_some p.status && b) (after_first (ended_in (p ∷ ps)) (ended_in ps) (length ps) (λ i. refl) ∙ all_by_number ps)

others_ended : (ps : List Process) (pid : ℕ) (p : Process) → slice_get ps pid ≡ Some p → p.status ≡ None
    → list_all (λ i. (i == pid) || ended_in ps i) (range_with_len 0 (length ps)) ≡ nat_le (count_by has_not_ended ps) 1
others_ended [] pid p e l = absurd (let z : ⊥ = grind (arith, e) in z)
others_ended (q ∷ ps) zero p e l =
    let same : q ≡ p = cc in
    let one : one_by q ≡ 1 = ap one_by same ∙ ap (λ (s : Option ℕ). cond (is_none s) 1 0) l in
    let a = sum_by-cons one_by q ps in
    let rest = after_first (λ i. (i == zero) || ended_in (q ∷ ps) i) (ended_in ps) (length ps) (λ i. (let z : (suc i == zero) ≡ false = grind (arith, nat_tests) in ap (λ b. b || ended_in ps i) z)) in
    let few : (count_by has_not_ended ps == 0) ≡ nat_le (count_by has_not_ended (q ∷ ps)) 1 = grind (arith, nat_tests, a, one) in
    rest ∙ (all_by_number ps ∙ (sym (all_ended ps) ∙ few))
others_ended (q ∷ ps) (suc pid) p e l = go q.status refl (others_ended ps pid p e l)
  where
    test : ℕ → Bool
    test i = (i == suc pid) || ended_in (q ∷ ps) i

    go : (o : Option ℕ) → q.status ≡ o → list_all (λ i. (i == pid) || ended_in ps i) (range_with_len 0 (length ps)) ≡ nat_le (count_by has_not_ended ps) 1
        → list_all test (range_with_len 0 (length (q ∷ ps))) ≡ nat_le (count_by has_not_ended (q ∷ ps)) 1
    go None s before =
        let one : one_by q ≡ 1 = ap (λ (x : Option ℕ). cond (is_none x) 1 0) s in
        let a = sum_by-cons one_by q ps in
        let b = some_count ps pid p e l in
        let z : ((zero == suc pid) || is_some q.status) ≡ false = grind (arith, nat_tests, s) in
        let many : false ≡ nat_le (count_by has_not_ended (q ∷ ps)) 1 = grind (arith, nat_tests, a, b, one) in
        ap (λ b. b && list_all test (range_with_len 1 (length ps))) z ∙ many
    go (Some status) s before =
        let none : one_by q ≡ 0 = ap (λ (x : Option ℕ). cond (is_none x) 1 0) s in
        let a = sum_by-cons one_by q ps in
        let z : ((zero == suc pid) || is_some q.status) ≡ true = grind (arith, nat_tests, s) in
        let same : count_by has_not_ended ps ≡ count_by has_not_ended (q ∷ ps) = omega (arith, a, none) in
        let rest : list_all test (range_with_len 1 (length ps)) ≡ list_all (λ i. (i == pid) || ended_in ps i) (range_with_len 0 (length ps)) =
        after_first test (λ i. (i == pid) || ended_in ps i) (length ps)
        (λ i. (let z : (suc i == suc pid) ≡ (i == pid) = grind (arith, nat_tests) in ap (λ b. b || ended_in ps i) z)) in
        ap (λ b. b && list_all test (range_with_len 1 (length ps))) z ∙ (rest ∙ (before ∙ ap (λ n. nat_le n 1) same))

-- ---- the committed call
one_at_most : (n : ℕ) → nat_le n 1 ≡ not (nat_lt 1 n)
one_at_most n = grind (arith, nat_tests)

pub others_of : (s : State) (c : Calling) (a : Answer) (e : Does) → Sound s → s.under_way ≡ doing.Returning c a e → none_lives c.pid (kernel_of s) ≡ not (nat_lt 1 s.unended)
others_of s c a e h u = go (process_at (kernel_of s) c.pid) refl
  where
    is : (kernel_of s).under_way ≡ Returning (done_of c a e s.closing)
    is = ap (λ (x : Doing). under_way_of x s.closing) u

    lives : is_living (process_at (kernel_of s) c.pid) ≡ true
    lives = (subst (λ x. UnderWayFits (kernel_of s) x) is (subst (λ x. KernelFits h.fits.words (begun x (kernel_of s))) is h.fits.fits).under_way).lives

    go : (o : Option Process) → process_at (kernel_of s) c.pid ≡ o → none_lives c.pid (kernel_of s) ≡ not (nat_lt 1 s.unended)
    go None at = absurd (let z = sym (ap is_living at) ∙ lives in let w : ⊥ = grind (arith, z) in w)
    go (Some p) at = others_ended s.processes.items c.pid p at (lives_none p (process_at (kernel_of s) c.pid) at lives) ∙ (ap (λ n. nat_le n 1) (sym h.rooms.counted) ∙ one_at_most s.unended)

pub change_is : (s : State) (hart : ℕ) (c : Calling) (a : Answer) (e : Does) → s.under_way ≡ doing.Returning c a e → box_change hart (kernel_of s) ≡ change_of (kernel_of s) c.pid hart (effect_of e)
unfolding box_change
change_is s hart c a e u = ap (λ (x : Doing). change_by (kernel_of s) hart (under_way_of x s.closing)) u
