-- Free frames, frames held alone and frames of regions are all frames of the machine.
use Rattle.std.proofs.Common.{ℕ, zero, suc, ◌+◌, ◌≡◌, ◌<◌, Bool, true, false, cond, Option, Some, None, List, [], ◌∷◌, length, slice_get, arith, refl, sym, ◌∙◌, subst}
use Rattle.std.specs.List.{sum_by}
use Rattle.std.proofs.lemmas.Bool.Decides.{nat_tests}
use Rattle.std.proofs.lemmas.List.Sums.{sum_by-cons}
use Rattle.std.proofs.lemmas.Option.{slice_get_within}
use Rattle.osc_slot.specs.Heap.{free_count}
use Rattle.osc_space.specs.Share.{Regions, holders}
use Rattle.osc_parts.specs.Frames.{one_at, among, vacant, one_where, frames_held}
use Rattle.osc_parts.proofs.Trading.{held_taken}
use Rattle.osc_calls.specs.Kernel.{Process}
use Rattle.osc_settled.specs.Memory.{held_by, held, one_if}
use Rattle.osc_settled.specs.FollowLaws.{held_count, FramesAddUp}
use Rattle.osc_settled.proofs.Forking.{bare_none}

-- ---- sums over so many numbers from 0 on
total : (ℕ → ℕ) → ℕ → ℕ
total g zero = 0
total g (suc n) = g 0 + total (λ i. g (suc i)) n

total-same : (g h : ℕ → ℕ) (n : ℕ) → ((i : ℕ) → i < n → g i ≡ h i) → total g n ≡ total h n
unfolding total
total-same g h zero e = refl
total-same g h (suc n) e =
    let a = e 0 (omega arith) in let b = total-same (λ i. g (suc i)) (λ i. h (suc i)) n (λ i l. e (suc i) (omega (arith, l))) in omega (arith, a, b)

total-add : (g h : ℕ → ℕ) (n : ℕ) → total (λ i. g i + h i) n ≡ total g n + total h n
unfolding total
total-add g h zero = refl
total-add g h (suc n) = let b = total-add (λ i. g (suc i)) (λ i. h (suc i)) n in omega (arith, b)

total-none : (n : ℕ) → total (λ i. 0) n ≡ 0
unfolding total
total-none zero = refl
total-none (suc n) = let b = total-none n in omega (arith, b)

total-one : (n : ℕ) → total (λ i. 1) n ≡ n
unfolding total
total-one zero = refl
total-one (suc n) = let b = total-one n in omega (arith, b)

next_at : (x i : ℕ) → one_at (suc x) (suc i) ≡ one_at x i
next_at x i = grind (arith, nat_tests)

total-at : (x n : ℕ) → x < n → total (λ i. one_at x i) n ≡ 1
unfolding total
total-at x zero l = absurd (omega arith)
total-at zero (suc n) l =
    let a = total-same (λ i. one_at 0 (suc i)) (λ i. 0) n (λ i m. grind (arith, nat_tests)) in let b = total-none n in
    let z : one_at 0 0 ≡ 1 = grind (arith, nat_tests) in omega (arith, a, b, z)
total-at (suc x) (suc n) l =
    let a = total-same (λ i. one_at (suc x) (suc i)) (λ i. one_at x i) n (λ i m. next_at x i) in let b = total-at x n (omega (arith, l)) in
    let z : one_at (suc x) 0 ≡ 0 = grind (arith, nat_tests) in omega (arith, a, b, z)

total-among : (xs : List ℕ) (n : ℕ) → ((f : ℕ) → 0 < among f xs → f < n) → total (λ f. among f xs) n ≡ length xs
total-among [] n h = total-none n
total-among (x ∷ xs) n h =
    let a = total-add (λ f. one_at x f) (λ f. among f xs) n in
    let b = total-at x n (h x (grind (arith, nat_tests))) in
    let c = total-among xs n (λ f l. h f (omega (arith, l))) in
    omega (arith, a, b, c)

-- ---- frames
total-vacant : (free : List Bool) → total (vacant free) (length free) ≡ free_count free
unfolding total
total-vacant [] = refl
total-vacant (x ∷ free) =
    let a = total-vacant free in let b : free_count (x ∷ free) ≡ cond x 1 0 + free_count free = sum_by-cons (λ (y : Bool). cond y 1 0) x free in
    let z = first x in omega (arith, a, b, z)
  where
    first : (y : Bool) → one_where (Some y) ≡ cond y 1 0
    first true = refl
    first false = refl

total-regions : (regions : Regions) → total (λ f. one_if (holders regions f)) (length regions) ≡ sum_by one_if regions
unfolding total
total-regions [] = refl
total-regions (x ∷ regions) = let a = total-regions regions in let b = sum_by-cons one_if x regions in omega (arith, a, b)

total-held : (processes : List Process) (n : ℕ) → ((i f : ℕ) (p : Process) → slice_get processes i ≡ Some p → 0 < held_by f p → f < n)
    → total (λ f. held f processes) n ≡ held_count processes
total-held [] n h = total-none n
total-held (p ∷ processes) n h =
    let e = total-same (λ f. held f (p ∷ processes)) (λ f. held_by f p + held f processes) n (λ f l. sum_by-cons (held_by f) p processes) in
    let a = total-add (λ f. held_by f p) (λ f. held f processes) n in
    let b = total-among (frames_held p.space) n (λ f l. h 0 f p refl l) in
    let c = total-held processes n (λ i f q g l. h (suc i) f q g l) in
    let d = sum_by-cons (λ (q : Process). length (frames_held q.space)) p processes in
    omega (arith, e, a, b, c, d)

pub frames_add_up : FramesAddUp
frames_add_up words k f =
    let n = length k.free in
    let all = total-same (λ i. vacant k.free i + held i k.processes + one_if (holders k.regions i)) (λ i. 1) (length k.free) f.memory.uses in
    let a = total-add (λ i. vacant k.free i + held i k.processes) (λ i. one_if (holders k.regions i)) (length k.free) in
    let b = total-add (vacant k.free) (λ i. held i k.processes) (length k.free) in
    let c = total-vacant k.free in
    let d = total-held k.processes (length k.free) within in
    let e : total (λ i. one_if (holders k.regions i)) (length k.free) ≡ sum_by one_if k.regions =
    subst (λ m. total (λ i. one_if (holders k.regions i)) m ≡ sum_by one_if k.regions) (f.sizes.regions ∙ sym f.sizes.free) (total-regions k.regions) in
    let o = total-one (length k.free) in
    let s = f.sizes.free in
    omega (arith, all, a, b, c, d, e, o, s)
  where
    by : (i g : ℕ) (p : Process) → slice_get k.processes i ≡ Some p → 0 < held_by g p → (s : Option ℕ) → p.status ≡ s → g < length k.free
    by i g p e l None h = slice_get_within k.free g false (held_taken p.space k.free g (f.memory.spaces i p e h).frames (omega (arith, l)))
    by i g p e l (Some status) h = absurd (let b = bare_none p.space g (f.memory.bare i status p e h) in omega (arith, b, l))

    within : (i g : ℕ) (p : Process) → slice_get k.processes i ≡ Some p → 0 < held_by g p → g < length k.free
    within i g p e l = by i g p e l p.status refl
