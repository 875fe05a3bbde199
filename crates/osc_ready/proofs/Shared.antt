-- The frames of a process's regions: different, held, and held by few.
use Rattle.std.proofs.Common.{ℕ, zero, suc, ◌+◌, ◌*◌, ◌≡◌, ◌≢◌, ◌<◌, ◌≤◌, ◌==◌, Bool, true, false, cond, Option, Some, None, List, [], ◌∷◌, ◌++◌, length, slice_get, arith, refl, ap, sym, ◌∙◌, subst}
use Rattle.std.specs.Prelude.{All}
use Rattle.std.specs.List.{AllByRecursion, list_any, sum_by}
use Rattle.std.proofs.lemmas.Bool.Decides.{nat_tests}
use Rattle.std.proofs.lemmas.List.Elements.{All-from_recursion}
use Rattle.std.proofs.lemmas.List.Sums.{sum_by-cons}
use Rattle.std.proofs.lemmas.Option.{slice_get_within}
use Rattle.osc_frames.specs.Free.{IsTaken}
use Rattle.osc_space.specs.Space.{Closing}
use Rattle.osc_space.specs.Agree.{AreApart}
use Rattle.osc_space.specs.Share.{Regions, holders, shared_frames}
use Rattle.osc_share.specs.Holding.{AreDifferent, CanJoin, IsHeld}
use Rattle.osc_parts.specs.Frames.{among, frames_held, frames_mapped, FramesFit}
use Rattle.osc_parts.proofs.Counts.{among-append, apart_once, once_apart}
use Rattle.osc_parts.proofs.Trading.{held_once, held_taken}
use Rattle.osc_calls.specs.Kernel.{Process}
use Rattle.osc_settled.specs.Memory.{Memory, shared_by, shared, SpaceFits, IsBare, MemoryFits}
use Rattle.osc_settled.proofs.Lists.{one_within}

-- ---- lists of numbers
differs : (x : ℕ) (xs : List ℕ) → list_any (λ y. y == x) xs ≡ false → AllByRecursion (λ (y : ℕ). y ≢ x) xs
differs x [] e = tt
differs x (y ∷ xs) e =
    (let z : (y == x) ≡ false = grind (arith, nat_tests, e) in grind (arith, nat_tests, z), differs x xs (grind (arith, nat_tests, e)))

pub apart_different : (xs : List ℕ) → AreApart xs → AreDifferent xs
apart_different [] a = tt
apart_different (x ∷ xs) a = (All-from_recursion (λ (y : ℕ). y ≢ x) xs (differs x xs a.0), apart_different xs a.1)

-- what is true of each frame that stands in a list
each_of : (P : ℕ → Type 0) (xs : List ℕ) → ((f : ℕ) → 0 < among f xs → P f) → AllByRecursion P xs
each_of P [] h = tt
each_of P (x ∷ xs) h = (h x (grind (arith, nat_tests)), each_of P xs (λ f l. h f (omega (arith, l))))

pub all_of : (P : ℕ → Type 0) (xs : List ℕ) → ((f : ℕ) → 0 < among f xs → P f) → All P xs
all_of P xs h = All-from_recursion P xs (each_of P xs h)

-- ---- who holds a frame
-- no process has a frame among its regions twice
shared_once : (words : List ℕ) (m : Memory) (closes : ℕ → Closing) (pid f : ℕ) (p : Process) → MemoryFits words m closes → slice_get m.processes pid ≡ Some p → shared_by f p ≤ 1
shared_once words m closes pid f p fits e = go p.status refl
  where
    go : (s : Option ℕ) → p.status ≡ s → shared_by f p ≤ 1
    go None lives = let a = held_once p.space m.free f (fits.spaces pid p e lives).frames in omega (arith, a)
    go (Some s) over = let b = fits.bare pid s p e over in rw b.pages (omega arith)

few_hold : (ps : List Process) (f : ℕ) → ((pid : ℕ) (p : Process) → slice_get ps pid ≡ Some p → shared_by f p ≤ 1) → shared f ps ≤ length ps
few_hold [] f h = omega arith
few_hold (p ∷ ps) f h =
    let a = sum_by-cons (shared_by f) p ps in
    let b = h 0 p refl in
    let c = few_hold ps f (λ pid q e. h (suc pid) q e) in
    omega (arith, a, b, c)

pub holders_few : (words : List ℕ) (m : Memory) (closes : ℕ → Closing) (f : ℕ) → MemoryFits words m closes → holders m.regions f ≤ length m.processes
holders_few words m closes f fits =
    let a = fits.holders f in let b = few_hold m.processes f (λ pid p e. shared_once words m closes pid f p fits e) in omega (arith, a, b)

-- ---- the frames of a process's regions
module _ (words : List ℕ) (m : Memory) (closes : ℕ → Closing) (fits : MemoryFits words m closes) (pid : ℕ) (p : Process) (e : slice_get m.processes pid ≡ Some p) (frames : FramesFit p.space m.free) where
  mapped : (f : ℕ) → among f (frames_mapped p.space) ≡ among f (frames_held p.space) + among f (shared_frames p.space.tables)
  mapped f = among-append f (frames_held p.space) (shared_frames p.space.tables)

  pub are_different : AreDifferent (shared_frames p.space.tables)
  are_different =
      apart_different (shared_frames p.space.tables)
      (once_apart (shared_frames p.space.tables) (λ f. (let a = held_once p.space m.free f frames in omega (arith, a))))

  pub are_taken : All (IsTaken m.free) (shared_frames p.space.tables)
  are_taken = all_of (IsTaken m.free) (shared_frames p.space.tables) (λ f l. held_taken p.space m.free f frames (omega (arith, l)))

  pub are_held : length m.regions ≡ length m.free → All (IsHeld m.regions) (shared_frames p.space.tables)
  are_held same = all_of (IsHeld m.regions) (shared_frames p.space.tables) (λ f l. (within f l, holds f l))
    where
      within : (f : ℕ) → 0 < among f (shared_frames p.space.tables) → f < length m.regions
      within f l = let a = slice_get_within m.free f false (held_taken p.space m.free f frames (omega (arith, l))) in omega (arith, a, same)

      holds : (f : ℕ) → 0 < among f (shared_frames p.space.tables) → 0 < holders m.regions f
      holds f l = let a = fits.holders f in let b : shared_by f p ≤ shared f m.processes = one_within (shared_by f) m.processes pid p e in omega (arith, a, b, l)

  pub can_join : length m.regions ≡ length m.free → length m.processes ≤ 64 → All (CanJoin m.regions) (shared_frames p.space.tables)
  can_join same few = all_of (CanJoin m.regions) (shared_frames p.space.tables)
      (λ f l. ((within f l, holds f l), (let a = holders_few words m closes f fits in omega (arith, a, few))))
    where
      within : (f : ℕ) → 0 < among f (shared_frames p.space.tables) → f < length m.regions
      within f l = let a = slice_get_within m.free f false (held_taken p.space m.free f frames (omega (arith, l))) in omega (arith, a, same)

      holds : (f : ℕ) → 0 < among f (shared_frames p.space.tables) → 0 < holders m.regions f
      holds f l = let a = fits.holders f in let b : shared_by f p ≤ shared f m.processes = one_within (shared_by f) m.processes pid p e in omega (arith, a, b, l)
