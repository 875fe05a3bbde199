-- Records as the first of an array of eight, and lists that are changed one element after another.
use Rattle.std.proofs.Common.{ℕ, zero, suc, ◌≡◌, ◌<◌, ◌≤◌, List, [], ◌∷◌, ◌++◌, None, length, map, take, drop, set, get_or, arith, ap, refl}
use Rattle.std.specs.Prelude.{replicate}
use Rattle.std.proofs.lemmas.List.{take-replicate}
use Rattle.osc_calls.specs.declared.HartRecord.{HartRecord}
use Rattle.osc_calls.specs.declared.HartRecord.TheVariants.{Idle, Runs}
use Rattle.osc_calls.specs.Open.{first_records}

pub first_of_eight : (harts : ℕ) → harts ≤ 8 → take harts (Runs 0 None ∷ replicate 7 Idle) ≡ first_records harts
first_of_eight zero few = refl
first_of_eight (suc harts) few = rw (take-replicate harts 7 Idle (omega arith)) refl

pub set_of_first : (harts hart : ℕ) (new : HartRecord) (rs : List HartRecord) → hart < length (take harts rs)
    → take harts (set rs hart new) ≡ set (take harts rs) hart new
set_of_first zero hart new rs there = absurd (omega (arith, there))
set_of_first (suc harts) hart new [] there = absurd (omega (arith, there))
set_of_first (suc harts) zero new (r ∷ rs) there = refl
set_of_first (suc harts) (suc hart) new (r ∷ rs) there = ap (λ rest. r ∷ rest) (set_of_first harts hart new rs (omega (arith, there)))

-- so many are changed, and the others are still to be
abbrev pub half_mapped : (HartRecord → HartRecord) → ℕ → List HartRecord → List HartRecord
half_mapped f i rs = take i rs ++ map f (drop i rs)

pub one_more : (f : HartRecord → HartRecord) (i : ℕ) (d : HartRecord) (rs : List HartRecord) → i < length rs
    → half_mapped f (suc i) (set rs i (f (get_or rs i d))) ≡ half_mapped f i rs
one_more f i d [] there = absurd (omega (arith, there))
one_more f zero d (r ∷ rs) there = refl
one_more f (suc i) d (r ∷ rs) there = ap (λ rest. r ∷ rest) (one_more f i d rs (omega (arith, there)))
