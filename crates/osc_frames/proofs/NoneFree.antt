-- There is a least free frame exactly where a frame is free.
use Rattle.std.proofs.Common.{ℕ, ◌≡◌, ◌↔◌, Bool, true, false, cond, nat_lt, List, [], ◌∷◌, Option, IsNone, length, arith}
use Rattle.std.specs.List.{position_or_len}
use Rattle.std.proofs.lemmas.Bool.Decides.{nat_tests}
use Rattle.std.proofs.lemmas.List.Sums.{sum_by-cons}
use Rattle.osc_frames.specs.Free.{least_free, free_count}

place-lt : (frames : List Bool) → nat_lt (position_or_len (λ free. free) frames) (length frames) ≡ nat_lt 0 (free_count frames)
place-lt [] = grind (arith, nat_tests)
place-lt (true ∷ frames) = let e = sum_by-cons (λ (b : Bool). cond b 1 0) true frames in grind (arith, nat_tests, e)
place-lt (false ∷ frames) = let e = sum_by-cons (λ (b : Bool). cond b 1 0) false frames in grind (arith, nat_tests, e, place-lt frames)

pub least_free_none : (frames : List Bool) (frame : Option ℕ) → frame ≡ least_free frames → IsNone frame ↔ (free_count frames ≡ 0)
least_free_none frames frame e = let at = place-lt frames in rw e (grind (arith, nat_tests, at))
