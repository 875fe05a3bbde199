-- The byte that was laid last, by the segments that a reader keeps.
use Rattle.std.proofs.Common.{ℕ, ◌≡◌, refl, ap, ◌∙◌, Bool, true, false, cond, List, [], ◌∷◌, reverse, Some}
use Rattle.std.specs.Prelude.{option_map}
use Rattle.std.specs.List.{find}
use Rattle.std.specs.Option.{option_map_or}
use mathlib.Core.List.{reverse_aux}
use Rattle.osc_image.specs.Image.{covers, byte_in, laid_byte}
use Rattle.osc_elf.specs.declared.segment.Segment.{Segment}
use Rattle.osc_elf.specs.Segments.{shown, all_shown}

find-shown : (file : List ℕ) (address : ℕ) (ss : List Segment)
    → find (covers address) (all_shown file ss) ≡ option_map (shown file) (find (λ s. covers address (shown [] s)) ss)
find-shown file address [] = refl
find-shown file address (s ∷ ss) = at (covers address (shown [] s)) (find-shown file address ss)
  where
    at : (b : Bool) → find (covers address) (all_shown file ss) ≡ option_map (shown file) (find (λ s. covers address (shown [] s)) ss)
        → cond b (Some (shown file s)) (find (covers address) (all_shown file ss))
        ≡ option_map (shown file) (cond b (Some s) (find (λ s. covers address (shown [] s)) ss))
    at true rest = refl
    at false rest = rest

turned : (file : List ℕ) (ss done : List Segment)
    → reverse_aux (all_shown file ss) (all_shown file done) ≡ all_shown file (reverse_aux ss done)
turned file [] done = refl
turned file (s ∷ ss) done = turned file ss (s ∷ done)

-- the last segment that covers the address gives the byte
pub last-covering : (file : List ℕ) (ss : List Segment) (address : ℕ)
    → laid_byte (all_shown file ss) address
    ≡ option_map_or (byte_in address) (option_map (shown file) (find (λ s. covers address (shown [] s)) (reverse ss))) 0
unfolding laid_byte
last-covering file ss address =
    ap (λ s. option_map_or (byte_in address) s 0)
    (ap (find (covers address)) (turned file ss []) ∙ find-shown file address (reverse ss))
