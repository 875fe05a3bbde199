-- Pairs of digits, from a place on.
use Rattle.std.proofs.Common.{◌≡◌, ℕ, zero, suc, ◌+◌, ◌*◌, ◌<◌, ◌≤◌, List, [], ◌∷◌, ◌++◌, length, drop, slice_index, refl, sym, ◌∙◌, ap, arith, append_assoc}
use Rattle.std.proofs.lemmas.List.{append-nil, length-drop}
use Rattle.osc_assemble.specs.Put.{bytes_of, digit_value}

pair : (digits : List ℕ) (at : ℕ) → at + 2 ≤ length digits
    → bytes_of (drop at digits)
    ≡ (16 * digit_value (slice_index digits at) + digit_value (slice_index digits (suc at))) ∷ bytes_of (drop (suc (suc at)) digits)
unfolding bytes_of
pair [] at h = absurd (omega (arith, h))
pair (high ∷ []) at h = absurd (omega (arith, h))
pair (high ∷ low ∷ rest) zero h = refl
pair (high ∷ low ∷ rest) (suc at) h = pair (low ∷ rest) at (omega (arith, h))

pub pair-next : (digits : List ℕ) (at first second : ℕ) (bytes more target : List ℕ) → at + 1 < length digits
    → first ≡ digit_value (slice_index digits at) → second ≡ digit_value (slice_index digits (at + 1))
    → more ≡ bytes ++ (16 * first + second) ∷ [] → bytes ++ bytes_of (drop at digits) ≡ target
    → more ++ bytes_of (drop (at + 2) digits) ≡ target
pair-next digits at first second bytes more target h high low appended before =
    let one : at + 1 ≡ suc at = omega arith in
    let two : at + 2 ≡ suc (suc at) = omega arith in
    let both : 16 * first + second ≡ 16 * digit_value (slice_index digits at) + digit_value (slice_index digits (suc at))
    = rw (high, low, one) refl in
    rw (appended, both, two)
    (append_assoc bytes ((16 * digit_value (slice_index digits at) + digit_value (slice_index digits (suc at))) ∷ [])
    (bytes_of (drop (suc (suc at)) digits))
    ∙ (ap (λ rest. bytes ++ rest) (sym (pair digits at (omega (arith, h)))) ∙ before))

none : (digits : List ℕ) → length digits < 2 → bytes_of digits ≡ []
unfolding bytes_of
none [] h = refl
none (low ∷ []) h = refl
none (high ∷ low ∷ rest) h = absurd (omega (arith, h))

pub pair-end : (digits : List ℕ) (at : ℕ) (bytes target : List ℕ) → length digits ≤ at + 1
    → bytes ++ bytes_of (drop at digits) ≡ target → bytes ≡ target
pair-end digits at bytes target h before =
    sym (append-nil bytes)
    ∙ (ap (λ rest. bytes ++ rest) (sym (none (drop at digits) (omega (arith, h, length-drop at digits)))) ∙ before)
