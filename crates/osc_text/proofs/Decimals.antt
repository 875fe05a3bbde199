-- The text of a number, read from the front.
use Rattle.std.proofs.Common.{◌≡◌, ℕ, suc, ◌+◌, ◌/◌, ◌%◌, ◌<◌, Bool, true, false, List, [], ◌∷◌, ◌++◌, length, get_or, drop, refl, sym, ap, ◌∙◌, arith, append_assoc, add-one}
use Rattle.std.proofs.Math.Seq.{drop-cons}
use Rattle.std.proofs.lemmas.Fmt.{decimal_by_steps}
use Rattle.std.specs.Fmt.{decimal}
use Rattle.std.specs.Char.{is_ascii_digit}
use Rattle.osc_text.specs.Text.{sign_text}
use Rattle.osc_text.specs.Digits.{with_digit, front_value, after_digits, starts_digit}

value-cons : (value byte : ℕ) (rest : List ℕ) → is_ascii_digit byte ≡ true → front_value value (byte ∷ rest) ≡ front_value (with_digit value byte) rest
unfolding front_value
value-cons value byte rest digit = rw digit refl

after-cons : (byte : ℕ) (rest : List ℕ) → is_ascii_digit byte ≡ true → after_digits (byte ∷ rest) ≡ after_digits rest
unfolding after_digits
after-cons byte rest digit = rw digit refl

pub value-end : (value : ℕ) (rest : List ℕ) → starts_digit rest ≡ false → front_value value rest ≡ value
unfolding front_value
value-end value [] no_digit = refl
value-end value (byte ∷ rest) no_digit = rw no_digit refl

pub after-end : (rest : List ℕ) → starts_digit rest ≡ false → after_digits rest ≡ rest
unfolding after_digits
after-end [] no_digit = refl
after-end (byte ∷ rest) no_digit = rw no_digit refl

is_digit : (d : ℕ) → d < 10 → is_ascii_digit (48 + d) ≡ true
is_digit d small = grind (arith, small)

abbrev Runs : ℕ → List ℕ → Type 0
Runs n ds = n < 10000000 → (rest : List ℕ) → (front_value 0 (ds ++ rest) ≡ front_value n rest) × (after_digits (ds ++ rest) ≡ after_digits rest)

runs : (n : ℕ) → n < 10000000 → (rest : List ℕ)
    → (front_value 0 (decimal n ++ rest) ≡ front_value n rest) × (after_digits (decimal n ++ rest) ≡ after_digits rest)
runs n fits rest = decimal_by_steps Runs
    (λ k low small r.
    let d = is_digit k low in
    let e : with_digit 0 (48 + k) ≡ k = omega arith in
    (value-cons 0 (48 + k) r d ∙ ap (λ v. front_value v r) e, after-cons (48 + k) r d))
    (λ k ds big ih small r.
    let d = is_digit (k % 10) (omega arith) in
    let e : with_digit (k / 10) (48 + k % 10) ≡ k = omega arith in
    let before = ih (omega arith) ((48 + k % 10) ∷ r) in
    rw (append_assoc ds ((48 + k % 10) ∷ []) r)
    (before.0 ∙ (value-cons (k / 10) (48 + k % 10) r d ∙ ap (λ v. front_value v r) e), before.1 ∙ after-cons (48 + k % 10) r d))
    n (omega arith) fits rest

-- a number that is followed by no digit
pub value_of : (n : ℕ) (rest : List ℕ) → n < 10000000 → starts_digit rest ≡ false → front_value 0 (decimal n ++ rest) ≡ n
value_of n rest fits no_digit = (runs n fits rest).0 ∙ value-end n rest no_digit

pub rest_of : (n : ℕ) (rest : List ℕ) → n < 10000000 → starts_digit rest ≡ false → after_digits (decimal n ++ rest) ≡ rest
rest_of n rest fits no_digit = (runs n fits rest).1 ∙ after-end rest no_digit

-- the first byte of a number is a digit
pub first_digit : (n : ℕ) (rest : List ℕ) → n < 10000000 → starts_digit (decimal n ++ rest) ≡ true
first_digit n rest fits = decimal_by_steps (λ k ds. (r : List ℕ) → starts_digit (ds ++ r) ≡ true)
    (λ k low r. is_digit k low)
    (λ k ds big ih r. rw (append_assoc ds ((48 + k % 10) ∷ []) r) (ih ((48 + k % 10) ∷ r)))
    n (omega arith) rest

-- ---- one byte at a time

pub more_value : (value at : ℕ) (text : List ℕ) → at < length text → is_ascii_digit (get_or text at 0) ≡ true
    → front_value (with_digit value (get_or text at 0)) (drop (at + 1) text) ≡ front_value value (drop at text)
more_value value at text within digit =
    sym (ap (front_value value) (drop-cons text at 0 within)
    ∙ (value-cons value (get_or text at 0) (drop (suc at) text) digit
    ∙ ap (λ k. front_value (with_digit value (get_or text at 0)) (drop k text)) (sym (add-one at))))

pub more_after : (at : ℕ) (text : List ℕ) → at < length text → is_ascii_digit (get_or text at 0) ≡ true
    → after_digits (drop (at + 1) text) ≡ after_digits (drop at text)
more_after at text within digit =
    sym (ap after_digits (drop-cons text at 0 within)
    ∙ (after-cons (get_or text at 0) (drop (suc at) text) digit ∙ ap (λ k. after_digits (drop k text)) (sym (add-one at))))

pub no_more : (at : ℕ) (text : List ℕ) → at < length text → is_ascii_digit (get_or text at 0) ≡ false → starts_digit (drop at text) ≡ false
no_more at text within no_digit = ap starts_digit (drop-cons text at 0 within) ∙ no_digit

-- ---- signs

pub signed_text : (negative : Bool) (magnitude : ℕ) (rest after : List ℕ) → magnitude < 10000000
    → 45 ∷ after ≡ (sign_text negative ++ decimal magnitude) ++ rest → (negative ≡ true) × (after ≡ decimal magnitude ++ rest)
signed_text true magnitude rest after fits is = (refl, ap (drop 1) is)
signed_text false magnitude rest after fits is =
    let contrary : true ≡ false = sym (first_digit magnitude rest fits) ∙ ap starts_digit (sym is) in search contrary
