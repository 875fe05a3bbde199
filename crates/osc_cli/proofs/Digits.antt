-- What `parse` reads of decimal digits.
use Rattle.std.proofs.Common.{◌≡◌, ◌∙◌, ◌==◌, ◌^◌, suc, slice_index, ◌≤◌, ◌<◌, ◌&&◌, ℕ, Bool, true, false, cond, refl, sym, ap, subst, List, [], ◌∷◌, length, Some, None, Result, Ok, Err, nat_lt, nat_le, true≢false, lt-ltb, ltb-true, le-leb, leb-true, eqb-true, eq-eqb}
use Rattle.std.proofs.lemmas.Bool.{lt-leb}
use Rattle.std.specs.Char.{digit_value}
use Rattle.std.specs.Result.{result_ok}
use Rattle.std.specs.Str.Parse.{AllDigits, ParsesUnsigned, digits_value, without_leading_plus}
use Rattle.std.proofs.lemmas.Str.Parse.{without_leading_plus_none}
use Rattle.osc_cli.specs.Numbers.{is_decimal, is_number, number_of}

digits_pass : (ds : List ℕ) → AllDigits 10 ds → is_decimal ds ≡ true
digits_pass [] h = refl
digits_pass (d ∷ ds) h = rw (lt-ltb (digit_value d) 10 h.0) (digits_pass ds h.1)

both : (a b : Bool) → (a && b) ≡ true → (a ≡ true) × (b ≡ true)
both true b e = (refl, e)
both false b e = absurd (true≢false (sym e))

digits_from : (ds : List ℕ) → is_decimal ds ≡ true → AllDigits 10 ds
digits_from [] e = tt
digits_from (d ∷ ds) e =
    let parts = both _ _ e in
    (ltb-true _ _ parts.0, digits_from ds parts.1)

-- a text that is too long, or begins with a plus, is no number
pub long_text : (text : List ℕ) → 20 < length text → None ≡ number_of text
unfolding number_of
long_text text long = rw (lt-leb (length text) 20 long) (go (nat_le 1 (length text)))
  where
    go : (b : Bool) → None ≡ cond ((b && false) && (is_decimal text && nat_lt (digits_value 10 text) 18446744073709551616)) (Some (digits_value 10 text)) None
    go true = refl
    go false = refl

pub plus_text : (text : List ℕ) → (slice_index text 0 == 43) ≡ true → None ≡ number_of text
unfolding number_of
plus_text [] plus = refl
plus_text (d ∷ ds) plus =
    let is : d ≡ 43 = eqb-true d 43 plus in
    rw is (go (nat_le 1 (suc (length ds)) && nat_le (suc (length ds)) 20))
  where
    go : (b : Bool) → None ≡ cond (b && false) (Some (digits_value 10 (43 ∷ ds))) None
    go true = refl
    go false = refl

-- and of any other text `parse` reads the number
read_plain : {E : Type 0} (text : List ℕ) (r : Result ℕ E) → length text ≤ 20 → ParsesUnsigned 64 10 text r → without_leading_plus text ≡ text
    → result_ok r ≡ number_of text
unfolding number_of
read_plain text (Ok n) short h e =
    let h2 = subst (λ ds. ((0 < length ds) × AllDigits 10 ds) × (digits_value 10 ds < 2 ^ 64) × (n ≡ digits_value 10 ds)) e (h.0.0, h.0.1, h.1) in
    rw (le-leb 1 (length text) h2.0.0, le-leb (length text) 20 short, digits_pass text h2.0.1, lt-ltb (digits_value 10 text) 18446744073709551616 h2.1) (ap Some h2.2)
read_plain text (Err x) short h e = go (is_number text) refl
  where
    go : (b : Bool) → is_number text ≡ b → None ≡ number_of text
    go false t = rw t refl
    go true t =
        let outer = both _ _ t in
        let size = both _ _ outer.0 in
        let value = both _ _ outer.1 in
        absurd (h (subst (λ ds. ((0 < length ds) × AllDigits 10 ds) × (digits_value 10 ds < 2 ^ 64)) (sym e)
        ((leb-true _ _ size.0, digits_from text value.0), ltb-true _ _ value.1)))

pub read_digits : {E : Type 0} (text : List ℕ) (r : Result ℕ E) → length text ≤ 20 → (slice_index text 0 == 43) ≡ false → ParsesUnsigned 64 10 text r
    → result_ok r ≡ number_of text
read_digits text r short plain h = read_plain text r short h (without_leading_plus_none text (λ e. true≢false (sym (eq-eqb _ _ e) ∙ plain)))
