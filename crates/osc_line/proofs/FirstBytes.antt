-- The first byte tells the operands apart: a register begins with x, an address with a parenthesis, and
-- a number with a sign or a digit.
use Rattle.std.proofs.Common.{◌≡◌, ℕ, ◌<◌, ◌==◌, ◌||◌, Bool, true, false, List, [], ◌∷◌, ◌++◌, length, get_or, refl, sym, ap, ◌∙◌, arith, append_assoc}
use Rattle.std.proofs.lemmas.Bool.{false≢true}
use Rattle.std.specs.Fmt.{decimal}
use Rattle.std.specs.Char.{is_ascii_digit}
use Rattle.osc_text.specs.declared.spelling.Number.{Number}
use Rattle.osc_text.specs.declared.spelling.Operand.{Operand}
use Rattle.osc_text.specs.declared.spelling.Operand.TheVariants.{Register, Immediate, Indexed, Address}
use Rattle.osc_text.specs.Text.{sign_text, number_text, register_text, address_text, operand_text}
use Rattle.osc_text.specs.Digits.{starts_digit}
use Rattle.osc_text.proofs.Decimals.{first_digit}
use Rattle.osc_line.specs.Parts.{ends, OperandFits}

pub no_digit : (rest : List ℕ) → ends rest ≡ true → starts_digit rest ≡ false
no_digit [] ended = refl
no_digit (byte ∷ rest) ended = grind (arith, ended)

-- nothing and a comma are no parenthesis
pub no_parenthesis : (rest : List ℕ) → ends rest ≡ true → get_or rest 0 0 ≡ 40 → ⊥
no_parenthesis [] ended first = omega (arith, first)
no_parenthesis (byte ∷ rest) ended first = grind (arith, ended, first)

abbrev pub begins_number : ℕ → Bool
begins_number byte = is_ascii_digit byte || (byte == 45)

pub no_number : (byte first : ℕ) → first ≡ byte → begins_number byte ≡ false → begins_number first ≡ true → ⊥
no_number byte first is differs begins =
    false≢true (sym differs ∙ (sym (ap begins_number is) ∙ begins))

pub first_of_none : (text : List ℕ) → length text ≡ 0 → get_or text 0 0 ≡ 0
first_of_none [] none = refl
first_of_none (first ∷ text) none = omega (arith, none)

starts_first : (text : List ℕ) → starts_digit text ≡ is_ascii_digit (get_or text 0 0)
starts_first [] = refl
starts_first (first ∷ text) = refl

number_begins : (negative : Bool) (magnitude : ℕ) (rest : List ℕ) → magnitude < 10000000
    → begins_number (get_or ((sign_text negative ++ decimal magnitude) ++ rest) 0 0) ≡ true
number_begins true magnitude rest fits = refl
number_begins false magnitude rest fits =
    let digit : is_ascii_digit (get_or (decimal magnitude ++ rest) 0 0) ≡ true
    = sym (starts_first (decimal magnitude ++ rest)) ∙ first_digit magnitude rest fits in rw digit refl

-- what is shown of each kind of operand, with its first byte, is shown of any
pub by_first : (operand : Operand) (rest text : List ℕ) (P : Operand → Type 0) → OperandFits operand → text ≡ operand_text operand ++ rest
    → ((register : ℕ) → register < 32 → get_or text 0 0 ≡ 120 → text ≡ register_text register ++ rest → P (Register register))
    → ((base : ℕ) → base < 32 → get_or text 0 0 ≡ 40 → text ≡ address_text base ++ rest → P (Address base))
    → ((number : Number) → number.magnitude < 4194304 → begins_number (get_or text 0 0) ≡ true
    → text ≡ number_text number ++ rest → P (Immediate number))
    → ((offset : Number) (base : ℕ) → offset.magnitude < 4194304 → base < 32 → begins_number (get_or text 0 0) ≡ true
    → text ≡ (number_text offset ++ address_text base) ++ rest → P (Indexed offset base))
    → P operand
by_first (Register register) rest text P fits is on_register on_address on_number on_indexed =
    on_register register fits (ap (λ t. get_or t 0 0) is) is
by_first (Address base) rest text P fits is on_register on_address on_number on_indexed =
    on_address base fits (ap (λ t. get_or t 0 0) is) is
by_first (Immediate number) rest text P fits is on_register on_address on_number on_indexed =
    on_number number fits
    (ap (λ t. begins_number (get_or t 0 0)) is ∙ number_begins number.negative number.magnitude rest (omega (arith, fits))) is
by_first (Indexed offset base) rest text P fits is on_register on_address on_number on_indexed =
    on_indexed offset base fits.0 fits.1
    (ap (λ t. begins_number (get_or t 0 0)) (is ∙ append_assoc (number_text offset) (address_text base) rest)
    ∙ number_begins offset.negative offset.magnitude (address_text base ++ rest) (omega (arith, fits.0))) is
