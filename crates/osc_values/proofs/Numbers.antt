-- The number in bytes, from the last byte back to the first.
use Rattle.std.proofs.Common.{◌≡◌, ℕ, zero, suc, ◌+◌, ◌*◌, ◌^◌, ◌<◌, ◌≤◌, List, [], ◌∷◌, Option, Some, None, refl, ap, ◌∙◌, arith, drop, length, get_or}
use Rattle.std.specs.Option.{option_map}
use Rattle.std.proofs.Math.Nat.{pow-le-pow_right}
use Rattle.std.proofs.lemmas.List.{drop_more, drop_all}
use Rattle.byteorder.specs.Endian.{little_number}
use Rattle.byteorder.specs.Numbers.{little_from-cons}
use Rattle.std.specs.Option.{IfSome}
use Rattle.osc_world.specs.declared.Value.{Value}
use Rattle.osc_world.specs.declared.Value.TheVariants.{Num, Ptr}
use Rattle.osc_values.specs.Stored.{FitsIn}
use Rattle.osc_world.specs.declared.Byte.{Byte}
use Rattle.osc_world.specs.declared.Byte.TheVariants.{Number, Part}
use Rattle.osc_world.specs.Values.{numbers_in}

abbrev pub behind : ℕ → Option ℕ → Option ℕ
behind byte number = option_map (λ n. byte + 256 * n) number

unfoldable pub number_of : List Byte → Option ℕ
number_of [] = Some 0
number_of (Number byte ∷ bytes) = behind byte (number_of bytes)
number_of (Part object offset index ∷ bytes) = None

behind-little : (byte : ℕ) (count : ℕ) (numbers : Option (List ℕ))
    → option_map (little_number (suc count)) (option_map (λ ns. byte ∷ ns) numbers) ≡ behind byte (option_map (little_number count) numbers)
behind-little byte count None = refl
behind-little byte count (Some numbers) = ap (λ n. Some (byte + 256 * n)) (little_from-cons 0 count byte numbers)

pub number_of-is : (bytes : List Byte) → option_map (little_number (length bytes)) (numbers_in bytes) ≡ number_of bytes
unfolding numbers_in number_of
number_of-is [] = refl
number_of-is (Number byte ∷ bytes) = behind-little byte (length bytes) (numbers_in bytes) ∙ ap (behind byte) (number_of-is bytes)
number_of-is (Part object offset index ∷ bytes) = refl

pub number_of-end : (bytes : List Byte) → number_of (drop (length bytes) bytes) ≡ Some 0
unfolding number_of
number_of-end bytes = ap number_of (drop_all (length bytes) bytes (omega arith))

-- one byte further to the front
pub number_of-next : (bytes : List Byte) (at number byte : ℕ) (d : Byte) → at < length bytes → number_of (drop (at + 1) bytes) ≡ Some number
    → get_or bytes at d ≡ Number byte → number_of (drop at bytes) ≡ Some (number * 256 + byte)
unfolding number_of
number_of-next bytes at number byte d inside rest here =
    let sum : byte + 256 * number ≡ number * 256 + byte = omega arith in
    rw (drop_more bytes at d inside, here, rest) (ap Some sum)

-- a part has no number
pub number_of-part : (bytes : List Byte) (at object offset index : ℕ) (d : Byte) → at < length bytes
    → get_or bytes at d ≡ Part object offset index → number_of bytes ≡ None
unfolding number_of
number_of-part [] at object offset index d inside here = absurd (omega arith)
number_of-part (Part o k i ∷ bytes) at object offset index d inside here = refl
number_of-part (Number byte ∷ bytes) zero object offset index d inside here = absurd (cc)
number_of-part (Number byte ∷ bytes) (suc at) object offset index d inside here =
    rw (number_of-part bytes at object offset index d (omega arith) here) refl

-- there is room for one byte more
pub number-fits : (count number : ℕ) → count < 8 → number < 256 ^ count → number < 256 ^ 7
number-fits count number few below =
    let few7 : count ≤ 7 = omega arith in
    let some : 0 < 256 = omega arith in
    let grows : 256 ^ count ≤ 256 ^ 7 = pow-le-pow_right {n = 256} some {i = count} {j = 7} few7 in omega arith

pub grown-fits : (count more number byte : ℕ) → more ≡ suc count → byte < 256 → number < 256 ^ count → number * 256 + byte < 256 ^ more
grown-fits count more number byte next low below = rw next (omega arith)

-- what fits in fewer bytes fits in more
pub fits-wider : (value : Option Value) (count width : ℕ) → count ≤ width → IfSome value (FitsIn count) → IfSome value (FitsIn width)
fits-wider None count width few fits = tt
fits-wider (Some (Num number)) count width few fits =
    let some : 0 < 256 = omega arith in
    let grows : 256 ^ count ≤ 256 ^ width = pow-le-pow_right {n = 256} some {i = count} {j = width} few in omega arith
fits-wider (Some (Ptr object offset)) count width few fits = tt
