-- Reading a row of bytes one by one.
use Rattle.std.proofs.Common.{◌≡◌, ℕ, zero, suc, ◌+◌, ◌-◌, ◌<◌, Bool, true, false, cond, List, [], ◌∷◌, ◌++◌, Some, None, Ok, Err, refl, sym, ap, ◌∙◌, arith, take, drop, slice_get, append_assoc, append-nil, option_map}
use Rattle.std.specs.declared.option.Option.{Option}
use Rattle.std.specs.declared.result.Result.{Result}
use Rattle.osc_world.specs.declared.Value.{Value}
use Rattle.osc_world.specs.declared.Byte.{Byte}
use Rattle.osc_world.specs.declared.Byte.TheVariants.{Number, Part}
use Rattle.osc_world.specs.declared.ObjectWhy.{ObjectWhy}
use Rattle.osc_world.specs.World.{WorldTurn}
use Rattle.osc_world.specs.Offers.{then_try}
use Rattle.osc_world.specs.Values.{numbers_in, advanced}
use Rattle.osc_world.specs.Accesses.{row_at, loaded_byte}
use Rattle.osc_object.specs.Rows.{bytes_of, joined, spelled, spelled_row}

pub spelled-number : (plain : Bool) (numbers : List ℕ) (number : ℕ)
    → cond plain (Some (numbers ++ number ∷ [])) None ≡ spelled (cond plain (Some numbers) None) (Number number ∷ [])
unfolding numbers_in
spelled-number true numbers number = refl
spelled-number false numbers number = refl

pub spelled-part : (before : Option (List ℕ)) (object offset index : ℕ) → None ≡ spelled before (Part object offset index ∷ [])
unfolding numbers_in
spelled-part None object offset index = refl
spelled-part (Some numbers) object offset index = refl

pub spelled-none : (before : Option (List ℕ)) → before ≡ spelled before []
unfolding numbers_in
spelled-none None = refl
spelled-none (Some numbers) = ap Some (sym (append-nil numbers))

pub take-one : (bytes : List Byte) (i : ℕ) → bytes_of (slice_get bytes i) ≡ take 1 (drop i bytes)
take-one [] zero = refl
take-one [] (suc i) = refl
take-one (byte ∷ bytes) zero = refl
take-one (byte ∷ bytes) (suc i) = take-one bytes i

joined-front : (number : ℕ) (xs ys : Option (List ℕ)) → option_map (λ ns. number ∷ ns) (joined xs ys) ≡ joined (option_map (λ ns. number ∷ ns) xs) ys
joined-front number None ys = refl
joined-front number (Some xs) None = refl
joined-front number (Some xs) (Some ys) = refl

joined-empty : (xs : Option (List ℕ)) → xs ≡ joined (Some []) xs
joined-empty None = refl
joined-empty (Some xs) = refl

numbers_in-append : (xs ys : List Byte) → numbers_in (xs ++ ys) ≡ joined (numbers_in xs) (numbers_in ys)
unfolding numbers_in
numbers_in-append [] ys = joined-empty (numbers_in ys)
numbers_in-append (Number number ∷ xs) ys =
    ap (option_map (λ ns. number ∷ ns)) (numbers_in-append xs ys) ∙ joined-front number (numbers_in xs) (numbers_in ys)
numbers_in-append (Part object offset index ∷ xs) ys = refl

joined-assoc : (a b c : Option (List ℕ)) → joined (joined a b) c ≡ joined a (joined b c)
joined-assoc None b c = refl
joined-assoc (Some a) None c = refl
joined-assoc (Some a) (Some b) None = refl
joined-assoc (Some a) (Some b) (Some c) = ap Some (append_assoc a b c)

pub spelled_row-next : (turn : WorldTurn) (address : Value) (count i : ℕ) (before after : Option (List ℕ)) (bytes : List Byte) → i < count
    → loaded_byte turn address ≡ Ok bytes → after ≡ spelled before bytes
    → spelled_row after (row_at turn (count - (i + 1)) (advanced address 1)) ≡ spelled_row before (row_at turn (count - i) address)
unfolding row_at
spelled_row-next turn address count i before after bytes inside read is =
    let more : count - i ≡ suc (count - (i + 1)) = omega arith in
    rw (more, read, is) (one (row_at turn (count - (i + 1)) (advanced address 1)))
  where
    one : (rest : Result (List Byte) ObjectWhy)
        → spelled_row (spelled before bytes) rest ≡ spelled_row before (then_try rest (λ more. Ok (bytes ++ more)))
    one (Ok more) = ap Ok (joined-assoc before (numbers_in bytes) (numbers_in more) ∙ ap (joined before) (sym (numbers_in-append bytes more)))
    one (Err why) = refl

pub spelled_row-stops : (turn : WorldTurn) (address : Value) (count i : ℕ) (before : Option (List ℕ)) (why : ObjectWhy) → i < count
    → loaded_byte turn address ≡ Err why → spelled_row before (row_at turn (count - i) address) ≡ Err why
unfolding row_at
spelled_row-stops turn address count i before why inside read =
    let more : count - i ≡ suc (count - (i + 1)) = omega arith in rw (more, read) refl

pub spelled_row-ends : (turn : WorldTurn) (address : Value) (count i : ℕ) (before : Option (List ℕ)) → i ≡ count
    → spelled_row before (row_at turn (count - i) address) ≡ Ok before
unfolding row_at
spelled_row-ends turn address count i before all =
    let none : count - i ≡ 0 = omega arith in rw none (ap Ok (sym (spelled-none before)))
