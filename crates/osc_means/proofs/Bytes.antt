-- The bytes of values, and the numbers that show them.
use Rattle.std.proofs.Common.{ℕ, zero, suc, ◌≡◌, ◌<◌, ◌≤◌, ◌==◌, ◌%◌, ◌+◌, ◌*◌, ◌/◌, ◌^◌, Bool, true, false, cond, List, [], ◌∷◌, Option, Some, None, arith, refl, ap, sym, ◌∙◌, ◌⊎◌, inl, inr, slice_get, length, map, nat_lt, nat_le}
use Rattle.std.proofs.lemmas.Bool.Decides.{nat_tests}
use Rattle.std.proofs.lemmas.List.{length-map}
use Rattle.std.specs.Prelude.{slice_index}
use Rattle.std.specs.Int.{byte_at}
use Rattle.byteorder.specs.Endian.{little_bytes, little_number}
use Rattle.osc_rv.specs.declared.instr.LoadKind.{LoadKind}
use Rattle.osc_rv.specs.declared.instr.LoadKind.TheVariants as load
use Rattle.osc_rv.specs.declared.instr.StoreKind.{StoreKind}
use Rattle.osc_rv.specs.declared.instr.StoreKind.TheVariants as store
use Rattle.osc_rv.specs.declared.instr.Width.{Width}
use Rattle.osc_rv.specs.declared.instr.Width.TheVariants.{W, D}
use Rattle.osc_isa.specs.Numbers.{wrapped}
use Rattle.osc_isa.specs.Integer.{load_width, store_width}
use Rattle.osc_isa.specs.Atomic.{width_of}
use Rattle.osc_world.specs.declared.Value.{Value}
use Rattle.osc_world.specs.declared.Value.TheVariants.{Num, Ptr}
use Rattle.osc_world.specs.declared.Byte.{Byte}
use Rattle.osc_world.specs.declared.Byte.TheVariants.{Number, Part}
use Rattle.osc_world.specs.Values.{parts, spread, numbers_in, gather, number_or_pointer, is_pointer_value}
use Rattle.osc_world.specs.Accesses.{is_storable}
use Rattle.osc_world.proofs.Bytes.{gather-part}
use Rattle.osc_means.specs.Shown.{shown, shown_byte}

-- ---- widths

-- the width of an access
abbrev pub IsWidth : ℕ → Type 0
IsWidth width = (width ≡ 1) ⊎ ((width ≡ 2) ⊎ ((width ≡ 4) ⊎ (width ≡ 8)))

pub load-is : (kind : LoadKind) → IsWidth (load_width kind)
load-is load.Lb = inl refl
load-is load.Lh = inr (inl refl)
load-is load.Lw = inr (inr (inl refl))
load-is load.Ld = inr (inr (inr refl))
load-is load.Lbu = inl refl
load-is load.Lhu = inr (inl refl)
load-is load.Lwu = inr (inr (inl refl))

pub store-is : (kind : StoreKind) → IsWidth (store_width kind)
store-is store.Sb = inl refl
store-is store.Sh = inr (inl refl)
store-is store.Sw = inr (inr (inl refl))
store-is store.Sd = inr (inr (inr refl))

pub atomic-is : (width : Width) → IsWidth (width_of width)
atomic-is W = inr (inr (inl refl))
atomic-is D = inr (inr (inr refl))

-- ---- loads

pub numbers-shown : (place : ℕ → ℕ) (bytes : List Byte) (ns : List ℕ) → numbers_in bytes ≡ Some ns → map (shown_byte place) bytes ≡ ns
unfolding numbers_in
numbers-shown place [] ns e = cc
numbers-shown place (Number n ∷ bytes) ns e = by (numbers_in bytes) refl (numbers-shown place bytes)
  where
    by : (rest : Option (List ℕ)) → numbers_in bytes ≡ rest → ((more : List ℕ) → numbers_in bytes ≡ Some more → map (shown_byte place) bytes ≡ more) → map (shown_byte place) (Number n ∷ bytes) ≡ ns
    by None f later = absurd (grind (arith, e, f))
    by (Some more) f later = let g = later more f in grind (arith, e, f, g)
numbers-shown place (Part o k i ∷ bytes) ns e = absurd (cc)

parts-shown : (place : ℕ → ℕ) (o k : ℕ) → map (shown_byte place) (parts o k) ≡ little_bytes 8 (wrapped (place o + k))
parts-shown place o k = refl

whole : (n : ℕ) → little_number 8 (little_bytes 8 (wrapped n)) ≡ wrapped n
whole n = omega arith

pub gather-shown : (place : ℕ → ℕ) (width : ℕ) (bytes : List Byte) (v : Value) → length bytes ≡ width → gather bytes ≡ Some v
    → shown place v ≡ little_number width (map (shown_byte place) bytes)
gather-shown place width bytes v l e = by (numbers_in bytes) refl
  where
    pointer : (bs : List Byte) → length bs ≡ width → gather bs ≡ Some v → number_or_pointer bs None ≡ Some v → shown place v ≡ little_number width (map (shown_byte place) bs)
    pointer [] l e f = absurd (cc)
    pointer (Number n ∷ bs) l e f = absurd (cc)
    pointer (Part o k i ∷ bs) l e f =
        let g = gather-part (Part o k i ∷ bs) 0 o k i v refl e in
        let eight : width ≡ 8 = sym l ∙ ap length g.0 in
        ap (shown place) g.1 ∙ sym (whole (place o + k)) ∙ sym (ap (λ z. little_number 8 (map (shown_byte place) z)) g.0) ∙ ap (λ z. little_number z (map (shown_byte place) (Part o k i ∷ bs))) (sym eight)

    by : (ns : Option (List ℕ)) → numbers_in bytes ≡ ns → shown place v ≡ little_number width (map (shown_byte place) bytes)
    by (Some ns) f =
        let same = numbers-shown place bytes ns f in
        let is : Num (little_number (length bytes) ns) ≡ v = grind (arith, e, f) in
        rw (← is, same, l) refl
    by None f = pointer bytes l e (grind (arith, e, f))

-- a pointer comes from eight bytes alone
pub gather-pointer : (bytes : List Byte) (o k : ℕ) → gather bytes ≡ Some (Ptr o k) → length bytes ≡ 8
gather-pointer bytes o k e = by (numbers_in bytes) refl
  where
    pointer : (bs : List Byte) → gather bs ≡ Some (Ptr o k) → number_or_pointer bs None ≡ Some (Ptr o k) → length bs ≡ 8
    pointer [] e f = absurd (cc)
    pointer (Number n ∷ bs) e f = absurd (cc)
    pointer (Part q j i ∷ bs) e f = ap length (gather-part (Part q j i ∷ bs) 0 q j i (Ptr o k) refl e).0

    by : (ns : Option (List ℕ)) → numbers_in bytes ≡ ns → length bytes ≡ 8
    by (Some ns) f = absurd (grind (arith, e, f))
    by None f = pointer bytes e (grind (arith, e, f))

-- ---- stores

numbers-map : (place : ℕ → ℕ) (ns : List ℕ) → map (shown_byte place) (map Number ns) ≡ ns
numbers-map place [] = refl
numbers-map place (n ∷ ns) = ap (λ z. n ∷ z) (numbers-map place ns)

pub spread-shown : (place : ℕ → ℕ) (width : ℕ) (v : Value) → is_storable width v ≡ true → map (shown_byte place) (spread width v) ≡ little_bytes width (shown place v)
spread-shown place width (Num n) e = numbers-map place (little_bytes width n)
spread-shown place width (Ptr o k) e = let eight : width ≡ 8 = grind (arith, nat_tests, e) in rw eight (parts-shown place o k)

pub spread-length : (width : ℕ) (v : Value) → IsWidth width → is_storable width v ≡ true → length (spread width v) ≡ width
spread-length width (Num n) (inl w) e = rw w refl
spread-length width (Num n) (inr (inl w)) e = rw w refl
spread-length width (Num n) (inr (inr (inl w))) e = rw w refl
spread-length width (Num n) (inr (inr (inr w))) e = rw w refl
spread-length width (Ptr o k) w e = let eight : width ≡ 8 = grind (arith, nat_tests, e) in sym eight

-- only the low bytes are stored
low-1 : (n : ℕ) → little_bytes 1 (n % 256 ^ 1) ≡ little_bytes 1 n
low-1 n =
    let b0 : byte_at 0 (n % 256 ^ 1) ≡ byte_at 0 n = omega arith in
    cc

low-2 : (n : ℕ) → little_bytes 2 (n % 256 ^ 2) ≡ little_bytes 2 n
low-2 n =
    let b0 : byte_at 0 (n % 256 ^ 2) ≡ byte_at 0 n = omega arith in
    let b1 : byte_at 1 (n % 256 ^ 2) ≡ byte_at 1 n = omega arith in
    cc

low-4 : (n : ℕ) → little_bytes 4 (n % 256 ^ 4) ≡ little_bytes 4 n
low-4 n =
    let b0 : byte_at 0 (n % 256 ^ 4) ≡ byte_at 0 n = omega arith in
    let b1 : byte_at 1 (n % 256 ^ 4) ≡ byte_at 1 n = omega arith in
    let b2 : byte_at 2 (n % 256 ^ 4) ≡ byte_at 2 n = omega arith in
    let b3 : byte_at 3 (n % 256 ^ 4) ≡ byte_at 3 n = omega arith in
    cc

low-8 : (n : ℕ) → little_bytes 8 (n % 256 ^ 8) ≡ little_bytes 8 n
low-8 n =
    let b0 : byte_at 0 (n % 256 ^ 8) ≡ byte_at 0 n = omega arith in
    let b1 : byte_at 1 (n % 256 ^ 8) ≡ byte_at 1 n = omega arith in
    let b2 : byte_at 2 (n % 256 ^ 8) ≡ byte_at 2 n = omega arith in
    let b3 : byte_at 3 (n % 256 ^ 8) ≡ byte_at 3 n = omega arith in
    let b4 : byte_at 4 (n % 256 ^ 8) ≡ byte_at 4 n = omega arith in
    let b5 : byte_at 5 (n % 256 ^ 8) ≡ byte_at 5 n = omega arith in
    let b6 : byte_at 6 (n % 256 ^ 8) ≡ byte_at 6 n = omega arith in
    let b7 : byte_at 7 (n % 256 ^ 8) ≡ byte_at 7 n = omega arith in
    cc

pub low-bytes : (width n : ℕ) → IsWidth width → little_bytes width (n % 256 ^ width) ≡ little_bytes width n
low-bytes width n (inl w) = rw w (low-1 n)
low-bytes width n (inr (inl w)) = rw w (low-2 n)
low-bytes width n (inr (inr (inl w))) = rw w (low-4 n)
low-bytes width n (inr (inr (inr w))) = rw w (low-8 n)
