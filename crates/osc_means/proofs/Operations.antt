-- What an operation gives for values is what it gives for the numbers that show them.
use Rattle.std.proofs.Common.{ℕ, zero, suc, ◌≡◌, ◌≢◌, ◌<◌, ◌≤◌, ◌==◌, ◌%◌, ◌+◌, ◌-◌, Bool, true, false, not, cond, List, [], ◌∷◌, Option, Some, None, option_map, arith, refl, ap, sym, ◌∙◌, ◌⊎◌, slice_get, nat_lt, nat_le, length, bit_and}
use Rattle.std.proofs.lemmas.Bool.Decides.{nat_tests}
use Rattle.std.proofs.lemmas.Nat.{and_le_r, and_mod}
use Rattle.osc_rv.specs.declared.instr.RegOp.{RegOp}
use Rattle.osc_rv.specs.declared.instr.RegOp.TheVariants as reg
use Rattle.osc_rv.specs.declared.instr.ImmOp.{ImmOp}
use Rattle.osc_rv.specs.declared.instr.ImmOp.TheVariants as imm_op
use Rattle.osc_rv.specs.declared.instr.BranchKind.{BranchKind}
use Rattle.osc_rv.specs.declared.instr.BranchKind.TheVariants as branch
use Rattle.osc_rv.specs.declared.instr.MulOp.{MulOp}
use Rattle.osc_isa.specs.Numbers.{wrapped}
use Rattle.osc_isa.specs.Integer.{operate, op_of_imm, is_taken}
use Rattle.osc_isa.specs.Multiply.{muldiv}
use Rattle.osc_world.specs.declared.Value.{Value}
use Rattle.osc_world.specs.declared.Value.TheVariants.{Num, Ptr}
use Rattle.osc_world.specs.Values.{advanced}
use Rattle.osc_world.specs.World.{Object, Live, Dead, object_size}
use Rattle.osc_world.specs.Operations.{has_offset, has_live_offset, are_equal, is_below, operated, operated_imm, multiplied, is_taken_for}
use Rattle.osc_world.specs.Knows.{is_known}
use Rattle.osc_means.specs.Shown.{shown, Laid}

-- ---- numbers

moved : (a k n : ℕ) → wrapped (a + wrapped (k + n)) ≡ wrapped (wrapped (a + k) + n)
moved a k n = omega arith

moved_by : (a k n : ℕ) → wrapped (a + wrapped (n + k)) ≡ wrapped (n + wrapped (a + k))
moved_by a k n = omega arith

between : (a k j : ℕ) → j < 18446744073709551616 → operate reg.Sub k j ≡ operate reg.Sub (wrapped (a + k)) (wrapped (a + j))
between a k j l = omega arith

low_bits : (x n : ℕ) → n < 16 → bit_and x n ≡ bit_and (x % 16) n
low_bits x n l =
    let small : bit_and x n ≤ n = and_le_r x n in
    let cut : bit_and x n % 16 ≡ bit_and (x % 16) (n % 16) = and_mod x n 4 in
    let all : n % 16 ≡ n = omega arith in
    let whole : bit_and x n % 16 ≡ bit_and x n = omega arith in
    cc

masked : (a k n : ℕ) → a % 16 ≡ 0 → n < 16 → bit_and (wrapped (a + k)) n ≡ bit_and k n
masked a k n e l =
    let low : wrapped (a + k) % 16 ≡ k % 16 = omega arith in
    let f = low_bits (wrapped (a + k)) n l in
    let g = low_bits k n l in
    cc

same_wrapped : (a k j : ℕ) → k < 18446744073709551616 → j < 18446744073709551616 → wrapped (a + k) ≡ wrapped (a + j) → k ≡ j
same_wrapped a k j l m e = omega arith

pub advanced-shown : (place : ℕ → ℕ) (v : Value) (n : ℕ) → shown place (advanced v n) ≡ wrapped (shown place v + n)
advanced-shown place (Num a) n = refl
advanced-shown place (Ptr o k) n = moved (place o) k n

-- ---- offsets

-- an offset up to an object's end is an address in the map
within : (place : ℕ → ℕ) (objects : List Object) (o k : ℕ) → Laid place objects → has_offset objects o k ≡ true → (0x2000000010 ≤ place o) × (place o + k ≤ 0x4000000000)
within place objects o k laid e = by (slice_get objects o) refl e
  where
    by : (x : Option Object) → slice_get objects o ≡ x → has_offset objects o k ≡ true → (0x2000000010 ≤ place o) × (place o + k ≤ 0x4000000000)
    by None f e = absurd (grind (arith, f, e))
    by (Some x) f e = let a = laid.above o x f in let b = laid.below o x f in let l : k ≤ object_size x = grind (arith, nat_tests, f, e) in (a, omega arith)

live : (objects : List Object) (o k : ℕ) → has_live_offset objects o k ≡ true → (bytes : List _) × (slice_get objects o ≡ Some (Live bytes)) × (k ≤ length bytes)
live objects o k e = by (slice_get objects o) refl e
  where
    by : (x : Option Object) → slice_get objects o ≡ x → has_live_offset objects o k ≡ true → (bytes : List _) × (slice_get objects o ≡ Some (Live bytes)) × (k ≤ length bytes)
    by None f e = absurd (grind (arith, f, e))
    by (Some (Dead n)) f e = absurd (grind (arith, f, e))
    by (Some (Live bytes)) f e = (bytes, f, grind (arith, nat_tests, f, e))

-- ---- operations

pub operated-shown : (place : ℕ → ℕ) (objects : List Object) (op : RegOp) (v w r : Value) → Laid place objects → is_known (length objects) w ≡ true
    → operated objects op v w ≡ Some r → shown place r ≡ operate op (shown place v) (shown place w)
operated-shown place objects op (Num a) (Num b) r laid i e = cc
operated-shown place objects reg.Add (Ptr o k) (Num n) r laid i e = let f = moved (place o) k n in cc
operated-shown place objects reg.Add (Num n) (Ptr o k) r laid i e = let f = moved_by (place o) k n in cc
operated-shown place objects reg.Sub (Ptr o k) (Num n) r laid i e = let f = moved (place o) k (18446744073709551616 - n) in cc
operated-shown place objects reg.Sub (Ptr o k) (Ptr q j) r laid i e = grind (arith, nat_tests, i, e, between (place o) k j)
operated-shown place objects reg.Sltu (Num n) (Ptr o k) r laid i e = grind (arith, nat_tests, e, within place objects o k laid)
operated-shown place objects reg.Sltu (Ptr o k) (Ptr q j) r laid i e = grind (arith, nat_tests, e, within place objects o k laid, within place objects o j laid)
operated-shown place objects op v w r laid i e = grind (arith, nat_tests, e)

-- a pointer's object is granted where the pointer is known
pub even-at : (place : ℕ → ℕ) (objects : List Object) (o : ℕ) → Laid place objects → o < length objects → place o % 16 ≡ 0
even-at place objects o laid l = by (slice_get objects o) refl
  where
    past : (xs : List Object) (i : ℕ) → slice_get xs i ≡ None → length xs ≤ i
    past [] i e = omega arith
    past (x ∷ xs) zero e = absurd (cc)
    past (x ∷ xs) (suc i) e = let f = past xs i e in omega arith

    by : (x : Option Object) → slice_get objects o ≡ x → place o % 16 ≡ 0
    by (Some x) f = laid.even o x f
    by None f = absurd (let m = past objects o f in omega arith)

pub operated_imm-shown : (place : ℕ → ℕ) (objects : List Object) (op : ImmOp) (v : Value) (n : ℕ) (r : Value) → Laid place objects → is_known (length objects) v ≡ true
    → operated_imm objects op v n ≡ Some r → shown place r ≡ operate (op_of_imm op) (shown place v) n
operated_imm-shown place objects op (Num a) n r laid i e = cc
operated_imm-shown place objects imm_op.Addi (Ptr o k) n r laid i e = let f = moved (place o) k n in cc
operated_imm-shown place objects imm_op.Andi (Ptr o k) n r laid i e =
    let granted : o < length objects = grind (arith, nat_tests, i) in
    grind (arith, nat_tests, e, masked (place o) k n (even-at place objects o laid granted))
operated_imm-shown place objects imm_op.Sltiu (Ptr o k) n r laid i e = grind (arith, nat_tests, e, within place objects o k laid)
operated_imm-shown place objects op (Ptr o k) n r laid i e = grind (arith, nat_tests, e)

pub multiplied-shown : (place : ℕ → ℕ) (op : MulOp) (v w r : Value) → multiplied op v w ≡ Some r → shown place r ≡ muldiv op (shown place v) (shown place w)
multiplied-shown place op (Num a) (Num b) r e = cc
multiplied-shown place op (Num a) (Ptr o k) r e = absurd (cc)
multiplied-shown place op (Ptr o k) w r e = absurd (cc)

-- ---- comparisons

apart-shown : (place : ℕ → ℕ) (objects : List Object) (o k q j : ℕ) → Laid place objects → o ≢ q → has_live_offset objects o k ≡ true → has_live_offset objects q j ≡ true
    → wrapped (place o + k) ≢ wrapped (place q + j)
apart-shown place objects o k q j laid n e f =
    let a = live objects o k e in
    let b = live objects q j f in
    let x = laid.below o (Live a.0) a.1 in
    let y = laid.below q (Live b.0) b.1 in
    let d = laid.apart o q a.0 b.0 a.1 b.1 n in
    λ same. grind (arith, a, b, x, y, d, same)

pub equal-shown : (place : ℕ → ℕ) (objects : List Object) (v w : Value) (t : Bool) → Laid place objects → is_known (length objects) v ≡ true → is_known (length objects) w ≡ true
    → are_equal objects v w ≡ Some t → (shown place v == shown place w) ≡ t
equal-shown place objects (Num a) (Num b) t laid i j e = cc
equal-shown place objects (Num a) (Ptr q j) t laid i g e = grind (arith, nat_tests, e, within place objects q j laid)
equal-shown place objects (Ptr o k) (Num b) t laid i g e = grind (arith, nat_tests, e, within place objects o k laid)
equal-shown place objects (Ptr o k) (Ptr q j) t laid i g e =
    grind (arith, nat_tests, e, i, g, same_wrapped (place o) k j, apart-shown place objects o k q j laid)

pub below-shown : (place : ℕ → ℕ) (objects : List Object) (o k q j : ℕ) (t : Bool) → Laid place objects → is_below objects o k q j ≡ Some t
    → nat_lt (wrapped (place o + k)) (wrapped (place q + j)) ≡ t
below-shown place objects o k q j t laid e = grind (arith, nat_tests, e, within place objects o k laid, within place objects o j laid)

not-shown : (x : Option Bool) (t u : Bool) → option_map not x ≡ Some t → ((s : Bool) → x ≡ Some s → u ≡ s) → not u ≡ t
not-shown None t u e f = absurd (cc)
not-shown (Some s) t u e f = let g = f s refl in rw g (grind (arith, e))

pub taken-shown : (place : ℕ → ℕ) (objects : List Object) (kind : BranchKind) (v w : Value) (t : Bool) → Laid place objects
    → is_known (length objects) v ≡ true → is_known (length objects) w ≡ true
    → is_taken_for objects kind v w ≡ Some t → is_taken kind (shown place v) (shown place w) ≡ t
taken-shown place objects kind (Num a) (Num b) t laid i j e = cc
taken-shown place objects branch.Beq v w t laid i j e = equal-shown place objects v w t laid i j e
taken-shown place objects branch.Bne v w t laid i j e = not-shown (are_equal objects v w) t _ e (λ s. equal-shown place objects v w s laid i j)
taken-shown place objects branch.Bltu (Ptr o k) (Ptr q j) t laid i g e = below-shown place objects o k q j t laid e
taken-shown place objects branch.Bgeu (Ptr o k) (Ptr q j) t laid i g e = not-shown (is_below objects o k q j) t _ e (λ s. below-shown place objects o k q j s laid)
taken-shown place objects kind v w t laid i g e = grind (arith, nat_tests, e)
