-- A flag is tested by a mask in the code, and by its place in the definitions.
use Rattle.std.proofs.Common.{ℕ, ◌≡◌, ◌*◌, ◌/◌, ◌%◌, ◌^◌, ◌<◌, ◌==◌, zero, suc, arith, refl, Bool, true, false, if◌then◌else◌, ◌||◌}
use Rattle.std.specs.Prelude.{not}
use Rattle.std.specs.Int.{bit_at}
use Rattle.std.specs.Int.RustNames.{bit_and}
use Rattle.std.proofs.lemmas.Nat.Bits.{and_pow, bit_at-lt}
use Rattle.std.proofs.lemmas.Bool.Decides.{nat_tests}
use Rattle.osc_sv39.specs.declared.flags.PteBits.{PteBits}
use Rattle.osc_sv39.specs.declared.entries.PteEntry.TheVariants.{Absent, Table, Leaf, Reserved}
use Rattle.osc_sv39.specs.Entries.{is_valid, is_pointer, is_reserved, is_in_range, entry_of}

-- a bit times its weight is the weight exactly where the bit is 1
weighed : (bit weight : ℕ) → bit < 2 → 0 < weight → (bit * weight == weight) ≡ (bit == 1)
weighed zero weight small some = grind (arith, nat_tests)
weighed (suc zero) weight small some = grind (arith, nat_tests)
weighed (suc (suc bit)) weight small some = grind (arith, nat_tests)

tested : (n k : ℕ) → 0 < 2 ^ k → (bit_and n (2 ^ k) == 2 ^ k) ≡ (bit_at n k == 1)
tested n k some = rw and_pow (weighed (bit_at n k) (2 ^ k) (bit_at-lt n k) some)

pub has_valid : (n : ℕ) → (bit_and n 1 == 1) ≡ (bit_at n 0 == 1)
has_valid n = tested n 0 (omega arith)

pub has_readable : (n : ℕ) → (bit_and n 2 == 2) ≡ (bit_at n 1 == 1)
has_readable n = tested n 1 (omega arith)

pub has_writable : (n : ℕ) → (bit_and n 4 == 4) ≡ (bit_at n 2 == 1)
has_writable n = tested n 2 (omega arith)

pub has_executable : (n : ℕ) → (bit_and n 8 == 8) ≡ (bit_at n 3 == 1)
has_executable n = tested n 3 (omega arith)

pub has_user : (n : ℕ) → (bit_and n 16 == 16) ≡ (bit_at n 4 == 1)
has_user n = tested n 4 (omega arith)

pub has_global : (n : ℕ) → (bit_and n 32 == 32) ≡ (bit_at n 5 == 1)
has_global n = tested n 5 (omega arith)

pub has_accessed : (n : ℕ) → (bit_and n 64 == 64) ≡ (bit_at n 6 == 1)
has_accessed n = tested n 6 (omega arith)

pub has_dirty : (n : ℕ) → (bit_and n 128 == 128) ≡ (bit_at n 7 == 1)
has_dirty n = tested n 7 (omega arith)

-- ---- numbers with the same flags, as a word and its lowest byte
pub record SameFlags (m n : ℕ) : Type 0 where
  valid : bit_at m 0 ≡ bit_at n 0
  readable : bit_at m 1 ≡ bit_at n 1
  writable : bit_at m 2 ≡ bit_at n 2
  executable : bit_at m 3 ≡ bit_at n 3
  user : bit_at m 4 ≡ bit_at n 4
  global : bit_at m 5 ≡ bit_at n 5
  accessed : bit_at m 6 ≡ bit_at n 6
  dirty : bit_at m 7 ≡ bit_at n 7

pub same_low : (n : ℕ) → SameFlags n (n % 256)
same_low n = record {
  valid = omega arith;
  readable = omega arith;
  writable = omega arith;
  executable = omega arith;
  user = omega arith;
  global = omega arith;
  accessed = omega arith;
  dirty = omega arith;
}

-- what a word says, by the flags in its lowest byte
pub entry_of-low : (word : ℕ) (bits : PteBits) → bits.0 ≡ word % 256
    → entry_of word ≡ (if not (is_valid bits.0) then Absent
    else if not (is_in_range word) then Reserved
    else if is_reserved bits.0 then Reserved
    else if is_pointer bits.0 then Table (word / 1024)
    else Leaf (word / 1024) bits)
entry_of-low word bits e =
    let s : SameFlags word bits.0 = rw e (same_low word) in
    rw (s.valid, s.readable, s.writable, s.executable, s.user, s.global, s.accessed, s.dirty, ← e)
    (split (is_in_range word) (is_reserved bits.0))
  where
    split : (b r : Bool) → (if not (is_valid bits.0) then Absent else if not b || r then Reserved else if is_pointer bits.0 then Table (word / 1024) else Leaf (word / 1024) bits)
        ≡ (if not (is_valid bits.0) then Absent else if not b then Reserved else if r then Reserved else if is_pointer bits.0 then Table (word / 1024) else Leaf (word / 1024) bits)
    split true true = refl
    split true false = refl
    split false r = refl

pub ruleset flag_tests = (has_valid, has_readable, has_writable, has_executable, has_user, has_global, has_accessed, has_dirty, entry_of-low, nat_tests)
