-- What is written as an entry is read back.
use Rattle.std.proofs.Common.{ℕ, ◌≡◌, ◌+◌, ◌*◌, ◌/◌, ◌%◌, ◌^◌, ◌<◌, arith, refl, Bool, true, false, if◌then◌else◌, IsTrue, ◌&&◌}
use Rattle.std.specs.Prelude.{not}
use Rattle.osc_sv39.specs.declared.entries.PteEntry.TheVariants.{Absent, Table, Leaf, Reserved}
use Rattle.osc_sv39.specs.Entries.{is_in_range}
use Rattle.osc_sv39.specs.ReadBack.{TablesReadBack, LeavesReadBack}
use Rattle.osc_sv39.proofs.FlagTests.{entry_of-low}

in_range : (frame low : ℕ) → frame < 2 ^ 32 → low < 1024 → is_in_range (frame * 1024 + low) ≡ true
in_range frame low f l = let e : (frame * 1024 + low) / 2 ^ 42 ≡ 0 = omega arith in rw e refl

pub tables_read_back : TablesReadBack
tables_read_back frame f =
    let low : 1 ≡ (frame * 1024 + 1) % 256 = omega arith in
    let number : (frame * 1024 + 1) / 1024 ≡ frame = omega arith in
    rw (entry_of-low (frame * 1024 + 1) (record { 0 = 1 }) low, in_range frame 1 f (omega arith), number) refl

pub leaves_read_back : LeavesReadBack
leaves_read_back frame bits f b l =
    let low : bits.0 ≡ (frame * 1024 + bits.0) % 256 = omega arith in
    let number : (frame * 1024 + bits.0) / 1024 ≡ frame = omega arith in
    rw (entry_of-low (frame * 1024 + bits.0) bits low, in_range frame bits.0 f (omega arith), number) (chosen _ _ _ l)
  where
    chosen : (v p r : Bool) → IsTrue (v && not p && not r) → (if not v then Absent else if r then Reserved else if p then Table frame else Leaf frame bits) ≡ Leaf frame bits
    chosen true false false l = refl
    chosen true false true l = cc
    chosen true true r l = cc
    chosen false p r l = cc
