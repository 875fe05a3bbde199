-- One bit of one word is written.
use Rattle.std.proofs.Common.{ℕ, ◌≡◌, ◌<◌, ◌/◌, ◌%◌, ◌==◌, cond, get_or, length, arith, refl}
use Rattle.std.specs.Int.{bit_at}
use Rattle.osc_frames.specs.Words.{digit}
use Rattle.osc_frames.proofs.Bits.{bit_at_set, bit_at_clear}
use Rattle.osc_frames.proofs.Rows.{written, numbers_written}
use Rattle.osc_heap.proofs.slot_bits.set_bit.Goals.{then-value, else-value}
use Rattle.osc_heap.proofs.slot_bits.set_bit.Goals as goal

pub returns : goal.returns
returns c = λ count l.
    let within : c.args.number / 64 < length c.args.words.now = omega (arith, c.requires) in
    let bits : (j : ℕ) → j < 64 → bit_at c.if-value.words j ≡ cond (j == c.args.number % 64) (digit c.args.value) (bit_at (get_or c.args.words.now (c.args.number / 64) 0) j) =
    λ j m. elim c.if-value.branch [
      | then-value w ↦ rw (w.words-is, w.if-value.true) (bit_at_set (get_or c.args.words.now (c.args.number / 64) 0) (c.args.number % 64) (omega arith) j)
      | else-value w ↦ rw (w.words-is, w.if-value.false) (bit_at_clear (get_or c.args.words.now (c.args.number / 64) 0) (c.args.number % 64) (omega arith) j m)
    ] in
    numbers_written c.args.words.now count c.args.number c.if-value.words c.args.value (written c.args.words.now c.args.number (get_or c.args.words.now (c.args.number / 64) 0) c.if-value.words c.args.value within refl bits) l
