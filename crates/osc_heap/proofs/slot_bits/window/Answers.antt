-- The mask leaves the bits below the count.
use Rattle.std.proofs.Common.{◌≡◌, cond, w64}
use Rattle.std.specs.Int.{bit_not}
use Rattle.osc_heap.proofs.SlotBits.{windowed}
use Rattle.osc_heap.proofs.slot_bits.window.Goals.{then-wanted, else-wanted}
use Rattle.osc_heap.proofs.slot_bits.window.Goals as goal

pub returns : goal.returns
returns c = λ j l.
    let bits : c.if-wanted.bits ≡ cond c.args.wanted c.bits_from-bits.result (bit_not w64 c.bits_from-bits.result) =
    elim c.if-wanted.branch [ then-wanted w ↦ rw w.if-wanted.true w.bits-is | else-wanted w ↦ rw w.if-wanted.false w.bits-is ] in
    windowed c.args.words.now c.args.wanted c.args.first c.args.count c.bits_from-bits.result c.if-wanted.bits j c.bits_from-bits.type_inv bits c.requires.count.1 l c.bits_from-bits.ensures
