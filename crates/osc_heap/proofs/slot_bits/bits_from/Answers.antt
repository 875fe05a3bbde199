-- The bits stand in one word, or in two.
use Rattle.std.proofs.Common.{◌/◌, ◌+◌, get_or, arith}
use Rattle.osc_heap.proofs.SlotBits.{one_word, two_words}
use Rattle.osc_heap.proofs.slot_bits.bits_from.Goals as goal

pub returns-then-shift-count-le64 : goal.returns-then-shift-count-le64
returns-then-shift-count-le64 c = λ j l. one_word c.args.words.now c.args.first j c.value_at.result c.value_at.ensures (omega arith)

pub returns : goal.returns
returns c = λ j l.
    let some = c.requires.count in
    two_words c.args.words.now c.args.first j c.value_at.result c.value_at-2.result c.value_at.ensures c.value_at-2.ensures
    (let fit = c.value_at.type_inv in omega arith) (omega arith)
