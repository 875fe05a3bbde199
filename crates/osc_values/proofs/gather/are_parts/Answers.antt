use Rattle.std.proofs.Common.{◌≡◌, sym, ◌∙◌, arith}
use Rattle.osc_values.proofs.Parts.{are_parts-length, are_parts-next, are_parts-other, are_parts-end}
use Rattle.osc_values.proofs.gather.are_parts.Goals as goal

pub returns-then-bytes-ne8 : goal.returns-then-bytes-ne8
returns-then-bytes-ne8 c = are_parts-length c.args.object c.args.offset c.args.bytes.now c.if-bytes-ne8.true

pub returns-then-not-is_part : goal.returns-then-not-is_part
returns-then-not-is_part c =
    let part = rw c.from.ensures at (sym c.is_part.ensures ∙ c.if-not-is_part.true) in
    sym (are_parts-other c.args.object c.args.offset c.loop-index.index c.args.bytes.now _ (omega arith) part) ∙ c.loop-index.invariant

pub loop-index-preserved : goal.loop-index-preserved
loop-index-preserved c =
    let part = rw c.from.ensures at (sym c.is_part.ensures ∙ c.if-not-is_part.false) in
    sym (are_parts-next c.args.object c.args.offset c.loop-index.index c.args.bytes.now _ (omega arith) part) ∙ c.loop-index.invariant

pub returns : goal.returns
returns c =
    let all : c.loop-index.index ≡ 8 = omega arith in
    sym (are_parts-end c.args.object c.args.offset c.loop-index.index c.args.bytes.now c.if-bytes-ne8.false all) ∙ c.loop-index.invariant
