use Rattle.std.proofs.Common.{◌≡◌, ◌+◌, ◌-◌, Some, drop, length, sym, ◌∙◌, arith}
use Rattle.osc_values.proofs.Numbers.{number_of, number_of-is, number_of-end, number_of-next, number_of-part, number-fits, grown-fits}
use Rattle.osc_values.proofs.gather.number_in.Goals as goal

pub loop-at-init : goal.loop-at-init
loop-at-init c =
    let none : length c.args.bytes.now - length c.args.bytes.now ≡ 0 = omega arith in
    (omega arith, number_of-end c.args.bytes.now, rw none (omega arith))

pub returns-in_default-clause-value : goal.returns-in_default-clause-value
returns-in_default-clause-value c =
    sym (number_of-is c.args.bytes.now ∙ number_of-part c.args.bytes.now (c.loop-at.at - 1) c.in_default.field-0 c.in_default.field-1 c.in_default.field-2 _ (omega arith) c.in_default.is)

pub with_byte_below-number-requires : goal.with_byte_below-number-requires
with_byte_below-number-requires c = number-fits (length c.args.bytes.now - c.loop-at.at) c.loop-at.number (omega arith) c.loop-at.invariant.2

pub loop-at-preserved : goal.loop-at-preserved
loop-at-preserved c =
    let back : c.loop-at.at - 1 + 1 ≡ c.loop-at.at = omega arith in
    let rest : number_of (drop (c.loop-at.at - 1 + 1) c.args.bytes.now) ≡ Some c.loop-at.number = rw back c.loop-at.invariant.1 in (
      omega arith,
      rw c.with_byte_below-number.ensures.value (number_of-next c.args.bytes.now (c.loop-at.at - 1) c.loop-at.number c.in-Number.byte _ (omega arith) rest c.in-Number.is),
      rw c.with_byte_below-number.ensures.value (grown-fits (length c.args.bytes.now - c.loop-at.at) (length c.args.bytes.now - (c.loop-at.at - 1)) c.loop-at.number c.in-Number.byte (omega arith) c.with_byte_below-number.ensures.range c.loop-at.invariant.2),
    )

pub returns-clause-fits : goal.returns-clause-fits
returns-clause-fits c =
    let all : length c.args.bytes.now - c.loop-at.at ≡ length c.args.bytes.now = omega arith in rw all at c.loop-at.invariant.2

pub returns-clause-value : goal.returns-clause-value
returns-clause-value c =
    let all : c.loop-at.at ≡ 0 = omega arith in
    sym (number_of-is c.args.bytes.now ∙ rw all at c.loop-at.invariant.1)
