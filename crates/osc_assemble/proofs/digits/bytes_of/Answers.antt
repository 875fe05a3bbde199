use Rattle.std.proofs.Common.{arith}
use Rattle.osc_assemble.proofs.Pairs.{pair-next, pair-end}
use Rattle.osc_assemble.proofs.digits.bytes_of.Goals as goal

pub loop-at-preserved : goal.loop-at-preserved
loop-at-preserved c = (
  omega (arith, c.loop-at-test.true),
  pair-next c.args.digits.now c.loop-at.at _ _ c.loop-at.bytes.items _ _ c.loop-at-test.true c.digit_value.ensures.value
      c.digit_value-in-loop-at.ensures.value c.in_ok-push.ensures.items c.loop-at.invariant.1,
)

pub returns : goal.returns
returns c = pair-end c.args.digits.now c.loop-at.at c.loop-at.bytes.items _ c.loop-at-test.false c.loop-at.invariant.1
