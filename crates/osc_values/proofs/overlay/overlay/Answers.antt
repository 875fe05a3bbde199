use Rattle.std.proofs.Common.{◌+◌, refl, sym, ◌∙◌, arith}
use Rattle.osc_world.specs.Values.{spread}
use Rattle.osc_values.specs.Stored.{byte_count}
use Rattle.osc_values.proofs.Stores.{overlaid-next, overlaid-end, overlaid-start, overlaid-past}
use Rattle.osc_values.proofs.overlay.overlay.Goals as goal

pub returns-then-offset-bytes : goal.returns-then-offset-bytes
returns-then-offset-bytes c = sym (overlaid-past c.args.bytes.now c.args.offset (spread c.args.width c.args.value) c.if-offset-bytes.true)

pub loop-index-init : goal.loop-index-init
loop-index-init c = (overlaid-start c.args.bytes.now c.args.offset c.args.width c.args.value, refl)

pub loop-index-preserved : goal.loop-index-preserved
loop-index-preserved c = (
  rw (c.put_byte.ensures.put, c.byte_of.ensures, c.from.ensures)
      (overlaid-next c.loop-index.bytes c.args.offset c.loop-index.index (byte_count c.args.width c.args.value) c.args.value (omega arith)) ∙ c.loop-index.invariant.0,
  c.put_byte.ensures.size ∙ c.loop-index.invariant.1,
)

pub returns : goal.returns
returns c =
    sym (overlaid-end c.loop-index.bytes (c.args.offset + c.loop-index.index) c.loop-index.index (byte_count c.args.width c.args.value) c.args.value (omega arith)) ∙ c.loop-index.invariant.0
