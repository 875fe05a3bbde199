use Rattle.osc_asm.proofs.Places.{fields-next, fields-end}
use Rattle.osc_asm.proofs.header.push_fields.Goals as goal

pub loop-field-preserved : goal.loop-field-preserved
loop-field-preserved c =
    fields-next c.loop-field.field-index c.args.fields.now _ c.loop-field.file.items _ _ c.loop-field-test.true
    c.in_ok-push_field.ensures c.loop-field.invariant

pub returns : goal.returns
returns c =
    fields-end c.loop-field.field-index c.args.fields.now c.loop-field.file.items _ c.loop-field-test.false
    c.loop-field.invariant
