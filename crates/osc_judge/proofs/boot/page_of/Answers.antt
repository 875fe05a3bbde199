use Rattle.std.proofs.Common.{◌∙◌, ap, map}
use Rattle.osc_world.specs.declared.Byte.TheVariants.{Number}
use Rattle.osc_judge.proofs.Booted.{page-made, bytes-kept}
use Rattle.osc_judge.proofs.boot.page_of.Goals as goal

pub returns : goal.returns
returns c =
    let kept = bytes-kept c.page_bytes.new.into c.in_ok-bytes.bytes.items c.in_ok-bytes.bytes.len c.in_ok-bytes.ensures.len c.page_bytes.ensures.len in
    c.new.ensures
    ∙ page-made c.args.image.now c.args.number c.unwrap_or-bits.result c.in_ok-row.row c.page_bytes.new.into c.requires.mapped
    (rw c.page_bits.ensures at c.unwrap_or-bits.ensures) (c.in_ok-row.ensures ∙ ap (map Number) (c.deref.ensures.value ∙ kept))
    c.page_bytes.ensures.len c.page_bytes.ensures.each
