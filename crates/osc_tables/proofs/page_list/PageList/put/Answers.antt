-- A page more, and one slot more at most.
use Rattle.std.proofs.Common.{◌∙◌, ap, arith, length}
use Rattle.osc_tables.specs.Slots.{pages_in}
use Rattle.osc_tables.proofs.KeptChanges.{length-with_page}
use Rattle.osc_tables.proofs.page_list.PageList.put.Goals as goal

pub invariant_of-self : goal.invariant_of-self
invariant_of-self c =
    let old = c.self.invariant.0 in
    let left = rw (← c.self.view_is) at c.requires.room in
    let long = ap length c.put_slot.ensures.pages ∙ length-with_page c.args.number c.args.mapping (pages_in c.self.inside.slots.items) in (
      record {
        ascend = c.put_slot.ensures.ascend;
        counted = omega (arith, old.counted, long);
        few_gaps = omega (arith, old.few_gaps, c.put_slot.ensures.len, c.put_slot.new.slots.ok.0, c.self.inside.slots.ok.0);
        fits = omega (arith, old.counted, left);
      },
      omega (arith, c.self.invariant.1, c.put_slot.ensures.capacity),
    )
