-- One gap more is past.
use Rattle.std.proofs.Common.{◌≡◌, ◌-◌, ◌∙◌, sym, true, arith}
use Rattle.osc_tables.specs.Slots.{is_gap}
use Rattle.osc_tables.proofs.PagePlaces.{pages_in-take_gap, SlotsAscend-take}
use Rattle.osc_tables.proofs.page_list.drop_last_gaps.Goals as goal

pub loop-len-preserved : goal.loop-len-preserved
loop-len-preserved c =
    let gap : is_gap c.args.slots.now.items (c.loop-len.len - 1) ≡ true = rw c.deref.ensures.value at (sym c.is_gap.ensures ∙ c.if-is_gap.true) in
    record {
      pages = pages_in-take_gap c.args.slots.now.items c.loop-len.len c.loop-len-test.true gap ∙ c.loop-len.invariant.pages;
      within = omega (arith, c.loop-len.invariant.within);
    }

pub returns-clause-ascend : goal.returns-clause-ascend
returns-clause-ascend c = rw c.truncate.ensures.items (SlotsAscend-take c.args.slots.now.items c.loop-len.len c.requires.ascend)
