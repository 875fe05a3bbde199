-- The page that stands at the place becomes a gap.
use Rattle.std.proofs.Common.{arith, ◌∙◌}
use Rattle.osc_tables.proofs.PagePlaces.{made_gap, stands_within}
use Rattle.osc_tables.proofs.page_list.drop_slot.Goals as goal

pub index_mut-requires : goal.index_mut-requires
index_mut-requires c =
    let within = stands_within c.args.number c.args.slots.now.items c.args.at c.requires.there.place c.requires.ascend c.requires.there.there in
    omega (arith, c.args.slots.now.ok.0)

pub drop_last_gaps-requires : goal.drop_last_gaps-requires
drop_last_gaps-requires c =
    let made = made_gap c.args.number c.args.slots.now.items c.args.at c.requires.there.place c.requires.ascend c.requires.there.there in
    record { ascend = made.ascend }

pub returns-clause-pages : goal.returns-clause-pages
returns-clause-pages c =
    let made = made_gap c.args.number c.args.slots.now.items c.args.at c.requires.there.place c.requires.ascend c.requires.there.there in
    c.drop_last_gaps.ensures.pages ∙ made.pages

pub returns-clause-fewer : goal.returns-clause-fewer
returns-clause-fewer c =
    let made = made_gap c.args.number c.args.slots.now.items c.args.at c.requires.there.place c.requires.ascend c.requires.there.there in
    rw c.drop_last_gaps.ensures.pages made.fewer
