-- The pages that hold no other block are unmapped, and the boxes cleared where there are any.
use Rattle.std.proofs.Common.{arith}
use Rattle.osc_plain.proofs.Lying.{held_few}
use Rattle.osc_plain.proofs.Unmaps.{few_alone, can_unmap, lets_go, stays}
use Rattle.osc_plain.proofs.blocks.let_go.Goals as goal

pub returns-then-pages-eq0-clause-plan : goal.returns-then-pages-eq0-clause-plan
returns-then-pages-eq0-clause-plan c shadows free =
    stays shadows c.args.harts c.pages_alone-pages.result c.args.tables.now c.args.heap.now free c.args.block c.args.jobs.now.pushed c.pages_alone-pages.ensures.pages c.if-pages-eq0.true

pub overflow_cast-pages : goal.overflow_cast-pages
overflow_cast-pages c =
    let a = few_alone c.args.heap.now c.args.block c.pages_alone-pages.result c.pages_alone-pages.ensures.pages in
    let b = held_few c.args.heap.now c.args.block c.pages_alone-pages.ensures.valid c.requires.held in
    let d = c.requires.few in
    omega (arith, a, b, d)

pub unmap_shadows-requires : goal.unmap_shadows-requires
unmap_shadows-requires c = record { can = can_unmap c.args.tables.now c.args.heap.now c.args.block c.args.jobs.now c.pages_alone-pages.result c.args.harts c.know_tables.ensures c.pages_alone-pages.ensures.valid c.requires.held c.requires.few c.requires.mapped c.pages_alone-pages.ensures.pages c.requires.spare }

pub clear_boxes-requires : goal.clear_boxes-requires
clear_boxes-requires c =
    let a = few_alone c.args.heap.now c.args.block c.pages_alone-pages.result c.pages_alone-pages.ensures.pages in
    let b = held_few c.args.heap.now c.args.block c.pages_alone-pages.ensures.valid c.requires.held in
    let d = c.requires.spare in
    let e = c.unmap_shadows.ensures.few in
    let f = c.unmap_shadows.ensures.room in
    omega (arith, a, b, d, e, f)

pub returns-clause-plan : goal.returns-clause-plan
returns-clause-plan c shadows free =
    lets_go shadows c.args.harts c.pages_alone-pages.result c.args.tables.now c.unmap_shadows.new.tables c.args.heap.now free c.args.block c.args.jobs.now.pushed c.unmap_shadows.new.jobs.pushed c.clear_boxes.new.jobs.pushed
    c.pages_alone-pages.ensures.pages (let no = c.if-pages-eq0.false in omega arith) (c.unmap_shadows.ensures.next free) c.clear_boxes.ensures.pushed
