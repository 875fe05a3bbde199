-- A held block's pages are mapped.
use Rattle.std.proofs.Common.{arith, sym, ◌∙◌}
use Rattle.osc_word.specs.declared.settings.HeapKind.TheVariants.{Plain}
use Rattle.osc_slot.specs.Heap.{block_of_user}
use Rattle.osc_space.specs.PlainHeap.{plain_free_plan}
use Rattle.osc_parts.proofs.PlainFree.{plain_frees_fit}
use Rattle.osc_shadow.proofs.Fitting.{fits_after}
use Rattle.osc_plain.specs.Plan.{draft, freed_now}
use Rattle.osc_plain.specs.declared.PlainFreed.TheVariants as freed
use Rattle.osc_plain.proofs.Lying.{held_mapped}
use Rattle.osc_plain.proofs.Plans.{freed_nothing, freed_block}
use Rattle.osc_plain.proofs.plain_free.Goals as goal

pub returns-in_default-clause-plan : goal.returns-in_default-clause-plan
unfolding plain_free_plan
returns-in_default-clause-plan c shadows free =
    freed_nothing c.args.harts _ (draft shadows c.args.tables.now c.args.heap.now free c.args.jobs.now.pushed) (sym c.block_at.ensures.block ∙ c.in_default.is)

pub let_go-requires-clause-held : goal.let_go-requires-clause-held
let_go-requires-clause-held c = c.in-Some.ensures.held.0

pub let_go-requires-clause-few : goal.let_go-requires-clause-few
let_go-requires-clause-few c =
    let frames = c.requires.agree.agree.agrees.frames in
    let few = c.requires.agree.agree.few in
    omega (arith, frames, few)

pub let_go-requires-clause-mapped : goal.let_go-requires-clause-mapped
let_go-requires-clause-mapped c page on = held_mapped c.args.tables.now c.args.heap.now c.requires.agree.free c.in-Some.block c.requires.agree.agree c.block_at.ensures.valid c.in-Some.ensures.held.0 page on

pub returns-clause-plan : goal.returns-clause-plan
unfolding plain_free_plan
returns-clause-plan c shadows free =
    freed_block c.args.harts _ c.in-Some.block (draft shadows c.args.tables.now c.args.heap.now free c.args.jobs.now.pushed) _ (sym c.in-Some.ensures.block) (c.let_go.ensures.plan shadows free)

pub returns-in_default-clause-fits : goal.returns-in_default-clause-fits
returns-in_default-clause-fits c batch shadows free =
    let before = draft shadows c.args.tables.now c.args.heap.now free c.args.jobs.now.pushed in
    fits_after Plain batch before (freed_now freed.NotAnObject (block_of_user c.args.heap.now.held c.args.pointer) before) (plain_free_plan c.args.harts c.args.pointer before) (returns-in_default-clause-plan c shadows free)
    (λ entries words regions settled. plain_frees_fit batch entries words regions c.args.harts c.args.pointer before settled c.requires.harts)

pub returns-clause-fits : goal.returns-clause-fits
returns-clause-fits c batch shadows free =
    let before = draft shadows c.args.tables.now c.args.heap.now free c.args.jobs.now.pushed in
    fits_after Plain batch before (freed_now freed.Freed (block_of_user c.args.heap.now.held c.args.pointer) (draft shadows c.let_go.new.tables c.args.heap.now free c.let_go.new.jobs.pushed)) (plain_free_plan c.args.harts c.args.pointer before) (returns-clause-plan c shadows free)
    (λ entries words regions settled. plain_frees_fit batch entries words regions c.args.harts c.args.pointer before settled c.requires.harts)
