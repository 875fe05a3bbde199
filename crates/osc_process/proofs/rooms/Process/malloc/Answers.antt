-- The sizes stay.
use Rattle.std.proofs.Common.{◌≡◌, sym, ap, subst}
use Rattle.osc_space.specs.Space.{Outcome}
use Rattle.osc_process.specs.Parts.{SameSizes, draft_at}
use Rattle.osc_process.proofs.Sizes.{malloc_by_sizes}
use Rattle.osc_word.specs.declared.settings.HeapKind.TheVariants.{Oscar, Plain}
use Rattle.osc_process.proofs.rooms.Process.malloc.Goals as goal

pub returns-in-Oscar-clause-sizes : goal.returns-in-Oscar-clause-sizes
returns-in-Oscar-clause-sizes c =
    subst (λ (o : Outcome). SameSizes c.args.self.now.space o.draft.space) (sym c.malloc_object.ensures.plan)
    (malloc_by_sizes Oscar c.args.n (draft_at c.args.self.now c.args.frames.now c.args.jobs.now.pushed))

pub returns-in-Plain-clause-sizes : goal.returns-in-Plain-clause-sizes
returns-in-Plain-clause-sizes c =
    subst (λ (o : Outcome). SameSizes c.args.self.now.space o.draft.space) (sym c.malloc_block.ensures.plan)
    (malloc_by_sizes Plain c.args.n (draft_at c.args.self.now c.args.frames.now c.args.jobs.now.pushed))
