-- The sizes stay.
use Rattle.std.proofs.Common.{◌≡◌, sym, ap, subst}
use Rattle.osc_word.specs.declared.settings.HeapKind.TheVariants.{Oscar, Plain}
use Rattle.osc_space.specs.Space.{Outcome}
use Rattle.osc_release.specs.Outcomes.{found_of, terms}
use Rattle.osc_process.specs.Parts.{SameSizes, draft_at}
use Rattle.osc_process.proofs.Sizes.{realloc_by_sizes}
use Rattle.osc_process.proofs.rooms.Process.realloc.Goals as goal

pub returns-in-Oscar-clause-sizes : goal.returns-in-Oscar-clause-sizes
returns-in-Oscar-clause-sizes c =
    subst (λ (o : Outcome). SameSizes c.args.self.now.space o.draft.space) (sym c.realloc_object.ensures.plan)
    (realloc_by_sizes Oscar (terms c.args.config.now.harts c.args.call c.args.config.now.batch) c.args.pointer c.args.n (found_of c.args.found) (draft_at c.args.self.now c.args.frames.now c.args.jobs.now.pushed))

pub returns-in-Plain-clause-sizes : goal.returns-in-Plain-clause-sizes
returns-in-Plain-clause-sizes c =
    subst (λ (o : Outcome). SameSizes c.args.self.now.space o.draft.space) (sym c.realloc_block.ensures.plan)
    (realloc_by_sizes Plain (terms c.args.config.now.harts c.args.call c.args.config.now.batch) c.args.pointer c.args.n (found_of c.args.found) (draft_at c.args.self.now c.args.frames.now c.args.jobs.now.pushed))
