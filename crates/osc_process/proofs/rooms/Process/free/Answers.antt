-- The sizes stay.
use Rattle.std.proofs.Common.{◌≡◌, sym, ap, subst}
use Rattle.osc_word.specs.declared.settings.HeapKind.TheVariants.{Oscar, Plain}
use Rattle.osc_space.specs.Space.{Outcome}
use Rattle.osc_release.specs.Outcomes.{found_of, terms}
use Rattle.osc_process.specs.Parts.{SameSizes, draft_at}
use Rattle.osc_process.proofs.Sizes.{free_sizes, plain_free_sizes}
use Rattle.osc_process.proofs.rooms.Process.free.Goals as goal

pub returns-in-Oscar-clause-sizes : goal.returns-in-Oscar-clause-sizes
returns-in-Oscar-clause-sizes c =
    subst (λ (o : Outcome). SameSizes c.args.self.now.space o.draft.space) (sym (c.free_object.ensures.plan c.requires.parts.free))
    (free_sizes (terms c.args.config.now.harts c.args.call c.args.config.now.batch) c.args.pointer (found_of c.args.found) (draft_at c.args.self.now c.requires.parts.free c.args.jobs.now.pushed))

pub returns-in-Plain-clause-sizes : goal.returns-in-Plain-clause-sizes
returns-in-Plain-clause-sizes c =
    subst (λ (o : Outcome). SameSizes c.args.self.now.space o.draft.space) (sym (c.free_block.ensures.plan c.requires.parts.free))
    (plain_free_sizes c.args.config.now.harts c.args.pointer (draft_at c.args.self.now c.requires.parts.free c.args.jobs.now.pushed))
