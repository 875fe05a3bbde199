-- A malloc gives nothing back, so its process is settled again.
use Rattle.std.proofs.Common.{[], refl}
use Rattle.osc_word.specs.declared.settings.HeapKind.TheVariants.{Oscar}
use Rattle.osc_shadow.specs.Outcomes.{draft_now, planned}
use Rattle.osc_shadow.specs.Parts.{space_of}
use Rattle.osc_shadow.proofs.Fitting.{stays_settled}
use Rattle.osc_realloc.proofs.tests.malloc.Goals as goal

pub returns-clause-settled : goal.returns-clause-settled
returns-clause-settled g c =
    stays_settled Oscar (space_of c.args.m.now.space.tables c.args.m.now.space.marks c.args.m.now.space.heap []) c.args.m.now.frames c.args.m.now.jobs.pushed
    (planned c.plan_malloc-answer.result (draft_now c.plan_malloc-answer.new.space [] c.plan_malloc-answer.new.frames c.plan_malloc-answer.new.jobs))
    c.requires.none refl (λ batch. c.plan_malloc-answer.ensures.fits batch []) c.requires.settled
