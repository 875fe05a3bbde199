-- A malloc gives nothing back, so its process is settled again.
use Rattle.std.proofs.Common.{refl}
use Rattle.osc_word.specs.declared.settings.HeapKind.TheVariants.{Plain}
use Rattle.osc_shadow.proofs.Fitting.{stays_settled}
use Rattle.osc_plain.specs.Plan.{draft, malloced_now, space_of}
use Rattle.osc_plain.proofs.tests.malloc.Goals as goal

pub plain_malloc-answer-requires-clause-agree : goal.plain_malloc-answer-requires-clause-agree
plain_malloc-answer-requires-clause-agree g c = record {
  few = c.requires.settled.settled.tables.small;
  shadows = 8;
  regions = c.requires.settled.regions;
  agrees = c.requires.settled.settled.parts.agrees;
}

pub returns-clause-settled : goal.returns-clause-settled
returns-clause-settled g c =
    stays_settled Plain (space_of 8 c.args.m.now.tables c.args.m.now.heap) c.args.m.now.frames c.args.m.now.jobs.pushed
    (malloced_now c.plain_malloc-answer.result (draft 8 c.plain_malloc-answer.new.tables c.plain_malloc-answer.new.heap c.plain_malloc-answer.new.frames c.plain_malloc-answer.new.jobs.pushed))
    c.requires.none refl (λ batch. c.plain_malloc-answer.ensures.fits batch 8) c.requires.settled
