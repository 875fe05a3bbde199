-- The parts of a fresh process agree.
use Rattle.std.proofs.Common.{◌∙◌, ap, length}
use Rattle.osc_share.specs.Plan.{sharing}
use Rattle.osc_share.proofs.Fresh.{fresh_agrees, share_lengths}
use Rattle.osc_share.proofs.share_tests.plan_on.Goals as goal

pub plan_share-requires-clause-agrees : goal.plan_share-requires-clause-agrees
plan_share-requires-clause-agrees c = rw (c.requires.tables, c.requires.regions, c.requires.frames) (fresh_agrees c.args.levels)

pub returns : goal.returns
returns c = record {
  regions =
      share_lengths c.args.n c.plan_share.result
      (sharing c.args.tables.now c.args.regions.now c.args.frames.now c.args.jobs.now.pushed)
      (sharing c.plan_share.new.tables c.plan_share.new.regions c.plan_share.new.frames c.plan_share.new.jobs.pushed)
      c.plan_share.ensures.plan
      ∙ ap length c.requires.regions;
}
