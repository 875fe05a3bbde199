-- In every run the journal tells the frames, and memory is refused by the rule.
use Rattle.osc_counted.proofs.Unused.{runs_tell_unused}
use Rattle.osc_tabled.proofs.TableRuns.{runs_fit_tables}
use Rattle.osc_tabled.proofs.TableCounts.{tables_are_counted}
use Rattle.osc_tabled.proofs.PlainNeeds.{plain_need_is_told}
use Rattle.osc_refusals.specs.Refused.{RunsTellFrames, RunsRefuseByRule}
use Rattle.osc_refusals.proofs.Frames.{runs-tell-frames, runs-refuse-by-rule}

pub runs_tell_frames : RunsTellFrames
runs_tell_frames = runs-tell-frames runs_fit_tables runs_tell_unused tables_are_counted plain_need_is_told

pub runs_refuse_by_rule : RunsRefuseByRule
runs_refuse_by_rule = runs-refuse-by-rule runs_fit_tables runs_tell_unused tables_are_counted plain_need_is_told
