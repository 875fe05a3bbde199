-- The law, proved of the definitions.
use Rattle.osc_paging.proofs.Elsewhere.{jobs_elsewhere_keep, taking_keeps}
use Rattle.osc_paging.proofs.Others.{work_elsewhere_keeps}
use Rattle.osc_paging.proofs.laws.work_elsewhere_keeps.Goals as goal

pub returns-clause-jobs : goal.returns-clause-jobs
returns-clause-jobs c = jobs_elsewhere_keep

pub returns-clause-taking : goal.returns-clause-taking
returns-clause-taking c = taking_keeps

pub returns-clause-after : goal.returns-clause-after
returns-clause-after c = work_elsewhere_keeps
