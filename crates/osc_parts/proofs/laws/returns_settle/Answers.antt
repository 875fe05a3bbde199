-- The laws, proved of the definitions.
use Rattle.osc_parts.proofs.Returns.{plans_return, jobs_leave, returns_settle, returns_keep_others}
use Rattle.osc_parts.proofs.laws.returns_settle.Goals as goal

pub returns-clause-plans : goal.returns-clause-plans
returns-clause-plans c = plans_return

pub returns-clause-jobs : goal.returns-clause-jobs
returns-clause-jobs c = jobs_leave

pub returns-clause-settles : goal.returns-clause-settles
returns-clause-settles c = returns_settle

pub returns-clause-others : goal.returns-clause-others
returns-clause-others c = returns_keep_others
