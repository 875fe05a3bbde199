-- The law, proved of the definitions.
use Rattle.osc_ledger.proofs.ByRule.{plans_answer_by_rule}
use Rattle.osc_ledger.proofs.RunsByRule.{runs_answer_by_rule}
use Rattle.osc_ledger.proofs.laws.plans_answer_by_rule.Goals as goal

pub returns-clause-plans : goal.returns-clause-plans
returns-clause-plans c = plans_answer_by_rule

pub returns-clause-runs : goal.returns-clause-runs
returns-clause-runs c = runs_answer_by_rule
