-- The laws, proved of the definitions.
use Rattle.osc_machine.proofs.RunLaws.{runs_join, runs_begin}
use Rattle.osc_machine.proofs.laws.runs_go_on.Goals as goal

pub returns-clause-join : goal.returns-clause-join
returns-clause-join c = runs_join

pub returns-clause-begin : goal.returns-clause-begin
returns-clause-begin c = runs_begin
