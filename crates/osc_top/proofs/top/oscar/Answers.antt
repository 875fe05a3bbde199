use Rattle.osc_top.proofs.Safety.{runs-safely}
use Rattle.osc_top.proofs.Told.{runs-told, runs-refused}
use Rattle.osc_top.proofs.top.oscar.Goals as goal

pub returns-in-Err-clause-safe : goal.returns-in-Err-clause-safe
returns-in-Err-clause-safe g c = λ task asks. runs-safely task _ _

pub returns-in-Err-clause-journal : goal.returns-in-Err-clause-journal
returns-in-Err-clause-journal g c = λ task asks. runs-told task _ _

pub returns-in-Err-clause-refusals : goal.returns-in-Err-clause-refusals
returns-in-Err-clause-refusals g c = λ task asks. runs-refused task _ _
