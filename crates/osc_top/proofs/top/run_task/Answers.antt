use Rattle.std.proofs.lemmas.Result.{err_from_is_err_and}
use Rattle.osc_top.proofs.top.run_task.Goals as goal

pub returns-in_err-decision-clause-comes : goal.returns-in_err-decision-clause-comes
returns-in_err-decision-clause-comes g c =
    let back = c.from_residual-in_err-decision in
    let p = err_from_is_err_and back.result back.ensures.1 in
    rw (p.1, p.2) c.in_ok-file.ensures.obtains.front
