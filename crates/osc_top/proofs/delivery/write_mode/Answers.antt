use Rattle.std.proofs.lemmas.Result.{err_from_is_err_and}
use Rattle.osc_top.proofs.Sinks.{AppendsFront-first, OnErr-then}
use Rattle.osc_top.proofs.delivery.write_mode.Goals as goal

pub returns-in_err-write_summary-clause-part : goal.returns-in_err-write_summary-clause-part
returns-in_err-write_summary-clause-part g c =
    let back = c.from_residual in
    let p = err_from_is_err_and back.result back.ensures.1 in
    rw p.1 (AppendsFront-first _ _ _ _ c.in_err-write_summary.ensures.part)

pub returns-clause-part : goal.returns-clause-part
returns-clause-part g c =
    OnErr-then _ _ _ _ _ _ c.in_ok-write_summary.ensures.all c.write_verdict.ensures.part
