use Rattle.std.proofs.lemmas.Result.{err_from_is_err_and}
use Rattle.osc_outside.proofs.KnownBytes.{Consumes-trans}
use Rattle.osc_top.proofs.loading.load.Goals as goal

pub returns-in_err-extend_from_slice-clause-loads : goal.returns-in_err-extend_from_slice-clause-loads
returns-in_err-extend_from_slice-clause-loads g c =
    let back = c.from_residual-in_err-extend_from_slice in
    let p = err_from_is_err_and back.result back.ensures.1 in
    rw (p.1, p.2) (tt, (_, Consumes-trans _ _ _ _ _ c.loop-file.invariant.taken c.in_ok-count.ensures.bytes.0))
