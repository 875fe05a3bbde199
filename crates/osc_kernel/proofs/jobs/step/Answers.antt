-- The next job is done.
use Rattle.std.proofs.Common.{◌+◌, arith, ap, sym, ◌∙◌}
use Rattle.std.proofs.lemmas.Option.{slice_get_within}
use Rattle.osc_kernel.proofs.Stepping.{drop_one, none_left}
use Rattle.osc_kernel.proofs.jobs.step.Goals as goal

pub returns-in-None-clause-rest : goal.returns-in-None-clause-rest
returns-in-None-clause-rest c =
    let gone = none_left c.args.jobs.now.pushed (c.args.done.now + 1) (sym c.get.ensures ∙ c.in-None.is) in
    let after = drop_one c.args.jobs.now.pushed c.args.done.now in
    ap (λ l. l.pushed) c.clear.ensures ∙ (sym gone ∙ after)

pub returns-in-Some-clause-rest : goal.returns-in-Some-clause-rest
returns-in-Some-clause-rest c = drop_one c.args.jobs.now.pushed c.args.done.now

pub returns-in-Some-clause-clean : goal.returns-in-Some-clause-clean
returns-in-Some-clause-clean c =
    let l = slice_get_within c.args.jobs.now.pushed (c.args.done.now + 1) _ (sym c.get.ensures ∙ c.in-Some.is) in
    omega (arith, l)
