use Rattle.std.proofs.Common.{◌≡◌, ◌++◌, ◌∙◌, None, Some, codes, sym, ap}
use Rattle.std.proofs.lemmas.Bool.{false≢true}
use Rattle.std.specs.Prelude.{is_none}
use Rattle.std.specs.Fmt.{decimal}
use Rattle.osc_line.specs.Line.{first_register}
use Rattle.osc_line.proofs.line.lab.Goals as goal

pub returns-in_default-clause-missing : goal.returns-in_default-clause-missing
returns-in_default-clause-missing c none rd offset said = c.in_default.ensures.reads rd (decimal offset) said.0 said.2

pub returns-in_err-offset-clause-missing : goal.returns-in_err-offset-clause-missing
returns-in_err-offset-clause-missing c none rd offset said =
    let same = c.in-Some.ensures.reads rd (decimal offset) said.0 said.2 in
    let contrary : None ≡ Some offset = c.in_err-offset.ensures.reads offset said.1 same.1 in false≢true (sym (ap is_none contrary))

pub returns-clause-found : goal.returns-clause-found
returns-clause-found c = (
  c.in-Some.ensures.found.0,
  c.in_ok-offset.ensures.found.0,
  c.in-Some.ensures.found.1 ∙ ap (λ w. codes "lab " ++ first_register c.in-Some.rd w) c.in_ok-offset.ensures.found.1,
)
