use Rattle.std.proofs.Common.{◌≡◌, ◌∙◌, codes, refl, sym, ap}
use Rattle.std.proofs.lemmas.Bool.{false≢true}
use Rattle.std.proofs.lemmas.List.{append_cancel_right}
use Rattle.osc_line.specs.Line.{is_name}
use Rattle.osc_line.proofs.line.bind.Goals as goal

pub returns-in_err-word-clause-missing : goal.returns-in_err-word-clause-missing
returns-in_err-word-clause-missing c none name said = c.in_err-word.ensures said.1 said.4

pub returns-then-not-is_name-clause-missing : goal.returns-then-not-is_name-clause-missing
returns-then-not-is_name-clause-missing c none name said =
    let same : c.in_ok-word.word.now ≡ said.1 = append_cancel_right c.in_ok-word.word.now said.1 (codes ":") (sym c.in_ok-word.ensures ∙ said.4) in
    false≢true (sym (sym c.is_name.ensures ∙ c.if-not-is_name.true) ∙ (ap is_name same ∙ said.2))

pub returns-clause-found : goal.returns-clause-found
returns-clause-found c = (refl, c.in_ok-word.word.now, sym c.is_name.ensures ∙ c.if-not-is_name.false, refl, c.in_ok-word.ensures)
