use Rattle.std.proofs.Common.{◌≡◌, ◌∙◌, codes, refl, sym, ap}
use Rattle.std.proofs.lemmas.Bool.{false≢true}
use Rattle.std.proofs.lemmas.List.{append_cancel_left}
use Rattle.osc_line.specs.Line.{is_hex}
use Rattle.osc_line.proofs.line.bytes.Goals as goal

pub returns-in_err-word-clause-missing : goal.returns-in_err-word-clause-missing
returns-in_err-word-clause-missing c none start digits said = c.in_err-word.ensures said.1 said.4

pub returns-then-not-is_hex-clause-missing : goal.returns-then-not-is_hex-clause-missing
returns-then-not-is_hex-clause-missing c none start digits said =
    let same : c.in_ok-word.word.now ≡ said.1 = append_cancel_left (codes "bytes ") c.in_ok-word.word.now said.1 (sym c.in_ok-word.ensures ∙ said.4) in
    false≢true (sym (sym c.is_hex.ensures ∙ c.if-not-is_hex.true) ∙ (ap is_hex same ∙ said.2))

pub returns-clause-found : goal.returns-clause-found
returns-clause-found c = (refl, c.in_ok-word.word.now, sym c.is_hex.ensures ∙ c.if-not-is_hex.false, refl, c.in_ok-word.ensures)
