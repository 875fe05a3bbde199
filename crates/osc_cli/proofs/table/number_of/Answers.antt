use Rattle.std.proofs.Common.{◌∙◌, sym}
use Rattle.osc_cli.proofs.Digits.{long_text, plus_text, read_digits}
use Rattle.osc_cli.proofs.table.number_of.Goals.{then-text-gt20-via-then-text-gt20, then-text-gt20-via-else-text-gt20+then-has_plus}
use Rattle.osc_cli.proofs.table.number_of.Goals as goal

pub returns-then-text-gt20 : goal.returns-then-text-gt20
returns-then-text-gt20 c = elim c.then-text-gt20.branch [
  | then-text-gt20-via-then-text-gt20 w ↦ long_text _ w.if-text-gt20.true
  | then-text-gt20-via-else-text-gt20+then-has_plus w ↦ plus_text _ (sym w.has_plus.ensures ∙ w.if-has_plus.true)
]

pub returns : goal.returns
returns c = c.ok.ensures.value ∙ read_digits _ _ c.if-text-gt20.false (sym c.has_plus.ensures ∙ c.if-has_plus.false) c.parse.ensures.value.0
