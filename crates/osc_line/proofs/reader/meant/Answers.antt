use Rattle.std.proofs.Common.{◌≡◌, ◌∙◌, None, Some, refl, sym}
use Rattle.osc_text.specs.Names.{name_of}
use Rattle.osc_text.specs.Spelling.{spelling_of}
use Rattle.osc_text.specs.Text.{operands_text}
use Rattle.osc_line.proofs.Splits.{parts_of, operands_start}
use Rattle.osc_line.proofs.OneName.{one_name, no_space, from_some}
use Rattle.osc_line.proofs.Fits.{spelling_fits, text_is}
use Rattle.osc_line.proofs.reader.meant.Goals as goal

pub returns-in_err-mnemonic : goal.returns-in_err-mnemonic
returns-in_err-mnemonic c instr fits is =
    let s = spelling_of instr in
    let parts = parts_of 32 c.args.text.now c.split.result.0.now c.split.result.1.now (name_of s.mnemonic)
    (operands_text s.operands) c.split.ensures.whole c.split.ensures.rest (no_space s.mnemonic)
    (operands_start s.operands) (sym is ∙ text_is instr) in
    absurd (c.in_err-mnemonic.ensures s.mnemonic parts.0)

pub returns-in_err-operands : goal.returns-in_err-operands
returns-in_err-operands c instr fits is =
    let s = spelling_of instr in
    let parts = parts_of 32 c.args.text.now c.split.result.0.now c.split.result.1.now (name_of s.mnemonic)
    (operands_text s.operands) c.split.ensures.whole c.split.ensures.rest (no_space s.mnemonic)
    (operands_start s.operands) (sym is ∙ text_is instr) in
    let contrary : None ≡ Some s.operands = c.in_err-operands.ensures s.operands (spelling_fits instr fits) parts.1 in search contrary

pub returns : goal.returns
returns c instr fits is =
    let s = spelling_of instr in
    let parts = parts_of 32 c.args.text.now c.split.result.0.now c.split.result.1.now (name_of s.mnemonic)
    (operands_text s.operands) c.split.ensures.whole c.split.ensures.rest (no_space s.mnemonic)
    (operands_start s.operands) (sym is ∙ text_is instr) in
    let mnemonic : c.in_ok-mnemonic.mnemonic ≡ s.mnemonic
    = one_name c.in_ok-mnemonic.mnemonic s.mnemonic (sym c.in_ok-mnemonic.ensures ∙ parts.0) in
    let operands : c.in_ok-operands.operands ≡ s.operands
    = from_some (c.in_ok-operands.ensures s.operands (spelling_fits instr fits) parts.1) in
    c.instr.ensures.reads instr fits (rw (mnemonic, operands) refl)
