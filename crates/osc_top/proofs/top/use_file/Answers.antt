use Rattle.std.proofs.Common.{arith}
use Rattle.std.specs.Prelude.{◌≢◌}
use Rattle.std.proofs.lemmas.Result.{IfOk-weaker}
use Rattle.osc_cli.specs.declared.task.Mode.TheVariants.{Asm, Disasm}
use Rattle.osc_top.proofs.Files.{Decides-listed, Decides-run}
use Rattle.osc_top.proofs.top.use_file.Goals as goal

pub returns-in-Asm : goal.returns-in-Asm
returns-in-Asm c = rw c.in-Asm.is c.assembled.ensures

pub returns-in-Disasm : goal.returns-in-Disasm
returns-in-Disasm c =
    let task = c.args.task.now in
    IfOk-weaker c.listed.result _ _ (λ d decides. Decides-listed task.mode task c.args.file.now d c.in-Disasm.is decides) c.listed.ensures

pub returns-in-Run : goal.returns-in-Run
returns-in-Run c =
    let no_text : c.args.task.now.mode ≢ Asm = grind (arith, c.in-Run.is) in
    let no_list : c.args.task.now.mode ≢ Disasm = grind (arith, c.in-Run.is) in
    IfOk-weaker c.run_file.result _ _ (λ d decides. Decides-run c.args.task.now.mode c.args.task.now c.args.file.now d no_text no_list decides)
    c.run_file.ensures
