use Rattle.std.proofs.Common.{arith, ◌∙◌, sym}
use Rattle.osc_elf.proofs.Searching.{write_exec-found, write_exec-none}
use Rattle.osc_elf.proofs.image.Image.write_exec.Goals as goal

pub returns-then-permits-2 : goal.returns-then-permits-2
returns-then-permits-2 c =
    sym (write_exec-found c.args.self.now.segments c.loop-page.page c.limit-page-end.result c.loop-page-test.true
    c.limit-page-end.ensures.bound c.loop-page.invariant (sym c.permits.ensures ∙ c.if-permits.true)
    (sym c.permits-then-permits.ensures ∙ c.if-permits-2.true))

pub returns : goal.returns
returns c =
    sym (write_exec-none c.args.self.now.segments c.loop-page.page c.limit-page-end.result (omega arith)
    c.limit-page-end.ensures.beyond c.loop-page.invariant)
