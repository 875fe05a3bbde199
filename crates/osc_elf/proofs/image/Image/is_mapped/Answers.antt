use Rattle.std.proofs.Common.{◌≡◌, false, nat_lt, sym, ◌∙◌, ap, arith}
use Rattle.std.specs.Prelude.{is_some}
use Rattle.std.proofs.lemmas.Bool.Decides.{nat_tests}
use Rattle.osc_elf.proofs.Counting.{permits-nothing}
use Rattle.osc_elf.proofs.image.Image.is_mapped.Goals as goal

pub returns-else-page-limit-clause-value : goal.returns-else-page-limit-clause-value
returns-else-page-limit-clause-value c =
    let past : nat_lt c.args.page c.limit.result ≡ false = grind (arith, nat_tests) in
    past
    ∙ sym (ap is_some (permits-nothing c.args.self.now c.args.page (λ access. c.limit.ensures.beyond access c.args.page (omega arith))))
