use Rattle.std.proofs.Common.{◌≡◌, ◌∙◌, ap}
use Rattle.std.proofs.lemmas.Result.{IfOk-weaker}
use Rattle.clap.specs.Words.{App, Text, with_rule}
use Rattle.osc_cli.specs.Command.{ruled}
use Rattle.osc_cli.proofs.command.command_of.Goals as goal

more : (name : Text) (a b : App) → a ≡ b → with_rule a (ruled name) ≡ with_rule b (ruled name)
more name a b same = ap (λ app. with_rule app (ruled name)) same

pub returns : goal.returns
unfolding Rattle.osc_cli.specs.Command.command
returns c =
    let two = c.in_ok-made-2.ensures ∙ more _ _ _ (c.in_ok-made.ensures ∙ more _ _ _ c.new-made.ensures.app) in
    let four = c.in_ok-made-4.ensures ∙ more _ _ _ (c.in_ok-made-3.ensures ∙ more _ _ _ two) in
    let six = c.in_ok-made-6.ensures ∙ more _ _ _ (c.in_ok-made-5.ensures ∙ more _ _ _ four) in
    let eight = c.in_ok-made-8.ensures ∙ more _ _ _ (c.in_ok-made-7.ensures ∙ more _ _ _ six) in
    let ten = c.in_ok-made-10.ensures ∙ more _ _ _ (c.in_ok-made-9.ensures ∙ more _ _ _ eight) in
    let twelve = c.in_ok-made-12.ensures ∙ more _ _ _ (c.in_ok-made-11.ensures ∙ more _ _ _ ten) in
    IfOk-weaker c.with_option-13.result _ _ (λ made is. is ∙ more _ _ _ twelve) c.with_option-13.ensures
