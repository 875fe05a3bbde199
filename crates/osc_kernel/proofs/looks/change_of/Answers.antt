-- What a hart's box gets.
use Rattle.std.proofs.Common.{ap, sym, refl, ◌∙◌}
use Rattle.osc_calls.specs.Boxes.{change_of}
use Rattle.osc_calls.specs.Kernel.{none_lives}
use Rattle.osc_under_way.specs.Effects.{effect_of}
use Rattle.osc_kernel.specs.Inside.{kernel_of}
use Rattle.osc_kernel.proofs.Others.{others_of, change_is}
use Rattle.osc_kernel.proofs.looks.change_of.Goals as goal

pub returns-in-Returning : goal.returns-in-Returning
returns-in-Returning c =
    let s = c.args.state.now in
    let k = kernel_of s in
    c.change.ensures k refl (ap (λ n. none_lives n k) c.pid.ensures ∙ others_of s c.in-Returning.calling c.in-Returning.answer c.in-Returning.effect c.requires.sound c.in-Returning.is)
    ∙ ap (λ n. change_of k n c.args.hart (effect_of c.in-Returning.effect)) c.pid.ensures
    ∙ sym (change_is s c.args.hart c.in-Returning.calling c.in-Returning.answer c.in-Returning.effect c.in-Returning.is)
