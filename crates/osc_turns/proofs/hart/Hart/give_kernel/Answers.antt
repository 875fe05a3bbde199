-- The call is finished as the kernel is given.
use Rattle.std.proofs.Common.{sym, ◌∙◌, ap}
use Rattle.std.specs.Option.{option_to_list}
use Rattle.osc_turns.proofs.Labels.{finish_labelled}
use Rattle.osc_calls.specs.Finish.{finish}
use Rattle.osc_turns.specs.Seen.{kernel_in}
use Rattle.osc_turns.proofs.Turning.{kernel_back}
use Rattle.osc_turns.proofs.hart.Hart.give_kernel.Goals as goal

pub returns-in-Some : goal.returns-in-Some
returns-in-Some c full =
    c.resume.ensures (finish c.in-Some.kernel.kernel).shows full (finish_labelled c.in-Some.kernel.kernel c.label-label.result (ap option_to_list c.label-label.ensures ∙ c.finish-resume.ensures.shown))
    ∙ kernel_back c.args.self.now c.lift.new.self c.in-Some.kernel.kernel c.args.self.now.kernel c.finish-resume.result full
    (ap kernel_in (sym c.in-Some.is) ∙ c.lift.ensures.kernel) c.finish-resume.ensures.resume c.lift.ensures.rest
