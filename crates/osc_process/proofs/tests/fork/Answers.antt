-- The child stands in the machine.
use Rattle.std.proofs.Common.{ap, sym, ◌∙◌}
use Rattle.osc_word.specs.JobList.{JobList}
use Rattle.osc_process.proofs.Children.{child_stands, none_there}
use Rattle.osc_process.proofs.tests.fork.Goals as goal

pub returns-clause-stands : goal.returns-clause-stands
returns-clause-stands g c =
    let m = c.args.m.now in
    let granted = sym c.fork_refusal.ensures.refusal ∙ none_there c.fork_refusal.result (sym c.is_some.ensures ∙ c.if-is_some.false) in
    child_stands m.config m.process m.regions m.frames m.jobs c.requires.stands granted 3 c.replace.new.dest c.fork_into.new.frames c.fork_into.new.jobs
    (c.replace.ensures.after ∙ c.fork_into.ensures.child) c.fork_into.ensures.free (c.fork_into.ensures.room ∙ ap (λ (js : JobList). js.room) c.clear.ensures)
