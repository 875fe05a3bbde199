use Rattle.std.proofs.Common.{◌≡◌, ◌∙◌, ap}
use Rattle.osc_core.specs.Shared.{state_of}
use Rattle.osc_machine.specs.Due.{summary_line}
use Rattle.osc_machine.specs.Views.{counts_of}
use Rattle.osc_top.specs.Deciding.{state_in}
use Rattle.osc_top.proofs.delivery.write_summary.Goals as goal

pub returns-clause-part : goal.returns-clause-part
returns-clause-part g c =
    let over = c.args.over.now in
    let text : c.as_bytes.result.now ≡ summary_line over.picks (counts_of (state_in over)) =
    c.as_bytes.ensures
    ∙ (c.summary_line.ensures ∙ ap (summary_line over.picks) (c.counts-counts.ensures ∙ ap (λ harts. counts_of (state_of over.machine harts)) c.deref.ensures.value)) in
    rw text at c.write_all.ensures.part

pub returns-clause-all : goal.returns-clause-all
returns-clause-all g c =
    let over = c.args.over.now in
    let text : c.as_bytes.result.now ≡ summary_line over.picks (counts_of (state_in over)) =
    c.as_bytes.ensures
    ∙ (c.summary_line.ensures ∙ ap (summary_line over.picks) (c.counts-counts.ensures ∙ ap (λ harts. counts_of (state_of over.machine harts)) c.deref.ensures.value)) in
    rw text at c.write_all.ensures.all
