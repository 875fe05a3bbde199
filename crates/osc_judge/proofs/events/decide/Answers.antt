use Rattle.std.proofs.Common.{◌≡◌, ◌∙◌}
use Rattle.std.proofs.lemmas.Option.{get_or_from_slice_get}
use Rattle.osc_judge.proofs.events.decide.Goals as goal

pub returns : goal.returns
returns c = λ hart process h p.
    let there = rw (← c.state.view_is) at h in
    let of = rw (← c.state.view_is) at p in
    let same : c.index-hart.result.now ≡ hart = c.index-hart.ensures ∙ get_or_from_slice_get c.state.inside.harts.items c.args.number hart c.index-hart.result.now there in
    let own : c.index-process.result.now ≡ process = c.index-process.ensures ∙ get_or_from_slice_get c.state.inside.processes.items c.args.pid process c.index-process.result.now of in
    rw (same, own) at c.in_ok-made.ensures
