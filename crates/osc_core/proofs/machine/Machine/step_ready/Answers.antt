-- A turn of the hart at its place is the machine's step.
use Rattle.std.proofs.Common.{◌≡◌, Some, slice_index_or, arith, sym, ◌∙◌, subst}
use Rattle.osc_machine.specs.Parts.{HartState}
use Rattle.osc_machine.specs.Turns.{hart_ask}
use Rattle.osc_core.specs.Ends.{GivesFreed}
use Rattle.std.proofs.lemmas.Option.{slice_get-get_or}
use Rattle.osc_core.proofs.Seated.{stepped}
use Rattle.osc_core.proofs.machine.Machine.step_ready.Goals as goal

pub turn-requires : goal.turn-requires
turn-requires c =
    c.requires.ready (slice_index_or c.args.harts.now c.args.hart c.index-harts-hart.result)
    (slice_get-get_or c.args.harts.now c.args.hart c.index-harts-hart.result c.requires.hart)

pub returns-clause-step : goal.returns-clause-step
returns-clause-step c =
    stepped c.args.self.now c.turn.new.self c.args.harts.now c.args.hart (slice_index_or c.args.harts.now c.args.hart c.index-harts-hart.result) c.turn.new.hart c.turn.result
    (slice_get-get_or c.args.harts.now c.args.hart c.index-harts-hart.result c.requires.hart) c.turn.ensures.step

pub returns-clause-freed : goal.returns-clause-freed
returns-clause-freed c h here =
    let there = slice_get-get_or c.args.harts.now c.args.hart c.index-harts-hart.result c.requires.hart in
    let both : Some (slice_index_or c.args.harts.now c.args.hart c.index-harts-hart.result) ≡ Some h = sym there ∙ here in
    let same : slice_index_or c.args.harts.now c.args.hart c.index-harts-hart.result ≡ h = grind (arith, both) in
    subst (λ (q : HartState). GivesFreed (hart_ask q) q.kernel c.turn.new.self.kernel) same c.turn.ensures.freed
