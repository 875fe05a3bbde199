-- The gate that stands at an index.
use Rattle.std.proofs.Common.{map, option_map, slice_index_or, sym, ◌∙◌, ap}
use Rattle.std.proofs.lemmas.Option.{slice_get-get_or}
use Rattle.osc_turns.specs.Answers.{said}
use Rattle.osc_core.specs.Shared.{gate_of}
use Rattle.osc_core.specs.Acting.{gates_told}
use Rattle.osc_core.proofs.Opening.{gate_at, set_taken, left_open}
use Rattle.osc_core.proofs.gates.take.Goals as goal

pub returns-then-takes_gate-clause-gates : goal.returns-then-takes_gate-clause-gates
returns-then-takes_gate-clause-gates c =
    let words = c.args.gates.now in
    let at = slice_get-get_or words c.args.frame 0 c.if-index-gates.false in
    set_taken words c.args.frame (slice_index_or words c.args.frame 0) c.args.only (option_map said c.told-told.result) at c.told-told.ensures.within
    (c.told-told.ensures.told ∙ gate_at words c.args.frame _ c.args.only at) (sym c.takes_gate.ensures ∙ c.if-takes_gate.true)

pub returns-else-takes_gate-clause-told : goal.returns-else-takes_gate-clause-told
returns-else-takes_gate-clause-told c =
    c.told-told.ensures.told ∙ gate_at c.args.gates.now c.args.frame _ c.args.only (slice_get-get_or c.args.gates.now c.args.frame 0 c.if-index-gates.false)

pub returns-else-takes_gate-clause-gates : goal.returns-else-takes_gate-clause-gates
returns-else-takes_gate-clause-gates c =
    left_open (map gate_of c.args.gates.now) c.args.frame (option_map said c.told-told.result) (sym c.takes_gate.ensures ∙ c.if-takes_gate.false)
    ∙ ap (gates_told (map gate_of c.args.gates.now) c.args.frame)
    (c.told-told.ensures.told ∙ gate_at c.args.gates.now c.args.frame _ c.args.only (slice_get-get_or c.args.gates.now c.args.frame 0 c.if-index-gates.false))
