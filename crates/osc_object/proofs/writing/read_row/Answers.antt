use Rattle.std.proofs.Common.{◌≡◌, ◌-◌, refl, sym, ◌∙◌, arith}
use Rattle.osc_object.specs.Turns.{turn_shown}
use Rattle.osc_object.specs.Rows.{row_shown, bytes_of}
use Rattle.osc_object.proofs.Rows.{spelled_row-next, spelled_row-stops, spelled_row-ends}
use Rattle.osc_object.proofs.writing.read_row.Goals as goal

pub loop-init : goal.loop-init
loop-init c =
    let all : c.args.count - 0 ≡ c.args.count = omega arith in
    rw (all, c.new.ensures.items) refl

pub loop-preserved : goal.loop-preserved
loop-preserved c =
    rw c.advanced-address.ensures (spelled_row-next (turn_shown c.args.turn.now) c.loop.address c.args.count c.loop.counter (row_shown c.loop.read) (row_shown c.add.new.read)
    (bytes_of c.in-Ok.byte) c.loop-test.true (sym c.in-Ok.ensures) c.in_ok-add-in-Ok.ensures ∙ c.loop.invariant)

pub returns-in-Err : goal.returns-in-Err
returns-in-Err c =
    sym (spelled_row-stops (turn_shown c.args.turn.now) c.loop.address c.args.count c.loop.counter (row_shown c.loop.read) c.in-Err.why c.loop-test.true (sym c.in-Err.ensures)) ∙ c.loop.invariant

pub returns : goal.returns
returns c =
    sym (spelled_row-ends (turn_shown c.args.turn.now) c.loop.address c.args.count c.loop.counter (row_shown c.loop.read) (omega arith)) ∙ c.loop.invariant
