-- A box of a call that was given.
use Rattle.std.proofs.Common.{Some, [], refl, ◌∙◌}
use Rattle.osc_turns.specs.Seen.{place_seen}
use Rattle.osc_turns.proofs.Turning.{box_given}
use Rattle.osc_turns.proofs.hart.Hart.box_gone.Goals as goal

pub returns : goal.returns
returns c =
    c.go_on.ensures [] refl
    ∙ box_given c.args.self.now c.put_box.new.self c.count_change.new.self c.args.next c.args.kernel.kernel c.box_change.result (place_seen c.place_on-place.result (Some c.args.kernel)) c.boxes.result.now
    c.put_box.ensures c.box_change.ensures c.count_change.ensures c.boxes.ensures.boxes c.place_on-place.ensures.place
