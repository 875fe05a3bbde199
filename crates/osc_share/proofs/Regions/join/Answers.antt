-- One page more is held.
use Rattle.std.proofs.Common.{◌≡◌, ◌+◌, ◌∷◌, refl}
use Rattle.osc_space.specs.Share.{hold, shared_frames}
use Rattle.osc_share.specs.Walk.{frames_from}
use Rattle.osc_share.proofs.Holds.{joins_one}
use Rattle.osc_share.proofs.Regions.join.Goals as goal

pub loop-next-preserved : goal.loop-next-preserved
loop-next-preserved c =
    let cons : frames_from c.loop-next.from c.args.child.now ≡ c.in-Some.next.mapping.frame ∷ frames_from (c.in-Some.next.number + 1) c.args.child.now = rw c.in-Some.ensures.rest refl in
    let one = joins_one (hold (shared_frames c.args.child.now) c.args.self.now) c.loop-next.self c.in-Some.next.mapping.frame (frames_from (c.in-Some.next.number + 1) c.args.child.now) (frames_from c.loop-next.from c.args.child.now) cons c.loop-next.invariant.left c.loop-next.invariant.different c.loop-next.invariant.held in
    rw c.hold.ensures (record { left = one.left; different = one.different; held = one.held })
