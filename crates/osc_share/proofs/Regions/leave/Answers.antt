-- One page more is let go.
use Rattle.std.proofs.Common.{◌≡◌, ◌+◌, ◌∷◌, refl}
use Rattle.osc_space.specs.Share.{let_regions_go, shared_frames}
use Rattle.osc_share.specs.Holding.{regions_and_free}
use Rattle.osc_share.specs.Walk.{frames_from}
use Rattle.osc_share.proofs.Holds.{leaves_one}
use Rattle.osc_share.proofs.Regions.leave.Goals as goal

pub loop-next-preserved : goal.loop-next-preserved
loop-next-preserved c =
    let cons : frames_from c.loop-next.from c.args.tables.now ≡ c.in-Some.next.mapping.frame ∷ frames_from (c.in-Some.next.number + 1) c.args.tables.now = rw c.in-Some.ensures.rest refl in
    let one = leaves_one (let_regions_go (shared_frames c.args.tables.now) (regions_and_free c.args.self.now c.args.frames.now)) (regions_and_free c.loop-next.self c.loop-next.frames) c.in-Some.next.mapping.frame (frames_from (c.in-Some.next.number + 1) c.args.tables.now) (frames_from c.loop-next.from c.args.tables.now) cons c.loop-next.invariant.left c.loop-next.invariant.rest in
    rw c.let_go.ensures (record { left = one.left; rest = one.rest })
