-- One page more is given back.
use Rattle.std.proofs.Common.{◌≡◌, ◌+◌, ◌∷◌, true, refl}
use Rattle.osc_space.specs.Fork.{set_free}
use Rattle.osc_fork.specs.Names.{frames_between}
use Rattle.osc_process.proofs.Ends.{gives_one}
use Rattle.osc_process.proofs.ending.give_images.Goals as goal

pub loop-next-preserved : goal.loop-next-preserved
loop-next-preserved c =
    let rest = c.in-Some.ensures.first.rest in
    let cons : frames_between c.loop-next.from 2097152 c.args.tables.now ≡ c.in-Some.next.mapping.frame ∷ frames_between (c.in-Some.next.number + 1) 2097152 c.args.tables.now = rw rest refl in
    let one = gives_one (set_free true (frames_between 0 2097152 c.args.tables.now) c.args.frames.now) c.loop-next.frames c.give.new.self c.in-Some.next.mapping.frame (frames_between (c.in-Some.next.number + 1) 2097152 c.args.tables.now)
    (frames_between c.loop-next.from 2097152 c.args.tables.now) cons c.loop-next.invariant.left c.loop-next.invariant.can c.give.ensures in
    record { left = one.left; can = one.can }
