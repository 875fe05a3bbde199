-- One page more is marked.
use Rattle.std.proofs.Common.{◌≡◌, ◌+◌, ◌∷◌, refl}
use Rattle.osc_fork.specs.Names.{frames_between, mark_all}
use Rattle.osc_fork.proofs.Marks.{marks_one}
use Rattle.osc_fork.proofs.marking.mark_pages.Goals as goal

pub loop-next-preserved : goal.loop-next-preserved
loop-next-preserved c =
    let rest = c.in-Some.ensures.first.rest in
    let cons : frames_between c.loop-next.from c.args.to c.args.tables.now ≡ c.in-Some.next.mapping.frame ∷ frames_between (c.in-Some.next.number + 1) c.args.to c.args.tables.now = rw rest refl in
    let one = marks_one (mark_all (frames_between c.args.from c.args.to c.args.tables.now) c.args.names.now) c.loop-next.names c.in-Some.next.mapping.frame (frames_between (c.in-Some.next.number + 1) c.args.to c.args.tables.now) (frames_between c.loop-next.from c.args.to c.args.tables.now) cons c.loop-next.invariant.left c.loop-next.invariant.frames in
    record { left = one.left; frames = one.frames_small }
