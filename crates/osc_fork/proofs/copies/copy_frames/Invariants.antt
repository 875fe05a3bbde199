use Rattle.osc_fork.proofs.Copying.{Copying}
use Rattle.osc_fork.proofs.copies.copy_frames.Given as goal

-- the frames before this one are named, and copied where they are to be
abbrev pub invariant-loop-from : goal.invariant-loop-from
invariant-loop-from l = Copying l.tables l.from l.fn.names l.names l.fn.frames l.frames l.fn.jobs l.jobs
