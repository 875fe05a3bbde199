use Rattle.osc_share.proofs.Taking.{Taking}
use Rattle.osc_share.proofs.sharing.take_zeroed.Given as goal

-- the places before this one have their frames
abbrev pub invariant-loop-place : goal.invariant-loop-place
invariant-loop-place l = Taking l.place-index l.taken l.fn.frames l.frames l.fn.jobs l.jobs
