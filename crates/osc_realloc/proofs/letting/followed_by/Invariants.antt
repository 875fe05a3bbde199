-- The objects before this one stand in their places.
use Rattle.std.proofs.Common.{◌≡◌, ◌-◌, ◌++◌, take}
use Rattle.std.specs.Prelude.{replicate}
use Rattle.osc_realloc.proofs.letting.followed_by.Given as goal

abbrev pub invariant-loop-i : goal.invariant-loop-i
invariant-loop-i l = l.all ≡ take l.i l.objects ++ replicate (65 - l.i) l.last
