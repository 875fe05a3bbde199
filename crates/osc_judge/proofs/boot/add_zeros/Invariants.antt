use Rattle.std.proofs.Common.{◌≡◌, ◌++◌, map}
use Rattle.std.specs.List.{range_with_len}
use Rattle.osc_world.specs.Run.{zero_page}
use Rattle.osc_judge.proofs.boot.add_zeros.Given as goal

abbrev pub invariant-loop-place : goal.invariant-loop-place
invariant-loop-place l = l.pages.items ≡ l.fn.pages.items ++ map zero_page (range_with_len l.first l.place)
