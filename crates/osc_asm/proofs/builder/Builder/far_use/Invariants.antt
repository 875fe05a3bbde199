-- The uses from the index on decide.
use Rattle.std.proofs.Common.{◌≡◌, drop}
use Rattle.std.specs.List.{find}
use Rattle.osc_asm.specs.Layout.{uses_from, is_far}
use Rattle.osc_asm.proofs.builder.Builder.far_use.Given as goal

abbrev pub invariant-loop-index : goal.invariant-loop-index
invariant-loop-index l =
    find (is_far l.self) (uses_from l.index (drop l.index l.self.code)) ≡ find (is_far l.self) (uses_from 0 l.self.code)
