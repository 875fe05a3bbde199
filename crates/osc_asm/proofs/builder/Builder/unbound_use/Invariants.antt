-- The uses from the index on decide.
use Rattle.std.proofs.Common.{◌≡◌, drop}
use Rattle.std.specs.List.{find}
use Rattle.osc_asm.specs.Layout.{uses_from, is_unbound}
use Rattle.osc_asm.proofs.builder.Builder.unbound_use.Given as goal

abbrev pub invariant-loop-index : goal.invariant-loop-index
invariant-loop-index l =
    find (is_unbound l.self) (uses_from l.index (drop l.index l.self.code)) ≡ find (is_unbound l.self) (uses_from 0 l.self.code)
