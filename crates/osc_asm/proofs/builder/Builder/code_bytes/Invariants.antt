-- The code has the words before the index.
use Rattle.std.proofs.Common.{◌≡◌, ◌++◌, drop}
use Rattle.osc_asm.specs.Layout.{instrs_from}
use Rattle.osc_asm.specs.File.{words}
use Rattle.osc_asm.proofs.builder.Builder.code_bytes.Given as goal

abbrev pub invariant-loop-index : goal.invariant-loop-index
invariant-loop-index l =
    l.code.items ++ words (instrs_from l.self l.index (drop l.index l.self.code)) ≡ words (instrs_from l.self 0 l.self.code)
