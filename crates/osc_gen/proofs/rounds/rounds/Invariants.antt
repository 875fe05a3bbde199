-- What is appended, with the code of the rounds that are left, is the code of all rounds.
use Rattle.std.proofs.Common.{◌≡◌, ◌-◌}
use Rattle.osc_asm.specs.Program.{with_code}
use Rattle.osc_gen.specs.Draws.{chain}
use Rattle.osc_gen.specs.Guest.{rounds, fresh}
use Rattle.osc_gen.proofs.rounds.rounds.Given as goal

abbrev pub invariant-loop-round : goal.invariant-loop-round
invariant-loop-round l =
    with_code l.builder (rounds l.round l.sizes (chain (1000 - l.round) l.last))
    ≡ with_code l.fn.builder (rounds 0 fresh (chain 1000 l.fn.number))
