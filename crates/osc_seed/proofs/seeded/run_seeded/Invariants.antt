use Rattle.std.proofs.Common.{length}
use Rattle.osc_core.specs.Shared.{state_of}
use Rattle.osc_core.specs.Sound.{Sound}
use Rattle.osc_seed.proofs.Picking.{Stands}
use Rattle.osc_seed.proofs.seeded.run_seeded.Given as goal

-- the machine stands where its picks so far took it
abbrev pub invariant-loop-made : goal.invariant-loop-made
invariant-loop-made l =
    record {
      sound : Sound (state_of l.machine l.harts);
      stands : Stands (state_of l.fn.machine l.fn.harts) (length l.fn.harts) l.fn.seed l.fn.picks (state_of l.machine l.harts) l.seed l.made;
    }
