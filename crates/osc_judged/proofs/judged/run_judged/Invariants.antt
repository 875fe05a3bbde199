use Rattle.std.proofs.Common.{length, ◌-◌}
use Rattle.osc_core.specs.Shared.{state_of}
use Rattle.osc_core.specs.Sound.{Sound}
use Rattle.osc_seed.proofs.Picking.{rest}
use Rattle.osc_judged.proofs.Following.{Judges}
use Rattle.osc_judged.proofs.judged.run_judged.Given as goal

-- the machine stands where its picks so far took it, and the world was given what committed with them
abbrev pub invariant-loop-made : goal.invariant-loop-made
invariant-loop-made l =
    let start = state_of l.fn.machine l.fn.harts in
    let now = state_of l.machine l.harts in
    record {
      sound : Sound now;
      judges : Judges start (rest (length l.fn.harts) l.fn.seed l.fn.picks start) (rest (length l.fn.harts) l.seed (l.fn.picks - l.made) now) now l.made l.fn.world l.world;
    }
