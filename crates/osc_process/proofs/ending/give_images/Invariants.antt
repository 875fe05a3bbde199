-- The pages from here on are still to be given back.
use Rattle.std.proofs.Common.{◌≡◌, ◌-◌, true}
use Rattle.osc_space.specs.Fork.{set_free}
use Rattle.osc_fork.specs.Names.{frames_between}
use Rattle.osc_process.specs.Returns.{CanGive}
use Rattle.osc_process.proofs.ending.give_images.Given as goal

abbrev pub invariant-loop-next : goal.invariant-loop-next
invariant-loop-next l = record {
  left : set_free true (frames_between l.from 2097152 l.tables) l.frames ≡ set_free true (frames_between 0 2097152 l.tables) l.fn.frames;
  can : CanGive (frames_between l.from 2097152 l.tables) l.frames;
}

abbrev pub decreases-loop-next : goal.decreases-loop-next
decreases-loop-next l = 2097152 - l.from
