-- The pages from here on are still to be held.
use Rattle.std.proofs.Common.{◌≡◌, ◌-◌, All}
use Rattle.osc_word.specs.AddressMap.{first_shadow_page}
use Rattle.osc_space.specs.Share.{hold, shared_frames}
use Rattle.osc_share.specs.Holding.{AreDifferent, CanJoin}
use Rattle.osc_share.specs.Walk.{frames_from}
use Rattle.osc_share.proofs.Regions.join.Given as goal

abbrev pub invariant-loop-next : goal.invariant-loop-next
invariant-loop-next l = record {
  left : hold (frames_from l.from l.child) l.self ≡ hold (shared_frames l.fn.child) l.fn.self;
  different : AreDifferent (frames_from l.from l.child);
  held : All (CanJoin l.self) (frames_from l.from l.child);
}

abbrev pub decreases-loop-next : goal.decreases-loop-next
decreases-loop-next l = first_shadow_page - l.from
