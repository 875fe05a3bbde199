-- The pages from here on are still to be let go.
use Rattle.std.proofs.Common.{◌≡◌, ◌-◌}
use Rattle.osc_word.specs.AddressMap.{first_shadow_page}
use Rattle.osc_space.specs.Share.{let_regions_go, shared_frames}
use Rattle.osc_share.specs.Holding.{regions_and_free}
use Rattle.osc_share.specs.Walk.{frames_from}
use Rattle.osc_share.proofs.Holds.{CanLeave}
use Rattle.osc_share.proofs.Regions.leave.Given as goal

abbrev pub invariant-loop-next : goal.invariant-loop-next
invariant-loop-next l = record {
  left : let_regions_go (frames_from l.from l.tables) (regions_and_free l.self l.frames) ≡ let_regions_go (shared_frames l.fn.tables) (regions_and_free l.fn.self l.fn.frames);
  rest : CanLeave (regions_and_free l.self l.frames) (frames_from l.from l.tables);
}

abbrev pub decreases-loop-next : goal.decreases-loop-next
decreases-loop-next l = first_shadow_page - l.from
