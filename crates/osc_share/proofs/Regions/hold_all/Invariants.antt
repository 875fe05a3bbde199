use Rattle.std.proofs.Common.{ℕ, ◌≡◌, ◌≤◌, drop, length}
use Rattle.osc_space.specs.Share.{hold, holders}
use Rattle.osc_share.proofs.Regions.hold_all.Given as goal

-- the frames from here on are still to be held, and those before were held once each
abbrev pub invariant-loop-frame : goal.invariant-loop-frame
invariant-loop-frame l = record {
  left : hold (drop l.frame-index l.taken) l.self ≡ hold l.taken l.fn.self;
  size : length l.self ≡ length l.fn.self;
  few : (frame : ℕ) → holders l.fn.self frame ≡ 0 → holders l.self frame ≤ l.frame-index;
}
