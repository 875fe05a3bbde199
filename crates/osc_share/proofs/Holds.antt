-- What is asked of the frames that are left stays true when another frame changes.
use Rattle.std.proofs.Common.{ℕ, suc, ◌≡◌, ◌≢◌, ◌+◌, Bool, true, false, cond, List, [], ◌∷◌, arith, refl, ◌∙◌, length, get_or, set, subst}
use Rattle.std.specs.Prelude.{◌==◌, ◌-◌, All}
use Rattle.std.proofs.lemmas.Bool.Decides.{nat_tests}
use Rattle.std.proofs.lemmas.List.{get_or-set_other, length-set}
use Rattle.osc_frames.specs.Free.{IsTaken}
use Rattle.osc_space.specs.Share.{Regions, RegionsAndFree, holders, hold, drop_frame, let_regions_go, join, leave, shared_frames}
use Rattle.osc_paging.specs.KeptTables.{KeptTables}
use Rattle.osc_paging.proofs.WordLists.{slice_get-set}
use Rattle.osc_share.specs.Holding.{AreDifferent, CanJoin, IsHeld}

pub first_of : (P : ℕ → Type 0) (frame : ℕ) (frames : List ℕ) → All P (frame ∷ frames) → P frame
first_of P frame frames h = h 0 0 (omega arith)

pub rest_of : (P : ℕ → Type 0) (frame : ℕ) (frames : List ℕ) → All P (frame ∷ frames) → All P frames
rest_of P frame frames h = λ k d s. h (suc k) d (omega arith)

pub still_join : (regions : Regions) (frame count : ℕ) (frames : List ℕ) → All (λ (other : ℕ). other ≢ frame) frames → All (CanJoin regions) frames → All (CanJoin (set regions frame count)) frames
still_join regions frame count frames others h k d s =
    let same = get_or-set_other regions frame (get_or frames k d) count 0 (others k d s) in
    rw (length-set regions frame count, same) (h k d s)

still_held : (regions : Regions) (frame count : ℕ) (frames : List ℕ) → All (λ (other : ℕ). other ≢ frame) frames → All (IsHeld regions) frames → All (IsHeld (set regions frame count)) frames
still_held regions frame count frames others h k d s =
    let same = get_or-set_other regions frame (get_or frames k d) count 0 (others k d s) in
    rw (length-set regions frame count, same) (h k d s)

still_taken : (free : List Bool) (frame : ℕ) (b : Bool) (frames : List ℕ) → All (λ (other : ℕ). other ≢ frame) frames → All (IsTaken free) frames → All (IsTaken (cond b (set free frame true) free)) frames
still_taken free frame false frames others h k d s = h k d s
still_taken free frame true frames others h k d s =
    let apart : (get_or frames k d == frame) ≡ false = grind (arith, nat_tests, others k d s) in
    rw (slice_get-set free frame (get_or frames k d) true, apart) (h k d s)

-- ---- one frame more is held
pub record JoinsOne (end regions : Regions) (frame : ℕ) (frames : List ℕ) : Type 0 where
  pub left : hold frames (set regions frame (holders regions frame + 1)) ≡ end
  pub different : AreDifferent frames
  pub held : All (CanJoin (set regions frame (holders regions frame + 1))) frames

pub joins_one : (end regions : Regions) (frame : ℕ) (frames all : List ℕ) → all ≡ frame ∷ frames → hold all regions ≡ end → AreDifferent all → All (CanJoin regions) all → JoinsOne end regions frame frames
joins_one end regions frame frames all e left different held = go (subst (λ a. hold a regions ≡ end) e left) (subst AreDifferent e different) (subst (λ a. All (CanJoin regions) a) e held)
  where
    go : hold (frame ∷ frames) regions ≡ end → AreDifferent (frame ∷ frames) → All (CanJoin regions) (frame ∷ frames) → JoinsOne end regions frame frames
    go left different held = record {
      left = left;
      different = different.1;
      held = still_join regions frame (holders regions frame + 1) frames different.0 (rest_of (CanJoin regions) frame frames held);
    }

-- ---- one frame more is let go
-- what is asked of the frames that are left
pub record CanLeave (r : RegionsAndFree) (frames : List ℕ) : Type 0 where
  pub different : AreDifferent frames
  pub held : All (IsHeld r.regions) frames
  pub taken : All (IsTaken r.free) frames

still_leave : (frame count : ℕ) (frames : List ℕ) (r : RegionsAndFree) → CanLeave r (frame ∷ frames) → CanLeave (drop_frame frame count r) frames
still_leave frame count frames r h = record {
  different = h.different.1;
  held = still_held r.regions frame (count - 1) frames h.different.0 (rest_of (IsHeld r.regions) frame frames h.held);
  taken = still_taken r.free frame (count - 1 == 0) frames h.different.0 (rest_of (IsTaken r.free) frame frames h.taken);
}

pub record LeavesOne (end r : RegionsAndFree) (frame : ℕ) (frames : List ℕ) : Type 0 where
  pub left : let_regions_go frames (drop_frame frame (holders r.regions frame) r) ≡ end
  pub rest : CanLeave (drop_frame frame (holders r.regions frame) r) frames

pub leaves_one : (end r : RegionsAndFree) (frame : ℕ) (frames all : List ℕ) → all ≡ frame ∷ frames → let_regions_go all r ≡ end → CanLeave r all → LeavesOne end r frame frames
leaves_one end r frame frames all e left rest = record {
  left = subst (λ a. let_regions_go a r ≡ end) e left;
  rest = still_leave frame (holders r.regions frame) frames r (subst (λ a. CanLeave r a) e rest);
}

-- ---- the machine keeps its frames
pub length_hold : (frames : List ℕ) (regions : Regions) → length (hold frames regions) ≡ length regions
length_hold [] regions = refl
length_hold (frame ∷ frames) regions = length_hold frames (set regions frame (holders regions frame + 1)) ∙ length-set regions frame (holders regions frame + 1)

pub length_join : (child : KeptTables) (regions : Regions) → length (join child regions) ≡ length regions
unfolding join
length_join child regions = length_hold (shared_frames child) regions

pub record SameLengths (r s : RegionsAndFree) : Type 0 where
  pub regions : length s.regions ≡ length r.regions
  pub free : length s.free ≡ length r.free

length_freed : (free : List Bool) (frame : ℕ) (b : Bool) → length (cond b (set free frame true) free) ≡ length free
length_freed free frame false = refl
length_freed free frame true = length-set free frame true

lengths_let_go : (frames : List ℕ) (r : RegionsAndFree) → SameLengths r (let_regions_go frames r)
lengths_let_go [] r = record { regions = refl; free = refl }
lengths_let_go (frame ∷ frames) r =
    let on = lengths_let_go frames (drop_frame frame (holders r.regions frame) r) in
    record {
      regions = on.regions ∙ length-set r.regions frame (holders r.regions frame - 1);
      free = on.free ∙ length_freed r.free frame (holders r.regions frame - 1 == 0);
    }

pub lengths_leave : (t : KeptTables) (r : RegionsAndFree) → SameLengths r (leave t r)
unfolding leave
lengths_leave t r = lengths_let_go (shared_frames t) r
