-- A process without pages, on the first frame of a machine.
use Rattle.std.proofs.Common.{ℕ, zero, suc, ◌≡◌, ◌+◌, ◌-◌, ◌==◌, Bool, true, false, Some, List, [], length, take, nat_lt, arith, refl, ap, ◌∙◌}
use Rattle.std.specs.Prelude.{is_some}
use Rattle.std.proofs.lemmas.Bool.Decides.{nat_tests}
use Rattle.osc_word.specs.declared.settings.HeapKind.TheVariants.{Plain}
use Rattle.osc_word.specs.AddressMap.{is_shared, first_shared_page}
use Rattle.osc_frames.specs.Free.{all_free, without_frame}
use Rattle.osc_slot.specs.Heap.{empty_heap}
use Rattle.osc_paging.specs.KeptTables.{KeptTables, closed, root_of}
use Rattle.osc_paging.specs.TableChanges.{opened}
use Rattle.osc_space.specs.Space.{Space}
use Rattle.osc_space.specs.Fork.{free_numbers}
use Rattle.osc_space.specs.Share.{Sharing, holders, no_regions, share_plan}
use Rattle.osc_share.specs.declared.sharing.SharePlan.{SharePlan}
use Rattle.osc_share.specs.declared.sharing.SharePlan.TheVariants.{Given, Empty, NoFrames}
use Rattle.osc_share.specs.Plan.{PartsAgree, IsSharePlan}
use Rattle.osc_share.proofs.Holds.{length_hold}

abbrev pub fresh_tables : ℕ → KeptTables
fresh_tables levels = opened 0 (closed levels 64 128)

abbrev pub fresh_frames : List Bool
fresh_frames = without_frame (all_free 64) (Some 0)

abbrev fresh : ℕ → Space
fresh levels = record { tables = fresh_tables levels; objects = []; waiting = []; shadows = 64; heap = empty_heap 64 }

none_held : (count frame : ℕ) → holders (no_regions count) frame ≡ 0
none_held zero frame = refl
none_held (suc count) zero = refl
none_held (suc count) (suc frame) = none_held count frame

rooted : (levels : ℕ) → is_some (root_of (fresh_tables levels)) ≡ true
rooted levels = let e : (levels - 1 == levels - 1) ≡ true = grind (arith, nat_tests) in rw e refl

below_shared : (page : ℕ) → is_shared page ≡ true → false ≡ nat_lt page (first_shared_page + 0)
below_shared page e = grind (arith, nat_tests, e)

pub fresh_agrees : (levels : ℕ) → PartsAgree (fresh_tables levels) (no_regions 64) fresh_frames
fresh_agrees levels = record {
  few = omega arith;
  kind = Plain;
  space = fresh levels;
  has_tables = refl;
  agrees = record {
    frames = refl;
    count = refl;
    room = refl;
    root = rooted levels;
    aside = refl;
    heap = record {
      objects = refl;
      waiting = refl;
      shadows = λ page e. refl;
      canonical = λ page e. refl;
    };
    shared = record {
      count = refl;
      first = below_shared;
      held = λ page m e f. cc;
      unheld = λ frame e. none_held 64 frame;
    };
    ranges = λ page e. cc;
    apart = (refl, tt);
    taken = (refl, tt);
  };
}

-- the machine keeps its frames
pub share_lengths : (n : ℕ) (plan : SharePlan) (old new : Sharing) → IsSharePlan n old plan new → length new.regions ≡ length old.regions
unfolding share_plan
share_lengths n (Given address) old new h = ap (λ (s : Sharing). length s.regions) h.2 ∙ length_hold (take n (free_numbers old.free)) old.regions
share_lengths n Empty old new h = ap (λ (s : Sharing). length s.regions) h.1
share_lengths n NoFrames old new h = ap (λ (s : Sharing). length s.regions) h.1
