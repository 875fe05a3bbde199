-- A process without pages, on the first frame of a machine.
use Rattle.std.proofs.Common.{ℕ, zero, suc, ◌≡◌, ◌+◌, ◌-◌, ◌==◌, Bool, true, false, List, [], length, nat_lt, arith, refl, sym}
use Rattle.std.specs.Prelude.{is_some, slice_set}
use Rattle.std.proofs.lemmas.Bool.Decides.{nat_tests}
use Rattle.osc_word.specs.declared.settings.HeapKind.TheVariants.{Plain}
use Rattle.osc_word.specs.AddressMap.{is_shared, first_shared_page}
use Rattle.osc_frames.specs.Free.{IsTaken}
use Rattle.osc_slot.specs.Heap.{empty_heap}
use Rattle.osc_slot.proofs.Backing.{get-set}
use Rattle.osc_paging.specs.KeptTables.{closed, root_of}
use Rattle.osc_paging.specs.TableChanges.{opened}
use Rattle.osc_mark.specs.Grants.{no_grants}
use Rattle.osc_space.specs.Share.{holders, no_regions}
use Rattle.osc_fork.specs.Plan.{PartsAgree}

none_held : (count frame : ℕ) → holders (no_regions count) frame ≡ 0
none_held zero frame = refl
none_held (suc count) zero = refl
none_held (suc count) (suc frame) = none_held count frame

rooted : (levels : ℕ) → is_some (root_of (opened 0 (closed levels 64 128))) ≡ true
rooted levels = let e : (levels - 1 == levels - 1) ≡ true = grind (arith, nat_tests) in rw e refl

below_shared : (page : ℕ) → is_shared page ≡ true → false ≡ nat_lt page (first_shared_page + 0)
below_shared page e = grind (arith, nat_tests, e)

pub fresh_agrees : (levels : ℕ) (free : List Bool) → length free ≡ 64 → IsTaken free 0 → PartsAgree (opened 0 (closed levels 64 128)) (no_grants 64) (empty_heap 64) free
fresh_agrees levels free size taken = record {
  few = omega arith;
  kind = Plain;
  waiting = [];
  regions = no_regions 64;
  agrees = record {
    frames = sym size;
    count = sym size;
    room = omega arith;
    root = rooted levels;
    aside = refl;
    heap = record {
      objects = refl;
      waiting = refl;
      shadows = λ page e. refl;
      canonical = λ page e. refl;
    };
    shared = record {
      count = sym size;
      first = below_shared;
      held = λ page m e f. cc;
      unheld = λ frame e. none_held 64 frame;
    };
    ranges = λ page e. cc;
    apart = (refl, tt);
    taken = (taken, tt);
  };
}

-- a frame that is taken stays so where another is
pub stays_taken : (free : List Bool) (frame : ℕ) → IsTaken free 0 → IsTaken (slice_set free frame false) 0
stays_taken free frame t = let g = get-set free frame 0 false in grind (arith, nat_tests, g, t)
