-- The parts of a process that has its topmost table alone agree.
use Rattle.std.proofs.Common.{ℕ, zero, suc, ◌+◌, ◌-◌, ◌*◌, ◌≡◌, ◌==◌, ◌≤◌, Bool, true, false, List, [], Some, arith, refl, ap, sym, subst, ◌∙◌, length}
use Rattle.std.specs.Prelude.{replicate, slice_get, slice_set}
use Rattle.std.proofs.lemmas.Bool.Decides.{nat_tests}
use Rattle.osc_frames.specs.Free.{least_free, without_frame}
use Rattle.osc_frames.proofs.FreeCount.{least_is_free}
use Rattle.osc_word.specs.declared.settings.HeapKind.{HeapKind}
use Rattle.osc_word.specs.declared.settings.HeapKind.TheVariants.{Oscar}
use Rattle.osc_sv39.specs.Walk.{IsLevels}
use Rattle.osc_slot.specs.Heap.{empty_heap}
use Rattle.osc_slot.proofs.Backing.{get-set, length-set}
use Rattle.osc_paging.specs.KeptTables.{KeptTables, closed}
use Rattle.osc_paging.specs.TableChanges.{opened}
use Rattle.osc_paging.proofs.TableLawProofs.{opening_agrees}
use Rattle.osc_mark.specs.Grants.{no_grants}
use Rattle.osc_space.specs.Share.{no_regions, holders}
use Rattle.osc_space.specs.Agree.{SpaceAgrees}
use Rattle.osc_parts.proofs.OpenParts.{opening_fits}
use Rattle.osc_shadow.specs.Parts.{space_of, PartsAgreeWaiting}
use Rattle.osc_shadow.specs.Fits.{IsSettled}

none_held : (count frame : ℕ) → holders (no_regions count) frame ≡ 0
none_held zero frame = refl
none_held (suc count) zero = refl
none_held (suc count) (suc frame) = none_held count frame

long : (count : ℕ) → length (no_regions count) ≡ count
long zero = refl
long (suc count) = ap suc (long count)

fresh : (levels frames shadows root : ℕ) (free : List Bool) → length free ≡ frames → slice_get free root ≡ Some false
    → SpaceAgrees Oscar (space_of (opened root (closed levels frames (frames + shadows))) (no_grants shadows) (empty_heap frames) []) (no_regions frames) free
fresh levels frames shadows root free count taken = record {
  frames = sym count;
  count = sym count;
  room = ap (λ n. n + shadows) (sym count);
  root = (let a : (levels - 1 == levels - 1) ≡ true = grind (arith, nat_tests) in rw a refl);
  aside = refl;
  heap = record {
    granted = tt;
    limit = omega arith;
    canonical = λ page h. refl;
    shadows = λ page h. refl;
    held = λ object o k. (let h = k.0 in cc);
    own = λ a b o p k l e. (let h = k.0 in cc);
    backed = λ block h. cc;
    pages = λ object o k. (let h = k.0 in cc);
    mapped = λ object k o l s. (let h = l.0 in cc);
    small = λ object o l. (let h = l.0 in cc);
    waiting = record {
      few = omega arith;
      apart = tt;
      known = λ object h. cc;
      dead = λ object o h e. cc;
      linked = λ object page o h e p. cc;
    };
  };
  shared = record {
    count = long frames ∙ sym count;
    first = λ page h. grind (arith, nat_tests, h);
    held = λ page m h e. cc;
    unheld = λ frame h. none_held frames frame;
  };
  ranges = λ page h. cc;
  apart = (refl, tt);
  taken = (taken, tt);
}

pub fresh_agrees : (levels frames shadows root : ℕ) (tables : KeptTables) (old free : List Bool) → length old ≡ frames → Some root ≡ least_free old → free ≡ without_frame old (Some root)
    → tables ≡ opened root (closed levels frames (frames + shadows)) → PartsAgreeWaiting tables (no_grants shadows) (empty_heap frames) free
fresh_agrees levels frames shadows root tables old free count least is opens =
    let was = least_is_free old root least in
    let set = get-set old root root false in
    let taken : slice_get (slice_set old root false) root ≡ Some false = grind (arith, nat_tests, set, was) in
    rw (is, opens) (record {
      waiting = [];
      agree = record { regions = no_regions frames; agree = fresh levels frames shadows root (slice_set old root false) (length-set old root false ∙ count) taken };
    })

pub long_free : (count : ℕ) → length (replicate count true) ≡ count
long_free zero = refl
long_free (suc count) = ap suc (long_free count)

-- ---- and it is settled, with words that are 0
zeros_settle : (kind : HeapKind) (levels shadows root : ℕ) (free : List Bool) → IsLevels levels → length free ≤ 4096 → shadows ≤ 16777216 → slice_get free root ≡ Some false
    → IsSettled kind (space_of (opened root (closed levels (length free) (length free + shadows))) (no_grants shadows) (empty_heap (length free)) []) free
zeros_settle kind levels shadows root free l few low taken = record {
  batch = 1;
  entries = λ frame index. 0;
  words = no_regions (length free * 512);
  regions = no_regions (length free);
  settled = record {
    parts = opening_fits kind 1 levels shadows root free l.0 (omega arith) (omega arith) (omega arith) taken;
    tables = opening_agrees levels (length free) (length free + shadows) root free (no_regions (length free * 512)) (long (length free * 512)) few taken (λ i s. none_held (length free * 512) (root * 512 + i));
  };
}

pub fresh_settled : (kind : HeapKind) (levels frames shadows root : ℕ) (tables : KeptTables) (old free : List Bool) → IsLevels levels → frames ≤ 4096 → shadows ≤ 16777216
    → length old ≡ frames → Some root ≡ least_free old → free ≡ without_frame old (Some root) → tables ≡ opened root (closed levels frames (frames + shadows))
    → IsSettled kind (space_of tables (no_grants shadows) (empty_heap frames) []) free
fresh_settled kind levels frames shadows root tables old free l few low count least is opens =
    let was = least_is_free old root least in
    let set = get-set old root root false in
    let taken : slice_get (slice_set old root false) root ≡ Some false = grind (arith, nat_tests, set, was) in
    let long_as : length (slice_set old root false) ≡ frames = length-set old root false ∙ count in
    rw (is, opens)
    (subst (λ n. IsSettled kind (space_of (opened root (closed levels n (n + shadows))) (no_grants shadows) (empty_heap n) []) (slice_set old root false)) long_as
    (zeros_settle kind levels shadows root (slice_set old root false) l (omega arith) low taken))
