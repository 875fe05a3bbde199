-- A share: what is asked for follows from the agreement of the parts.
use Rattle.std.proofs.Common.{ℕ, zero, suc, ◌≡◌, ◌<◌, ◌≤◌, ◌+◌, Bool, true, false, Option, Some, None, List, [], ◌∷◌, ◌++◌, length, take, map, slice_get, get_or, nat_lt, arith, refl, ap, sym, subst, ◌∙◌, length-append}
use Rattle.std.specs.Prelude.{is_some, IsSome}
use Rattle.std.proofs.lemmas.Bool.Decides.{nat_tests}
use Rattle.std.proofs.lemmas.List.{length-map}
use Rattle.osc_word.specs.AddressMap.{is_shared}
use Rattle.osc_word.specs.JobList.{JobList}
use Rattle.osc_sv39.specs.declared.entries.Mapping.{Mapping}
use Rattle.osc_frames.specs.Free.{free_count}
use Rattle.osc_paging.specs.KeptTables.{KeptTables, mapping_at, need, levels_of, root_of}
use Rattle.osc_paging.specs.TableChanges.{zero_job}
use Rattle.osc_space.specs.Agree.{HasSpare}
use Rattle.osc_space.specs.Fork.{free_numbers, set_free}
use Rattle.osc_space.specs.Share.{Regions, holders, next_shared_page, shared_pages}
use Rattle.osc_sv39.specs.Walk.{number_of}
use Rattle.osc_tables.specs.Inside.{AscendFrom}
use Rattle.osc_tables.specs.Calls.{HasTaken, IsOpen, IsOrdered, AllCanonical}
use Rattle.osc_share.specs.InRow.{CanMap, CanShare, AreUnheld}
use Rattle.osc_share.specs.Plan.{PartsAgree}
use Rattle.osc_share.proofs.FreeNumbers.{AllFree, are_least, set_length, stays_taken}
use Rattle.osc_share.proofs.Low.{low_page}
use Rattle.osc_share.proofs.Room.{shared_few, has_room, has_taken}

-- ---- once the frames are taken
get_small : (xs : List Bool) (i : ℕ) (x : Bool) → slice_get xs i ≡ Some x → i < length xs
get_small [] i x e = cc
get_small (y ∷ xs) zero x e = omega arith
get_small (y ∷ xs) (suc i) x e = let l = get_small xs i x e in omega (arith, l)

all_unheld : (regions : Regions) (free : List Bool) (frames : List ℕ) → length regions ≡ length free → ((frame : ℕ) → slice_get free frame ≡ Some true → holders regions frame ≡ 0) → AllFree free frames → AreUnheld regions frames
all_unheld regions free [] size h a = λ k d s. absurd (omega arith)
all_unheld regions free (x ∷ frames) size h a = λ k d s. go k d s (all_unheld regions free frames size h a.1)
  where
    go : (k d : ℕ) → k < length (x ∷ frames) → AreUnheld regions frames → (get_or (x ∷ frames) k d < length regions) × (holders regions (get_or (x ∷ frames) k d) ≡ 0)
    go zero d s on = (let l = get_small free x true a.0 in omega (arith, l, size), h x a.0)
    go (suc k) d s on = on k d (omega (arith, s))

pub are_unheld : (first n : ℕ) (t : KeptTables) (regions : Regions) (free : List Bool) (jobs : JobList) → CanShare first n t regions free jobs → AreUnheld regions (take n (free_numbers free))
are_unheld first n t regions free jobs can =
    let frames = can.frames in
    all_unheld regions free (take n (free_numbers free)) can.size can.unheld (are_least n free (omega (arith, frames))).all_free

pub can_map_then : (first n : ℕ) (t : KeptTables) (regions : Regions) (free : List Bool) (jobs now : JobList) → CanShare first n t regions free jobs
    → now.pushed ≡ jobs.pushed ++ map zero_job (take n (free_numbers free)) → now.room ≡ jobs.room
    → CanMap first n t (set_free false (take n (free_numbers free)) free) now
can_map_then first n t regions free jobs now can pushed room =
    let m = can.map in
    let frames = can.frames in
    let least = are_least n free (omega (arith, frames)) in
    let count = least.count in
    let size = least.size in
    let has_spare = can.spare in
    let grown = length-append jobs.pushed (map zero_job (take n (free_numbers free))) in
    let mapped = length-map (take n (free_numbers free)) zero_job in
    let now_size : length now.pushed ≡ length (jobs.pushed ++ map zero_job (take n (free_numbers free))) = ap length pushed in
    record {
      opened = m.opened;
      range = m.range;
      low = m.low;
      unmapped = m.unmapped;
      left = m.left;
      taken = record {
        count = set_length false (take n (free_numbers free)) free ∙ m.taken.count;
        tables = λ frame p e. stays_taken (take n (free_numbers free)) free frame (m.taken.tables frame p e);
        aside = λ frame p e. stays_taken (take n (free_numbers free)) free frame (m.taken.aside frame p e);
      };
      need = omega (arith, count, frames);
      spare = omega (arith, has_spare, grown, mapped, now_size, size, room);
    }

-- ---- from the agreement
pub few_shared : (t : KeptTables) (regions : Regions) (free : List Bool) → PartsAgree t regions free → length (shared_pages t) + free_count free ≤ length free
few_shared t regions free parts = subst (λ u. length (shared_pages u) + free_count free ≤ length free) parts.has_tables (shared_few parts.space free parts.agrees.apart parts.agrees.taken)

pub shared_first : (t : KeptTables) (regions : Regions) (free : List Bool) → PartsAgree t regions free → (page : ℕ) → is_shared page ≡ true → is_some (mapping_at t.pages page) ≡ nat_lt page (next_shared_page t)
shared_first t regions free parts = subst (λ u. (page : ℕ) → is_shared page ≡ true → is_some (mapping_at u.pages page) ≡ nat_lt page (next_shared_page u)) parts.has_tables parts.agrees.shared.first

none_of : (x : Option Mapping) → is_some x ≡ false → x ≡ None
none_of None e = refl
none_of (Some m) e = cc

pub can_share : (n : ℕ) (t : KeptTables) (regions : Regions) (free : List Bool) (jobs : JobList) → PartsAgree t regions free → HasSpare jobs (length free) → IsOrdered t → n + need t (next_shared_page t) n ≤ free_count free → CanShare (next_shared_page t) n t regions free jobs
can_share n t regions free jobs parts spare_enough order frames =
    let agrees = parts.agrees in
    let same = parts.has_tables in
    let few = parts.few in
    let shared = few_shared t regions free parts in
    let room = subst (λ (u : KeptTables). length u.pages + free_count free ≤ u.room) same (has_room parts.kind parts.space regions free agrees (subst (λ (u : KeptTables). AscendFrom 0 u.pages) (sym same) order.ascend)) in
    record {
      few = omega (arith, few, shared, frames);
      map = record {
        opened = subst (λ u. IsOpen u) same (opened (root_of parts.space.tables) agrees.root);
        range = order.range;
        low = omega (arith, few, shared, frames);
        unmapped = λ k s. none_of _ (shared_first t regions free parts (next_shared_page t + k) (grind (arith, nat_tests, few, shared, frames, s)) ∙ grind (arith, nat_tests));
        left = omega (arith, room, frames);
        taken = subst (λ u. HasTaken u free) same (has_taken parts.kind parts.space regions free agrees);
        need = omega (arith, frames);
        spare = omega (arith, spare_enough, few, shared, frames);
      };
      frames = frames;
      spare = omega (arith, spare_enough, few, shared, frames);
      size = agrees.shared.count;
      unheld = agrees.shared.unheld;
    }
  where
    opened : (x : Option ℕ) → is_some x ≡ true → IsSome x
    opened None e = cc
    opened (Some root) e = refl

pub all_canonical : (n : ℕ) (t : KeptTables) (regions : Regions) (free : List Bool) → PartsAgree t regions free → IsOrdered t → n ≤ free_count free → AllCanonical (levels_of t) (next_shared_page t) n
all_canonical n t regions free parts order frames k s =
    let few = parts.few in
    let shared = few_shared t regions free parts in
    (low_page t.top (next_shared_page t + k) order.range (omega (arith, few, shared, frames, s))).canonical

pub next_number : (t : KeptTables) (regions : Regions) (free : List Bool) → PartsAgree t regions free → IsOrdered t → number_of (levels_of t) (next_shared_page t) ≡ next_shared_page t
next_number t regions free parts order =
    let few = parts.few in
    let shared = few_shared t regions free parts in
    (low_page t.top (next_shared_page t) order.range (omega (arith, few, shared))).number

pub need_is : (n first : ℕ) (t : KeptTables) (regions : Regions) (free : List Bool) → PartsAgree t regions free → IsOrdered t → first ≡ next_shared_page t → need t (number_of (levels_of t) first) n ≡ need t (next_shared_page t) n
need_is n first t regions free parts order e = rw e (ap (λ p. need t p n) (next_number t regions free parts order))
