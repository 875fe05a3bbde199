-- Mapping pages in a row, one after another.
use Rattle.std.proofs.Common.{ℕ, zero, suc, ◌≡◌, ◌<◌, ◌≤◌, ◌+◌, ◌-◌, ◌*◌, ◌^◌, ◌==◌, Bool, false, Option, Some, None, List, length, arith, refl, ap, sym, subst, ◌∙◌}
use Rattle.std.specs.Prelude.{IsSome}
use Rattle.std.proofs.lemmas.Bool.Decides.{nat_tests}
use Rattle.osc_word.specs.JobList.{JobList, spare}
use Rattle.osc_sv39.specs.declared.entries.Mapping.{Mapping}
use Rattle.osc_sv39.specs.Walk.{piece, number_of}
use Rattle.osc_frames.specs.Free.{free_count}
use Rattle.osc_paging.specs.declared.TableFrame.{TableFrame}
use Rattle.osc_paging.specs.KeptTables.{KeptTables, levels_of, root_of, mapping_at, mapping_of, missing, need_below, need}
use Rattle.osc_paging.specs.TableChanges.{Changed, map_page}
use Rattle.osc_paging.specs.TableLaws.{MapsPage}
use Rattle.osc_paging.proofs.Needed.{piece_mono, need_one}
use Rattle.osc_paging.proofs.TableLawProofs.{mapping_takes_need, need_splits}
use Rattle.osc_tables.specs.Calls.{HasTaken, changed}
use Rattle.osc_share.specs.InRow.{CanMap}
use Rattle.osc_share.proofs.Low.{IsLow, low_page, reach}
use Rattle.osc_share.proofs.Lengths.{Pushes, map_pushes, map_pages_more}

-- the first page of many needs no more than all
need_low : (l number more : ℕ) (ts : List TableFrame) → need_below ts l number 1 ≤ need_below ts l number (suc more)
unfolding need_below missing
need_low zero number more ts = omega arith
need_low (suc l) number more ts =
    let a = piece_mono (suc l) number (number + more) (omega arith) in
    let on = need_low l number more ts in
    let one = need_one ts l number in
    let e1 : piece (suc l) (number + more) - piece (suc l) number + 1 ≡ suc (piece (suc l) (number + more) - piece (suc l) number) = omega arith in
    rw (one, e1) (omega arith)

-- what the first of the pages asks for
pub record CanMapOne (page : ℕ) (t : KeptTables) (free : List Bool) (jobs : JobList) : Type 0 where
  pub low : IsLow (levels_of t) page
  pub unmapped : mapping_of t page ≡ None
  pub left : 0 < t.room - length t.pages
  pub need : need t (number_of (levels_of t) page) 1 ≤ free_count free
  pub spare : 7 ≤ spare jobs

pub can_map_one : (page more : ℕ) (t : KeptTables) (free : List Bool) (jobs : JobList) → CanMap page (suc more) t free jobs → CanMapOne page t free jobs
can_map_one page more t free jobs can =
    let range = can.range in
    let low : page < 67108864 = (let h = can.low in omega (arith, h)) in
    let is = low_page t.top page range low in
    let here = can.unmapped 0 (omega arith) in
    let at : page + 0 ≡ page = omega arith in
    let none : mapping_at t.pages page ≡ None = subst (λ q. mapping_at t.pages q ≡ None) at here in
    let enough = can.need in
    let lower = need_low t.top page more t.tables in
    let left = can.left in
    let has_spare = can.spare in
    record {
      low = is;
      unmapped = rw (is.canonical, is.number) none;
      left = omega (arith, left);
      need = rw is.number (omega (arith, enough, lower));
      spare = omega (arith, has_spare);
    }

some_root : (x : Option ℕ) (P : Type 0) → IsSome x → ((root : ℕ) → x ≡ Some root → P) → P
some_root None P h on = cc
some_root (Some root) P h on = on root refl

-- the pages from the next one on, once the first is mapped
pub maps_one : (page more : ℕ) (m : Mapping) (t u : KeptTables) (free after : List Bool) (jobs now : JobList) → CanMap page (suc more) t free jobs
    → changed u after now.pushed ≡ map_page page m (changed t free jobs.pushed) → HasTaken u after → now.room ≡ jobs.room
    → CanMap (page + 1) more u after now
maps_one page more m t u free after jobs now can e has room = some_root (root_of t) (CanMap (page + 1) more u after now) can.opened go
  where
    c : Changed
    c = changed t free jobs.pushed

    go : (root : ℕ) → root_of t ≡ Some root → CanMap (page + 1) more u after now
    go root r =
        let range = can.range in
        let low = can.low in
        let most : 67108864 ≤ 512 ^ levels_of t = reach t.top range in
        let lower = need_low t.top page more t.tables in
        let enough = can.need in
        let first : need t page 1 ≤ free_count free = omega (arith, lower, enough) in
        let maps : MapsPage page m c (changed u after now.pushed) = subst (λ d. MapsPage page m c d) (sym e) (mapping_takes_need page root m c r (omega (arith, low, most)) first) in
        let splits : need t page (suc more) ≡ need t page 1 + need u (page + 1) more = need_splits page root more m c r (omega (arith, low, most)) first ∙ ap (λ (d : Changed). need t page 1 + need d.tables (page + 1) more) (sym e) in
        let pushes = subst (λ (d : Changed). Pushes (2 * t.top + 1) c d) (sym e) (map_pushes page m c) in
        let more_pages = subst (λ (d : Changed). length d.tables.pages ≤ suc (length t.pages)) (sym e) (map_pages_more page m c) in
        let took = maps.taken in
        let pushed = pushes.jobs in
        let same_room = pushes.room in
        let left = can.left in
        let has_spare = can.spare in
        record {
          opened = rw maps.root can.opened;
          range = rw maps.top range;
          low = omega (arith, low);
          unmapped = λ k s. maps.pages (page + 1 + k) ∙ (let other : (page == page + 1 + k) ≡ false = grind (arith, nat_tests) in let at : page + 1 + k ≡ page + suc k = omega arith in rw other (rw at (can.unmapped (suc k) (omega (arith, s)))));
          left = omega (arith, left, more_pages, same_room);
          taken = has;
          need = omega (arith, took, splits, enough);
          spare = omega (arith, has_spare, pushed, room, range.1);
        }
