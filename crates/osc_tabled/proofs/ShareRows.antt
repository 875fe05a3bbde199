-- The tables after a share that is not refused.
use Rattle.std.proofs.Common.{ℕ, suc, ◌+◌, ◌*◌, ◌^◌, ◌≡◌, ◌≢◌, ◌<◌, ◌≤◌, ◌==◌, ◌&&◌, ◌||◌, nat_le, nat_lt, not, Bool, true, false, Option, Some, None, is_some, List, [], ◌∷◌, ◌++◌, length, map, take, arith, refl, sym, ap, subst, ◌∙◌}
use Rattle.std.specs.List.{list_any, range_with_len}
use Rattle.std.proofs.lemmas.Bool.Decides.{nat_tests}
use Rattle.std.proofs.lemmas.List.Sums.{sum_by-cons}
use Rattle.std.proofs.lemmas.List.Folds.{list_any-append}
use Rattle.osc_word.specs.declared.calls.Answer.{Answer}
use Rattle.osc_word.specs.declared.calls.Answer.TheVariants as answer
use Rattle.osc_word.specs.declared.settings.HeapKind.{HeapKind}
use Rattle.osc_word.specs.AddressMap.{first_shared_page, first_shadow_page, is_shared}
use Rattle.osc_sv39.specs.declared.entries.Mapping.{Mapping}
use Rattle.osc_sv39.specs.Walk.{piece}
use Rattle.osc_image.specs.Frames.{stack_pages}
use Rattle.osc_slot.specs.Heap.{free_count}
use Rattle.osc_slot.proofs.Backing.{free_count-give, free_count-le}
use Rattle.osc_paging.specs.KeptTables.{KeptTables, mapping_at, need, root_of, levels_of}
use Rattle.osc_paging.specs.TableChanges.{Changed, zero_job, map_pages}
use Rattle.osc_space.specs.LeafFlags.{read_write_at}
use Rattle.osc_space.specs.Objects.{mark, leaf_given_up, facts, is_live, is_in_leaf}
use Rattle.osc_space.specs.Space.{Space, Draft, reason, first_reason}
use Rattle.osc_space.specs.Fork.{frame_of_page, free_numbers, set_free}
use Rattle.osc_space.specs.Share.{Regions, Sharing, hold, shared_pages, shared_frames, next_shared_page, share_plan, share_reasons}
use Rattle.osc_space.specs.Agree.{AreApart, AllTaken, SpaceAgrees}
use Rattle.osc_parts.specs.Frames.{among, vacant, FramesFit}
use Rattle.osc_parts.specs.Settled.{Settled}
use Rattle.osc_parts.specs.ShareLaws.{sharing_of, shared_draft, ShareFits}
use Rattle.osc_parts.proofs.Counts.{once_apart, all_taken, taken_but, given_length}
use Rattle.osc_parts.proofs.Trading.{held_once, held_taken}
use Rattle.osc_parts.proofs.JobCounts.{length-mapped}
use Rattle.osc_parts.proofs.Settling.{settled_frames}
use Rattle.osc_parts.proofs.MallocParts.{high_enough, some_root}
use Rattle.osc_parts.proofs.SharedPages.{among_take, among_free, numbers_count, length_take, Taken, taken, Shares, map_pages-shares}
use Rattle.osc_parts.proofs.ShareParts.{shares_fit}
use Rattle.osc_machine.specs.Replay.{Region, Ledger}
use Rattle.osc_machine.specs.Refusals.{Setting, region_pages, ever_mapped}
use Rattle.osc_ledger.specs.Tables.{has_piece, TablesTold}
use Rattle.osc_ledger.proofs.AddedTables.{Adds, pages-add, any-range, in-range, all-over}
use Rattle.osc_ledger.proofs.HasTables.{HasTables, added, same-tests}
use Rattle.osc_ledger.proofs.HeapRows.{Has}
use Rattle.osc_tabled.proofs.EverMapped.{ever-shared}

-- as many different frames as are taken are no more than all frames
given-count : (xs : List ℕ) (free : List Bool) → AreApart xs → AllTaken free xs → free_count (set_free true xs free) ≡ length xs + free_count free
given-count [] free a t = omega arith
given-count (x ∷ xs) free a t =
    let here = free_count-give free x t.0 in
    let later = given-count xs _ a.1 (taken_but free x xs a.0 t.1) in
    omega (arith, here, later)

few-taken : (xs : List ℕ) (free : List Bool) → AreApart xs → AllTaken free xs → length xs ≤ length free
few-taken xs free a t =
    let c = given-count xs free a t in
    let l = free_count-le (set_free true xs free) in
    let e = given_length xs free in
    omega (arith, c, l, e)

-- ---- the tables
module _ (kind : HeapKind) (batch : ℕ) (entries : ℕ → ℕ → ℕ) (words : List ℕ) (regions : Regions) (n : ℕ) (d : Draft) (settled : Settled kind batch entries words regions d)
    (wanted : first_reason (share_reasons n (sharing_of regions d)) ≡ None) where
  abbrev first : ℕ
  first = next_shared_page d.space.tables

  abbrev xs : List ℕ
  xs = take n (free_numbers d.free)

  abbrev begun : Changed
  begun = record { tables = d.space.tables; free = set_free false xs d.free; jobs = d.jobs ++ map zero_job xs }

  abbrev ms : List Mapping
  ms = map read_write_at xs

  abbrev now : Sharing
  now = share_plan n (sharing_of regions d)

  now-is : now.tables ≡ (map_pages first ms begun).tables
  unfolding share_plan
  now-is = refl

  needs : n + need d.space.tables first n ≤ free_count d.free
  unfolding share_reasons
  needs = below (n == 0) (nat_lt (free_count d.free) (n + need d.space.tables first n)) refl wanted
    where
      below : (b c : Bool) → nat_lt (free_count d.free) (n + need d.space.tables first n) ≡ c → first_reason (reason b answer.Empty ∷ reason c answer.NoFrames ∷ []) ≡ None
          → n + need d.space.tables first n ≤ free_count d.free
      below true c e f = absurd (let z : ⊥ = grind (arith, f) in z)
      below false true e f = absurd (let z : ⊥ = grind (arith, f) in z)
      below false false e f = grind (arith, nat_tests, e)

  fits : ShareFits kind batch entries words regions n d now
  fits = shares_fit kind batch entries words regions n d settled wanted

  was : SpaceAgrees kind d.space regions d.free
  was = settled.parts.agrees

  start : FramesFit d.space d.free
  start = settled_frames kind d.space regions d.free was

  taking : Taken xs d.free (set_free false xs d.free)
  taking = taken xs d.free (λ f. (let a = among_take n f (free_numbers d.free) in let b = among_free d.free f in omega (arith, a, b)))

  size : length xs ≡ n
  size = length_take n (free_numbers d.free) (let a = numbers_count d.free in let b = needs in omega (arith, a, b))

  ms-size : length ms ≡ n
  ms-size = length-mapped read_write_at xs ∙ size

  shared-few : length (shared_pages d.space.tables) ≤ length d.free
  shared-few =
      let a = length-mapped frame_of_page (shared_pages d.space.tables) in
      let b = few-taken (shared_frames d.space.tables) d.free
      (once_apart (shared_frames d.space.tables) (λ f. (let o = held_once d.space d.free f start in omega (arith, o))))
      (all_taken d.free (shared_frames d.space.tables) (λ f l. held_taken d.space d.free f start (omega (arith, l)))) in
      omega (arith, a, b)

  low-end : first + n ≤ 0x203000
  low-end = let a = shared-few in let b = free_count-le d.free in let c = needs in let e = settled.tables.small in omega (arith, a, b, c, e)

  levels : first + length ms ≤ 512 ^ levels_of d.space.tables
  levels = let a = high_enough d.space.tables.top settled.parts.levels in let b = low-end in let c = ms-size in omega (arith, a, b, c)

  enough : need d.space.tables first (length ms) ≤ free_count (set_free false xs d.free)
  enough = let a = taking.fewer in let b = ap (need d.space.tables first) ms-size in let c = size in let e = needs in omega (arith, a, b, c, e)

  unmapped : (q : ℕ) → first ≤ q → q < first + length ms → mapping_at d.space.tables.pages q ≡ None
  unmapped q l u =
      let shared : is_shared q ≡ true = (let e = low-end in let c = ms-size in grind (arith, nat_tests, l, (let z : q < 0x1000000 = omega (arith, u, e, c) in z))) in
      none (mapping_at d.space.tables.pages q) (was.shared.first q shared ∙ (grind (arith, nat_tests, l)))
    where
      none : (x : Option Mapping) → is_some x ≡ false → x ≡ None
      none None e = refl
      none (Some y) e = absurd (let z : ⊥ = grind (arith, e) in z)

  pub shared-more : length (shared_pages now.tables) ≡ length (shared_pages d.space.tables) + n
  shared-more =
      let r = some_root (root_of d.space.tables) was.root in
      let e = low-end in let c = ms-size in
      let more : Shares d.space ms begun (map_pages first ms begun) = map_pages-shares d.space r.0 ms first begun (omega arith) (omega (arith, e, c)) unmapped r.1 levels enough in
      let pages = more.pages in
      ap (λ t. length (shared_pages t)) now-is ∙ (let z : length (shared_pages (map_pages first ms begun).tables) ≡ length (shared_pages d.space.tables) + n = omega (arith, pages, c) in z)

  adds : Adds (range_with_len first n) d.space.tables now.tables
  adds =
      subst (λ t. Adds (range_with_len first n) d.space.tables t) (sym now-is)
      (subst (λ c. Adds (range_with_len first c) d.space.tables (map_pages first ms begun).tables) ms-size (pages-add first ms begun))

  mapped : (page : ℕ) → first ≤ page → page < first + n → mapping_at now.tables.pages page ≢ None
  mapped page l u none =
      let e = low-end in let more = shared-more in
      let shared : is_shared page ≡ true = grind (arith, nat_tests, l, (let z : page < 0x1000000 = omega (arith, u, e) in z)) in
      let there : nat_lt page (next_shared_page now.tables) ≡ true = grind (arith, nat_tests, (let z : page < next_shared_page now.tables = omega (arith, u, more) in z)) in
      let is : is_some (mapping_at now.tables.pages page) ≡ true = fits.settled.parts.agrees.shared.first page shared ∙ there in
      let gone : false ≡ true = sym (ap (λ (o : Option Mapping). is_some o) none) ∙ is in
      (let z : ⊥ = grind (arith, gone) in z)

  -- no leaf table over shadows is over these pages
  kept : (l : Ledger) (leaf : ℕ) → has_piece 0 leaf (range_with_len first n) ≡ true → leaf_given_up l.objects l.waiting leaf ≡ false
  kept l leaf e =
      let r = in-range (λ page. piece 1 page == leaf) first n e in
      let passes = r.passes in let high = r.high in let end = low-end in
      let early : nat_le first_shadow_page (512 * leaf) ≡ false = grind (arith, nat_tests, (let z : 512 * leaf < first_shadow_page = low leaf r.page (grind (arith, nat_tests, passes)) (omega (arith, high, end)) in z)) in
      none (nat_le first_shadow_page (512 * leaf)) _ _ _ early
    where
      low : (leaf page : ℕ) → piece 1 page ≡ leaf → page < 0x203000 → 512 * leaf < first_shadow_page
      low leaf page f less = omega (arith, f, less)

      none : (a b c e : Bool) → a ≡ false → (((a && b) && c) && e) ≡ false
      none true b c e f = absurd (let z : ⊥ = grind (arith, f) in z)
      none false b c e f = refl

  pub share-told : (s : Setting) (l : Ledger) (call : ℕ) → TablesTold s l d.space.tables → TablesTold s (record l { regions = (record { call = call; pages = n }) ∷ l.regions }) now.tables
  share-told s l call told = record {
    levels = ap suc adds.top ∙ told.levels;
    below = has.below;
    above = has.above;
    regions = (let a = shared-more in let b = told.regions in let c = new in omega (arith, a, b, c));
  }
    where
      m : Ledger
      m = record l { regions = (record { call = call; pages = n }) ∷ l.regions }

      sums : (n : ℕ) (rs : List Region) → region_pages ((record { call = call; pages = n }) ∷ rs) ≡ region_pages rs + n
      sums n rs = let z = sum_by-cons (λ (r : Region). r.pages) (record { call = call; pages = n }) rs in omega (arith, z)

      new : region_pages m.regions ≡ region_pages l.regions + n
      new = sums n l.regions

      starts : first ≡ first_shared_page + region_pages l.regions
      starts = ap (λ c. first_shared_page + c) told.regions

      has : Has s m now.tables
      has =
          same-tests (λ level number. has_piece level number (range_with_len first n) || has_piece level number (ever_mapped s l)) (λ level number. has_piece level number (ever_mapped s m))
          (λ leaf. leaf_given_up l.objects l.waiting leaf) (λ leaf. leaf_given_up m.objects m.waiting leaf) now.tables
          (λ level number. ever-shared s l m n refl refl new level number ∙ ap (λ f. has_piece level number (range_with_len f n) || has_piece level number (ever_mapped s l)) (sym starts)) (λ leaf. refl)
          (added (λ level number. has_piece level number (ever_mapped s l)) (λ leaf. leaf_given_up l.objects l.waiting leaf) (range_with_len first n) d.space.tables now.tables
          (record { below = told.below; above = told.above }) adds
          (λ level number less e. all-over now.tables now.free _ first n level number fits.settled.tables mapped (omega (arith, less)) e)
          (λ leaf e. kept l leaf e))
