-- A share leaves the pages and tables of its process: its frames were free, and its pages are new.
use Rattle.std.proofs.Common.{ℕ, zero, suc, ◌+◌, ◌≡◌, ◌<◌, ◌≤◌, ◌==◌, ◌⊎◌, inl, inr, ⊎_elim, ltb, nat_lt, Bool, true, false, Option, Some, None, is_some, List, [], ◌∷◌, ◌++◌, length, map, take, slice_get, slice_set, arith, refl, sym, ap, ◌∙◌}
use Rattle.std.proofs.lemmas.Bool.Decides.{nat_tests}
use Rattle.osc_word.specs.declared.calls.Answer.TheVariants as answers
use Rattle.osc_word.specs.declared.settings.HeapKind.TheVariants.{Oscar}
use Rattle.osc_word.specs.AddressMap.{is_shared}
use Rattle.osc_sv39.specs.declared.entries.Mapping.{Mapping}
use Rattle.osc_slot.specs.Heap.{free_count}
use Rattle.osc_slot.proofs.Backing.{free_count-give, free_count-le}
use Rattle.osc_paging.specs.declared.Piece.{Piece}
use Rattle.osc_paging.specs.KeptTables.{mapping_at, piece_of, need}
use Rattle.osc_paging.specs.TableChanges.{Changed, zero_job, map_pages}
use Rattle.osc_paging.specs.CopyLaws.{IsNoTable, KeepsTaken}
use Rattle.osc_space.specs.LeafFlags.{read_write_at}
use Rattle.osc_space.specs.Space.{Draft, reason, first_reason}
use Rattle.osc_space.specs.Fork.{frame_of_page, free_numbers, set_free}
use Rattle.osc_space.specs.Share.{Regions, Sharing, shared_pages, shared_frames, next_shared_page, share_plan, share_reasons}
use Rattle.osc_space.specs.Agree.{AreApart, AllTaken, SpaceAgrees}
use Rattle.osc_parts.specs.Frames.{among, vacant, FramesFit}
use Rattle.osc_parts.specs.Settled.{tables_of, Settled}
use Rattle.osc_parts.specs.Jobs.{AllWriteWhere}
use Rattle.osc_parts.proofs.Counts.{once_apart, all_taken, taken_but, given_length}
use Rattle.osc_parts.proofs.Trading.{held_once, held_taken, vacant_once, there, vacant_there}
use Rattle.osc_parts.proofs.JobCounts.{length-mapped}
use Rattle.osc_parts.proofs.Settling.{settled_frames}
use Rattle.osc_parts.proofs.Blocks.{reads}
use Rattle.osc_parts.proofs.SharedPages.{among_take, among_free, numbers_count, length_take, Taken, taken}
use Rattle.osc_showing.specs.Showing.{Turned, IsPlain, AllRead}
use Rattle.osc_showing.proofs.Wiping.{wiped-turns}
use Rattle.osc_showing.proofs.Growing.{plain-turns, maps-other, maps-turns}
use Rattle.osc_showing.proofs.Plans.{start}
use Rattle.osc_relying.proofs.Heights.{share-same}
use Rattle.osc_lasting.proofs.Carried.{Carried, is-table, tables-turned}

-- ---- lists
given-count : (xs : List ℕ) (free : List Bool) → AreApart xs → AllTaken free xs → free_count (set_free true xs free) ≡ length xs + free_count free
given-count [] free a t = omega arith
given-count (x ∷ xs) free a t =
    let here = free_count-give free x t.0 in
    let later = given-count xs (slice_set free x true) a.1 (taken_but free x xs a.0 t.1) in
    omega (arith, here, later)

few-taken : (xs : List ℕ) (free : List Bool) → AreApart xs → AllTaken free xs → length xs ≤ length free
few-taken xs free a t =
    let c = given-count xs free a t in
    let l = free_count-le (set_free true xs free) in
    let e = given_length xs free in
    omega (arith, c, l, e)

zeroes-where : (own : ℕ → Type 0) (xs : List ℕ) → ((f : ℕ) → 0 < among f xs → own f) → AllWriteWhere own (map zero_job xs)
zeroes-where own [] h = tt
zeroes-where own (x ∷ xs) h = ((omega arith, h x (grind (arith, nat_tests))), zeroes-where own xs (λ f l. h f (omega (arith, l))))

all-read : (xs : List ℕ) → ((f : ℕ) → 0 < among f xs → f < 4096) → AllRead (map read_write_at xs)
all-read [] h = tt
all-read (x ∷ xs) h = (reads x (h x (grind (arith, nat_tests))), all-read xs (λ f l. h f (omega (arith, l))))

within : (free : List Bool) (f : ℕ) (b : Bool) → slice_get free f ≡ Some b → f < length free
within [] f b e = absurd (let z : ⊥ = grind (arith, e) in z)
within (x ∷ free) zero b e = omega arith
within (x ∷ free) (suc f) b e = let l = within free f b e in omega (arith, l)

module _ (batch : ℕ) (entries : ℕ → ℕ → ℕ) (words : List ℕ) (regions : Regions) (n : ℕ) (d : Draft) (settled : Settled Oscar batch entries words regions d) (none : d.jobs ≡ [])
    (needs : n + need d.space.tables (next_shared_page d.space.tables) n ≤ free_count d.free) where
  abbrev first : ℕ
  first = next_shared_page d.space.tables

  abbrev xs : List ℕ
  xs = take n (free_numbers d.free)

  abbrev ms : List Mapping
  ms = map read_write_at xs

  abbrev begun : Changed
  begun = record { tables = d.space.tables; free = set_free false xs d.free; jobs = d.jobs ++ map zero_job xs }

  abbrev done : Changed
  done = map_pages first ms begun

  was : SpaceAgrees Oscar d.space regions d.free
  was = settled.parts.agrees

  fit : FramesFit d.space d.free
  fit = settled_frames Oscar d.space regions d.free was

  small : length d.free ≤ 4096
  small = settled.tables.small

  -- ---- the frames
  xs_free : (f : ℕ) → among f xs ≤ vacant d.free f
  xs_free f = let a = among_take n f (free_numbers d.free) in let b = among_free d.free f in omega (arith, a, b)

  takes : Taken xs d.free (set_free false xs d.free)
  takes = taken xs d.free xs_free

  was_free : (f : ℕ) → 0 < among f xs → slice_get d.free f ≡ Some true
  was_free f l = vacant_there d.free f (let a = xs_free f in omega (arith, a, l))

  begun_takes : KeepsTaken d.free (set_free false xs d.free)
  begun_takes = record {
    size = takes.count;
    taken = λ f e. there d.free (set_free false xs d.free) f false e takes.count (none_vacant f (vacant_taken f e));
  }
    where
      vacant_taken : (f : ℕ) → slice_get d.free f ≡ Some false → vacant d.free f ≡ 0
      vacant_taken f e = grind (arith, e)

      none_vacant : (f : ℕ) → vacant d.free f ≡ 0 → vacant (set_free false xs d.free) f ≡ 0
      none_vacant f v = let t = takes.each f in omega (arith, t, v)

  no_table : (f : ℕ) → 0 < among f xs → IsNoTable d.space.tables f
  no_table f l = (go (piece_of d.space.tables.tables f) refl, ap (λ ts. piece_of ts f) was.aside)
    where
      go : (o : Option Piece) → piece_of d.space.tables.tables f ≡ o → o ≡ None
      go None e = refl
      go (Some p) e = absurd (let q : Some false ≡ Some true = sym (settled.tables.taken f p e) ∙ was_free f l in let z : ⊥ = grind (arith, q) in z)

  plain : (f : ℕ) → 0 < among f xs → IsPlain d.space.tables (set_free false xs d.free) f
  plain f l = (
    there d.free (set_free false xs d.free) f true (was_free f l) takes.count (let t = takes.each f in let o = vacant_once d.free f in omega (arith, t, o, l)),
    no_table f l,
  )

  -- ---- the pages
  size : length ms ≡ n
  size = length-mapped read_write_at xs ∙ length_take n (free_numbers d.free) (let a = numbers_count d.free in omega (arith, a, needs))

  end_low : first + length ms ≤ 0x1000000
  end_low =
      let pages = length-mapped frame_of_page (shared_pages d.space.tables) in
      let few = few-taken (shared_frames d.space.tables) d.free
      (once_apart (shared_frames d.space.tables) (λ f. (let o = held_once d.space d.free f fit in omega (arith, o))))
      (all_taken d.free (shared_frames d.space.tables) (λ f l. held_taken d.space d.free f fit (omega (arith, l)))) in
      let free = free_count-le d.free in
      let s = small in
      let z = size in
      omega (arith, pages, few, free, s, z, needs)

  -- a page that is mapped is none of the new ones
  apart : (q : ℕ) (m : Mapping) → mapping_at d.space.tables.pages q ≡ Some m → (q < first) ⊎ (first + length ms ≤ q)
  apart q m e = go (ltb q first) (ltb q (first + length ms)) refl refl
    where
      go : (a b : Bool) → ltb q first ≡ a → ltb q (first + length ms) ≡ b → (q < first) ⊎ (first + length ms ≤ q)
      go true b h l = inl (grind (arith, nat_tests, h))
      go false false h l = inr (grind (arith, nat_tests, l))
      go false true h l =
          let low : first ≤ q = grind (arith, nat_tests, h) in
          let high : q < first + length ms = grind (arith, nat_tests, l) in
          let end = end_low in
          let shared : is_shared q ≡ true = grind (arith, nat_tests, low, high, end) in
          let past : nat_lt q first ≡ false = grind (arith, nat_tests, low) in
          absurd (let c : true ≡ false = sym (ap is_some e) ∙ was.shared.first q shared ∙ past in let z : ⊥ = grind (arith, c) in z)

  unmapped : (q : ℕ) → first ≤ q → (mapping_at d.space.tables.pages q ≡ None) ⊎ (first + length ms ≤ q)
  unmapped q l = go (mapping_at d.space.tables.pages q) refl
    where
      go : (o : Option Mapping) → mapping_at d.space.tables.pages q ≡ o → (o ≡ None) ⊎ (first + length ms ≤ q)
      go None e = inl refl
      go (Some m) e = ⊎_elim (λ (h : q < first). absurd (omega (arith, h, l))) (λ (h : first + length ms ≤ q). inr h) (apart q m e)

  turned : Turned d.space.tables done.tables done.free done.jobs
  turned = maps-turns d.space.tables ms first begun
      (all-read xs (λ f l. (let a = within d.free f true (was_free f l) in let s = small in omega (arith, a, s)))) unmapped
      (plain-turns d.space.tables d.space.tables d.free (set_free false xs d.free) d.jobs (map zero_job xs) begun_takes
      (zeroes-where (IsPlain d.space.tables (set_free false xs d.free)) xs plain)
      (wiped-turns d.space.tables (tables_of d) (start batch entries words regions d settled none)))

  pub made-carried : (address : ℕ) → done.tables.top ≡ d.space.tables.top → Carried d.space (record (d.space) { tables = done.tables }) (answers.Number address) done.jobs
  made-carried address top = record {
    top = top;
    pages = λ q m e. inl (maps-other ms first q begun (apart q m e) ∙ e);
    goes_on = λ q f g. record { object = g.object; o = g.o; is = g.is; has = g.has; goes = g.goes; at = g.at };
    tables = tables-turned d.space.tables done.tables done.free done.jobs settled.tables.apart turned;
    made = λ l q f e. turned.made f (is-table d.space.tables.tables l q f e);
  }

-- where it is not refused
enough : (need free : ℕ) (b c : Bool) → nat_lt free need ≡ c → first_reason (reason b answers.Empty ∷ reason c answers.NoFrames ∷ []) ≡ None → need ≤ free
enough need free true c g f = absurd (let z : ⊥ = grind (arith, f) in z)
enough need free false true g f = absurd (let z : ⊥ = grind (arith, f) in z)
enough need free false false g f = grind (arith, nat_tests, g)

abbrev sharing_in : Regions → Draft → Sharing
sharing_in regions d = record { tables = d.space.tables; regions = regions; free = d.free; jobs = d.jobs }

pub share-carried : (batch : ℕ) (entries : ℕ → ℕ → ℕ) (words : List ℕ) (regions : Regions) (n address : ℕ) (d : Draft) → Settled Oscar batch entries words regions d → d.jobs ≡ []
    → first_reason (share_reasons n (sharing_in regions d)) ≡ None
    → Carried d.space (record (d.space) { tables = (share_plan n (sharing_in regions d)).tables }) (answers.Number address) (share_plan n (sharing_in regions d)).jobs
unfolding share_plan share_reasons
share-carried batch entries words regions n address d k none e =
    made-carried batch entries words regions n d k none
    (enough (n + need d.space.tables (next_shared_page d.space.tables) n) (free_count d.free) (n == 0) (nat_lt (free_count d.free) (n + need d.space.tables (next_shared_page d.space.tables) n)) refl e)
    address (share-same n (sharing_in regions d))
