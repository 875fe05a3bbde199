-- A share that is not refused: what it makes of a process's parts, and of the others.
use Rattle.std.proofs.Common.{ℕ, zero, suc, ◌+◌, ◌-◌, ◌*◌, ◌/◌, ◌^◌, ◌≡◌, ◌<◌, ◌≤◌, ◌==◌, nat_lt, nat_le, ◌&&◌, Bool, true, false, cond, Option, Some, None, is_some, option_map, List, [], ◌∷◌, ◌++◌, length, map, take, slice_get, slice_set, arith, refl, ap, sym, ◌∙◌, subst}
use Rattle.std.proofs.lemmas.Bool.Decides.{nat_tests}
use Rattle.std.proofs.lemmas.Option.{slice_get-map}
use Rattle.osc_word.specs.declared.calls.Answer.{Answer}
use Rattle.osc_word.specs.declared.calls.Answer.TheVariants as answer
use Rattle.osc_word.specs.declared.job_list.Job.{Job}
use Rattle.osc_word.specs.declared.settings.HeapKind.{HeapKind}
use Rattle.osc_word.specs.declared.settings.HeapKind.TheVariants.{Oscar, Plain}
use Rattle.osc_word.specs.AddressMap.{is_shared, is_in_map}
use Rattle.osc_sv39.specs.declared.entries.Mapping.{Mapping}
use Rattle.osc_slot.specs.Heap.{free_count}
use Rattle.osc_slot.proofs.Backing.{free_count-give, free_count-le}
use Rattle.osc_paging.specs.JobWords.{words_after}
use Rattle.osc_paging.specs.KeptTables.{mapping_at, need, root_of, levels_of}
use Rattle.osc_paging.specs.TableChanges.{Changed, zero_job, map_pages}
use Rattle.osc_paging.specs.TableLaws.{MapsPages}
use Rattle.osc_paging.specs.Agree.{Agrees, AgreesAfter}
use Rattle.osc_paging.specs.CopyLaws.{IsNoTable, KeepsTaken}
use Rattle.osc_paging.proofs.WordLists.{words_after-append}
use Rattle.osc_paging.proofs.Elsewhere.{taking_keeps, jobs_elsewhere_keep}
use Rattle.osc_paging.proofs.Others.{work_elsewhere_keeps}
use Rattle.osc_paging.proofs.TableLawProofs.{mappings_map_pages, mappings_take_need}
use Rattle.osc_space.specs.LeafFlags.{read_write_at}
use Rattle.osc_space.specs.Space.{Space, Draft, reason, first_reason}
use Rattle.osc_space.specs.Fork.{frame_of_page, free_numbers, set_free}
use Rattle.osc_space.specs.Share.{Regions, holders, hold, shared_pages, shared_frames, next_shared_page, share_frames, share_plan, share_reasons}
use Rattle.osc_space.specs.Agree.{AreApart, AllTaken, HeapAgrees, SpaceAgrees}
use Rattle.osc_space.proofs.ObjectLawProofs.{pages_are_granted_once}
use Rattle.osc_parts.specs.Frames.{one_at, among, vacant, one_where, frames_held, frames_mapped, FramesFit}
use Rattle.osc_parts.specs.Settled.{tables_of, PartsFit, Settled}
use Rattle.osc_parts.specs.Jobs.{AllWriteWhere, Pushed}
use Rattle.osc_parts.specs.OthersFit.{HoldsApart, StandsBeside}
use Rattle.osc_parts.specs.ShareLaws.{sharing_of, ShareFits, SharesFit}
use Rattle.osc_parts.proofs.Counts.{among-append, once_apart, all_taken, taken_but, given_length}
use Rattle.osc_parts.proofs.Trading.{held_is, held_once, held_taken, fits, there, vacant_there, quiet_apart, quiet_taken}
use Rattle.osc_parts.proofs.Shapes.{Adds, AllRead, map_pages-adds, map_pages-agrees, map_pages-taken}
use Rattle.osc_parts.proofs.JobCounts.{IsOf, pushed_both, pushed_weaker, map_pages-links, length-mapped}
use Rattle.osc_parts.proofs.Settling.{Unheld, settled_frames}
use Rattle.osc_parts.proofs.Blocks.{no_piece, reads, all_weaker, all_elsewhere}
use Rattle.osc_parts.proofs.Giving.{agrees_fit}
use Rattle.osc_parts.proofs.MallocParts.{high_enough, some_root}
use Rattle.osc_parts.proofs.SharedPages.{among_take, among_free, numbers_count, length_take, Taken, taken, hold_length, hold_each, Shares, map_pages-shares}

-- ---- lists
given_count : (xs : List ℕ) (free : List Bool) → AreApart xs → AllTaken free xs → free_count (set_free true xs free) ≡ length xs + free_count free
given_count [] free a t = omega arith
given_count (x ∷ xs) free a t =
    let here = free_count-give free x t.0 in
    let later = given_count xs (slice_set free x true) a.1 (taken_but free x xs a.0 t.1) in
    omega (arith, here, later)

few_taken : (xs : List ℕ) (free : List Bool) → AreApart xs → AllTaken free xs → length xs ≤ length free
few_taken xs free a t =
    let c = given_count xs free a t in
    let l = free_count-le (set_free true xs free) in
    let e = given_length xs free in
    omega (arith, c, l, e)

frames_back : (f : ℕ) (xs : List ℕ) → among f (map (λ (m : Mapping). m.frame) (map read_write_at xs)) ≡ among f xs
frames_back f [] = refl
frames_back f (x ∷ xs) = ap (λ n. one_at x f + n) (frames_back f xs)

get_counts : (xs : List ℕ) (i x : ℕ) → slice_get xs i ≡ Some x → 0 < among x xs
get_counts [] i x e = absurd (let z : ⊥ = grind (arith, e) in z)
get_counts (y ∷ xs) zero x e = let same : y ≡ x = cc in grind (arith, nat_tests, same)
get_counts (y ∷ xs) (suc i) x e = let l = get_counts xs i x e in omega (arith, l)

get_some : {X : Type 0} (xs : List X) (i : ℕ) → i < length xs → is_some (slice_get xs i) ≡ true
get_some [] i l = absurd (omega arith)
get_some (x ∷ xs) zero l = refl
get_some (x ∷ xs) (suc i) l = get_some xs i (omega (arith, l))

all_read : (xs : List ℕ) → ((f : ℕ) → 0 < among f xs → f < 4096) → AllRead (map read_write_at xs)
all_read [] h = tt
all_read (x ∷ xs) h = (reads x (h x (grind (arith, nat_tests))), all_read xs (λ f l. h f (omega (arith, l))))

zeroes_where : (own : ℕ → Type 0) (xs : List ℕ) → ((f : ℕ) → 0 < among f xs → own f) → AllWriteWhere own (map zero_job xs)
zeroes_where own [] h = tt
zeroes_where own (x ∷ xs) h = ((omega arith, h x (grind (arith, nat_tests))), zeroes_where own xs (λ f l. h f (omega (arith, l))))

small_at : (free : List Bool) (f : ℕ) (b : Bool) → slice_get free f ≡ Some b → f < length free
small_at [] f b e = absurd (let z : ⊥ = grind (arith, e) in z)
small_at (x ∷ free) zero b e = omega arith
small_at (x ∷ free) (suc f) b e = let l = small_at free f b e in omega (arith, l)

not_wanted : (b c : Bool) (x y : Answer) → first_reason (reason b x ∷ reason c y ∷ []) ≡ None → c ≡ false
not_wanted true c x y e = absurd (let z : ⊥ = grind (arith, e) in z)
not_wanted false true x y e = absurd (let z : ⊥ = grind (arith, e) in z)
not_wanted false false x y e = refl

module _ (kind : HeapKind) (batch : ℕ) (entries : ℕ → ℕ → ℕ) (words : List ℕ) (regions : Regions) (n : ℕ) (d : Draft) (settled : Settled kind batch entries words regions d)
    (needs : n + need d.space.tables (next_shared_page d.space.tables) n ≤ free_count d.free) where
  abbrev first : ℕ
  first = next_shared_page d.space.tables

  abbrev xs : List ℕ
  xs = take n (free_numbers d.free)

  abbrev begun : Changed
  begun = record { tables = d.space.tables; free = set_free false xs d.free; jobs = d.jobs ++ map zero_job xs }

  abbrev ms : List Mapping
  ms = map read_write_at xs

  abbrev done : Changed
  done = map_pages first ms begun

  abbrev held_by : Regions
  held_by = hold xs regions

  abbrev after : Draft
  after = record { space = record (d.space) { tables = done.tables }; free = done.free; jobs = done.jobs }

  was : SpaceAgrees kind d.space regions d.free
  was = settled.parts.agrees

  start : FramesFit d.space d.free
  start = settled_frames kind d.space regions d.free was

  xs_free : (f : ℕ) → among f xs ≤ vacant d.free f
  xs_free f = let a = among_take n f (free_numbers d.free) in let b = among_free d.free f in omega (arith, a, b)

  takes : Taken xs d.free (set_free false xs d.free)
  takes = taken xs d.free xs_free

  size : length xs ≡ n
  size = length_take n (free_numbers d.free) (let a = numbers_count d.free in omega (arith, a, needs))

  ms_size : length ms ≡ n
  ms_size = length-mapped read_write_at xs ∙ size

  need_size : need d.space.tables first (length ms) ≡ need d.space.tables first n
  need_size = ap (need d.space.tables first) ms_size

  small : length d.free ≤ 4096
  small = settled.tables.small

  shared_few : length (shared_pages d.space.tables) ≤ length d.free
  shared_few =
      let a = length-mapped frame_of_page (shared_pages d.space.tables) in
      let b = few_taken (shared_frames d.space.tables) d.free
      (once_apart (shared_frames d.space.tables) (λ f. (let o = held_once d.space d.free f start in omega (arith, o))))
      (all_taken d.free (shared_frames d.space.tables) (λ f l. held_taken d.space d.free f start (omega (arith, l)))) in
      omega (arith, a, b)

  n_few : n ≤ length d.free
  n_few = let a = free_count-le d.free in omega (arith, a, needs)

  enough : need d.space.tables first (length ms) ≤ free_count (set_free false xs d.free)
  enough = let a = takes.fewer in let b = need_size in let c = size in omega (arith, a, b, c, needs)

  in_levels : first + length ms ≤ 512 ^ levels_of d.space.tables
  in_levels = let a = high_enough d.space.tables.top settled.parts.levels in let b = shared_few in let c = n_few in let e = ms_size in let s = small in omega (arith, a, b, c, e, s)

  end_low : first + length ms ≤ 0x1000000
  end_low = let b = shared_few in let c = n_few in let e = ms_size in let s = small in omega (arith, b, c, e, s)

  unmapped : (q : ℕ) → first ≤ q → q < first + length ms → mapping_at d.space.tables.pages q ≡ None
  unmapped q l u = none (mapping_at d.space.tables.pages q) (was.shared.first q (let e = end_low in grind (arith, nat_tests, l, u, e)) ∙ (grind (arith, nat_tests, l)))
    where
      none : {X : Type 0} (x : Option X) → is_some x ≡ false → x ≡ None
      none None e = refl
      none (Some y) e = absurd (let z : ⊥ = grind (arith, e) in z)

  shares : Shares d.space ms begun done
  shares =
      let r = some_root (root_of d.space.tables) was.root in
      map_pages-shares d.space r.0 ms first begun (omega arith) end_low unmapped r.1 in_levels enough

  maps : MapsPages first ms begun done
  maps = let r = some_root (root_of d.space.tables) was.root in mappings_map_pages first r.0 ms begun r.1 in_levels enough

  -- ---- frames
  all_count : (f : ℕ) → among f (frames_held after.space) + among f (shared_frames after.space.tables) + vacant after.free f ≡ among f (frames_held d.space) + among f (shared_frames d.space.tables) + vacant d.free f
  all_count f = let a = shares.each f in let b = shares.more f in let c = takes.each f in let e = frames_back f xs in omega (arith, a, b, c, e)

  shared_more : (f : ℕ) → among f (shared_frames after.space.tables) ≡ among f (shared_frames d.space.tables) + among f xs
  shared_more f = let b = shares.more f in let e = frames_back f xs in omega (arith, b, e)

  free_size : length after.free ≡ length d.free
  free_size = shares.count ∙ takes.count

  fit : FramesFit after.space after.free
  fit = fits after.space after.free
      (λ f. (let a = all_count f in let b = held_once d.space d.free f start in omega (arith, a, b)))
      (λ f l. by f l (among f (frames_held d.space) + among f (shared_frames d.space.tables)) refl)
    where
      by : (f : ℕ) → 0 < among f (frames_held after.space) + among f (shared_frames after.space.tables) → (x : ℕ) → among f (frames_held d.space) + among f (shared_frames d.space.tables) ≡ x → slice_get after.free f ≡ Some false
      by f l zero e = let a = all_count f in let b = held_once d.space d.free f start in there d.free after.free f true (vacant_there d.free f (omega (arith, a, e, l))) free_size (omega (arith, a, b, e, l))
      by f l (suc x) e = let a = all_count f in let b = held_once d.space d.free f start in there d.free after.free f false (held_taken d.space d.free f start (omega (arith, e))) free_size (omega (arith, a, b, e, l))

  only_takes : KeepsTaken d.free after.free
  only_takes = record {
    size = free_size;
    taken = λ f e. by f e;
  }
    where
      by : (f : ℕ) → slice_get d.free f ≡ Some false → slice_get after.free f ≡ Some false
      by f e =
          let v : vacant d.free f ≡ 0 = ap one_where e in
          let t = takes.each f in
          map_pages-taken ms first begun f (there d.free (set_free false xs d.free) f false e takes.count (omega (arith, t, v)))

  begun_takes : KeepsTaken d.free (set_free false xs d.free)
  begun_takes = record { size = takes.count; taken = λ f e. (let v : vacant d.free f ≡ 0 = ap one_where e in let t = takes.each f in there d.free (set_free false xs d.free) f false e takes.count (omega (arith, t, v))) }

  -- ---- holders
  xs_within : (f : ℕ) → 0 < among f xs → slice_get d.free f ≡ Some true
  xs_within f l = vacant_there d.free f (let a = xs_free f in omega (arith, a, l))

  holds : (f : ℕ) → holders held_by f ≡ holders regions f + among f xs
  holds f = hold_each xs regions f (λ g l. (let a = small_at d.free g true (xs_within g l) in let c = was.shared.count in omega (arith, a, c)))

  none_held : (f : ℕ) → 0 < among f (frames_held d.space) + vacant d.free f → holders regions f ≡ 0
  none_held f l = go (among f (frames_held d.space)) refl
    where
      go : (x : ℕ) → among f (frames_held d.space) ≡ x → holders regions f ≡ 0
      go zero e = was.shared.unheld f (vacant_there d.free f (omega (arith, l, e)))
      go (suc x) e = settled.parts.private f (omega (arith, e))

  unheld : Unheld after.space held_by after.free
  unheld = record {
    free_ones = λ f e. (let v : vacant after.free f ≡ 1 = ap one_where e in let a = all_count f in let b = held_once d.space d.free f start in let c = shared_more f in let g = shares.each f in let t = takes.each f in let h = holds f in
        let z = none_held f (omega (arith, g, t, v)) in omega (arith, a, b, c, v, h, z));
    own_ones = λ f l. (let a = all_count f in let b = held_once d.space d.free f start in let c = shared_more f in let g = shares.each f in let t = takes.each f in let h = holds f in
        let z = none_held f (omega (arith, g, t, l)) in omega (arith, a, b, c, l, h, z));
  }

  -- ---- pages
  abbrev is_new : ℕ → Bool
  is_new q = nat_le first q && nat_lt q (first + n)

  mapped_now : (q : ℕ) → mapping_at after.space.tables.pages q ≡ cond (is_new q) (slice_get ms (q - first)) (mapping_at d.space.tables.pages q)
  mapped_now q =
      subst (λ len. mapping_at after.space.tables.pages q ≡ cond (nat_le first q && nat_lt q (first + len)) (slice_get ms (q - first)) (mapping_at d.space.tables.pages q)) ms_size
      (maps.pages q)

  old_page : (q : ℕ) → is_new q ≡ false → mapping_at after.space.tables.pages q ≡ mapping_at d.space.tables.pages q
  old_page q e = mapped_now q ∙ ap (λ b. cond b (slice_get ms (q - first)) (mapping_at d.space.tables.pages q)) e

  new_some : (q : ℕ) → is_new q ≡ true → is_some (mapping_at after.space.tables.pages q) ≡ true
  new_some q e =
      let l : first ≤ q = grind (arith, nat_tests, e) in
      let u : q < first + n = grind (arith, nat_tests, e) in
      let s = ms_size in
      ap is_some (mapped_now q ∙ ap (λ b. cond b (slice_get ms (q - first)) (mapping_at d.space.tables.pages q)) e) ∙ get_some ms (q - first) (omega (arith, l, u, s))

  next_now : next_shared_page after.space.tables ≡ first + n
  next_now = let a = shares.pages in let b = ms_size in omega (arith, a, b)

  first_now : (q : ℕ) → is_shared q ≡ true → is_some (mapping_at after.space.tables.pages q) ≡ nat_lt q (next_shared_page after.space.tables)
  first_now q s = go (is_new q) refl
    where
      go : (b : Bool) → is_new q ≡ b → is_some (mapping_at after.space.tables.pages q) ≡ nat_lt q (next_shared_page after.space.tables)
      go true e = new_some q e ∙ sym (ap (nat_lt q) next_now ∙ (grind (arith, nat_tests, e)))
      go false e = ap is_some (old_page q e) ∙ was.shared.first q s ∙ sym (ap (nat_lt q) next_now ∙ (grind (arith, nat_tests, e)))

  frame_in : (i : ℕ) (m : Mapping) → slice_get ms i ≡ Some m → 0 < among m.frame xs
  frame_in i m e = go (slice_get xs i) refl (sym (slice_get-map read_write_at xs i) ∙ e)
    where
      go : (x : Option ℕ) → slice_get xs i ≡ x → option_map read_write_at x ≡ Some m → 0 < among m.frame xs
      go None f g = absurd (let z : ⊥ = grind (arith, g) in z)
      go (Some x) f g = let same : read_write_at x ≡ m = cc in subst (λ (y : Mapping). 0 < among y.frame xs) same (get_counts xs i x f)

  held_now : (q : ℕ) (m : Mapping) → is_shared q ≡ true → mapping_at after.space.tables.pages q ≡ Some m → 0 < holders held_by m.frame
  held_now q m s e = go (is_new q) refl
    where
      go : (b : Bool) → is_new q ≡ b → 0 < holders held_by m.frame
      go true f =
          let at : slice_get ms (q - first) ≡ Some m = sym (mapped_now q ∙ ap (λ b. cond b (slice_get ms (q - first)) (mapping_at d.space.tables.pages q)) f) ∙ e in
          let l = frame_in (q - first) m at in let h = holds m.frame in omega (arith, l, h)
      go false f = let l = was.shared.held q m s (sym (old_page q f) ∙ e) in let h = holds m.frame in omega (arith, l, h)

  out : (q : ℕ) → 0x1000000 ≤ q → is_new q ≡ false
  out q l = let a = end_low in let b = ms_size in grind (arith, nat_tests, l, a, b)

  adds : Adds d.space.tables after.space.tables
  adds = map_pages-adds ms first begun

  -- ---- objects
  heap_now : (k : HeapKind) → HeapAgrees k d.space → HeapAgrees k after.space
  heap_now Oscar g = record {
    granted = g.granted;
    limit = g.limit;
    canonical = λ q c. old_page q (out q (grind (arith, nat_tests, c))) ∙ g.canonical q c;
    shadows = λ q c. ap is_some (old_page q (out q (grind (arith, nat_tests, c)))) ∙ g.shadows q c;
    held = g.held;
    own = g.own;
    backed = λ b h. (let x = g.backed b h in record { object = x.object; of = x.of; kept = x.kept; is = x.is });
    pages = g.pages;
    mapped = λ a i o l less. old_page (o.first + i) (out (o.first + i) (let w = ((pages_are_granted_once d.space.objects g.granted).within a o l.0).0 in omega (arith, w))) ∙ g.mapped a i o l less;
    small = g.small;
    waiting = record {
      few = g.waiting.few;
      apart = g.waiting.apart;
      known = g.waiting.known;
      dead = g.waiting.dead;
      linked = λ a q o w f h. adds.linked 0 (q / 512) (g.waiting.linked a q o w f h);
    };
  }
  heap_now Plain g = record {
    objects = g.objects;
    waiting = g.waiting;
    shadows = λ q c. old_page q (out q (grind (arith, nat_tests, c))) ∙ g.shadows q c;
    canonical = λ q c. old_page q (out q (grind (arith, nat_tests, c))) ∙ g.canonical q c;
  }

  ranges_now : (q : ℕ) → is_some (mapping_at after.space.tables.pages q) ≡ true → is_in_map q ≡ true
  ranges_now q m = go (is_new q) refl
    where
      go : (b : Bool) → is_new q ≡ b → is_in_map q ≡ true
      go true e = let a = end_low in let b = ms_size in grind (arith, nat_tests, a, b, e)
      go false e = was.ranges q (sym (ap is_some (old_page q e)) ∙ m)

  parts : PartsFit kind batch held_by after.space after.free
  parts = record {
    agrees = record {
      frames = was.frames ∙ sym free_size;
      count = adds.shape.count ∙ was.count ∙ sym free_size;
      room = adds.shape.room ∙ was.room ∙ ap (λ l. l + d.space.shadows) (sym free_size);
      root = ap is_some maps.root ∙ was.root;
      aside = adds.aside ∙ was.aside;
      heap = heap_now kind was.heap;
      shared = record { count = hold_length xs regions ∙ was.shared.count ∙ sym free_size; first = first_now; held = held_now; unheld = unheld.free_ones };
      ranges = ranges_now;
      apart = quiet_apart after.space after.free (adds.aside ∙ was.aside) fit;
      taken = quiet_taken after.space after.free (adds.aside ∙ was.aside) fit;
    };
    heap = settled.parts.heap;
    levels = (let a = settled.parts.levels in let b = adds.shape.top in omega (arith, a, b));
    shadows = settled.parts.shadows;
    few = settled.parts.few;
    waits = settled.parts.waits;
    private = unheld.own_ones;
  }

  -- ---- words
  free_no_table : (f : ℕ) → 0 < among f xs → IsNoTable d.space.tables f
  free_no_table f l =
      let v = xs_free f in let o = held_once d.space d.free f start in let a = held_is f d.space in
      (no_piece f d.space.tables.tables (omega (arith, l, v, o, a)), no_piece f d.space.tables.aside (omega (arith, l, v, o, a)))

  begun_agrees : AgreesAfter entries words begun
  begun_agrees =
      work_elsewhere_keeps entries words (record { tables = d.space.tables; free = set_free false xs d.free; jobs = d.jobs }) (map zero_job xs)
      (taking_keeps d.space.tables d.free (set_free false xs d.free) _ settled.tables begun_takes)
      (all_elsewhere d.space.tables (map zero_job xs) (zeroes_where (IsNoTable d.space.tables) xs free_no_table))

  agrees : AgreesAfter entries words (tables_of after)
  agrees = map_pages-agrees entries words ms first begun (all_read xs (λ f l. (let a = small_at d.free f true (xs_within f l) in let s = small in omega (arith, a, s)))) begun_agrees

  -- ---- jobs
  mapped_is : (f : ℕ) → among f (frames_mapped after.space) ≡ among f (frames_held after.space) + among f (shared_frames after.space.tables)
  mapped_is f = among-append f (frames_held after.space) (shared_frames after.space.tables)

  is_one : (f : ℕ) → 0 < among f (frames_held after.space) + among f (shared_frames after.space.tables) → among f (frames_mapped after.space) ≡ 1
  is_one f l = let a = mapped_is f in let b = held_once after.space after.free f fit in omega (arith, a, b, l)

  pushes : Pushed (λ frame. among frame (frames_mapped after.space) ≡ 1) d.jobs after.jobs (8 * length d.free + 64)
  pushes =
      let own : ℕ → Type 0 = λ f. among f (frames_mapped after.space) ≡ 1 in
      let l = map_pages-links ms first begun in
      let zeros = length-mapped zero_job xs in
      let one : Pushed (λ f. among f (frames_mapped after.space) ≡ 1) d.jobs begun.jobs n = record {
        more = map zero_job xs;
        is = refl;
        few = (let s = size in omega (arith, zeros, s));
        within = zeroes_where (λ f. among f (frames_mapped after.space) ≡ 1) xs (λ f g. is_one f (let c = shared_more f in omega (arith, c, g)));
      } in
      let two = pushed_weaker (IsOf after.space.tables.tables) (λ f. among f (frames_mapped after.space) ≡ 1) begun.jobs after.jobs l.count l.count (λ f g. is_one f (let a = held_is f after.space in omega (arith, a, g))) (omega arith) l.pushed in
      let all = pushed_both (λ f. among f (frames_mapped after.space) ≡ 1) d.jobs begun.jobs after.jobs n l.count one two in
      let most = l.few in
      let some = free_count-le (set_free false xs d.free) in
      let len = takes.count in
      let few = n_few in
      let m = ms_size in
      pushed_weaker (λ f. among f (frames_mapped after.space) ≡ 1) (λ f. among f (frames_mapped after.space) ≡ 1) d.jobs after.jobs (n + l.count) (8 * length d.free + 64) (λ f g. g) (omega (arith, most, some, len, few, m)) all

  count : free_count after.free + (n + need d.space.tables first n) ≡ free_count d.free
  count =
      let r = some_root (root_of d.space.tables) was.root in
      let t = mappings_take_need first r.0 ms begun r.1 in_levels enough in
      let a = takes.fewer in let b = need_size in let c = size in
      omega (arith, t, a, b, c)

  -- ---- others
  module _ (other_kind : HeapKind) (other_batch : ℕ) (other : Space) (b : StandsBeside other_kind other_batch entries words regions other d) where
    theirs : FramesFit other d.free
    theirs = settled_frames other_kind other regions d.free b.parts.agrees

    their_frames : (f : ℕ) → among f (frames_mapped other) ≡ among f (frames_held other) + among f (shared_frames other.tables)
    their_frames f = among-append f (frames_held other) (shared_frames other.tables)

    not_taken : (f : ℕ) → 0 < among f (frames_mapped other) → (among f xs ≡ 0) × (among f (frames_held after.space) + vacant after.free f ≡ 0)
    not_taken f l =
        let o = held_once other d.free f theirs in
        let m = their_frames f in
        let a = b.apart f in
        let x = xs_free f in
        let g = shares.each f in
        let t = takes.each f in
        (omega (arith, o, m, l, x), omega (arith, o, m, l, a, g, t))

    other_fit : FramesFit other after.free
    other_fit = fits other after.free
        (λ f. (let o = held_once other d.free f theirs in omega (arith, o)))
        (λ f l. there d.free after.free f false (held_taken other d.free f theirs l) free_size (let m = their_frames f in let z = (not_taken f (omega (arith, m, l))).1 in omega (arith, z)))

    other_parts : PartsFit other_kind other_batch held_by other after.free
    other_parts =
        let p = b.parts in
        let w = p.agrees in
        record {
          agrees = record {
            frames = w.frames ∙ sym free_size;
            count = w.count ∙ sym free_size;
            room = w.room ∙ ap (λ l. l + other.shadows) (sym free_size);
            root = w.root;
            aside = w.aside;
            heap = w.heap;
            shared = record {
              count = hold_length xs regions ∙ was.shared.count ∙ sym free_size;
              first = w.shared.first;
              held = λ q m s e. (let h = w.shared.held q m s e in let k = holds m.frame in omega (arith, h, k));
              unheld = unheld.free_ones;
            };
            ranges = w.ranges;
            apart = w.apart;
            taken = quiet_taken other after.free w.aside other_fit;
          };
          heap = p.heap;
          levels = p.levels;
          shadows = p.shadows;
          few = p.few;
          waits = p.waits;
          private = λ f l. (let h = p.private f l in let k = holds f in let m = their_frames f in let z = (not_taken f (omega (arith, m, l))).0 in omega (arith, h, k, z));
        }

    apart_now : HoldsApart after.space other
    apart_now f = go (among f (frames_mapped other)) refl
      where
        go : (x : ℕ) → among f (frames_mapped other) ≡ x → among f (frames_held after.space) + among f (frames_mapped other) ≤ 1
        go zero e = let o = held_once after.space after.free f fit in omega (arith, o, e)
        go (suc x) e = let z = (not_taken f (omega (arith, e))).1 in let o = held_once other d.free f theirs in let m = their_frames f in omega (arith, z, o, m, e)

    back_now : HoldsApart other after.space
    back_now f = go (among f (frames_held other)) refl
      where
        go : (x : ℕ) → among f (frames_held other) ≡ x → among f (frames_held other) + among f (frames_mapped after.space) ≤ 1
        go zero e = let o = held_once after.space after.free f fit in let m = mapped_is f in omega (arith, o, m, e)
        go (suc x) e =
            let t = their_frames f in
            let z = not_taken f (omega (arith, t, e)) in
            let z0 = z.0 in let z1 = z.1 in
            let m = mapped_is f in
            let s = shared_more f in
            let k = b.apart_back f in
            let w : among f (frames_mapped d.space) ≡ among f (frames_held d.space) + among f (shared_frames d.space.tables) = among-append f (frames_held d.space) (shared_frames d.space.tables) in
            omega (arith, z0, z1, m, s, k, w, e)

    their_table : (f : ℕ) → among f (frames_mapped after.space) ≡ 1 → IsNoTable other.tables f
    their_table f e =
        let k = back_now f in let a = held_is f other in
        (no_piece f other.tables.tables (omega (arith, k, a, e)), no_piece f other.tables.aside (omega (arith, k, a, e)))

    other_words : Agrees other.tables after.free (words_after entries after.jobs words)
    other_words =
        subst (λ (js : List Job). Agrees other.tables after.free (words_after entries js words)) (sym pushes.is)
        (subst (λ (ws : List ℕ). Agrees other.tables after.free ws) (sym (words_after-append entries d.jobs pushes.more words))
        (agrees_fit other d.free after.free (words_after entries pushes.more (words_after entries d.jobs words))
        (jobs_elsewhere_keep entries other.tables d.free (words_after entries d.jobs words) pushes.more b.tables
        (all_elsewhere other.tables pushes.more (all_weaker (λ f. among f (frames_mapped after.space) ≡ 1) (IsNoTable other.tables) pushes.more their_table pushes.within)))
        free_size other_fit))

    beside : StandsBeside other_kind other_batch entries words held_by other after
    beside = record { parts = other_parts; apart = apart_now; apart_back = back_now; tables = other_words }

  pub share_fits : ShareFits kind batch entries words regions n d (share_frames xs (sharing_of regions d))
  share_fits = record {
    settled = record { parts = parts; tables = agrees };
    takes = only_takes;
    count = count;
    holds = λ f. (let h = holds f in let s = shared_more f in omega (arith, h, s));
    pushes = pushes;
    others = beside;
  }

pub shares_fit : SharesFit
unfolding share_plan share_reasons
shares_fit kind batch entries words regions n d k e =
    let f = not_wanted (n == 0) (nat_lt (free_count d.free) (n + need d.space.tables (next_shared_page d.space.tables) n)) answer.Empty answer.NoFrames e in
    share_fits kind batch entries words regions n d k (grind (arith, nat_tests, f))
