-- The end of a process: which frames are free then.
use Rattle.std.proofs.Common.{ℕ, zero, suc, ◌+◌, ◌-◌, ◌≡◌, ◌<◌, ◌≤◌, ◌==◌, nat_lt, ◌&&◌, Bool, true, false, cond, Some, List, [], ◌∷◌, ◌++◌, length, map, filter, slice_get, slice_set, arith, refl, ap, sym, ◌∙◌}
use Rattle.std.specs.Prelude.{slice_index}
use Rattle.std.proofs.lemmas.Bool.Decides.{nat_tests}
use Rattle.std.proofs.lemmas.List.{map-append}
use Rattle.osc_word.specs.declared.settings.HeapKind.{HeapKind}
use Rattle.osc_word.specs.AddressMap.{is_shared}
use Rattle.osc_sv39.specs.declared.entries.Mapping.{Mapping}
use Rattle.osc_slot.specs.Heap.{clear, give_back}
use Rattle.osc_slot.proofs.Backing.{length-set, length-give_back}
use Rattle.osc_paging.specs.declared.Mapped.{Mapped}
use Rattle.osc_paging.specs.KeptTables.{mapping_at}
use Rattle.osc_paging.specs.TableChanges.{frames_given, emptied}
use Rattle.osc_paging.proofs.Kept.{length-frames_given}
use Rattle.osc_space.specs.Space.{Space}
use Rattle.osc_space.specs.Fork.{table_frame_of, heap_frame_of, frame_of_page, image_frames, set_free}
use Rattle.osc_space.specs.Share.{Regions, RegionsAndFree, holders, drop_frame, let_regions_go, leave, shared_frames}
use Rattle.osc_space.specs.Finish.{ended}
use Rattle.osc_space.specs.Agree.{AreApart, AllTaken}
use Rattle.osc_parts.specs.Frames.{one_at, among, vacant, one_where, frames_held, frames_mapped, FramesFit}
use Rattle.osc_parts.specs.Settled.{PartsFit}
use Rattle.osc_parts.specs.OthersFit.{HoldsApart}
use Rattle.osc_parts.specs.EndLaws.{AreHeld, dropped, EndFits, EndsFit}
use Rattle.osc_parts.proofs.Counts.{among-append, apart_once, once_apart, taken_at, all_taken, taken_but, vacant_give, give_back_vacant, frames_given_vacant, given_length}
use Rattle.osc_parts.proofs.Trading.{held_is, held_once, held_taken, fits, there, vacant_there, quiet_taken}
use Rattle.osc_parts.proofs.Blocks.{taken_small}
use Rattle.osc_parts.proofs.Settling.{settled_frames}
use Rattle.osc_parts.proofs.Giving.{agrees_fit}
use Rattle.osc_parts.proofs.SharedPages.{index_set, length_set}

-- ---- frames that are free again
given_vacant : (f : ℕ) (xs : List ℕ) (free : List Bool) → AreApart xs → AllTaken free xs → vacant (set_free true xs free) f ≡ among f xs + vacant free f
given_vacant f [] free a t = omega arith
given_vacant f (x ∷ xs) free a t =
    let here = vacant_give free x f t.0 in
    let later = given_vacant f xs (slice_set free x true) a.1 (taken_but free x xs a.0 t.1) in
    omega (arith, here, later)

-- ---- regions
-- what leaving these makes
pub record Leaves (xs : List ℕ) (r t : RegionsAndFree) : Type 0 where
  pub count : length t.free ≡ length r.free
  pub regions : length t.regions ≡ length r.regions
  pub holds : (f : ℕ) → holders t.regions f + among f xs ≡ holders r.regions f
  pub frees : (f : ℕ) → vacant t.free f ≡ vacant r.free f + dropped xs t.regions f

drop_length : (x : ℕ) (r : RegionsAndFree) → length (drop_frame x (holders r.regions x) r).free ≡ length r.free
drop_length x r = go (holders r.regions x - 1 == 0)
  where
    go : (b : Bool) → length {A = Bool} (cond b (slice_set r.free x true) r.free) ≡ length r.free
    go true = length-set r.free x true
    go false = refl

drop_free : (x f : ℕ) (r : RegionsAndFree) → slice_get r.free x ≡ Some false → vacant (drop_frame x (holders r.regions x) r).free f ≡ vacant r.free f + cond (holders r.regions x - 1 == 0) (one_at x f) 0
drop_free x f r t = go (holders r.regions x - 1 == 0)
  where
    go : (b : Bool) → vacant (cond b (slice_set r.free x true) r.free) f ≡ vacant r.free f + cond b (one_at x f) 0
    go true = let v = vacant_give r.free x f t in omega (arith, v)
    go false = omega arith

drop_holds : (x f : ℕ) (r : RegionsAndFree) → 0 < holders r.regions x → x < length r.regions → holders (drop_frame x (holders r.regions x) r).regions f + one_at x f ≡ holders r.regions f
drop_holds x f r h l = go (x == f) refl (index_set r.regions x f (holders r.regions x - 1))
  where
    go : (b : Bool) → (x == f) ≡ b → slice_index (slice_set r.regions x (holders r.regions x - 1)) f ≡ cond ((f == x) && nat_lt x (length r.regions)) (holders r.regions x - 1) (slice_index r.regions f)
        → slice_index (slice_set r.regions x (holders r.regions x - 1)) f + cond b 1 0 ≡ slice_index r.regions f
    go true e at =
        let same : x ≡ f = grind (arith, nat_tests, e) in
        let hs : holders r.regions x ≡ holders r.regions f = ap (holders r.regions) same in
        let now : slice_index (slice_set r.regions x (holders r.regions x - 1)) f ≡ holders r.regions x - 1 = grind (arith, nat_tests, at, l, same) in
        omega (arith, now, hs, h)
    go false e at =
        let other : (f == x) ≡ false = grind (arith, nat_tests, e) in
        let now : slice_index (slice_set r.regions x (holders r.regions x - 1)) f ≡ slice_index r.regions f = grind (arith, nat_tests, at, other) in
        omega (arith, now)

drop_taken : (x f : ℕ) (r : RegionsAndFree) → slice_get r.free x ≡ Some false → one_at x f ≡ 0 → slice_get r.free f ≡ Some false → slice_get (drop_frame x (holders r.regions x) r).free f ≡ Some false
drop_taken x f r t o e =
    let v = drop_free x f r t in
    let w : vacant r.free f ≡ 0 = ap one_where e in
    there r.free (drop_frame x (holders r.regions x) r).free f false e (drop_length x r) (both (holders r.regions x - 1 == 0) v w)
  where
    both : (b : Bool) → vacant (drop_frame x (holders r.regions x) r).free f ≡ vacant r.free f + cond b (one_at x f) 0 → vacant r.free f ≡ 0 → vacant (drop_frame x (holders r.regions x) r).free f ≡ 0
    both true v w = omega (arith, v, w, o)
    both false v w = omega (arith, v, w)

-- the counts of a frame, where it goes first and where it does not
counts : (after mid before a o h g : ℕ) → after ≡ mid + cond (nat_lt 0 a && (g == 0)) 1 0 → mid ≡ before + cond (h - 1 == 0) o 0 → a ≡ 0 → o ≡ 1 → g ≡ h - 1
    → after ≡ before + cond (nat_lt 0 (o + a) && (g == 0)) 1 0
counts after mid before a o h g k v z u l = grind (arith, nat_tests, k, v, z, u, l)

counts_other : (after mid before a o h g : ℕ) → after ≡ mid + cond (nat_lt 0 a && (g == 0)) 1 0 → mid ≡ before + cond (h - 1 == 0) o 0 → o ≡ 0
    → after ≡ before + cond (nat_lt 0 (o + a) && (g == 0)) 1 0
counts_other after mid before a o h g k v u = grind (arith, nat_tests, k, v, u)

pub leaves : (xs : List ℕ) (r : RegionsAndFree) → AreApart xs → AllTaken r.free xs → ((f : ℕ) → among f xs ≤ holders r.regions f) → ((f : ℕ) → 0 < among f xs → f < length r.regions) → Leaves xs r (let_regions_go xs r)
leaves [] r a t h w = record { count = refl; regions = refl; holds = λ f. omega arith; frees = λ f. omega arith }
leaves (x ∷ xs) r a t h w =
    let d = drop_frame x (holders r.regions x) r in
    let more : 0 < holders r.regions x = (let k = h x in grind (arith, nat_tests, k)) in
    let within : x < length r.regions = w x (grind (arith, nat_tests)) in
    let size = length_set r.regions x (holders r.regions x - 1) in
    let rest = leaves xs d a.1
    (all_taken d.free xs (λ f l. drop_taken x f r t.0 (apart f l) (taken_at r.free f xs t.1 l)))
    (λ f. (let k = h f in let e = drop_holds x f r more within in omega (arith, k, e)))
    (λ f l. (let k = w f (omega (arith, l)) in omega (arith, k, size))) in
    record {
      count = rest.count ∙ drop_length x r;
      regions = rest.regions ∙ size;
      holds = λ f. (let k = rest.holds f in let e = drop_holds x f r more within in omega (arith, k, e));
      frees = λ f. frees f (x == f) refl more within rest;
    }
  where
    apart : (f : ℕ) → 0 < among f xs → one_at x f ≡ 0
    apart f l = let o = apart_once f (x ∷ xs) a in omega (arith, o, l)

    frees : (f : ℕ) → (b : Bool) → (x == f) ≡ b → 0 < holders r.regions x → x < length r.regions → Leaves xs (drop_frame x (holders r.regions x) r) (let_regions_go xs (drop_frame x (holders r.regions x) r))
        → vacant (let_regions_go xs (drop_frame x (holders r.regions x) r)).free f ≡ vacant r.free f + dropped (x ∷ xs) (let_regions_go xs (drop_frame x (holders r.regions x) r)).regions f
    frees f true e more within rest =
        let k = rest.frees f in
        let v = drop_free x f r t.0 in
        let g = drop_holds x f r more within in
        let hs = rest.holds f in
        let same : x ≡ f = grind (arith, nat_tests, e) in
        let o = apart_once f (x ∷ xs) a in
        let one : one_at x f ≡ 1 = grind (arith, nat_tests, e) in
        let zero_more : among f xs ≡ 0 = omega (arith, o, one) in
        let hf : holders r.regions x ≡ holders r.regions f = ap (holders r.regions) same in
        let left : holders (let_regions_go xs (drop_frame x (holders r.regions x) r)).regions f ≡ holders r.regions x - 1 = omega (arith, g, hs, zero_more, one, hf, more) in
        counts (vacant (let_regions_go xs (drop_frame x (holders r.regions x) r)).free f) (vacant (drop_frame x (holders r.regions x) r).free f) (vacant r.free f) (among f xs) (one_at x f) (holders r.regions x)
        (holders (let_regions_go xs (drop_frame x (holders r.regions x) r)).regions f) k v zero_more one left
    frees f false e more within rest =
        let k = rest.frees f in
        let v = drop_free x f r t.0 in
        let none : one_at x f ≡ 0 = grind (arith, nat_tests, e) in
        counts_other (vacant (let_regions_go xs (drop_frame x (holders r.regions x) r)).free f) (vacant (drop_frame x (holders r.regions x) r).free f) (vacant r.free f) (among f xs) (one_at x f) (holders r.regions x)
        (holders (let_regions_go xs (drop_frame x (holders r.regions x) r)).regions f) k v none

-- ---- another's regions
pub member_held : (test : ℕ → Bool) (ms : List Mapped) (q : ℕ) (m : Mapping) → test q ≡ true → mapping_at ms q ≡ Some m → 0 < among m.frame (map frame_of_page (filter (λ (x : Mapped). test x.number) ms))
member_held test [] q m t e = absurd (let z : ⊥ = grind (arith, e) in z)
member_held test (x ∷ ms) q m t e = go (x.number == q) refl (test x.number) refl e (member_held test ms q m t)
  where
    go : (b : Bool) → (x.number == q) ≡ b → (c : Bool) → test x.number ≡ c → cond b (Some x.mapping) (mapping_at ms q) ≡ Some m
        → (mapping_at ms q ≡ Some m → 0 < among m.frame (map frame_of_page (filter (λ (y : Mapped). test y.number) ms)))
        → 0 < among m.frame (map frame_of_page (cond c (x ∷ filter (λ (y : Mapped). test y.number) ms) (filter (λ (y : Mapped). test y.number) ms)))
    go true i true j k later = let same : x.mapping ≡ m = cc in let f : x.mapping.frame ≡ m.frame = ap (λ (y : Mapping). y.frame) same in grind (arith, nat_tests, f)
    go true i false j k later = absurd (let n : x.number ≡ q = grind (arith, nat_tests, i) in let z : false ≡ true = sym j ∙ ap test n ∙ t in let y : ⊥ = grind (arith, z) in y)
    go false i true j k later = let l = later k in omega (arith, l)
    go false i false j k later = later k

-- ---- the whole
module _ (kind : HeapKind) (batch : ℕ) (regions : Regions) (s : Space) (free : List Bool) (p : PartsFit kind batch regions s free) (h : AreHeld regions (shared_frames s.tables)) where
  abbrev ys : List ℕ
  ys = shared_frames s.tables

  abbrev left : RegionsAndFree
  left = let_regions_go ys (record { regions = regions; free = free })

  abbrev cleared : List Bool
  cleared = give_back s.heap.pages left.free

  abbrev gave : List Bool
  gave = frames_given (s.tables.tables ++ s.tables.aside) cleared

  abbrev last : List Bool
  last = set_free true (image_frames s.tables) gave

  fit : FramesFit s free
  fit = settled_frames kind s regions free p.agrees

  leaving : Leaves ys (record { regions = regions; free = free }) left
  leaving = leaves ys (record { regions = regions; free = free })
      (once_apart ys (λ f. (let o = held_once s free f fit in omega (arith, o))))
      (all_taken free ys (λ f l. held_taken s free f fit (omega (arith, l))))
      h (λ f l. (let t = held_taken s free f fit (omega (arith, l)) in let c = p.agrees.shared.count in let k = small f t in omega (arith, k, c)))
    where
      small : (f : ℕ) → slice_get free f ≡ Some false → f < length free
      small f e = taken_small free f e

  -- a frame of its own is taken until it is given
  own_kept : (f : ℕ) → 0 < among f (frames_held s) → slice_get left.free f ≡ Some false
  own_kept f l =
      let o = held_once s free f fit in
      let t = held_taken s free f fit (omega (arith, l)) in
      let v : vacant free f ≡ 0 = ap one_where t in
      let z : among f (shared_frames s.tables) ≡ 0 = omega (arith, o, l) in
      let d : dropped (shared_frames s.tables) left.regions f ≡ 0 = ap (λ a. cond (nat_lt 0 a && (holders left.regions f == 0)) 1 0) z in
      let k = leaving.frees f in
      there free left.free f false t leaving.count (omega (arith, k, v, d))

  tables_are : (f : ℕ) → among f (map table_frame_of (s.tables.tables ++ s.tables.aside)) ≡ among f (map table_frame_of s.tables.tables) + among f (map table_frame_of s.tables.aside)
  tables_are f = ap (λ fs. among f fs) (map-append table_frame_of s.tables.tables s.tables.aside) ∙ among-append f (map table_frame_of s.tables.tables) (map table_frame_of s.tables.aside)

  clear_vacant : (f : ℕ) → vacant cleared f ≡ among f (map heap_frame_of s.heap.pages) + vacant left.free f
  clear_vacant f = give_back_vacant f s.heap.pages left.free
      (once_apart (map heap_frame_of s.heap.pages) (λ g. (let o = held_once s free g fit in let a = held_is g s in omega (arith, o, a))))
      (all_taken left.free (map heap_frame_of s.heap.pages) (λ g l. own_kept g (let a = held_is g s in omega (arith, l, a))))

  gave_vacant : (f : ℕ) → vacant gave f ≡ among f (map table_frame_of (s.tables.tables ++ s.tables.aside)) + vacant cleared f
  gave_vacant f = frames_given_vacant f (s.tables.tables ++ s.tables.aside) cleared
      (once_apart (map table_frame_of (s.tables.tables ++ s.tables.aside)) (λ g. (let o = held_once s free g fit in let a = held_is g s in let t = tables_are g in omega (arith, o, a, t))))
      (all_taken cleared (map table_frame_of (s.tables.tables ++ s.tables.aside)) (λ g l. still g l))
    where
      still : (g : ℕ) → 0 < among g (map table_frame_of (s.tables.tables ++ s.tables.aside)) → slice_get cleared g ≡ Some false
      still g l =
          let a = held_is g s in let t = tables_are g in let o = held_once s free g fit in
          let k = own_kept g (omega (arith, a, t, l)) in
          let v : vacant left.free g ≡ 0 = ap one_where k in
          let c = clear_vacant g in
          there left.free cleared g false k (length-give_back s.heap.pages left.free) (omega (arith, c, v, a, t, o, l))

  last_vacant : (f : ℕ) → vacant last f ≡ among f (image_frames s.tables) + vacant gave f
  last_vacant f = given_vacant f (image_frames s.tables) gave
      (once_apart (image_frames s.tables) (λ g. (let o = held_once s free g fit in let a = held_is g s in omega (arith, o, a))))
      (all_taken gave (image_frames s.tables) (λ g l. still g l))
    where
      still : (g : ℕ) → 0 < among g (image_frames s.tables) → slice_get gave g ≡ Some false
      still g l =
          let a = held_is g s in let t = tables_are g in let o = held_once s free g fit in
          let k = own_kept g (omega (arith, a, l)) in
          let v : vacant left.free g ≡ 0 = ap one_where k in
          let c = clear_vacant g in let e = gave_vacant g in
          there left.free gave g false k (length-frames_given (s.tables.tables ++ s.tables.aside) cleared ∙ length-give_back s.heap.pages left.free) (omega (arith, c, e, v, a, t, o, l))

  last_size : length last ≡ length free
  last_size = given_length (image_frames s.tables) gave ∙ length-frames_given (s.tables.tables ++ s.tables.aside) cleared ∙ length-give_back s.heap.pages left.free ∙ leaving.count

  frees : (f : ℕ) → vacant last f ≡ vacant free f + among f (frames_held s) + dropped (shared_frames s.tables) left.regions f
  frees f = let a = last_vacant f in let b = gave_vacant f in let c = clear_vacant f in let e = leaving.frees f in let t = tables_are f in let i = held_is f s in omega (arith, a, b, c, e, t, i)

  -- ---- another process
  module _ (other_kind : HeapKind) (other_batch : ℕ) (other : Space) (q : PartsFit other_kind other_batch regions other free) (apart : HoldsApart s other) (back : HoldsApart other s)
      (more : (f : ℕ) → among f (shared_frames s.tables) + among f (shared_frames other.tables) ≤ holders regions f) where
    theirs : FramesFit other free
    theirs = settled_frames other_kind other regions free q.agrees

    mapped_is : (f : ℕ) → among f (frames_mapped other) ≡ among f (frames_held other) + among f (shared_frames other.tables)
    mapped_is f = among-append f (frames_held other) (shared_frames other.tables)

    ours_is : (f : ℕ) → among f (frames_mapped s) ≡ among f (frames_held s) + among f (shared_frames s.tables)
    ours_is f = among-append f (frames_held s) (shared_frames s.tables)

    not_freed : (f : ℕ) → 0 < among f (frames_held other) + among f (shared_frames other.tables) → vacant last f ≡ 0
    not_freed f l = go (among f (shared_frames other.tables)) refl
      where
        t : vacant free f ≡ 0
        t = ap one_where (held_taken other free f theirs l)

        no_drop : (a g : ℕ) → (0 < a → 0 < g) → cond (nat_lt 0 a && (g == 0)) 1 0 ≡ zero
        no_drop zero g k = refl
        no_drop (suc a) g k = let m = k (omega arith) in grind (arith, nat_tests, m)

        go : (x : ℕ) → among f (shared_frames other.tables) ≡ x → vacant last f ≡ 0
        go zero e =
            let a = frees f in let b = apart f in let c = back f in let m = mapped_is f in let o = ours_is f in
            let z : among f (shared_frames s.tables) ≡ 0 = omega (arith, c, o, l, e) in
            let d : dropped (shared_frames s.tables) left.regions f ≡ 0 = no_drop (among f (shared_frames s.tables)) (holders left.regions f) (λ k. absurd (omega (arith, k, z))) in
            let u = t in omega (arith, a, b, m, l, d, u)
        go (suc x) e =
            let a = frees f in let b = apart f in let m = mapped_is f in
            let hs = leaving.holds f in let k = more f in
            let d : dropped (shared_frames s.tables) left.regions f ≡ 0 = no_drop (among f (shared_frames s.tables)) (holders left.regions f) (λ w. omega (arith, hs, k, e)) in
            let u = t in omega (arith, a, b, m, l, d, u)

    other_fit : FramesFit other last
    other_fit = fits other last
        (λ f. (let o = held_once other free f theirs in omega (arith, o)))
        (λ f l. there free last f false (held_taken other free f theirs l) last_size (not_freed f l))

    free_unheld : (f : ℕ) → slice_get last f ≡ Some true → holders left.regions f ≡ 0
    free_unheld f e = go (vacant free f) refl (among f (frames_held s)) refl
      where
        v : vacant last f ≡ 1
        v = ap one_where e

        drop_none : (a g : ℕ) → cond (nat_lt 0 a && (g == 0)) 1 0 ≡ suc zero → g ≡ 0
        drop_none a g k = grind (arith, nat_tests, k)

        go : (x : ℕ) → vacant free f ≡ x → (y : ℕ) → among f (frames_held s) ≡ y → holders left.regions f ≡ 0
        go zero a zero b = let w = v in let k = frees f in drop_none (among f (shared_frames s.tables)) (holders left.regions f) (omega (arith, w, k, a, b))
        go (suc x) a y b = let z = p.agrees.shared.unheld f (vacant_there free f (omega (arith, a))) in let k = leaving.holds f in omega (arith, z, k)
        go zero a (suc y) b = let z = p.private f (omega (arith, b)) in let k = leaving.holds f in omega (arith, z, k)

    other_parts : PartsFit other_kind other_batch left.regions other last
    other_parts =
        let w = q.agrees in
        record {
          agrees = record {
            frames = w.frames ∙ sym last_size;
            count = w.count ∙ sym last_size;
            room = w.room ∙ ap (λ l. l + other.shadows) (sym last_size);
            root = w.root;
            aside = w.aside;
            heap = w.heap;
            shared = record {
              count = leaving.regions ∙ p.agrees.shared.count ∙ sym last_size;
              first = w.shared.first;
              held = λ page m i e. (let l = member_held is_shared other.tables.pages page m i e in let k = more m.frame in let hs = leaving.holds m.frame in omega (arith, l, k, hs));
              unheld = free_unheld;
            };
            ranges = w.ranges;
            apart = w.apart;
            taken = quiet_taken other last w.aside other_fit;
          };
          heap = q.heap;
          levels = q.levels;
          shadows = q.shadows;
          few = q.few;
          waits = q.waits;
          private = λ f l. (let z = q.private f l in let k = leaving.holds f in omega (arith, z, k));
        }

  pub end_fits : EndFits regions s free (record {
    space = record s { tables = emptied s.tables; waiting = []; heap = (clear s.heap left.free).heap };
    regions = left.regions;
    free = last;
  })
  end_fits = record {
    count = last_size;
    holds = leaving.holds;
    frees = frees;
    none = refl;
    others = λ k b o q a c m. other_parts k b o q a c m;
    words = λ k b o w q g. agrees_fit o free last w g last_size (settled_frames k o left.regions last q.agrees);
  }

pub ends_fit : EndsFit
unfolding ended leave
ends_fit kind batch regions s free p h = end_fits kind batch regions s free p h
