-- The end of a process: no frame is given before its turn, and the frames of the image may be given
-- before those of the tables.
use Rattle.std.proofs.Common.{ℕ, zero, suc, ◌+◌, ◌-◌, ◌≡◌, ◌≢◌, ◌<◌, ◌≤◌, ◌==◌, nat_lt, ◌&&◌, ◌||◌, Bool, true, false, cond, Option, Some, None, is_some, List, [], ◌∷◌, ◌++◌, length, map, get_or, slice_get, slice_set, arith, refl, ap, sym, subst, ◌∙◌}
use Rattle.std.specs.Prelude.{All, IsSome, slice_index}
use Rattle.std.specs.List.{list_any}
use Rattle.std.proofs.lemmas.Bool.Decides.{nat_tests}
use Rattle.std.proofs.lemmas.List.{append-nil}
use Rattle.osc_frames.specs.Free.{IsTaken}
use Rattle.osc_slot.specs.Heap.{Heap, FramesAgree, empty_heap, give_back}
use Rattle.osc_slot.proofs.Backing.{length-give_back}
use Rattle.osc_paging.specs.declared.TableFrame.{TableFrame}
use Rattle.osc_paging.specs.declared.Piece.{Piece}
use Rattle.osc_paging.specs.KeptTables.{KeptTables, closed, levels_of, piece_of}
use Rattle.osc_paging.specs.TableChanges.{frames_given, emptied}
use Rattle.osc_paging.proofs.Elsewhere.{some_piece}
use Rattle.osc_tables.specs.Calls.{HasTaken}
use Rattle.osc_mark.specs.Grants.{Grants}
use Rattle.osc_space.specs.Space.{Space}
use Rattle.osc_shadow.specs.Parts.{space_of}
use Rattle.osc_calls.specs.Kernel.{Process}
use Rattle.osc_space.specs.Fork.{table_frame_of, heap_frame_of, image_frames, set_free}
use Rattle.osc_space.specs.Share.{Regions, RegionsAndFree, holders, leave, let_regions_go, shared_frames}
use Rattle.osc_space.specs.Finish.{ended}
use Rattle.osc_space.specs.Agree.{AreApart, AllTaken}
use Rattle.osc_share.specs.Holding.{AreDifferent, IsHeld, regions_and_free}
use Rattle.osc_parts.specs.Frames.{among, vacant, one_where, frames_held, FramesFit}
use Rattle.osc_parts.specs.EndLaws.{AreHeld, dropped}
use Rattle.osc_parts.proofs.Blocks.{table_counts, taken_small}
use Rattle.osc_parts.proofs.Counts.{apart_once, once_apart, taken_at, all_taken, taken_but, vacant_give, give_back_vacant, given_length}
use Rattle.osc_parts.proofs.EndParts.{Leaves, leaves}
use Rattle.osc_parts.proofs.Settling.{heap_taken, settled_frames}
use Rattle.osc_parts.proofs.Trading.{held_is, held_once, held_taken, there}
use Rattle.osc_process.specs.Returns.{CanEnd, CanGive, over}

-- ---- lists of frames
none_equal : (xs : List ℕ) (x : ℕ) → list_any (λ y. y == x) xs ≡ false → All (λ (other : ℕ). other ≢ x) xs
none_equal [] x e = λ k d s. absurd (omega (arith, s))
none_equal (y ∷ xs) x e = go (y == x) refl e (none_equal xs x)
  where
    go : (b : Bool) → (y == x) ≡ b → (b || list_any (λ z. z == x) xs) ≡ false → (list_any (λ z. z == x) xs ≡ false → All (λ (other : ℕ). other ≢ x) xs) → All (λ (other : ℕ). other ≢ x) (y ∷ xs)
    go true i f later = absurd (let z : ⊥ = cc in z)
    go false i f later = λ k d s. at k d s (later f)
      where
        at : (k d : ℕ) → k < length (y ∷ xs) → All (λ (other : ℕ). other ≢ x) xs → get_or (y ∷ xs) k d ≢ x
        at zero d s on = λ same. (let t : (y == x) ≡ true = grind (arith, nat_tests, same) in let z : ⊥ = cc in z)
        at (suc k) d s on = on k d (omega (arith, s))

pub are_different : (xs : List ℕ) → AreApart xs → AreDifferent xs
are_different [] a = tt
are_different (x ∷ xs) a = (none_equal xs x a.0, are_different xs a.1)

pub all_of : (P : ℕ → Type 0) (xs : List ℕ) → ((x : ℕ) → 0 < among x xs → P x) → All P xs
all_of P [] h = λ k d s. absurd (omega (arith, s))
all_of P (x ∷ xs) h = λ k d s. at k d s (all_of P xs (λ y l. h y (omega (arith, l))))
  where
    at : (k d : ℕ) → k < length (x ∷ xs) → All P xs → P (get_or (x ∷ xs) k d)
    at zero d s on = h x (let t : (x == x) ≡ true = grind (arith, nat_tests) in rw t (omega arith))
    at (suc k) d s on = on k d (omega (arith, s))

given_vacant : (f : ℕ) (xs : List ℕ) (free : List Bool) → AreApart xs → AllTaken free xs → vacant (set_free true xs free) f ≡ among f xs + vacant free f
given_vacant f [] free a t = omega arith
given_vacant f (x ∷ xs) free a t =
    let here = vacant_give free x f t.0 in
    let later = given_vacant f xs (slice_set free x true) a.1 (taken_but free x xs a.0 t.1) in
    omega (arith, here, later)

-- ---- the order of what is given
swap : (free : List Bool) (a b : ℕ) → slice_set (slice_set free a true) b true ≡ slice_set (slice_set free b true) a true
swap [] a b = refl
swap (x ∷ xs) zero zero = refl
swap (x ∷ xs) zero (suc b) = refl
swap (x ∷ xs) (suc a) zero = refl
swap (x ∷ xs) (suc a) (suc b) = ap (λ ys. x ∷ ys) (swap xs a b)

set_after : (xs : List ℕ) (free : List Bool) (a : ℕ) → set_free true xs (slice_set free a true) ≡ slice_set (set_free true xs free) a true
set_after [] free a = refl
set_after (x ∷ xs) free a = ap (set_free true xs) (swap free a x) ∙ set_after xs (slice_set free x true) a

pub images_first : (ts : List TableFrame) (xs : List ℕ) (free : List Bool) → frames_given ts (set_free true xs free) ≡ set_free true xs (frames_given ts free)
images_first [] xs free = refl
images_first (t ∷ ts) xs free = ap (frames_given ts) (sym (set_after xs free t.frame)) ∙ images_first ts xs (slice_set free t.frame true)

-- ---- one process
module _ (regions : Regions) (s : Space) (free : List Bool) (c : CanEnd regions s free) where
  abbrev left : RegionsAndFree
  left = let_regions_go (shared_frames s.tables) (record { regions = regions; free = free })

  abbrev cleared : List Bool
  cleared = give_back s.heap.pages left.free

  fit : FramesFit s free
  fit = settled_frames c.kind s regions free c.fit.agrees

  pub shared_apart : AreApart (shared_frames s.tables)
  shared_apart = once_apart (shared_frames s.tables) (λ f. (let o = held_once s free f fit in omega (arith, o)))

  shared_taken : (f : ℕ) → 0 < among f (shared_frames s.tables) → slice_get free f ≡ Some false
  shared_taken f l = held_taken s free f fit (omega (arith, l))

  within : (f : ℕ) → 0 < among f (shared_frames s.tables) → f < length regions
  within f l = let k = taken_small free f (shared_taken f l) in let n = c.fit.agrees.shared.count in omega (arith, k, n)

  pub leave_held : All (IsHeld regions) (shared_frames s.tables)
  leave_held = all_of (IsHeld regions) (shared_frames s.tables) (λ f l. (within f l, (let h = c.held f in omega (arith, h, l))))

  pub leave_taken : All (IsTaken free) (shared_frames s.tables)
  leave_taken = all_of (IsTaken free) (shared_frames s.tables) shared_taken

  leaving : Leaves (shared_frames s.tables) (record { regions = regions; free = free }) left
  leaving = leaves (shared_frames s.tables) (record { regions = regions; free = free }) shared_apart (all_taken free (shared_frames s.tables) shared_taken) c.held within

  -- a frame of its own is taken until it is given
  own_kept : (f : ℕ) → 0 < among f (frames_held s) → slice_get left.free f ≡ Some false
  own_kept f l =
      let o = held_once s free f fit in
      let t = held_taken s free f fit (omega (arith, l)) in
      let v : vacant free f ≡ 0 = ap one_where t in
      let z : among f (shared_frames s.tables) ≡ 0 = omega (arith, o, l) in
      let d : dropped (shared_frames s.tables) left.regions f ≡ 0 = ap (λ a. cond (nat_lt 0 a && (holders left.regions f == 0)) 1 0) z in
      let k = leaving.frees f in
      there free left.free f false t leaving.count (omega (arith, k, v, d))

  heap_kept : (f : ℕ) → 0 < among f (map heap_frame_of s.heap.pages) → slice_get left.free f ≡ Some false
  heap_kept f l = own_kept f (let a = held_is f s in omega (arith, l, a))

  pub clear_agrees : FramesAgree s.heap left.free
  clear_agrees = record { count = leaving.count ∙ sym c.fit.agrees.frames; taken = heap_taken left.free s.heap.pages heap_kept }

  clear_vacant : (f : ℕ) → vacant cleared f ≡ among f (map heap_frame_of s.heap.pages) + vacant left.free f
  clear_vacant f = give_back_vacant f s.heap.pages left.free
      (once_apart (map heap_frame_of s.heap.pages) (λ g. (let o = held_once s free g fit in let a = held_is g s in omega (arith, o, a))))
      (all_taken left.free (map heap_frame_of s.heap.pages) heap_kept)

  still : (g : ℕ) → 0 < among g (image_frames s.tables) + among g (map table_frame_of s.tables.tables) → slice_get cleared g ≡ Some false
  still g l =
      let a = held_is g s in let o = held_once s free g fit in
      let k = own_kept g (omega (arith, a, l)) in
      let v : vacant left.free g ≡ 0 = ap one_where k in
      let e = clear_vacant g in
      there left.free cleared g false k (length-give_back s.heap.pages left.free) (omega (arith, e, v, a, o, l))

  pub images_give : CanGive (image_frames s.tables) cleared
  images_give = record {
    apart = once_apart (image_frames s.tables) (λ g. (let o = held_once s free g fit in let a = held_is g s in omega (arith, o, a)));
    taken = all_taken cleared (image_frames s.tables) (λ g l. still g (omega (arith, l)));
  }

  tables_still : (g : ℕ) → 0 < among g (map table_frame_of s.tables.tables) → slice_get (set_free true (image_frames s.tables) cleared) g ≡ Some false
  tables_still g l =
      let a = held_is g s in let o = held_once s free g fit in
      let k = still g (omega (arith, l)) in
      let v : vacant cleared g ≡ 0 = ap one_where k in
      let e = given_vacant g (image_frames s.tables) cleared images_give.apart images_give.taken in
      there cleared (set_free true (image_frames s.tables) cleared) g false k (given_length (image_frames s.tables) cleared) (omega (arith, e, v, a, o, l))

  pub close_taken : HasTaken s.tables (set_free true (image_frames s.tables) cleared)
  close_taken = record {
    count = given_length (image_frames s.tables) cleared ∙ (length-give_back s.heap.pages left.free ∙ (leaving.count ∙ sym c.fit.agrees.count));
    tables = λ f p e. tables_still f (table_counts f s.tables.tables (some_piece e));
    aside = λ f p e. absurd (none_aside f p e);
  }
    where
      none_aside : (f : ℕ) (p : Piece) → piece_of s.tables.aside f ≡ Some p → ⊥
      none_aside f p e = let n : piece_of [] f ≡ Some p = subst (λ ts. piece_of ts f ≡ Some p) c.fit.agrees.aside e in cc

-- ---- the whole
closed_is : (t : KeptTables) → closed (levels_of t) t.count t.room ≡ emptied t
closed_is t = let e : suc t.top - 1 ≡ t.top = omega arith in rw e refl

pub left_is : (t : KeptTables) (r : RegionsAndFree) → leave t r ≡ let_regions_go (shared_frames t) r
unfolding leave
left_is t r = refl

pub ended_regions : (regions : Regions) (s : Space) (free : List Bool) → (let_regions_go (shared_frames s.tables) (regions_and_free regions free)).regions ≡ (ended regions s free).regions
unfolding ended leave
ended_regions regions s free = refl

pub ended_free : (regions : Regions) (s : Space) (free : List Bool) → s.tables.aside ≡ []
    → frames_given s.tables.tables (set_free true (image_frames s.tables) (give_back s.heap.pages (let_regions_go (shared_frames s.tables) (regions_and_free regions free)).free)) ≡ (ended regions s free).free
unfolding ended leave
ended_free regions s free a =
    let cleared = give_back s.heap.pages (let_regions_go (shared_frames s.tables) (regions_and_free regions free)).free in
    let all : s.tables.tables ≡ s.tables.tables ++ s.tables.aside = sym (append-nil s.tables.tables) ∙ ap (λ ts. s.tables.tables ++ ts) (sym a) in
    images_first s.tables.tables (image_frames s.tables) cleared ∙ ap (λ ts. set_free true (image_frames s.tables) (frames_given ts cleared)) all

pub ended_process : (regions : Regions) (free : List Bool) (t t1 : KeptTables) (g : Grants) (h h1 : Heap) (w w1 : List ℕ) (inherited : ℕ) (parent old : Option ℕ) (status : ℕ)
    → t1 ≡ closed (levels_of t) t.count t.room → h1 ≡ empty_heap h.frames → w1 ≡ []
    → record { space = space_of t1 g h1 w1; inherited = inherited; parent = parent; status = Some status }
    ≡ over status (ended regions (space_of t g h w) free).space (record { space = space_of t g h w; inherited = inherited; parent = parent; status = old })
unfolding ended
ended_process regions free t t1 g h h1 w w1 inherited parent old status e k n =
    let P : KeptTables → Heap → List ℕ → Process = λ x y z. record { space = space_of x g y z; inherited = inherited; parent = parent; status = Some status } in
    ap (λ x. P x h1 w1) (e ∙ closed_is t) ∙ (ap (λ y. P (emptied t) y w1) k ∙ ap (λ z. P (emptied t) (empty_heap h.frames) z) n)

-- ---- one frame of the image more
pub record GivesOne (target after : List Bool) (rest : List ℕ) : Type 0 where
  pub left : set_free true rest after ≡ target
  pub can : CanGive rest after

pub gives_one : (target free after : List Bool) (x : ℕ) (rest xs : List ℕ) → xs ≡ x ∷ rest → set_free true xs free ≡ target → CanGive xs free → after ≡ slice_set free x true → GivesOne target after rest
gives_one target free after x rest xs e l c f =
    let k : CanGive (x ∷ rest) free = subst (λ ys. CanGive ys free) e c in
    let given : CanGive rest (slice_set free x true) = record { apart = k.apart.1; taken = taken_but free x rest k.apart.0 k.taken.1 } in
    record {
      left = ap (set_free true rest) f ∙ (ap (λ ys. set_free true ys free) (sym e) ∙ l);
      can = subst (λ ys. CanGive rest ys) (sym f) given;
    }
