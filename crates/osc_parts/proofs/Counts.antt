-- How often a frame stands in the lists of a process's parts.
use Rattle.std.proofs.Common.{ℕ, ◌+◌, ◌≡◌, ◌<◌, ◌≤◌, ◌==◌, nat_lt, ◌&&◌, Bool, true, false, not, cond, Some, None, is_some, List, [], ◌∷◌, ◌++◌, length, map, filter, slice_get, slice_set, arith, refl, ap, sym, ◌∙◌, subst}
use Rattle.std.specs.List.{list_any}
use Rattle.std.proofs.lemmas.Bool.Decides.{nat_tests}
use Rattle.osc_sv39.specs.declared.entries.Mapping.{Mapping}
use Rattle.osc_slot.specs.declared.HeapPage.{HeapPage}
use Rattle.osc_slot.specs.Ordered.{insert_by}
use Rattle.osc_slot.specs.Heap.{give_back}
use Rattle.osc_slot.proofs.Backing.{get-set, length-set}
use Rattle.osc_paging.specs.declared.TableFrame.{TableFrame}
use Rattle.osc_paging.specs.declared.Mapped.{Mapped}
use Rattle.osc_paging.specs.KeptTables.{frame_of, is_piece}
use Rattle.osc_paging.specs.TableChanges.{with_table, without_table, with_page, without_page, frames_given}
use Rattle.osc_paging.specs.Agree.{Apart}
use Rattle.osc_space.specs.Fork.{table_frame_of, heap_frame_of, set_free}
use Rattle.osc_space.specs.Agree.{AreApart, AllTaken}
use Rattle.osc_parts.specs.Frames.{one_at, among, one_where, vacant}

pub among-append : (f : ℕ) (xs ys : List ℕ) → among f (xs ++ ys) ≡ among f xs + among f ys
among-append f [] ys = omega arith
among-append f (x ∷ xs) ys = let e = among-append f xs ys in omega (arith, e)

-- ---- lists that are apart, and taken
pub member_counts : (f : ℕ) (xs : List ℕ) → list_any (λ y. y == f) xs ≡ nat_lt 0 (among f xs)
member_counts f [] = refl
member_counts f (x ∷ xs) = let e = member_counts f xs in grind (arith, nat_tests, e)

pub apart_once : (f : ℕ) (xs : List ℕ) → AreApart xs → among f xs ≤ 1
apart_once f [] a = omega arith
apart_once f (x ∷ xs) a = go (x == f) refl (apart_once f xs a.1)
  where
    go : (b : Bool) → (x == f) ≡ b → among f xs ≤ 1 → cond b 1 0 + among f xs ≤ 1
    go false e later = omega (arith, later)
    go true e later = let same : x ≡ f = grind (arith, nat_tests, e) in let none = member_counts x xs in let z = a.0 in let w : nat_lt 0 (among f xs) ≡ false = subst (λ g. nat_lt 0 (among g xs) ≡ false) same (sym none ∙ z) in grind (arith, nat_tests, w)

pub once_apart : (xs : List ℕ) → ((f : ℕ) → among f xs ≤ 1) → AreApart xs
once_apart [] h = tt
once_apart (x ∷ xs) h =
    (member_counts x xs ∙ (let a = h x in grind (arith, nat_tests, a)), once_apart xs (λ f. (let a = h f in omega (arith, a))))

pub taken_at : (free : List Bool) (f : ℕ) (xs : List ℕ) → AllTaken free xs → 0 < among f xs → slice_get free f ≡ Some false
taken_at free f [] t l = absurd (omega arith)
taken_at free f (x ∷ xs) t l = go (x == f) refl l (λ m. taken_at free f xs t.1 m)
  where
    go : (b : Bool) → (x == f) ≡ b → 0 < cond b 1 0 + among f xs → (0 < among f xs → slice_get free f ≡ Some false) → slice_get free f ≡ Some false
    go true e m later = let same : x ≡ f = grind (arith, nat_tests, e) in subst (λ g. slice_get free g ≡ Some false) same t.0
    go false e m later = later (omega (arith, m))

pub all_taken : (free : List Bool) (xs : List ℕ) → ((f : ℕ) → 0 < among f xs → slice_get free f ≡ Some false) → AllTaken free xs
all_taken free [] h = tt
all_taken free (x ∷ xs) h =
    (h x (grind (arith, nat_tests)), all_taken free xs (λ f l. h f (omega (arith, l))))

-- ---- free frames
pub vacant_take : (free : List Bool) (g f : ℕ) → slice_get free g ≡ Some true → one_at g f + vacant (slice_set free g false) f ≡ vacant free f
vacant_take free g f e = go (g == f) refl
  where
    at : slice_get (slice_set free g false) f ≡ cond ((f == g) && is_some (slice_get free f)) (Some false) (slice_get free f)
    at = get-set free g f false

    go : (b : Bool) → (g == f) ≡ b → cond b 1 0 + vacant (slice_set free g false) f ≡ vacant free f
    go true d = let same : g ≡ f = grind (arith, nat_tests, d) in let here : slice_get free f ≡ Some true = subst (λ x. slice_get free x ≡ Some true) same e in grind (arith, nat_tests, at, here, same)
    go false d = let other : (f == g) ≡ false = grind (arith, nat_tests, d) in grind (arith, nat_tests, at, other)

pub vacant_give : (free : List Bool) (g f : ℕ) → slice_get free g ≡ Some false → vacant (slice_set free g true) f ≡ one_at g f + vacant free f
vacant_give free g f e = go (g == f) refl
  where
    at : slice_get (slice_set free g true) f ≡ cond ((f == g) && is_some (slice_get free f)) (Some true) (slice_get free f)
    at = get-set free g f true

    go : (b : Bool) → (g == f) ≡ b → vacant (slice_set free g true) f ≡ cond b 1 0 + vacant free f
    go true d = let same : g ≡ f = grind (arith, nat_tests, d) in let here : slice_get free f ≡ Some false = subst (λ x. slice_get free x ≡ Some false) same e in grind (arith, nat_tests, at, here, same)
    go false d = let other : (f == g) ≡ false = grind (arith, nat_tests, d) in grind (arith, nat_tests, at, other)

pub free_vacant : (free : List Bool) (f : ℕ) → slice_get free f ≡ Some false → vacant free f ≡ 0
free_vacant free f e = ap one_where e

-- ---- tables
pub table_more : (f : ℕ) (t : TableFrame) (ts : List TableFrame) → among f (map table_frame_of (with_table t ts)) ≡ one_at t.frame f + among f (map table_frame_of ts)
table_more f t [] = refl
table_more f t (x ∷ ts) = let e = table_more f t ts in grind (arith, nat_tests, e)

none_there : (l n : ℕ) (ts : List TableFrame) → frame_of ts l n ≡ None → without_table l n ts ≡ ts
none_there l n [] e = refl
none_there l n (t ∷ ts) e = go (is_piece t.piece l n) refl (none_there l n ts)
  where
    go : (b : Bool) → is_piece t.piece l n ≡ b → (frame_of ts l n ≡ None → without_table l n ts ≡ ts) → cond b (without_table l n ts) (t ∷ without_table l n ts) ≡ t ∷ ts
    go true d later = absurd (let z : ⊥ = grind (arith, e, d) in z)
    go false d later = let rest : frame_of ts l n ≡ None = grind (arith, e, d) in ap (λ us. t ∷ us) (later rest)

pub table_less : (f l n g : ℕ) (ts : List TableFrame) → Apart ts → frame_of ts l n ≡ Some g → one_at g f + among f (map table_frame_of (without_table l n ts)) ≡ among f (map table_frame_of ts)
table_less f l n g [] a e = absurd (let z : ⊥ = grind (arith, e) in z)
table_less f l n g (t ∷ ts) a e = go (is_piece t.piece l n) refl (table_less f l n g ts a.2)
  where
    go : (b : Bool) → is_piece t.piece l n ≡ b → (frame_of ts l n ≡ Some g → one_at g f + among f (map table_frame_of (without_table l n ts)) ≡ among f (map table_frame_of ts)) → one_at g f + among f (map table_frame_of (cond b (without_table l n ts) (t ∷ without_table l n ts))) ≡ one_at t.frame f + among f (map table_frame_of ts)
    go true d later =
        let same : t.frame ≡ g = grind (arith, e, d) in
        let level : t.piece.level ≡ l = grind (arith, nat_tests, d) in
        let number : t.piece.number ≡ n = grind (arith, nat_tests, d) in
        let none : frame_of ts l n ≡ None = subst (λ m. frame_of ts l m ≡ None) number (subst (λ k. frame_of ts k t.piece.number ≡ None) level a.0) in
        let stays = none_there l n ts none in
        rw (stays, same) refl
    go false d later = let rest : frame_of ts l n ≡ Some g = grind (arith, e, d) in let k = later rest in omega (arith, k)

-- ---- pages that hold blocks
pub block_page_more : (f : ℕ) (p : HeapPage) (pages : List HeapPage) → among f (map heap_frame_of (insert_by (λ (q : HeapPage). q.page) p pages)) ≡ one_at p.frame f + among f (map heap_frame_of pages)
unfolding insert_by
block_page_more f p [] = refl
block_page_more f p (q ∷ pages) = let e = block_page_more f p pages in grind (arith, nat_tests, e)

pub block_pages_split : (test : HeapPage → Bool) (f : ℕ) (pages : List HeapPage) → among f (map heap_frame_of (filter test pages)) + among f (map heap_frame_of (filter (λ p. not (test p)) pages)) ≡ among f (map heap_frame_of pages)
block_pages_split test f [] = refl
block_pages_split test f (p ∷ pages) = go (test p) (block_pages_split test f pages)
  where
    go : (b : Bool) → among f (map heap_frame_of (filter test pages)) + among f (map heap_frame_of (filter (λ q. not (test q)) pages)) ≡ among f (map heap_frame_of pages) → among f (map heap_frame_of (cond b (p ∷ filter test pages) (filter test pages))) + among f (map heap_frame_of (cond (not b) (p ∷ filter (λ q. not (test q)) pages) (filter (λ q. not (test q)) pages))) ≡ one_at p.frame f + among f (map heap_frame_of pages)
    go true later = omega (arith, later)
    go false later = omega (arith, later)

-- ---- mapped pages of another range
pub page_more : (test : ℕ → Bool) (n : ℕ) (m : Mapping) (ms : List Mapped) → test n ≡ false → filter (λ (x : Mapped). test x.number) (with_page n m ms) ≡ filter (λ (x : Mapped). test x.number) ms
page_more test n m [] e = rw e refl
page_more test n m (x ∷ ms) e = go (nat_lt x.number n) (page_more test n m ms e)
  where
    go : (b : Bool) → filter (λ (y : Mapped). test y.number) (with_page n m ms) ≡ filter (λ (y : Mapped). test y.number) ms → filter (λ (y : Mapped). test y.number) (cond b (x ∷ with_page n m ms) ((record { number = n; mapping = m }) ∷ x ∷ ms)) ≡ filter (λ (y : Mapped). test y.number) (x ∷ ms)
    go true later = ap (λ ys. cond (test x.number) (x ∷ ys) ys) later
    go false later = rw e refl

pub page_less : (test : ℕ → Bool) (n : ℕ) (ms : List Mapped) → test n ≡ false → filter (λ (x : Mapped). test x.number) (without_page n ms) ≡ filter (λ (x : Mapped). test x.number) ms
page_less test n [] e = refl
page_less test n (x ∷ ms) e = go (x.number == n) refl (page_less test n ms e)
  where
    go : (b : Bool) → (x.number == n) ≡ b → filter (λ (y : Mapped). test y.number) (without_page n ms) ≡ filter (λ (y : Mapped). test y.number) ms → filter (λ (y : Mapped). test y.number) (cond b (without_page n ms) (x ∷ without_page n ms)) ≡ filter (λ (y : Mapped). test y.number) (x ∷ ms)
    go true d later = let same : x.number ≡ n = grind (arith, nat_tests, d) in let none : test x.number ≡ false = ap test same ∙ e in rw none later
    go false d later = ap (λ ys. cond (test x.number) (x ∷ ys) ys) later

-- ---- frames given
frame_stays : (g : ℕ) (free : List Bool) (f : ℕ) → one_at g f ≡ 0 → slice_get (slice_set free g true) f ≡ slice_get free f
frame_stays g free f e = let at = get-set free g f true in grind (arith, nat_tests, at, e)

-- the others are taken still
pub taken_but : (free : List Bool) (g : ℕ) (xs : List ℕ) → list_any (λ y. y == g) xs ≡ false → AllTaken free xs → AllTaken (slice_set free g true) xs
taken_but free g xs a t = all_taken (slice_set free g true) xs (λ f l. stays f l (g == f) refl)
  where
    stays : (f : ℕ) → 0 < among f xs → (b : Bool) → (g == f) ≡ b → slice_get (slice_set free g true) f ≡ Some false
    stays f l true d = absurd (let same : g ≡ f = grind (arith, nat_tests, d) in let none = member_counts g xs in let z : nat_lt 0 (among g xs) ≡ false = sym none ∙ a in let w : nat_lt 0 (among f xs) ≡ false = subst (λ x. nat_lt 0 (among x xs) ≡ false) same z in let y : ⊥ = grind (arith, nat_tests, w, l) in y)
    stays f l false d = frame_stays g free f (grind (arith, d)) ∙ taken_at free f xs t l

pub give_back_vacant : (f : ℕ) (pages : List HeapPage) (free : List Bool) → AreApart (map heap_frame_of pages) → AllTaken free (map heap_frame_of pages) → vacant (give_back pages free) f ≡ among f (map heap_frame_of pages) + vacant free f
unfolding give_back
give_back_vacant f [] free a t = omega arith
give_back_vacant f (p ∷ pages) free a t =
    let here = vacant_give free p.frame f t.0 in
    let later = give_back_vacant f pages (slice_set free p.frame true) a.1 (taken_but free p.frame (map heap_frame_of pages) a.0 t.1) in
    omega (arith, here, later)

pub frames_given_vacant : (f : ℕ) (ts : List TableFrame) (free : List Bool) → AreApart (map table_frame_of ts) → AllTaken free (map table_frame_of ts) → vacant (frames_given ts free) f ≡ among f (map table_frame_of ts) + vacant free f
frames_given_vacant f [] free a t = omega arith
frames_given_vacant f (p ∷ ts) free a t =
    let here = vacant_give free p.frame f t.0 in
    let later = frames_given_vacant f ts (slice_set free p.frame true) a.1 (taken_but free p.frame (map table_frame_of ts) a.0 t.1) in
    omega (arith, here, later)

pub given_length : (xs : List ℕ) (free : List Bool) → length (set_free true xs free) ≡ length free
given_length [] free = refl
given_length (x ∷ xs) free = given_length xs (slice_set free x true) ∙ length-set free x true
