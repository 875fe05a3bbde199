-- Laid pages: no two have one number or one frame, and none has the frame of a table.
use Rattle.std.proofs.Common.{ℕ, zero, suc, ◌/◌, ◌≡◌, ◌≢◌, ◌<◌, ◌≤◌, ◌==◌, Bool, true, false, cond, Option, Some, None, List, [], ◌∷◌, length, find, position, get_or, slice_get, slice_set, arith, refl, ap, sym, ◌∙◌, subst}
use Rattle.std.proofs.lemmas.Bool.Decides.{nat_tests}
use Rattle.std.proofs.lemmas.List.Quantifiers.{position-Some}
use Rattle.osc_sv39.specs.declared.entries.Mapping.{Mapping}
use Rattle.osc_sv39.specs.Walk.{piece}
use Rattle.osc_slot.proofs.Backing.{get-set}
use Rattle.osc_paging.specs.declared.Mapped.{Mapped}
use Rattle.osc_paging.specs.declared.Piece.{Piece}
use Rattle.osc_paging.specs.declared.TableFrame.{TableFrame}
use Rattle.osc_paging.specs.KeptTables.{frame_of, mapping_at, piece_of}
use Rattle.osc_paging.specs.TableChanges.{Changed, leaf_put, link, link_all, linked, table_frame, with_page, with_table}
use Rattle.osc_paging.proofs.TableLists.{mapping_at-with_page, piece_of-with_table}
use Rattle.osc_paging.proofs.Needed.{link_all-pages, link_all-top}
use Rattle.osc_space.specs.LeafFlags.{leaf_of_page}
use Rattle.osc_calls.specs.Open.{OpenPage, laid, lay, lay_all}
use Rattle.osc_settled.proofs.Images.{Ascend}
use Rattle.osc_core.proofs.Agreeing.{takes}

-- ---- pages by their numbers
abbrev pub Once : List Mapped → Type 0
Once [] = Unit {0}
Once (m ∷ ms) = (mapping_at ms m.number ≡ None) × Once ms

once_with : (ms : List Mapped) (n : ℕ) (m : Mapping) → Once ms → mapping_at ms n ≡ None → Once (with_page n m ms)
once_with [] n m o e = (refl, tt)
once_with (x ∷ ms) n m o e = grind (arith, nat_tests, o.0, o.1, once_with ms n m o.1, mapping_at-with_page ms n x.number m)

-- the page that has a frame
pub found : (ms : List Mapped) (f : ℕ) (m : Mapped) → Once ms → find (λ (x : Mapped). x.mapping.frame == f) ms ≡ Some m → (mapping_at ms m.number ≡ Some m.mapping) × (m.mapping.frame ≡ f)
found [] f m o e = absurd (let w : ⊥ = grind (arith, e) in w)
found (x ∷ ms) f m o e = go (x.mapping.frame == f) refl e (found ms f m o.1)
  where
    itself : (x.number == x.number) ≡ true
    itself = grind (arith, nat_tests)

    later : (c : Bool) → (x.number == m.number) ≡ c → mapping_at ms m.number ≡ Some m.mapping → cond c (Some x.mapping) (mapping_at ms m.number) ≡ Some m.mapping
    later false g h = h
    later true g h = absurd (let s : x.number ≡ m.number = grind (arith, nat_tests, g) in
        let z : None ≡ Some m.mapping = sym o.0 ∙ ap (mapping_at ms) s ∙ h in let w : ⊥ = grind (arith, z) in w)

    go : (b : Bool) → (x.mapping.frame == f) ≡ b → cond b (Some x) (find (λ (y : Mapped). y.mapping.frame == f) ms) ≡ Some m
        → (find (λ (y : Mapped). y.mapping.frame == f) ms ≡ Some m → (mapping_at ms m.number ≡ Some m.mapping) × (m.mapping.frame ≡ f))
        → (mapping_at (x ∷ ms) m.number ≡ Some m.mapping) × (m.mapping.frame ≡ f)
    go true d k on =
        let s : x ≡ m = cc in
        subst (λ (y : Mapped). (mapping_at (x ∷ ms) y.number ≡ Some y.mapping) × (y.mapping.frame ≡ f)) s
        (ap (λ b. cond b (Some x.mapping) (mapping_at ms x.number)) itself, grind (arith, nat_tests, d))
    go false d k on = (later (x.number == m.number) refl (on k).0, (on k).1)

pub unfound : (ms : List Mapped) (f q : ℕ) (m : Mapping) → find (λ (x : Mapped). x.mapping.frame == f) ms ≡ None → mapping_at ms q ≡ Some m → f ≢ m.frame
unfound [] f q m n e same = let w : ⊥ = grind (arith, e) in w
unfound (x ∷ ms) f q m n e same = go (x.mapping.frame == f) refl n (x.number == q) e (λ k h. unfound ms f q m k h same)
  where
    go : (b : Bool) → (x.mapping.frame == f) ≡ b → cond b (Some x) (find (λ (y : Mapped). y.mapping.frame == f) ms) ≡ None → (c : Bool) → cond c (Some x.mapping) (mapping_at ms q) ≡ Some m
        → (find (λ (y : Mapped). y.mapping.frame == f) ms ≡ None → mapping_at ms q ≡ Some m → ⊥) → ⊥
    go true d k c h on = let w : ⊥ = grind (arith, k) in w
    go false d k false h on = on k h
    go false d k true h on =
        let s : x.mapping ≡ m = cc in
        let t : x.mapping.frame ≡ m.frame = ap (λ (y : Mapping). y.frame) s in
        let w : ⊥ = grind (arith, nat_tests, d, t, same) in w

-- ---- frames
differ : (o : Option Bool) → o ≡ Some true → o ≡ Some false → ⊥
differ o a b = let z : Some true ≡ Some false = sym a ∙ b in let w : ⊥ = grind (arith, z) in w

read_free : (free : List Bool) (g : ℕ) → g < length free → get_or free g false ≡ true → slice_get free g ≡ Some true
read_free [] g l e = absurd (omega (arith, l))
read_free (b ∷ free) zero l e = ap (λ (x : Bool). Some x) e
read_free (b ∷ free) (suc g) l e = read_free free g (omega (arith, l)) e

first_free : (free : List Bool) (g : ℕ) → position (λ b. b) free ≡ Some g → slice_get free g ≡ Some true
first_free free g e = let p = position-Some (λ b. b) free g false e in read_free free g p.0 p.1

other : (free : List Bool) (g f : ℕ) → slice_get free g ≡ Some true → slice_get free f ≡ Some false → (g == f) ≡ false
other free g f a b = go (g == f) refl
  where
    go : (t : Bool) → (g == f) ≡ t → t ≡ false
    go false e = refl
    go true e = absurd (differ (slice_get free g) a (ap (slice_get free) (let s : g ≡ f = grind (arith, nat_tests, e) in s) ∙ b))

newly : (free : List Bool) (g : ℕ) → slice_get free g ≡ Some true → slice_get (slice_set free g false) g ≡ Some false
newly free g e = let a = get-set free g g false in grind (arith, nat_tests, a, e)

no_piece : (o : Option Piece) → ((p : Piece) → o ≡ Some p → ⊥) → o ≡ None
no_piece None h = refl
no_piece (Some p) h = absurd (h p refl)

-- ---- what holds while pages are laid
pub record Spread (c : Changed) : Type 0 where
  pub once : Once c.tables.pages
  pub taken : (q : ℕ) (m : Mapping) → mapping_at c.tables.pages q ≡ Some m → slice_get c.free m.frame ≡ Some false
  pub apart : (p q : ℕ) (m n : Mapping) → mapping_at c.tables.pages p ≡ Some m → mapping_at c.tables.pages q ≡ Some n → m.frame ≡ n.frame → p ≡ q
  pub no_table : (q : ℕ) (m : Mapping) → mapping_at c.tables.pages q ≡ Some m → piece_of c.tables.tables m.frame ≡ None
  pub tables : (f : ℕ) (p : Piece) → piece_of c.tables.tables f ≡ Some p → slice_get c.free f ≡ Some false

bare_frame : (c : Changed) (g : ℕ) → Spread c → slice_get c.free g ≡ Some true → piece_of c.tables.tables g ≡ None
bare_frame c g s e = no_piece (piece_of c.tables.tables g) (λ p h. differ (slice_get c.free g) e (s.tables g p h))

-- a table more
linked_spread : (l n : ℕ) (o p f : Option ℕ) (c : Changed) → position (λ b. b) c.free ≡ f → Spread c → Spread (linked l n o p f c)
linked_spread l n None (Some parent) (Some g) c e s = record {
  once = s.once;
  taken = λ q m h. (takes c.free g).taken m.frame (s.taken q m h);
  apart = s.apart;
  no_table = λ q m h. more m.frame ∙ ap (λ b. cond b (Some new.piece) (piece_of c.tables.tables m.frame)) (other c.free g m.frame is_free (s.taken q m h)) ∙ s.no_table q m h;
  tables = λ f p h. held f p (g == f) refl (sym (more f) ∙ h);
}
  where
    is_free : slice_get c.free g ≡ Some true
    is_free = first_free c.free g e

    new : TableFrame
    new = table_frame l n g

    more : (f : ℕ) → piece_of (with_table (table_frame l n g) c.tables.tables) f ≡ cond (g == f) (Some new.piece) (piece_of c.tables.tables f)
    more f = piece_of-with_table c.tables.tables (table_frame l n g) f (bare_frame c g s is_free)

    held : (f : ℕ) (p : Piece) (b : Bool) → (g == f) ≡ b → cond b (Some new.piece) (piece_of c.tables.tables f) ≡ Some p → slice_get (slice_set c.free g false) f ≡ Some false
    held f p true d h = ap (slice_get (slice_set c.free g false)) (let t : f ≡ g = grind (arith, nat_tests, d) in t) ∙ newly c.free g is_free
    held f p false d h = (takes c.free g).taken f (s.tables f p h)
linked_spread l n (Some frame) p f c e s = s
linked_spread l n None None f c e s = s
linked_spread l n None (Some parent) None c e s = s

link_all_spread : (l n : ℕ) (c : Changed) → Spread c → Spread (link_all l n c)
unfolding link_all
link_all_spread zero n c s = s
link_all_spread (suc l) n c s =
    link_all_spread l n (link l (piece (suc l) n) c)
    (linked_spread l (piece (suc l) n) (frame_of c.tables.tables l (piece (suc l) n)) (frame_of c.tables.tables (suc l) (piece (suc l) n / 512)) (position (λ b. b) c.free) c refl s)

-- a page more
module _ (n : ℕ) (m : Mapping) (c : Changed) (is_free : slice_get c.free m.frame ≡ Some true) (new : mapping_at c.tables.pages n ≡ None) (s : Spread c) where
  by_page : (R : Type 0) (q : ℕ) (k : Mapping) → mapping_at (with_page n m c.tables.pages) q ≡ Some k → (n ≡ q → m ≡ k → R) → (mapping_at c.tables.pages q ≡ Some k → R) → R
  by_page R q k h is was = go (n == q) refl (sym (mapping_at-with_page c.tables.pages n q m) ∙ h)
    where
      go : (b : Bool) → (n == q) ≡ b → cond b (Some m) (mapping_at c.tables.pages q) ≡ Some k → R
      go true e i = is (grind (arith, nat_tests, e)) (let t : m ≡ k = cc in t)
      go false e i = was i

  still : (f : ℕ) → slice_get c.free f ≡ Some false → slice_get (slice_set c.free m.frame false) f ≡ Some false
  still f e = (takes c.free m.frame).taken f e

  same_frame : (q : ℕ) (k : Mapping) → m.frame ≡ k.frame → mapping_at c.tables.pages q ≡ Some k → ⊥
  same_frame q k e h = differ (slice_get c.free m.frame) is_free (ap (slice_get c.free) e ∙ s.taken q k h)

  put_spread : (o : Option ℕ) → Spread (leaf_put n m o (record c { free = slice_set c.free m.frame false }))
  put_spread None = record {
    once = s.once;
    taken = λ q k h. still k.frame (s.taken q k h);
    apart = s.apart;
    no_table = s.no_table;
    tables = λ f p h. still f (s.tables f p h);
  }
  put_spread (Some t) = record {
    once = once_with c.tables.pages n m s.once new;
    taken = λ q k h. by_page (slice_get (slice_set c.free m.frame false) k.frame ≡ Some false) q k h
        (λ e u. ap (λ (x : Mapping). slice_get (slice_set c.free m.frame false) x.frame) (sym u) ∙ newly c.free m.frame is_free)
        (λ i. still k.frame (s.taken q k i));
    apart = λ p q a b h i same. by_page (p ≡ q) p a h
        (λ e u. by_page (p ≡ q) q b i (λ f v. sym e ∙ f) (λ j. absurd (same_frame q b (ap (λ (x : Mapping). x.frame) u ∙ same) j)))
        (λ j. by_page (p ≡ q) q b i (λ f v. absurd (same_frame p a (ap (λ (x : Mapping). x.frame) v ∙ sym same) j)) (λ k. s.apart p q a b j k same));
    no_table = λ q k h. by_page (piece_of c.tables.tables k.frame ≡ None) q k h
        (λ e u. ap (λ (x : Mapping). piece_of c.tables.tables x.frame) (sym u) ∙ bare_frame c m.frame s is_free)
        (λ i. s.no_table q k i);
    tables = λ f p h. still f (s.tables f p h);
  }

laid_spread : (p : OpenPage) (o : Option ℕ) (c : Changed) → position (λ b. b) c.free ≡ o → mapping_at c.tables.pages p.page ≡ None → Spread c → Spread (laid p o c)
laid_spread p None c e new s = s
laid_spread p (Some g) c e new s =
    put_spread p.page (record { frame = g; bits = leaf_of_page p.bits }) c (first_free c.free g e) new s (frame_of c.tables.tables 0 (p.page / 512))

-- other pages stay as they are
put_other : (n q : ℕ) (m : Mapping) (o : Option ℕ) (c : Changed) → (n == q) ≡ false → mapping_at (leaf_put n m o c).tables.pages q ≡ mapping_at c.tables.pages q
put_other n q m None c e = refl
put_other n q m (Some t) c e = mapping_at-with_page c.tables.pages n q m ∙ ap (λ b. cond b (Some m) (mapping_at c.tables.pages q)) e

laid_other : (p : OpenPage) (o : Option ℕ) (c : Changed) (q : ℕ) → (p.page == q) ≡ false → mapping_at (laid p o c).tables.pages q ≡ mapping_at c.tables.pages q
laid_other p None c q e = refl
laid_other p (Some g) c q e = put_other p.page q _ (frame_of c.tables.tables 0 (p.page / 512)) (record c { free = slice_set c.free g false }) e

pub lay_other : (p : OpenPage) (c : Changed) (q : ℕ) → (p.page == q) ≡ false → mapping_at (lay p (link_all c.tables.top p.page c)).tables.pages q ≡ mapping_at c.tables.pages q
lay_other p c q e =
    laid_other p (position (λ b. b) (link_all c.tables.top p.page c).free) (link_all c.tables.top p.page c) q e
    ∙ ap (λ ms. mapping_at ms q) (link_all-pages c.tables.top p.page c)

put_top : (n : ℕ) (m : Mapping) (o : Option ℕ) (c : Changed) → (leaf_put n m o c).tables.top ≡ c.tables.top
put_top n m None c = refl
put_top n m (Some t) c = refl

laid_top : (p : OpenPage) (o : Option ℕ) (c : Changed) → (laid p o c).tables.top ≡ c.tables.top
laid_top p None c = refl
laid_top p (Some g) c = put_top p.page _ (frame_of c.tables.tables 0 (p.page / 512)) (record c { free = slice_set c.free g false })

pub all_top : (ps : List OpenPage) (c : Changed) → (lay_all ps c).tables.top ≡ c.tables.top
all_top [] c = refl
all_top (p ∷ ps) c =
    all_top ps (lay p (link_all c.tables.top p.page c))
    ∙ laid_top p (position (λ b. b) (link_all c.tables.top p.page c).free) (link_all c.tables.top p.page c)
    ∙ link_all-top c.tables.top p.page c

pub all_spread : (low : ℕ) (ps : List OpenPage) (c : Changed) → Ascend low ps → ((q : ℕ) → low ≤ q → mapping_at c.tables.pages q ≡ None) → Spread c → Spread (lay_all ps c)
all_spread low [] c a new s = s
all_spread low (p ∷ ps) c a new s =
    all_spread (suc p.page) ps (lay p (link_all c.tables.top p.page c)) a.3
    (λ q l. lay_other p c q (grind (arith, nat_tests, l)) ∙ new q (let b = a.0 in omega (arith, b, l)))
    (laid_spread p (position (λ b. b) (link_all c.tables.top p.page c).free) (link_all c.tables.top p.page c) refl
    (ap (λ ms. mapping_at ms p.page) (link_all-pages c.tables.top p.page c) ∙ new p.page a.0)
    (link_all_spread c.tables.top p.page c s))
