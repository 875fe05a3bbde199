-- Each change keeps the agreement of words and tables.
use Rattle.std.proofs.Common.{ℕ, zero, suc, ◌≡◌, ◌≢◌, ◌<◌, ◌≤◌, ◌==◌, ◌&&◌, ◌%◌, ◌/◌, Bool, true, false, cond, List, [], ◌∷◌, ◌++◌, Option, Some, None, arith, refl, ap, ◌∙◌, ◌+◌, ◌*◌, ◌⊎◌, inl, inr, ⊎_elim, subst, length, set, slice_get, position}
use Rattle.std.proofs.lemmas.Bool.Decides.{nat_tests}
use Rattle.std.proofs.lemmas.List.{length-set}
use Rattle.std.proofs.lemmas.List.Quantifiers.{position-Some}
use Rattle.std.proofs.lemmas.Option.{slice_get-get_or, slice_get_within}
use Rattle.osc_sv39.specs.declared.entries.Mapping.{Mapping}
use Rattle.osc_sv39.specs.declared.entries.PteEntry.{PteEntry}
use Rattle.osc_sv39.specs.declared.entries.PteEntry.TheVariants.{Absent, Table, Leaf, Reserved}
use Rattle.osc_sv39.specs.Entries.{word_of}
use Rattle.osc_sv39.specs.Walk.{piece, word_at}
use Rattle.osc_paging.specs.declared.Piece.{Piece}
use Rattle.osc_paging.specs.declared.TableFrame.{TableFrame}
use Rattle.osc_paging.specs.JobWords.{words_after}
use Rattle.osc_paging.specs.KeptTables.{KeptTables, mapping_at, frame_of, piece_of, child, page_entry}
use Rattle.osc_paging.specs.TableChanges.{Changed, with_page, without_page, without_table, linked, link, link_all, leaf_put, leaf_cleared, unlinked, give_leaves, frames_given, table_frame}
use Rattle.osc_paging.specs.Agree.{Apart, Agrees, AgreesAfter, ReadsAsLeaf}
use Rattle.osc_paging.proofs.WordLists.{slice_get-set, length-zeroed, put_word_at, zeroed_word_at, words_after-append}
use Rattle.osc_paging.proofs.TableLists.{mapping_at-with_page, mapping_at-without_page, frame_of-with_table, piece_of-with_table, apart-with_table, frame_of-without_table, apart-found, apart-placed, piece_of-without_same, piece_of-without_none, apart-without_table, piece_of-left, piece_of-push}

-- a table that is not there has no entry
childless : (t : KeptTables) (free : List Bool) (words : List ℕ) (l n i : ℕ) → Agrees t free words → l ≤ t.top → i < 512 → frame_of t.tables l n ≡ None → child t l (n * 512 + i) ≡ Absent
childless t free words l n i fits m s e =
    let q : (n * 512 + i) / 512 ≡ n = omega arith in
    go (child t l (n * 512 + i)) (λ f. subst (λ k. frame_of t.tables l k ≢ None) q (fits.parents l (n * 512 + i) m f) e)
  where
    go : (x : PteEntry) → (x ≢ Absent → ⊥) → x ≡ Absent
    go Absent h = refl
    go (Table f) h = absurd (h (λ e. cc))
    go (Leaf f b) h = absurd (h (λ e. cc))
    go Reserved h = absurd (h (λ e. cc))

-- one table is linked
record Linking (entries : ℕ → ℕ → ℕ) (c : Changed) (words : List ℕ) (l n parent frame : ℕ) : Type 0 where
  fits : AgreesAfter entries words c
  level : l < c.tables.top
  absent : frame_of c.tables.tables l n ≡ None
  over_it : frame_of c.tables.tables (suc l) (n / 512) ≡ Some parent
  least : slice_get c.free frame ≡ Some true

abbrev after : Changed → ℕ → ℕ → ℕ → ℕ → Changed
after c l n parent frame = linked l n None (Some parent) (Some frame) c

-- the frame is no table yet, and no leaf aside
fresh : (entries : ℕ → ℕ → ℕ) (c : Changed) (words : List ℕ) (l n parent frame : ℕ) → Linking entries c words l n parent frame → piece_of c.tables.tables frame ≡ None
fresh entries c words l n parent frame k = go (piece_of c.tables.tables frame) (λ p. k.fits.taken frame p)
  where
    go : (x : Option Piece) → ((p : Piece) → x ≡ Some p → slice_get c.free frame ≡ Some false) → x ≡ None
    go None h = refl
    go (Some p) h = let e = h p refl in let d = k.least in cc

link-size : (entries : ℕ → ℕ → ℕ) (c : Changed) (words : List ℕ) (l n parent frame : ℕ) → Linking entries c words l n parent frame → length (words_after entries (after c l n parent frame).jobs words) ≡ length (after c l n parent frame).free * 512
link-size entries c words l n parent frame k = grind (arith, nat_tests, k.fits.size, words_after-append, length-set {A = ℕ}, length-set {A = Bool}, length-zeroed)

link-apart : (entries : ℕ → ℕ → ℕ) (c : Changed) (words : List ℕ) (l n parent frame : ℕ) → Linking entries c words l n parent frame → Apart (after c l n parent frame).tables.tables
link-apart entries c words l n parent frame k = apart-with_table c.tables.tables (table_frame l n frame) k.fits.apart k.absent (fresh entries c words l n parent frame k)

-- what the frames are tables of after the link
placed : (entries : ℕ → ℕ → ℕ) (c : Changed) (words : List ℕ) (l n parent frame f : ℕ) → Linking entries c words l n parent frame → piece_of (after c l n parent frame).tables.tables f ≡ cond (frame == f) (Some (record { level = l; number = n })) (piece_of c.tables.tables f)
placed entries c words l n parent frame f k = piece_of-with_table c.tables.tables (table_frame l n frame) f (fresh entries c words l n parent frame k)

link-taken : (entries : ℕ → ℕ → ℕ) (c : Changed) (words : List ℕ) (l n parent frame : ℕ) (f : ℕ) (p : Piece) → Linking entries c words l n parent frame → piece_of (after c l n parent frame).tables.tables f ≡ Some p → slice_get (after c l n parent frame).free f ≡ Some false
link-taken entries c words l n parent frame f p k e = grind (arith, nat_tests, placed entries c words l n parent frame f k, k.fits.taken f p, k.least, slice_get-set)

link-parents : (entries : ℕ → ℕ → ℕ) (c : Changed) (words : List ℕ) (l n parent frame : ℕ) (lv m : ℕ) → Linking entries c words l n parent frame → lv ≤ c.tables.top → child (after c l n parent frame).tables lv m ≢ Absent → frame_of (after c l n parent frame).tables.tables lv (m / 512) ≢ None
link-parents entries c words l n parent frame zero m k s h = grind (arith, nat_tests, frame_of-with_table, k.fits.parents zero m)
link-parents entries c words l n parent frame (suc lv) m k s h = grind (arith, nat_tests, frame_of-with_table, k.fits.parents (suc lv) m, k.over_it)

link-word : (entries : ℕ → ℕ → ℕ) (c : Changed) (words : List ℕ) (l n parent frame : ℕ) (f i : ℕ) → Linking entries c words l n parent frame → i < 512 → word_at (words_after entries (after c l n parent frame).jobs words) f i ≡ cond ((f == parent) && (i == n % 512)) (frame * 1024 + 1) (cond (f == frame) 0 (word_at (words_after entries c.jobs words) f i))
link-word entries c words l n parent frame f i k s =
    let place = apart-found _ (suc l) (n / 512) parent k.fits.apart k.over_it in
    let within : parent < length c.free = slice_get_within c.free parent false (k.fits.taken parent _ place) in
    rw words_after-append (put_word_at _ parent (n % 512) (frame * 1024 + 1) f i (length c.free) (length-zeroed 512 _ _ ∙ k.fits.size) within (omega arith) s ∙ ap (cond ((f == parent) && (i == n % 512)) (frame * 1024 + 1)) (zeroed_word_at (words_after entries c.jobs words) frame f i s))

link-agree : (entries : ℕ → ℕ → ℕ) (c : Changed) (words : List ℕ) (l n parent frame : ℕ) (f i lv m : ℕ) → Linking entries c words l n parent frame → i < 512 → piece_of (after c l n parent frame).tables.tables f ≡ Some (record { level = lv; number = m }) → word_at (words_after entries (after c l n parent frame).jobs words) f i ≡ word_of (child (after c l n parent frame).tables lv (m * 512 + i))
link-agree entries c words l n parent frame f i zero m k s e =
    let was : piece_of c.tables.tables f ≡ Some (record { level = 0; number = m }) → word_at (words_after entries c.jobs words) f i ≡ word_of (child c.tables 0 (m * 512 + i)) = k.fits.agree f i _ s in
    let over_it = apart-found _ (suc l) (n / 512) parent k.fits.apart k.over_it in
    let now = placed entries c words l n parent frame f k in
    rw (link-word entries c words l n parent frame f i k s) (grind (arith, nat_tests, now, was, fresh entries c words l n parent frame k, childless c.tables c.free (words_after entries c.jobs words) l n i k.fits, over_it))
link-agree entries c words l n parent frame f i (suc lv) m k s e =
    let was : piece_of c.tables.tables f ≡ Some (record { level = suc lv; number = m }) → word_at (words_after entries c.jobs words) f i ≡ word_of (child c.tables (suc lv) (m * 512 + i)) = k.fits.agree f i _ s in
    let back : piece_of c.tables.tables f ≡ Some (record { level = suc lv; number = m }) → frame_of c.tables.tables (suc lv) m ≡ Some f = apart-placed _ f (suc lv) m k.fits.apart in
    let over_it = apart-found _ (suc l) (n / 512) parent k.fits.apart k.over_it in
    let now = placed entries c words l n parent frame f k in
    rw (link-word entries c words l n parent frame f i k s) (grind (arith, nat_tests, now, frame_of-with_table, was, back, fresh entries c words l n parent frame k, childless c.tables c.free (words_after entries c.jobs words) l n i k.fits, over_it))

link-spare : (entries : ℕ → ℕ → ℕ) (c : Changed) (words : List ℕ) (l n parent frame : ℕ) (f : ℕ) (p : Piece) → Linking entries c words l n parent frame → piece_of c.tables.aside f ≡ Some p → (piece_of (after c l n parent frame).tables.tables f ≡ None) × (slice_get (after c l n parent frame).free f ≡ Some false)
link-spare entries c words l n parent frame f p k e = grind (arith, nat_tests, placed entries c words l n parent frame f k, k.fits.spare f p, k.least, slice_get-set)

link-zeros : (entries : ℕ → ℕ → ℕ) (c : Changed) (words : List ℕ) (l n parent frame : ℕ) (f i : ℕ) (p : Piece) → Linking entries c words l n parent frame → i < 512 → piece_of c.tables.aside f ≡ Some p → word_at (words_after entries (after c l n parent frame).jobs words) f i ≡ 0
link-zeros entries c words l n parent frame f i p k s e =
    let over_it = apart-found _ (suc l) (n / 512) parent k.fits.apart k.over_it in
    rw (link-word entries c words l n parent frame f i k s) (grind (arith, nat_tests, k.fits.spare f p, k.fits.zeros f i p, over_it))

linked-agrees : (entries : ℕ → ℕ → ℕ) (c : Changed) (words : List ℕ) (l n parent frame : ℕ) → Linking entries c words l n parent frame → AgreesAfter entries words (after c l n parent frame)
linked-agrees entries c words l n parent frame k = record {
  size = link-size entries c words l n parent frame k;
  small = grind (arith, k.fits.small, length-set {A = Bool});
  apart = link-apart entries c words l n parent frame k;
  taken = λ f p. link-taken entries c words l n parent frame f p k;
  parents = λ lv m. link-parents entries c words l n parent frame lv m k;
  leaves = k.fits.leaves;
  agree = λ f i p. link-agree entries c words l n parent frame f i p.level p.number k;
  spare = λ f p. link-spare entries c words l n parent frame f p k;
  zeros = λ f i p. link-zeros entries c words l n parent frame f i p k;
}

pub position_passes : (free : List Bool) (i : ℕ) → position (λ b. b) free ≡ Some i → slice_get free i ≡ Some true
position_passes free i e = let f = position-Some (λ b. b) free i false e in grind (arith, f, slice_get-get_or free i false)

link-agrees : (entries : ℕ → ℕ → ℕ) (c : Changed) (words : List ℕ) (l n : ℕ) → l < c.tables.top → AgreesAfter entries words c → AgreesAfter entries words (link l n c)
link-agrees entries c words l n s g = go _ _ _ refl refl refl
  where
    go : (a b p : Option ℕ) → frame_of c.tables.tables l n ≡ a → frame_of c.tables.tables (suc l) (n / 512) ≡ b → position (λ b. b) c.free ≡ p → AgreesAfter entries words (linked l n a b p c)
    go (Some a) b p e f h = g
    go None None p e f h = g
    go None (Some b) None e f h = g
    go None (Some b) (Some p) e f h = linked-agrees entries c words l n b p (record { fits = g; level = s; absent = e; over_it = f; least = position_passes c.free p h })

linked-top : (c : Changed) (l n : ℕ) (a b p : Option ℕ) → (linked l n a b p c).tables.top ≡ c.tables.top
linked-top c l n (Some f) b p = refl
linked-top c l n None None p = refl
linked-top c l n None (Some b) None = refl
linked-top c l n None (Some b) (Some p) = refl

-- the number of levels stays
pub link-top : (l n : ℕ) (c : Changed) → (link l n c).tables.top ≡ c.tables.top
link-top l n c = linked-top c l n _ _ _

pub link_all-agrees : (entries : ℕ → ℕ → ℕ) (c : Changed) (words : List ℕ) (l n : ℕ) → l ≤ c.tables.top → AgreesAfter entries words c → AgreesAfter entries words (link_all l n c)
unfolding link_all
link_all-agrees entries c words zero n s g = g
link_all-agrees entries c words (suc l) n s g = link_all-agrees entries (link l (piece (suc l) n) c) words l n (rw link-top (omega arith)) (link-agrees entries c words l (piece (suc l) n) (omega arith) g)

-- a leaf is put
pub put-agrees : (entries : ℕ → ℕ → ℕ) (c : Changed) (words : List ℕ) (number : ℕ) (m : Mapping) (table : ℕ) → ReadsAsLeaf m → frame_of c.tables.tables 0 (number / 512) ≡ Some table → AgreesAfter entries words c → AgreesAfter entries words (leaf_put number m (Some table) c)
put-agrees entries c words number m table reads there g = record {
  size = grind (arith, g.size, words_after-append, length-set {A = ℕ});
  small = g.small;
  apart = g.apart;
  taken = g.taken;
  parents = parents;
  leaves = leaves;
  agree = λ f i p s e. rw (word f i s) (agree f i p.level p.number s e);
  spare = g.spare;
  zeros = λ f i p s e. rw (word f i s) (grind (arith, nat_tests, g.zeros f i p, g.spare f p, place));
}
  where
    place : piece_of c.tables.tables table ≡ Some (record { level = 0; number = number / 512 })
    place = apart-found _ 0 (number / 512) table g.apart there

    word : (f i : ℕ) → i < 512 → word_at (words_after entries (leaf_put number m (Some table) c).jobs words) f i ≡ cond ((f == table) && (i == number % 512)) (m.frame * 1024 + m.bits.0) (word_at (words_after entries c.jobs words) f i)
    word f i s = rw words_after-append (put_word_at _ table (number % 512) _ f i (length c.free) g.size (slice_get_within c.free table false (g.taken table _ place)) (omega arith) s)

    leaves : (q : ℕ) (x : Mapping) → mapping_at (with_page number m c.tables.pages) q ≡ Some x → ReadsAsLeaf x
    leaves q x e = pick (number == q) (rw mapping_at-with_page at e)
      where
        pick : (t : Bool) → cond t (Some m) (mapping_at c.tables.pages q) ≡ Some x → ReadsAsLeaf x
        pick true e = let d : m ≡ x = cc in subst ReadsAsLeaf d reads
        pick false e = g.leaves q x e

    parents : (l n : ℕ) → l ≤ c.tables.top → child (leaf_put number m (Some table) c).tables l n ≢ Absent → frame_of c.tables.tables l (n / 512) ≢ None
    parents zero n s h = grind (arith, nat_tests, g.parents zero n s, mapping_at-with_page c.tables.pages number n m, there)
    parents (suc l) n s h = g.parents (suc l) n s h

    agree : (f i l n : ℕ) → i < 512 → piece_of c.tables.tables f ≡ Some (record { level = l; number = n }) → cond ((f == table) && (i == number % 512)) (m.frame * 1024 + m.bits.0) (word_at (words_after entries c.jobs words) f i) ≡ word_of (child (leaf_put number m (Some table) c).tables l (n * 512 + i))
    agree f i zero n s e =
        let was : word_at (words_after entries c.jobs words) f i ≡ word_of (child c.tables 0 (n * 512 + i)) = g.agree f i _ s e in
        let back : frame_of c.tables.tables 0 n ≡ Some f = apart-placed _ f 0 n g.apart e in
        let here : ((f == table) && (i == number % 512)) ≡ (number == n * 512 + i) = grind (arith, nat_tests, back, there, place, e) in
        rw (here, mapping_at-with_page c.tables.pages number (n * 512 + i) m) (pick (number == n * 512 + i) was)
      where
        pick : (b : Bool) → word_at (words_after entries c.jobs words) f i ≡ word_of (child c.tables 0 (n * 512 + i)) → cond b (m.frame * 1024 + m.bits.0) (word_at (words_after entries c.jobs words) f i) ≡ word_of (page_entry (cond b (Some m) (mapping_at c.tables.pages (n * 512 + i))))
        pick true was = refl
        pick false was = was
    agree f i (suc l) n s e =
        let was : word_at (words_after entries c.jobs words) f i ≡ word_of (child c.tables (suc l) (n * 512 + i)) = g.agree f i _ s e in
        grind (arith, nat_tests, was, there, place)

-- a leaf is taken away
abbrev pub leaf_taken : ℕ → Option ℕ → Changed → Changed
leaf_taken number table c = leaf_cleared number table (record c { tables = record (c.tables) { pages = without_page number c.tables.pages } })

-- where there is no leaf table, the page is not mapped
pub gone-agrees : (entries : ℕ → ℕ → ℕ) (c : Changed) (words : List ℕ) (number : ℕ) → frame_of c.tables.tables 0 (number / 512) ≡ None → AgreesAfter entries words c → AgreesAfter entries words (leaf_taken number None c)
gone-agrees entries c words number none g = record {
  size = g.size;
  small = g.small;
  apart = g.apart;
  taken = g.taken;
  parents = parents;
  leaves = λ q x e. g.leaves q x (let h = rw mapping_at-without_page at e in grind (arith, nat_tests, h));
  agree = λ f i p s e. agree f i p.level p.number s e;
  spare = g.spare;
  zeros = g.zeros;
}
  where
    parents : (l n : ℕ) → l ≤ c.tables.top → child (leaf_taken number None c).tables l n ≢ Absent → frame_of c.tables.tables l (n / 512) ≢ None
    parents zero n s h = grind (arith, nat_tests, g.parents zero n s, mapping_at-without_page c.tables.pages number n)
    parents (suc l) n s h = g.parents (suc l) n s h

    agree : (f i l n : ℕ) → i < 512 → piece_of c.tables.tables f ≡ Some (record { level = l; number = n }) → word_at (words_after entries c.jobs words) f i ≡ word_of (child (leaf_taken number None c).tables l (n * 512 + i))
    agree f i zero n s e =
        let was : word_at (words_after entries c.jobs words) f i ≡ word_of (child c.tables 0 (n * 512 + i)) = g.agree f i _ s e in
        let back : frame_of c.tables.tables 0 n ≡ Some f = apart-placed _ f 0 n g.apart e in
        let other : (number == n * 512 + i) ≡ false = different (number == n * 512 + i) refl back in
        rw (mapping_at-without_page c.tables.pages number (n * 512 + i), other) was
      where
        different : (b : Bool) → (number == n * 512 + i) ≡ b → frame_of c.tables.tables 0 n ≡ Some f → b ≡ false
        different false h back = refl
        different true h back =
            let same : number / 512 ≡ n = grind (arith, nat_tests, h) in
            absurd (let d = subst (λ k. frame_of c.tables.tables 0 k ≡ None) same none in cc)
    agree f i (suc l) n s e = g.agree f i _ s e

pub take-agrees : (entries : ℕ → ℕ → ℕ) (c : Changed) (words : List ℕ) (number : ℕ) (table : ℕ) → frame_of c.tables.tables 0 (number / 512) ≡ Some table → AgreesAfter entries words c → AgreesAfter entries words (leaf_taken number (Some table) c)
take-agrees entries c words number table there g = record {
  size = grind (arith, g.size, words_after-append, length-set {A = ℕ});
  small = g.small;
  apart = g.apart;
  taken = g.taken;
  parents = parents;
  leaves = leaves;
  agree = λ f i p s e. rw (word f i s) (agree f i p.level p.number s e);
  spare = g.spare;
  zeros = λ f i p s e. rw (word f i s) (grind (arith, nat_tests, g.zeros f i p, g.spare f p, place));
}
  where
    place : piece_of c.tables.tables table ≡ Some (record { level = 0; number = number / 512 })
    place = apart-found _ 0 (number / 512) table g.apart there

    word : (f i : ℕ) → i < 512 → word_at (words_after entries (leaf_taken number (Some table) c).jobs words) f i ≡ cond ((f == table) && (i == number % 512)) 0 (word_at (words_after entries c.jobs words) f i)
    word f i s = rw words_after-append (put_word_at _ table (number % 512) _ f i (length c.free) g.size (slice_get_within c.free table false (g.taken table _ place)) (omega arith) s)

    leaves : (q : ℕ) (x : Mapping) → mapping_at (without_page number c.tables.pages) q ≡ Some x → ReadsAsLeaf x
    leaves q x e = g.leaves q x (let h = rw mapping_at-without_page at e in grind (arith, nat_tests, h))

    parents : (l n : ℕ) → l ≤ c.tables.top → child (leaf_taken number (Some table) c).tables l n ≢ Absent → frame_of c.tables.tables l (n / 512) ≢ None
    parents zero n s h = grind (arith, nat_tests, g.parents zero n s, mapping_at-without_page c.tables.pages number n, there)
    parents (suc l) n s h = g.parents (suc l) n s h

    agree : (f i l n : ℕ) → i < 512 → piece_of c.tables.tables f ≡ Some (record { level = l; number = n }) → cond ((f == table) && (i == number % 512)) 0 (word_at (words_after entries c.jobs words) f i) ≡ word_of (child (leaf_taken number (Some table) c).tables l (n * 512 + i))
    agree f i zero n s e =
        let was : word_at (words_after entries c.jobs words) f i ≡ word_of (child c.tables 0 (n * 512 + i)) = g.agree f i _ s e in
        let back : frame_of c.tables.tables 0 n ≡ Some f = apart-placed _ f 0 n g.apart e in
        grind (arith, nat_tests, was, back, there, place, mapping_at-without_page c.tables.pages number (n * 512 + i))
    agree f i (suc l) n s e =
        let was : word_at (words_after entries c.jobs words) f i ≡ word_of (child c.tables (suc l) (n * 512 + i)) = g.agree f i _ s e in
        grind (arith, nat_tests, was, there, place)

-- a leaf table with no entry is unlinked
pub unlinked-agrees : (entries : ℕ → ℕ → ℕ) (c : Changed) (words : List ℕ) (leaf frame parent : ℕ) → 0 < c.tables.top → ((i : ℕ) → i < 512 → mapping_at c.tables.pages (leaf * 512 + i) ≡ None) → frame_of c.tables.tables 0 leaf ≡ Some frame → frame_of c.tables.tables 1 (leaf / 512) ≡ Some parent → AgreesAfter entries words c → AgreesAfter entries words (unlinked leaf (Some frame) (Some parent) c)
unlinked-agrees entries c words leaf frame parent s empty there over_it g = record {
  size = grind (arith, g.size, words_after-append, length-set {A = ℕ});
  small = g.small;
  apart = apart-without_table _ 0 leaf g.apart;
  taken = λ f p e. g.taken f p (piece_of-left _ 0 leaf f p.level p.number g.apart e).0;
  parents = parents;
  leaves = g.leaves;
  agree = λ f i p s e. rw (word f i s) (agree f i p.level p.number s (piece_of-left _ 0 leaf f p.level p.number g.apart e));
  spare = spare;
  zeros = λ f i p s e. rw (word f i s) (zeros f i p s e);
}
  where
    place : piece_of c.tables.tables parent ≡ Some (record { level = 1; number = leaf / 512 })
    place = apart-found _ 1 (leaf / 512) parent g.apart over_it

    here : piece_of c.tables.tables frame ≡ Some (record { level = 0; number = leaf })
    here = apart-found _ 0 leaf frame g.apart there

    word : (f i : ℕ) → i < 512 → word_at (words_after entries (unlinked leaf (Some frame) (Some parent) c).jobs words) f i ≡ cond ((f == parent) && (i == leaf % 512)) 0 (word_at (words_after entries c.jobs words) f i)
    word f i s = rw words_after-append (put_word_at _ parent (leaf % 512) _ f i (length c.free) g.size (slice_get_within c.free parent false (g.taken parent _ place)) (omega arith) s)

    parents : (l n : ℕ) → l ≤ c.tables.top → child (unlinked leaf (Some frame) (Some parent) c).tables l n ≢ Absent → frame_of (without_table 0 leaf c.tables.tables) l (n / 512) ≢ None
    parents zero n s h =
        let was : n / 512 ≡ leaf → mapping_at c.tables.pages n ≡ None = λ e. (let q : leaf * 512 + n % 512 ≡ n = omega arith in rw q at (empty (n % 512) (omega arith))) in
        grind (arith, nat_tests, g.parents zero n s, frame_of-without_table c.tables.tables 0 leaf, was)
    parents (suc l) n s h = grind (arith, nat_tests, g.parents (suc l) n s, frame_of-without_table c.tables.tables 0 leaf)

    agree : (f i l n : ℕ) → i < 512 → (piece_of c.tables.tables f ≡ Some (record { level = l; number = n })) × (((0 == l) && (leaf == n)) ≡ false) → cond ((f == parent) && (i == leaf % 512)) 0 (word_at (words_after entries c.jobs words) f i) ≡ word_of (child (unlinked leaf (Some frame) (Some parent) c).tables l (n * 512 + i))
    agree f i zero n s e =
        let was : word_at (words_after entries c.jobs words) f i ≡ word_of (child c.tables 0 (n * 512 + i)) = g.agree f i _ s e.0 in
        grind (arith, nat_tests, was, place)
    agree f i (suc l) n s e =
        let was : word_at (words_after entries c.jobs words) f i ≡ word_of (child c.tables (suc l) (n * 512 + i)) = g.agree f i _ s e.0 in
        let back : frame_of c.tables.tables (suc l) n ≡ Some f = apart-placed _ f (suc l) n g.apart e.0 in
        grind (arith, nat_tests, was, back, over_it, place, frame_of-without_table c.tables.tables 0 leaf l (n * 512 + i))

    -- a leaf aside was there, or is the one that was unlinked
    aside : (f : ℕ) (x : Option Piece) (p : Piece) → piece_of c.tables.aside f ≡ x → piece_of (c.tables.aside ++ table_frame 0 leaf frame ∷ []) f ≡ Some p → (x ≡ Some p) ⊎ (frame ≡ f)
    aside f None p e d = let h : cond (frame == f) (Some (record { level = 0; number = leaf })) None ≡ Some p = rw (piece_of-push, e) at d in inr (grind (arith, nat_tests, h))
    aside f (Some q) p e d = inl (rw (piece_of-push, e) at d)

    spare : (f : ℕ) (p : Piece) → piece_of (c.tables.aside ++ table_frame 0 leaf frame ∷ []) f ≡ Some p → (piece_of (without_table 0 leaf c.tables.tables) f ≡ None) × (slice_get c.free f ≡ Some false)
    spare f p e = ⊎_elim
        (λ (d : piece_of c.tables.aside f ≡ Some p). (piece_of-without_none _ 0 leaf f (g.spare f p d).0, (g.spare f p d).1))
        (λ (d : frame ≡ f). subst (λ x. (piece_of (without_table 0 leaf c.tables.tables) x ≡ None) × (slice_get c.free x ≡ Some false)) d (piece_of-without_same _ 0 leaf frame g.apart here, g.taken frame _ here))
        (aside f _ p refl e)

    zeros : (f i : ℕ) (p : Piece) → i < 512 → piece_of (c.tables.aside ++ table_frame 0 leaf frame ∷ []) f ≡ Some p → cond ((f == parent) && (i == leaf % 512)) 0 (word_at (words_after entries c.jobs words) f i) ≡ 0
    zeros f i p s e = ⊎_elim
        (λ (d : piece_of c.tables.aside f ≡ Some p). (let was = g.zeros f i p s d in grind (arith, nat_tests, was)))
        (λ (d : frame ≡ f). (let was : word_at (words_after entries c.jobs words) frame i ≡ word_of (child c.tables 0 (leaf * 512 + i)) = g.agree frame i _ s here in grind (arith, nat_tests, was, empty i s, d)))
        (aside f _ p refl e)

-- ---- frames are given back
pub frames_given-other : (ts : List TableFrame) (free : List Bool) (f : ℕ) → piece_of ts f ≡ None → slice_get (frames_given ts free) f ≡ slice_get free f
frames_given-other [] free f h = refl
frames_given-other (t ∷ ts) free f h = grind (arith, nat_tests, h, frames_given-other ts (set free t.frame true) f, slice_get-set free t.frame f true)

pub length-frames_given : (ts : List TableFrame) (free : List Bool) → length (frames_given ts free) ≡ length free
length-frames_given [] free = refl
length-frames_given (t ∷ ts) free = length-frames_given ts (set free t.frame true) ∙ length-set free t.frame true

pub give-agrees : (entries : ℕ → ℕ → ℕ) (c : Changed) (words : List ℕ) → AgreesAfter entries words c → AgreesAfter entries words (give_leaves c)
give-agrees entries c words g = record {
  size = grind (arith, g.size, length-frames_given);
  small = grind (arith, g.small, length-frames_given);
  apart = g.apart;
  taken = λ f p e. frames_given-other c.tables.aside c.free f (not_aside f p e (piece_of c.tables.aside f) refl) ∙ g.taken f p e;
  parents = g.parents;
  leaves = g.leaves;
  agree = g.agree;
  spare = λ f p e. cc;
  zeros = λ f i p s e. cc;
}
  where
    not_aside : (f : ℕ) (p : Piece) → piece_of c.tables.tables f ≡ Some p → (x : Option Piece) → piece_of c.tables.aside f ≡ x → x ≡ None
    not_aside f p e None d = refl
    not_aside f p e (Some q) d = let h = (g.spare f q d).0 in cc
