-- Where what is shown leads.
use Rattle.std.proofs.Common.{ℕ, suc, ◌+◌, ◌*◌, ◌≡◌, ◌<◌, ◌⊎◌, inl, inr, ⊎_elim, Bool, true, false, Option, Some, None, List, arith, refl, sym, ap, subst, ◌∙◌}
use Rattle.osc_word.specs.declared.job_list.Job.{Job}
use Rattle.osc_sv39.specs.declared.flags.PteBits.{PteBits}
use Rattle.osc_sv39.specs.declared.entries.PteEntry.TheVariants.{Absent, Table, Leaf}
use Rattle.osc_sv39.specs.declared.entries.Mapping.{Mapping}
use Rattle.osc_sv39.specs.Entries.{entry_of, word_of}
use Rattle.osc_sv39.specs.Walk.{word_at}
use Rattle.osc_sv39.proofs.EntriesBack.{tables_read_back}
use Rattle.osc_paging.specs.declared.Piece.{Piece}
use Rattle.osc_paging.specs.KeptTables.{KeptTables, frame_of, piece_of, mapping_at, page_entry, link_entry, word_in, kept_word}
use Rattle.osc_paging.proofs.TableLists.{apart-found, apart-placed}
use Rattle.osc_showing.specs.Showing.{is_closed, is_wiped, AllDue, Tidy, Shows}
use Rattle.osc_showing.specs.Leading.{piece_at, mapped_to, LinkLeads, LeafLeads, ShownLeads}
use Rattle.osc_showing.proofs.Folds.{some-is, reads-zero, small-frame}

-- ---- what a kept word says
no-leaf : (to : ℕ) (bits : PteBits) → entry_of 0 ≡ Leaf to bits → ⊥
no-leaf to bits e = let f : Absent ≡ Leaf to bits = e in grind (arith, f)

zero-leaf : (value to : ℕ) (bits : PteBits) → value ≡ 0 → entry_of value ≡ Leaf to bits → ⊥
zero-leaf value to bits z e = no-leaf to bits (subst (λ v. entry_of v ≡ Leaf to bits) z e)

reads-link : (t : KeptTables) (free : List Bool) (l n to : ℕ) → Tidy t free → (o : Option ℕ) → frame_of t.tables l n ≡ o → entry_of (word_of (link_entry o)) ≡ Table to → o ≡ Some to
reads-link t free l n to k None d e = absurd (reads-zero 0 to refl e)
reads-link t free l n to k (Some g) d e =
    let r = tables_read_back g (small-frame t free l n g k d) in
    ap Some (let h : Table g ≡ Table to = sym r ∙ e in let same : g ≡ to = grind (arith, h) in same)

reads-leaf : (t : KeptTables) (free : List Bool) (q to : ℕ) (bits : PteBits) → Tidy t free → (o : Option Mapping) → mapping_at t.pages q ≡ o → entry_of (word_of (page_entry o)) ≡ Leaf to bits → o ≡ Some (mapped_to to bits)
reads-leaf t free q to bits k None d e = absurd (no-leaf to bits e)
reads-leaf t free q to bits k (Some m) d e =
    let r = k.leaves q m d in
    let h : Leaf m.frame m.bits ≡ Leaf to bits = sym r ∙ e in
    let a : m.frame ≡ to = grind (arith, h) in
    let b : m.bits ≡ bits = grind (arith, h) in
    ap Some (same m to bits a b)
  where
    same : (m : Mapping) (to : ℕ) (bits : PteBits) → m.frame ≡ to → m.bits ≡ bits → m ≡ mapped_to to bits
    same m to bits a b = rw (sym a, sym b) refl

-- in a table that has this piece
link-in : (t : KeptTables) (free : List Bool) (f l n i to : ℕ) → Tidy t free → piece_of t.tables f ≡ Some (piece_at (suc l) n) → entry_of (kept_word t f i) ≡ Table to → frame_of t.tables l (n * 512 + i) ≡ Some to
link-in t free f l n i to k at e =
    reads-link t free l (n * 512 + i) to k (frame_of t.tables l (n * 512 + i)) refl (subst (λ o. entry_of (word_in t o i) ≡ Table to) at e)

leaf-in : (t : KeptTables) (free : List Bool) (f n i to : ℕ) (bits : PteBits) → Tidy t free → piece_of t.tables f ≡ Some (piece_at 0 n) → entry_of (kept_word t f i) ≡ Leaf to bits
    → mapping_at t.pages (n * 512 + i) ≡ Some (mapped_to to bits)
leaf-in t free f n i to bits k at e =
    reads-leaf t free (n * 512 + i) to bits k (mapping_at t.pages (n * 512 + i)) refl (subst (λ o. entry_of (word_in t o i) ≡ Leaf to bits) at e)

-- ---- the old piece of a frame
old-piece : (harts : ℕ) (old t : KeptTables) (free : List Bool) (js : List Job) (words : List ℕ) (f : ℕ) (p : Piece) → Shows harts old t free js words → piece_of t.tables f ≡ Some p
    → (piece_of old.tables f ≡ None) ⊎ (piece_of old.tables f ≡ Some p)
old-piece harts old t free js words f p s at = go (piece_of old.tables f) refl
  where
    go : (o : Option Piece) → piece_of old.tables f ≡ o → (o ≡ None) ⊎ (o ≡ Some p)
    go None e = inl refl
    go (Some q) e = ⊎_elim
        (λ (a : piece_of t.tables f ≡ Some q). inr (sym a ∙ at))
        (λ (a : (q.level ≡ 0) × (piece_of t.aside f ≡ Some q)). absurd (let n = (s.tidy.spare f q a.1).0 in let b : ⊥ = grind (arith, n, at) in b))
        (s.olds f q e)

old-aside : (harts : ℕ) (old t : KeptTables) (free : List Bool) (js : List Job) (words : List ℕ) (f : ℕ) (p : Piece) → Shows harts old t free js words → piece_of t.aside f ≡ Some p
    → (piece_of old.tables f ≡ None) ⊎ (piece_of old.tables f ≡ Some p)
old-aside harts old t free js words f p s at = go (piece_of old.tables f) refl
  where
    go : (o : Option Piece) → piece_of old.tables f ≡ o → (o ≡ None) ⊎ (o ≡ Some p)
    go None e = inl refl
    go (Some q) e = ⊎_elim
        (λ (a : piece_of t.tables f ≡ Some q). absurd (let n = (s.tidy.spare f p at).0 in let b : ⊥ = grind (arith, n, a) in b))
        (λ (a : (q.level ≡ 0) × (piece_of t.aside f ≡ Some q)). inr (sym a.1 ∙ at))
        (s.olds f q e)

none-kept : (t : KeptTables) (f i : ℕ) → piece_of t.tables f ≡ None → kept_word t f i ≡ 0
none-kept t f i e = ap (λ o. word_in t o i) e

-- ---- the law
-- a link that was kept is kept, or its table stands aside
old-link : (harts : ℕ) (old t : KeptTables) (before free : List Bool) (js : List Job) (words : List ℕ) (l q to : ℕ) → Tidy old before → Shows harts old t free js words → AllDue harts js → is_closed js to ≡ false
    → frame_of old.tables l q ≡ Some to → LinkLeads harts t js l q to
old-link harts old t before free js words l q to k s due c e = ⊎_elim
    (λ (a : piece_of t.tables to ≡ Some (piece_at l q)). inl (apart-placed t.tables to l q s.tidy.apart a, c))
    (λ (a : (l ≡ 0) × (piece_of t.aside to ≡ Some (piece_at l q))). inr (a.0, subst (λ z. piece_of t.aside to ≡ Some (piece_at z q)) a.0 a.1, due))
    (s.olds to (piece_at l q) (apart-found old.tables l q to k.apart e))

pub shown_leads : ShownLeads
shown_leads harts old t before free js words k s = record { links = links; leaves = leaves; aside = aside }
  where
    links : (f l n i to : ℕ) → i < 512 → piece_of t.tables f ≡ Some (piece_at (suc l) n) → is_closed js f ≡ false → entry_of (word_at words f i) ≡ Table to → LinkLeads harts t js l (n * 512 + i) to
    links f l n i to m at c e =
        let made = s.links f i to m (inl (some-is at)) c e in ⊎_elim
        (λ (w : word_at words f i ≡ kept_word t f i). inl (link-in t free f l n i to s.tidy at (subst (λ z. entry_of z ≡ Table to) w e), made))
        (λ (r : (word_at words f i ≡ 0) ⊎ ((word_at words f i ≡ kept_word old f i) × (is_wiped js f i ≡ true) × AllDue harts js)). ⊎_elim
        (λ (z : word_at words f i ≡ 0). absurd (reads-zero (word_at words f i) to z e))
        (λ (w : (word_at words f i ≡ kept_word old f i) × (is_wiped js f i ≡ true) × AllDue harts js). ⊎_elim
        (λ (n : piece_of old.tables f ≡ None). absurd (reads-zero (word_at words f i) to (w.0 ∙ none-kept old f i n) e))
        (λ (p : piece_of old.tables f ≡ Some (piece_at (suc l) n)). old-link harts old t before free js words l (n * 512 + i) to k s w.2 made
        (link-in old before f l n i to k p (subst (λ z. entry_of z ≡ Table to) w.0 e)))
        (old-piece harts old t free js words f (piece_at (suc l) n) s at))
        r)
        (s.shown f i m (inl (some-is at)) c)

    leaves : (f n i to : ℕ) (bits : PteBits) → i < 512 → piece_of t.tables f ≡ Some (piece_at 0 n) → is_closed js f ≡ false → entry_of (word_at words f i) ≡ Leaf to bits → LeafLeads harts old t js (n * 512 + i) (mapped_to to bits)
    leaves f n i to bits m at c e = ⊎_elim
        (λ (w : word_at words f i ≡ kept_word t f i). inl (leaf-in t free f n i to bits s.tidy at (subst (λ z. entry_of z ≡ Leaf to bits) w e)))
        (λ (r : (word_at words f i ≡ 0) ⊎ ((word_at words f i ≡ kept_word old f i) × (is_wiped js f i ≡ true) × AllDue harts js)). ⊎_elim
        (λ (z : word_at words f i ≡ 0). absurd (zero-leaf (word_at words f i) to bits z e))
        (λ (w : (word_at words f i ≡ kept_word old f i) × (is_wiped js f i ≡ true) × AllDue harts js). ⊎_elim
        (λ (n : piece_of old.tables f ≡ None). absurd (zero-leaf (word_at words f i) to bits (w.0 ∙ none-kept old f i n) e))
        (λ (p : piece_of old.tables f ≡ Some (piece_at 0 n)). inr (leaf-in old before f n i to bits k p (subst (λ z. entry_of z ≡ Leaf to bits) w.0 e), w.2))
        (old-piece harts old t free js words f (piece_at 0 n) s at))
        r)
        (s.shown f i m (inl (some-is at)) c)

    aside : (f n i to : ℕ) (bits : PteBits) → i < 512 → piece_of t.aside f ≡ Some (piece_at 0 n) → is_closed js f ≡ false → entry_of (word_at words f i) ≡ Leaf to bits
        → (mapping_at old.pages (n * 512 + i) ≡ Some (mapped_to to bits)) × AllDue harts js
    aside f n i to bits m at c e = ⊎_elim
        (λ (w : word_at words f i ≡ kept_word t f i). absurd (zero-leaf (word_at words f i) to bits (w ∙ none-kept t f i (s.tidy.spare f (piece_at 0 n) at).0) e))
        (λ (r : (word_at words f i ≡ 0) ⊎ ((word_at words f i ≡ kept_word old f i) × (is_wiped js f i ≡ true) × AllDue harts js)). ⊎_elim
        (λ (z : word_at words f i ≡ 0). absurd (zero-leaf (word_at words f i) to bits z e))
        (λ (w : (word_at words f i ≡ kept_word old f i) × (is_wiped js f i ≡ true) × AllDue harts js). ⊎_elim
        (λ (n : piece_of old.tables f ≡ None). absurd (zero-leaf (word_at words f i) to bits (w.0 ∙ none-kept old f i n) e))
        (λ (p : piece_of old.tables f ≡ Some (piece_at 0 n)). (leaf-in old before f n i to bits k p (subst (λ z. entry_of z ≡ Leaf to bits) w.0 e), w.2))
        (old-aside harts old t free js words f (piece_at 0 n) s at))
        r)
        (s.shown f i m (inr (some-is at)) c)
