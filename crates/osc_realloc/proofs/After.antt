-- What the unmapping of an object's pages and the giving up of leaf tables leave of the tables.
use Rattle.std.proofs.Common.{ℕ, zero, suc, ◌+◌, ◌-◌, ◌*◌, ◌/◌, ◌≡◌, ◌<◌, ◌≤◌, ◌==◌, ◌&&◌, ◌||◌, ◌⊎◌, inl, inr, ⊎_elim, Bool, true, false, cond, List, [], ◌∷◌, ◌++◌, Option, Some, None, arith, refl, ap, sym, subst, ◌∙◌, length}
use Rattle.std.specs.Prelude.{filter}
use Rattle.std.specs.List.{list_any}
use Rattle.std.proofs.lemmas.Bool.Decides.{nat_tests}
use Rattle.osc_frames.specs.Free.{IsTaken, free_count}
use Rattle.osc_word.specs.JobList.{JobList}
use Rattle.osc_sv39.specs.Walk.{piece}
use Rattle.osc_paging.specs.declared.Mapped.{Mapped}
use Rattle.osc_paging.specs.declared.Piece.{Piece}
use Rattle.osc_paging.specs.declared.TableFrame.{TableFrame}
use Rattle.osc_paging.specs.KeptTables.{KeptTables, frame_of, piece_of, mapping_at, root_of, is_piece, missing, need, need_below, pieces_over}
use Rattle.osc_paging.specs.TableChanges.{Changed, unlinked, reclaim, unmap_page, without_page, without_table, table_frame}
use Rattle.osc_paging.proofs.TableLists.{frame_of-without_table, mapping_at-without_page}
use Rattle.osc_paging.proofs.Needed.{piece_mono}
use Rattle.osc_tables.specs.Calls.{HasTaken, IsOpen, changed}
use Rattle.osc_tables.specs.Inside.{IsTop}
use Rattle.osc_space.specs.Free.{reclaim_all, unmap_all, linked_leaves}
use Rattle.osc_space.specs.declared.ObjectFact.{ObjectFact}
use Rattle.osc_space.specs.Objects.{leaf_dead}
use Rattle.osc_shadow.specs.Flushing.{flushed, is_over, leaves_over}
use Rattle.osc_shadow.specs.Mapping.{CanMap}
use Rattle.osc_shadow.proofs.Unmapped.{unmap_tables}

-- ---- frames that are taken stay so
left_frame : (level number f : ℕ) (p : Piece) (ts : List TableFrame) → piece_of (without_table level number ts) f ≡ Some p → (q : Piece) × (piece_of ts f ≡ Some q)
left_frame level number f p [] e = cc
left_frame level number f p (t ∷ ts) e = go (is_piece t.piece level number) (t.frame == f) refl refl e (left_frame level number f p ts)
  where
    go : (b c : Bool) → is_piece t.piece level number ≡ b → (t.frame == f) ≡ c → piece_of (cond b (without_table level number ts) (t ∷ without_table level number ts)) f ≡ Some p
        → (piece_of (without_table level number ts) f ≡ Some p → (q : Piece) × (piece_of ts f ≡ Some q)) → (q : Piece) × (cond c (Some t.piece) (piece_of ts f) ≡ Some q)
    go b true g h e on = (t.piece, refl)
    go true false g h e on = on e
    go false false g h e on = on (let k = rw h at e in k)

found_frame : (level number f : ℕ) (ts : List TableFrame) → frame_of ts level number ≡ Some f → (q : Piece) × (piece_of ts f ≡ Some q)
found_frame level number f [] e = cc
found_frame level number f (t ∷ ts) e = go (is_piece t.piece level number) (t.frame == f) refl e (found_frame level number f ts)
  where
    go : (b c : Bool) → (t.frame == f) ≡ c → cond b (Some t.frame) (frame_of ts level number) ≡ Some f → (frame_of ts level number ≡ Some f → (q : Piece) × (piece_of ts f ≡ Some q)) → (q : Piece) × (cond c (Some t.piece) (piece_of ts f) ≡ Some q)
    go b true h e on = (t.piece, refl)
    go false false h e on = on e
    go true false h e on =
        let same : t.frame ≡ f = cc in
        let k : (t.frame == f) ≡ true = grind (arith, nat_tests, same) in
        cc

aside_frame : (leaf f g : ℕ) (p : Piece) (ts : List TableFrame) → piece_of (ts ++ table_frame 0 leaf f ∷ []) g ≡ Some p → ((piece_of ts g ≡ Some p) ⊎ (f ≡ g))
aside_frame leaf f g p [] e = go (f == g) refl e
  where
    go : (b : Bool) → (f == g) ≡ b → cond b (Some (record { level = 0; number = leaf })) None ≡ Some p → (None ≡ Some p) ⊎ (f ≡ g)
    go true h e = inr (grind (arith, nat_tests, h))
    go false h e = inl e
aside_frame leaf f g p (t ∷ ts) e = go (t.frame == g) e (aside_frame leaf f g p ts)
  where
    go : (b : Bool) → cond b (Some t.piece) (piece_of (ts ++ table_frame 0 leaf f ∷ []) g) ≡ Some p → (piece_of (ts ++ table_frame 0 leaf f ∷ []) g ≡ Some p → (piece_of ts g ≡ Some p) ⊎ (f ≡ g)) → (cond b (Some t.piece) (piece_of ts g) ≡ Some p) ⊎ (f ≡ g)
    go true e on = inl e
    go false e on = on e

-- ---- what is kept
pub record Keeps (t u : KeptTables) (leaves : List ℕ) : Type 0 where
  pub top : u.top ≡ t.top
  pub room : u.room ≡ t.room
  pub pages : length u.pages ≤ length t.pages
  pub unmapped : (q : ℕ) → mapping_at t.pages q ≡ None → mapping_at u.pages q ≡ None
  pub above : (l n : ℕ) → frame_of u.tables (suc l) n ≡ frame_of t.tables (suc l) n
  pub others : (x : ℕ) → list_any (λ y. y == x) leaves ≡ false → frame_of u.tables 0 x ≡ frame_of t.tables 0 x
  pub taken : (free : List Bool) → HasTaken t free → HasTaken u free

keeps_all : (t : KeptTables) → Keeps t t []
keeps_all t = record { top = refl; room = refl; pages = omega arith; unmapped = λ q e. e; above = λ l n. refl; others = λ x e. refl; taken = λ free h. h }

-- ---- unmapping
length-without_page : (n : ℕ) (ms : List Mapped) → length (without_page n ms) ≤ length ms
length-without_page n [] = omega arith
length-without_page n (m ∷ ms) = go (m.number == n) (length-without_page n ms)
  where
    go : (b : Bool) → length (without_page n ms) ≤ length ms → length (cond b (without_page n ms) (m ∷ without_page n ms)) ≤ suc (length ms)
    go true l = omega arith
    go false l = omega arith

page_gone : (n q : ℕ) (ms : List Mapped) → mapping_at ms q ≡ None → mapping_at (without_page n ms) q ≡ None
page_gone n q ms e = mapping_at-without_page ms n q ∙ go (n == q)
  where
    go : (b : Bool) → cond b None (mapping_at ms q) ≡ None
    go true = refl
    go false = e

unmap_one : (n : ℕ) (t : KeptTables) (leaves : List ℕ) (u : KeptTables) → Keeps (record t { pages = without_page n t.pages }) u leaves → Keeps t u leaves
unmap_one n t leaves u k = let less = length-without_page n t.pages in let few = k.pages in record {
  top = k.top;
  room = k.room;
  pages = omega arith;
  unmapped = λ q e. k.unmapped q (page_gone n q t.pages e);
  above = k.above;
  others = k.others;
  taken = λ free h. k.taken free (record { count = h.count; tables = h.tables; aside = h.aside });
}

pub unmap_keeps : (pages : List ℕ) (c : Changed) → Keeps c.tables (unmap_all pages c).tables []
unmap_keeps [] c = keeps_all c.tables
unmap_keeps (n ∷ pages) c = unmap_one n c.tables [] _ (subst (λ t. Keeps t (unmap_all pages (unmap_page n c)).tables []) (unmap_tables n c) (unmap_keeps pages (unmap_page n c)))

-- ---- giving up
unlinked_keeps : (leaf : ℕ) (x y : Option ℕ) (c : Changed) → frame_of c.tables.tables 0 leaf ≡ x → Keeps c.tables (unlinked leaf x y c).tables (leaf ∷ [])
unlinked_keeps leaf None y c e = record { top = refl; room = refl; pages = omega arith; unmapped = λ q h. h; above = λ l n. refl; others = λ x h. refl; taken = λ free h. h }
unlinked_keeps leaf (Some f) None c e = record { top = refl; room = refl; pages = omega arith; unmapped = λ q h. h; above = λ l n. refl; others = λ x h. refl; taken = λ free h. h }
unlinked_keeps leaf (Some f) (Some p) c e = record {
  top = refl;
  room = refl;
  pages = omega arith;
  unmapped = λ q h. h;
  above = λ l n. (let d = frame_of-without_table c.tables.tables 0 leaf (suc l) n in grind (arith, nat_tests, d));
  others = λ x h. (let d = frame_of-without_table c.tables.tables 0 leaf 0 x in let out : (leaf == x) ≡ false = grind (arith, nat_tests, h) in d ∙ rw out refl);
  taken = λ free h. record {
    count = h.count;
    tables = λ g q d. (let was = left_frame 0 leaf g q c.tables.tables d in h.tables g was.0 was.1);
    aside = λ g q d. ⊎_elim (λ (k : piece_of c.tables.aside g ≡ Some q). h.aside g q k)
        (λ (k : f ≡ g). (let was = found_frame 0 leaf f c.tables.tables e in subst (IsTaken free) k (h.tables f was.0 was.1)))
        (aside_frame leaf f g q c.tables.aside d);
  };
}

both_keep : (t u v : KeptTables) (leaf : ℕ) (leaves : List ℕ) → Keeps t u (leaf ∷ []) → Keeps u v leaves → Keeps t v (leaf ∷ leaves)
both_keep t u v leaf leaves a b = let few = a.pages in let less = b.pages in record {
  top = b.top ∙ a.top;
  room = b.room ∙ a.room;
  pages = omega arith;
  unmapped = λ q e. b.unmapped q (a.unmapped q e);
  above = λ l n. b.above l n ∙ a.above l n;
  others = λ x h. b.others x (grind (arith, nat_tests, h)) ∙ a.others x (grind (arith, nat_tests, h));
  taken = λ free h. b.taken free (a.taken free h);
}

pub reclaim_keeps : (leaves : List ℕ) (c : Changed) → Keeps c.tables (reclaim_all leaves c).tables leaves
reclaim_keeps [] c = keeps_all c.tables
reclaim_keeps (leaf ∷ leaves) c = both_keep c.tables (reclaim leaf c).tables (reclaim_all leaves (reclaim leaf c)).tables leaf leaves (unlinked_keeps leaf _ _ c refl) (reclaim_keeps leaves (reclaim leaf c))

pub then_keeps : (t u v : KeptTables) (leaves : List ℕ) → Keeps t u [] → Keeps u v leaves → Keeps t v leaves
then_keeps t u v leaves a b = let few = a.pages in let less = b.pages in record {
  top = b.top ∙ a.top;
  room = b.room ∙ a.room;
  pages = omega arith;
  unmapped = λ q e. b.unmapped q (a.unmapped q e);
  above = λ l n. b.above l n ∙ a.above l n;
  others = λ x h. b.others x h ∙ a.others x refl;
  taken = λ free h. b.taken free (a.taken free h);
}

-- ---- the need over leaf tables that stay
missing_same : (ts us : List TableFrame) (l from count : ℕ) → ((n : ℕ) → from ≤ n → n < from + count → frame_of us l n ≡ frame_of ts l n) → missing us l from count ≡ missing ts l from count
unfolding missing
missing_same ts us l from zero h = refl
missing_same ts us l from (suc count) h =
    let e = h from (omega arith) (omega arith) in
    let on = missing_same ts us l (from + 1) count (λ n s r. h n (omega arith) (omega arith)) in
    rw (e, on) refl

over : (l first more : ℕ) → pieces_over l first (suc more) ≡ piece l (first + more) - piece l first + 1
over l first more = refl

need_kept : (ts us : List TableFrame) (top first more : ℕ) → ((l n : ℕ) → frame_of us (suc l) n ≡ frame_of ts (suc l) n) → ((x : ℕ) → first / 512 ≤ x → x ≤ (first + more) / 512 → frame_of us 0 x ≡ frame_of ts 0 x)
    → need_below us top first (suc more) ≡ need_below ts top first (suc more)
unfolding need_below
need_kept ts us zero first more above leaves = refl
need_kept ts us (suc zero) first more above leaves =
    let here = missing_same ts us 0 (piece 1 first) (pieces_over 1 first (suc more)) (λ n s r. leaves n (omega arith) (let e = over 1 first more in let m = piece_mono 1 first (first + more) (omega arith) in omega arith)) in
    rw here refl
need_kept ts us (suc (suc l)) first more above leaves =
    let here = missing_same ts us (suc l) (piece (suc (suc l)) first) (pieces_over (suc (suc l)) first (suc more)) (λ n s r. above l n) in
    let on = need_kept ts us (suc l) first more above leaves in
    rw (here, on) refl

-- ---- pages can still be mapped
not_among : (p : ℕ → Bool) (x : ℕ) (xs : List ℕ) → p x ≡ false → list_any (λ y. y == x) (filter p xs) ≡ false
not_among p x [] e = refl
not_among p x (y ∷ xs) e = go (p y) refl (not_among p x xs e)
  where
    go : (b : Bool) → p y ≡ b → list_any (λ z. z == x) (filter p xs) ≡ false → list_any (λ z. z == x) (cond b (y ∷ filter p xs) (filter p xs)) ≡ false
    go true h on = rw on (pick (y == x) refl)
      where
        pick : (b : Bool) → (y == x) ≡ b → (b || false) ≡ false
        pick true k = let same : y ≡ x = grind (arith, nat_tests, k) in let w : p x ≡ true = subst (λ z. p z ≡ true) same h in cc
        pick false k = refl
    go false h on = on

not_dead : (objects gone : List ObjectFact) (x : ℕ) → leaf_dead objects x ≡ false → (leaf_dead objects x && is_over gone x) ≡ false
not_dead objects gone x e = rw e refl

pub can_map_after : (t u v : KeptTables) (now : List Bool) (j0 j1 j2 after : JobList) (pages : List ℕ) (harts first count : ℕ) (objects gone : List ObjectFact)
    → CanMap t now j0 first count → 0 < count
    → changed u now j1.pushed ≡ unmap_all pages (changed t now j0.pushed)
    → changed v now j2.pushed ≡ flushed harts (leaves_over u objects gone) (changed u now j1.pushed)
    → ((x : ℕ) → first / 512 ≤ x → x ≤ (first + (count - 1)) / 512 → leaf_dead objects x ≡ false)
    → length after.pushed + 2 * free_count now + count + 6 ≤ after.room
    → CanMap v now after first count
can_map_after t u v now j0 j1 j2 after pages harts first count objects gone can some a b live spare =
    let u_is : u ≡ (unmap_all pages (changed t now j0.pushed)).tables = ap (λ (c : Changed). c.tables) a in
    let v_is : v ≡ (reclaim_all (leaves_over u objects gone) (changed u now j1.pushed)).tables = ap (λ (c : Changed). c.tables) b in
    let one : Keeps t u [] = subst (λ x. Keeps t x []) (sym u_is) (unmap_keeps pages (changed t now j0.pushed)) in
    let two : Keeps u v (leaves_over u objects gone) = subst (λ x. Keeps u x (leaves_over u objects gone)) (sym v_is) (reclaim_keeps (leaves_over u objects gone) (changed u now j1.pushed)) in
    let k = then_keeps t u v (leaves_over u objects gone) one two in
    let few = k.pages in
    let fits = can.left in
    let room = k.room in
    let count_is : suc (count - 1) ≡ count = omega arith in
    let needs = need_kept t.tables v.tables t.top first (count - 1) k.above (λ x lo hi. k.others x (not_among (λ leaf. leaf_dead objects leaf && is_over gone leaf) x (linked_leaves u) (not_dead objects gone x (live x lo hi)))) in
    let need_is : need v first count ≡ need t first count = ap (λ top. need_below v.tables top first count) k.top ∙ subst (λ n. need_below v.tables t.top first n ≡ need_below t.tables t.top first n) count_is needs in
    let enough = can.need in
    record {
      top = subst IsTop (sym k.top) can.top;
      opened = opens (t.top) refl k;
      low = can.low;
      unmapped = λ page from to. k.unmapped page (can.unmapped page from to);
      left = omega arith;
      taken = k.taken now can.taken;
      need = omega arith;
      spare = spare;
    }
  where
    opens : (top : ℕ) → t.top ≡ top → Keeps t v (leaves_over u objects gone) → IsOpen v
    opens zero e k = let h = can.top in absurd (omega (arith, h))
    opens (suc l) e k =
        let same : root_of v ≡ root_of t = ap (λ n. frame_of v.tables n 0) (k.top ∙ e) ∙ k.above l 0 ∙ ap (λ n. frame_of t.tables n 0) (sym e) in
        rw same can.opened
