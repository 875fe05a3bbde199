-- Looks, insertions and removals at the place of a piece in a list of tables in order.
use Rattle.std.proofs.Common.{ℕ, zero, suc, ◌≡◌, ◌<◌, ◌≤◌, ◌+◌, ◌==◌, Bool, true, false, cond, List, [], ◌∷◌, Some, None, arith, refl, ap, drop, drop-cons, add-one, drop_of_length-le, length, get_or}
use Rattle.std.proofs.lemmas.Bool.Decides.{nat_tests}
use Rattle.std.specs.List.{insert, remove}
use Rattle.osc_paging.specs.declared.Piece.{Piece}
use Rattle.osc_paging.specs.declared.TableFrame.{TableFrame}
use Rattle.osc_paging.specs.KeptTables.{frame_of, piece_of, is_piece}
use Rattle.osc_paging.specs.TableChanges.{is_before, with_table, without_table}
use Rattle.osc_tables.specs.Inside.{ComesBefore, InOrder}
use Rattle.osc_tables.specs.Places.{table_place}

-- ---- the order of pieces
before_both : (p q r : Piece) → is_before p q ≡ true → is_before q r ≡ true → is_before p r ≡ true
before_both p q r e f = grind (arith, nat_tests, e, f)

before_other : (p q : Piece) → is_before p q ≡ false → is_piece p q.level q.number ≡ false → is_before q p ≡ true
before_other p q e f = grind (arith, nat_tests, e, f)

other_before : (p q : Piece) (l n : ℕ) → is_before p q ≡ true → is_piece q l n ≡ true → is_piece p l n ≡ false
other_before p q l n e f = grind (arith, nat_tests, e, f)

other_after : (p q : Piece) (l n : ℕ) → is_before p q ≡ true → is_piece p l n ≡ true → is_piece q l n ≡ false
other_after p q l n e f = grind (arith, nat_tests, e, f)

not_itself : (p q : Piece) → is_before p q ≡ true → is_piece p q.level q.number ≡ false
not_itself p q e = grind (arith, nat_tests, e)

pub before_all : (p q : Piece) (ts : List TableFrame) → is_before p q ≡ true → ComesBefore q ts → ComesBefore p ts
before_all p q [] e a = tt
before_all p q (t ∷ ts) e a = (before_both p q t.piece e a.0, before_all p q ts e a.1)

before_at : (p : Piece) (ts : List TableFrame) (i : ℕ) (d : TableFrame) → ComesBefore p ts → i < length ts → is_before p (get_or ts i d).piece ≡ true
before_at p [] i d a s = absurd (omega arith)
before_at p (t ∷ ts) zero d a s = a.0
before_at p (t ∷ ts) (suc i) d a s = before_at p ts i d a.1 (omega arith)

none_after : (p : Piece) (l n : ℕ) (ts : List TableFrame) → is_piece p l n ≡ true → ComesBefore p ts → frame_of ts l n ≡ None
none_after p l n [] e a = refl
none_after p l n (t ∷ ts) e a = rw (other_after p t.piece l n a.0 e) (none_after p l n ts e a.1)

-- ---- the place
pub table_place-le-length : (p : Piece) (ts : List TableFrame) → table_place p ts ≤ length ts
table_place-le-length p [] = omega arith
table_place-le-length p (t ∷ ts) = go (is_before t.piece p) (table_place-le-length p ts)
  where
    go : (b : Bool) → table_place p ts ≤ length ts → cond b (suc (table_place p ts)) 0 ≤ suc (length ts)
    go true on = omega arith
    go false on = omega arith

-- a table that comes before stands before the place, and another does not
pub table_place-passed : (p : Piece) (ts : List TableFrame) (i : ℕ) (d : TableFrame) → InOrder ts → i < length ts → is_before (get_or ts i d).piece p ≡ true → i < table_place p ts
table_place-passed p [] i d o s h = absurd (omega arith)
table_place-passed p (t ∷ ts) zero d o s h = rw h (omega arith)
table_place-passed p (t ∷ ts) (suc i) d o s h =
    let first = before_both t.piece (get_or ts i d).piece p (before_at t.piece ts i d o.0 (omega arith)) h in
    let on = table_place-passed p ts i d o.1 (omega arith) h in
    rw first (omega arith)

pub table_place-stops : (p : Piece) (ts : List TableFrame) (i : ℕ) (d : TableFrame) → i < length ts → is_before (get_or ts i d).piece p ≡ false → table_place p ts ≤ i
table_place-stops p [] i d s h = absurd (omega arith)
table_place-stops p (t ∷ ts) zero d s h = rw h (omega arith)
table_place-stops p (t ∷ ts) (suc i) d s h = go (is_before t.piece p) (table_place-stops p ts i d (omega arith) h)
  where
    go : (b : Bool) → table_place p ts ≤ i → cond b (suc (table_place p ts)) 0 ≤ suc i
    go true on = omega arith
    go false on = omega arith

-- ---- a table that is there
pub frame_of-found : (l n : ℕ) (ts : List TableFrame) (i : ℕ) (d : TableFrame) → InOrder ts → i < length ts → is_piece (get_or ts i d).piece l n ≡ true → frame_of ts l n ≡ Some (get_or ts i d).frame
frame_of-found l n [] i d o s e = absurd (omega arith)
frame_of-found l n (t ∷ ts) zero d o s e = rw e refl
frame_of-found l n (t ∷ ts) (suc i) d o s e =
    let other = other_before t.piece (get_or ts i d).piece l n (before_at t.piece ts i d o.0 (omega arith)) e in
    rw other (frame_of-found l n ts i d o.1 (omega arith) e)

pub without_table-none : (l n : ℕ) (ts : List TableFrame) → frame_of ts l n ≡ None → without_table l n ts ≡ ts
without_table-none l n [] e = refl
without_table-none l n (t ∷ ts) e = go (is_piece t.piece l n) e (without_table-none l n ts)
  where
    go : (b : Bool) → cond b (Some t.frame) (frame_of ts l n) ≡ None → (frame_of ts l n ≡ None → without_table l n ts ≡ ts) → cond b (without_table l n ts) (t ∷ without_table l n ts) ≡ t ∷ ts
    go true e on = cc
    go false e on = ap (λ us. t ∷ us) (on e)

pub without_table-found : (l n : ℕ) (ts : List TableFrame) (i : ℕ) (d : TableFrame) → InOrder ts → i < length ts → is_piece (get_or ts i d).piece l n ≡ true → without_table l n ts ≡ remove ts i
without_table-found l n [] i d o s e = absurd (omega arith)
without_table-found l n (t ∷ ts) zero d o s e = rw e (without_table-none l n ts (none_after t.piece l n ts e o.0))
without_table-found l n (t ∷ ts) (suc i) d o s e =
    let other = other_before t.piece (get_or ts i d).piece l n (before_at t.piece ts i d o.0 (omega arith)) e in
    rw other (ap (λ us. t ∷ us) (without_table-found l n ts i d o.1 (omega arith) e))

-- ---- a table that is not there
missed : (p : Piece) (ts : List TableFrame) (d : TableFrame) → InOrder ts → (table_place p ts < length ts → is_piece (get_or ts (table_place p ts) d).piece p.level p.number ≡ false) → frame_of ts p.level p.number ≡ None
missed p [] d o h = refl
missed p (t ∷ ts) d o h = go (is_before t.piece p) refl (missed p ts d o.1)
  where
    itself : is_piece p p.level p.number ≡ true
    itself = grind (arith, nat_tests)

    go : (b : Bool) → is_before t.piece p ≡ b → ((table_place p ts < length ts → is_piece (get_or ts (table_place p ts) d).piece p.level p.number ≡ false) → frame_of ts p.level p.number ≡ None) → frame_of (t ∷ ts) p.level p.number ≡ None
    go true e on = rw (not_itself t.piece p e) (on (λ s. (let g = rw e at h in g (omega arith))))
    go false e on =
        let other : is_piece t.piece p.level p.number ≡ false = (let g = rw e at h in g (omega arith)) in
        rw other (none_after p p.level p.number ts itself (before_all p t.piece ts (before_other t.piece p e other) o.0))

pub frame_of-missed : (p : Piece) (ts : List TableFrame) (i : ℕ) (d : TableFrame) → InOrder ts → i ≡ table_place p ts → (i < length ts → is_piece (get_or ts i d).piece p.level p.number ≡ false) → frame_of ts p.level p.number ≡ None
frame_of-missed p ts i d o e h = missed p ts d o (rw e at h)

-- ---- a table more
pub with_table-place : (t : TableFrame) (ts : List TableFrame) → with_table t ts ≡ insert ts (table_place t.piece ts) t
with_table-place t [] = refl
with_table-place t (x ∷ ts) = go (is_before x.piece t.piece) (with_table-place t ts)
  where
    go : (b : Bool) → with_table t ts ≡ insert ts (table_place t.piece ts) t → cond b (x ∷ with_table t ts) (t ∷ x ∷ ts) ≡ insert (x ∷ ts) (cond b (suc (table_place t.piece ts)) 0) t
    go true on = ap (λ us. x ∷ us) on
    go false on = refl

-- ---- the order is kept
before-with_table : (p : Piece) (t : TableFrame) (ts : List TableFrame) → is_before p t.piece ≡ true → ComesBefore p ts → ComesBefore p (with_table t ts)
before-with_table p t [] e a = (e, tt)
before-with_table p t (x ∷ ts) e a = go (is_before x.piece t.piece) (before-with_table p t ts e a.1)
  where
    go : (b : Bool) → ComesBefore p (with_table t ts) → ComesBefore p (cond b (x ∷ with_table t ts) (t ∷ x ∷ ts))
    go true on = (a.0, on)
    go false on = (e, (a.0, a.1))

pub order-with_table : (t : TableFrame) (ts : List TableFrame) → InOrder ts → frame_of ts t.piece.level t.piece.number ≡ None → InOrder (with_table t ts)
order-with_table t [] o e = (tt, tt)
order-with_table t (x ∷ ts) o e = go (is_before x.piece t.piece) refl (is_piece x.piece t.piece.level t.piece.number) refl (order-with_table t ts o.1)
  where
    go : (b : Bool) → is_before x.piece t.piece ≡ b → (c : Bool) → is_piece x.piece t.piece.level t.piece.number ≡ c → (frame_of ts t.piece.level t.piece.number ≡ None → InOrder (with_table t ts)) → InOrder (cond b (x ∷ with_table t ts) (t ∷ x ∷ ts))
    go b f true g on = absurd (let h = rw g at e in cc)
    go true f false g on = (before-with_table x.piece t ts f o.0, on (rw g at e))
    go false f false g on =
        let after = before_other x.piece t.piece f g in
        ((after, before_all t.piece x.piece ts after o.0), (o.0, o.1))

before-without_table : (p : Piece) (l n : ℕ) (ts : List TableFrame) → ComesBefore p ts → ComesBefore p (without_table l n ts)
before-without_table p l n [] a = tt
before-without_table p l n (t ∷ ts) a = go (is_piece t.piece l n) (before-without_table p l n ts a.1)
  where
    go : (b : Bool) → ComesBefore p (without_table l n ts) → ComesBefore p (cond b (without_table l n ts) (t ∷ without_table l n ts))
    go true on = on
    go false on = (a.0, on)

pub order-without_table : (l n : ℕ) (ts : List TableFrame) → InOrder ts → InOrder (without_table l n ts)
order-without_table l n [] o = tt
order-without_table l n (t ∷ ts) o = go (is_piece t.piece l n) (order-without_table l n ts o.1)
  where
    go : (b : Bool) → InOrder (without_table l n ts) → InOrder (cond b (without_table l n ts) (t ∷ without_table l n ts))
    go true on = on
    go false on = (before-without_table t.piece l n ts o.0, on)

-- ---- a scan by frames
pub piece_of-drop : (ts : List TableFrame) (i frame : ℕ) (d : TableFrame) → i < length ts → piece_of (drop i ts) frame ≡ cond ((get_or ts i d).frame == frame) (Some (get_or ts i d).piece) (piece_of (drop (i + 1) ts) frame)
piece_of-drop ts i frame d l = rw (add-one, drop-cons ts i d) refl

pub piece_of-end : (ts : List TableFrame) (i frame : ℕ) → length ts ≤ i → piece_of (drop i ts) frame ≡ None
piece_of-end ts i frame l = rw (drop_of_length-le ts l) refl

pub ruleset table_places = (table_place-le-length, table_place-passed, table_place-stops, with_table-place, piece_of-drop, piece_of-end, nat_tests)
