-- What a change does to a look into the lists of pages and tables.
use Rattle.std.proofs.Common.{ℕ, ◌≡◌, ◌≢◌, ◌==◌, ◌&&◌, false, cond, List, [], ◌∷◌, ◌++◌, Option, Some, None, arith, refl}
use Rattle.std.proofs.lemmas.Bool.Decides.{nat_tests}
use Rattle.osc_sv39.specs.declared.entries.Mapping.{Mapping}
use Rattle.osc_paging.specs.declared.TableFrame.{TableFrame}
use Rattle.osc_paging.specs.declared.Mapped.{Mapped}
use Rattle.osc_paging.specs.KeptTables.{mapping_at, frame_of, piece_of, is_piece}
use Rattle.osc_paging.specs.TableChanges.{with_table, without_table, with_page, without_page}
use Rattle.osc_paging.specs.Agree.{Apart}

-- ---- pages
pub mapping_at-with_page : (ms : List Mapped) (n q : ℕ) (m : Mapping) → mapping_at (with_page n m ms) q ≡ cond (n == q) (Some m) (mapping_at ms q)
mapping_at-with_page [] n q m = refl
mapping_at-with_page (x ∷ ms) n q m = grind (arith, nat_tests, mapping_at-with_page ms n q m)

pub mapping_at-without_page : (ms : List Mapped) (n q : ℕ) → mapping_at (without_page n ms) q ≡ cond (n == q) None (mapping_at ms q)
mapping_at-without_page [] n q = grind (arith, nat_tests)
mapping_at-without_page (x ∷ ms) n q = grind (arith, nat_tests, mapping_at-without_page ms n q)

-- ---- a table more
pub frame_of-with_table : (ts : List TableFrame) (t : TableFrame) (l n : ℕ) → frame_of (with_table t ts) l n ≡ cond (is_piece t.piece l n) (Some t.frame) (frame_of ts l n)
frame_of-with_table [] t l n = refl
frame_of-with_table (x ∷ ts) t l n = grind (arith, nat_tests, frame_of-with_table ts t l n)

pub piece_of-with_table : (ts : List TableFrame) (t : TableFrame) (f : ℕ) → piece_of ts t.frame ≡ None → piece_of (with_table t ts) f ≡ cond (t.frame == f) (Some t.piece) (piece_of ts f)
piece_of-with_table [] t f e = refl
piece_of-with_table (x ∷ ts) t f e = grind (arith, nat_tests, piece_of-with_table ts t f)

pub apart-with_table : (ts : List TableFrame) (t : TableFrame) → Apart ts → frame_of ts t.piece.level t.piece.number ≡ None → piece_of ts t.frame ≡ None → Apart (with_table t ts)
apart-with_table [] t a e f = (refl, refl, tt)
apart-with_table (x ∷ ts) t a e f = grind (arith, nat_tests, a.0, a.1, a.2, apart-with_table ts t a.2, frame_of-with_table ts t x.piece.level x.piece.number, piece_of-with_table ts t x.frame)

-- ---- a table less
pub frame_of-without_table : (ts : List TableFrame) (l n k m : ℕ) → frame_of (without_table l n ts) k m ≡ cond ((l == k) && (n == m)) None (frame_of ts k m)
frame_of-without_table [] l n k m = grind (arith, nat_tests)
frame_of-without_table (t ∷ ts) l n k m = grind (arith, nat_tests, frame_of-without_table ts l n k m)

pub apart-found : (ts : List TableFrame) (l n f : ℕ) → Apart ts → frame_of ts l n ≡ Some f → piece_of ts f ≡ Some (record { level = l; number = n })
apart-found [] l n f a e = cc
apart-found (t ∷ ts) l n f a e = grind (arith, nat_tests, a.1, apart-found ts l n f a.2)

pub apart-placed : (ts : List TableFrame) (f l n : ℕ) → Apart ts → piece_of ts f ≡ Some (record { level = l; number = n }) → frame_of ts l n ≡ Some f
apart-placed [] f l n a e = cc
apart-placed (t ∷ ts) f l n a e = grind (arith, nat_tests, a.0, apart-placed ts f l n a.2)

-- the frame of another table stays
piece_of-without_other : (ts : List TableFrame) (l n f : ℕ) → piece_of ts f ≢ Some (record { level = l; number = n }) → piece_of (without_table l n ts) f ≡ piece_of ts f
piece_of-without_other [] l n f h = refl
piece_of-without_other (t ∷ ts) l n f h = grind (arith, nat_tests, h, piece_of-without_other ts l n f)

pub piece_of-without_same : (ts : List TableFrame) (l n f : ℕ) → Apart ts → piece_of ts f ≡ Some (record { level = l; number = n }) → piece_of (without_table l n ts) f ≡ None
piece_of-without_same [] l n f a e = refl
piece_of-without_same (t ∷ ts) l n f a e = grind (arith, nat_tests, a.0, a.1, piece_of-without_same ts l n f a.2, piece_of-without_other ts l n f)

-- no table comes back
pub piece_of-without_none : (ts : List TableFrame) (l n f : ℕ) → piece_of ts f ≡ None → piece_of (without_table l n ts) f ≡ None
piece_of-without_none [] l n f e = refl
piece_of-without_none (t ∷ ts) l n f e = grind (arith, nat_tests, piece_of-without_none ts l n f)

pub apart-without_table : (ts : List TableFrame) (l n : ℕ) → Apart ts → Apart (without_table l n ts)
apart-without_table [] l n a = tt
apart-without_table (t ∷ ts) l n a = grind (arith, nat_tests, a.0, a.1, apart-without_table ts l n a.2, piece_of-without_none ts l n, frame_of-without_table ts l n)

-- what is left was there, over another piece
pub piece_of-left : (ts : List TableFrame) (l n f k m : ℕ) → Apart ts → piece_of (without_table l n ts) f ≡ Some (record { level = k; number = m }) → (piece_of ts f ≡ Some (record { level = k; number = m })) × (((l == k) && (n == m)) ≡ false)
piece_of-left [] l n f k m a e = cc
piece_of-left (t ∷ ts) l n f k m a e = grind (arith, nat_tests, a.0, a.1, piece_of-left ts l n f k m a.2, apart-placed ts f k m a.2)

-- ---- a leaf more aside
abbrev pub or_else : {X : Type 0} → Option X → Option X → Option X
or_else None y = y
or_else (Some x) y = Some x

pub piece_of-push : (ts : List TableFrame) (t : TableFrame) (f : ℕ) → piece_of (ts ++ t ∷ []) f ≡ or_else (piece_of ts f) (cond (t.frame == f) (Some t.piece) None)
piece_of-push [] t f = refl
piece_of-push (x ∷ ts) t f = grind (arith, nat_tests, piece_of-push ts t f)
