-- Leaf tables in their order: what is left of them from one on.
use Rattle.std.proofs.Common.{ℕ, suc, ◌+◌, ◌≡◌, ◌<◌, ◌≤◌, ◌==◌, ◌&&◌, ◌⊎◌, inl, inr, Bool, true, false, cond, List, [], ◌∷◌, Some, arith, refl, ap, sym, subst, ◌∙◌, length, map}
use Rattle.std.specs.Prelude.{filter, is_some, nat_le}
use Rattle.std.specs.List.{list_any}
use Rattle.std.proofs.lemmas.Bool.Decides.{nat_tests}
use Rattle.osc_paging.specs.declared.Piece.{Piece}
use Rattle.osc_paging.specs.declared.TableFrame.{TableFrame}
use Rattle.osc_paging.specs.KeptTables.{frame_of}
use Rattle.osc_tables.specs.Inside.{ComesBefore, InOrder}

-- each is above the one before, from a number on
abbrev pub Ascend : ℕ → List ℕ → Type 0
Ascend low [] = Unit {0}
Ascend low (x ∷ xs) = (low ≤ x) × Ascend (suc x) xs

abbrev pub leaves : List TableFrame → List ℕ
leaves ts = map (λ (f : TableFrame). f.piece.number) (filter (λ (f : TableFrame). f.piece.level == 0) ts)

-- ---- tables in their order

LowLeaves : ℕ → List TableFrame → Type 0
LowLeaves low [] = Unit {0}
LowLeaves low (t ∷ ts) = (t.piece.level ≡ 0 → low ≤ t.piece.number) × LowLeaves low ts

after_leaf : (p : Piece) (ts : List TableFrame) → p.level ≡ 0 → ComesBefore p ts → LowLeaves (suc p.number) ts
unfolding LowLeaves
after_leaf p [] e b = tt
after_leaf p (t ∷ ts) e b = (λ z. (let h = b.0 in grind (arith, nat_tests, h, e, z)), after_leaf p ts e b.1)

ascending : (low : ℕ) (ts : List TableFrame) → InOrder ts → LowLeaves low ts → Ascend low (leaves ts)
unfolding LowLeaves
ascending low [] o l = tt
ascending low (t ∷ ts) o l = go (t.piece.level == 0) refl (ascending low ts o.1 l.1) (λ e. ascending (suc t.piece.number) ts o.1 (after_leaf t.piece ts e o.0))
  where
    go : (b : Bool) → (t.piece.level == 0) ≡ b → Ascend low (leaves ts) → (t.piece.level ≡ 0 → Ascend (suc t.piece.number) (leaves ts))
        → Ascend low (map (λ (f : TableFrame). f.piece.number) (cond b (t ∷ filter (λ (f : TableFrame). f.piece.level == 0) ts) (filter (λ (f : TableFrame). f.piece.level == 0) ts)))
    go true e f g = let z : t.piece.level ≡ 0 = grind (arith, nat_tests, e) in (l.0 z, g z)
    go false e f g = f

low_all : (ts : List TableFrame) → LowLeaves 0 ts
unfolding LowLeaves
low_all [] = tt
low_all (t ∷ ts) = (λ e. omega arith, low_all ts)

pub leaves_ascend : (ts : List TableFrame) → InOrder ts → Ascend 0 (leaves ts)
leaves_ascend ts o = ascending 0 ts o (low_all ts)

pub is_leaf_there : (ts : List TableFrame) (leaf : ℕ) → list_any (λ x. x == leaf) (leaves ts) ≡ is_some (frame_of ts 0 leaf)
is_leaf_there [] leaf = refl
is_leaf_there (t ∷ ts) leaf = go (t.piece.level == 0) (t.piece.number == leaf) refl (is_leaf_there ts leaf)
  where
    go : (b c : Bool) → (t.piece.number == leaf) ≡ c → list_any (λ x. x == leaf) (leaves ts) ≡ is_some (frame_of ts 0 leaf)
        → list_any (λ x. x == leaf) (map (λ (f : TableFrame). f.piece.number) (cond b (t ∷ filter (λ (f : TableFrame). f.piece.level == 0) ts) (filter (λ (f : TableFrame). f.piece.level == 0) ts)))
        ≡ is_some (cond (b && c) (Some t.frame) (frame_of ts 0 leaf))
    go true true e later = rw e refl
    go true false e later = rw e later
    go false c e later = later

pub few_leaves : (p : ℕ → Bool) (ts : List TableFrame) → length (filter p (leaves ts)) ≤ length ts
few_leaves p [] = omega arith
few_leaves p (t ∷ ts) = go (t.piece.level == 0) (p t.piece.number) refl (few_leaves p ts)
  where
    go : (b c : Bool) → p t.piece.number ≡ c → length (filter p (leaves ts)) ≤ length ts
        → length (filter p (map (λ (f : TableFrame). f.piece.number) (cond b (t ∷ filter (λ (f : TableFrame). f.piece.level == 0) ts) (filter (λ (f : TableFrame). f.piece.level == 0) ts)))) ≤ suc (length ts)
    go true true e later = rw e (omega arith)
    go true false e later = rw e (omega arith)
    go false c e later = omega arith

-- ---- those from a number on that pass
abbrev pub rest : (ℕ → Bool) → ℕ → List ℕ → List ℕ
rest p from xs = filter (λ x. nat_le from x && p x) xs

pub rest_all : (p : ℕ → Bool) (xs : List ℕ) → rest p 0 xs ≡ filter p xs
rest_all p [] = refl
rest_all p (x ∷ xs) = let here : nat_le 0 x ≡ true = grind (arith, nat_tests) in let on = rest_all p xs in rw (here, on) refl

pub rest_none : (p : ℕ → Bool) (from : ℕ) (xs : List ℕ) → ((x : ℕ) → from ≤ x → p x ≡ false) → rest p from xs ≡ []
rest_none p from [] h = refl
rest_none p from (x ∷ xs) h = let on = rest_none p from xs h in go (nat_le from x) refl on
  where
    go : (b : Bool) → nat_le from x ≡ b → rest p from xs ≡ [] → cond (b && p x) (x ∷ rest p from xs) (rest p from xs) ≡ []
    go true e on = let out = h x (grind (arith, nat_tests, e)) in rw out on
    go false e on = on

above_same : (p : ℕ → Bool) (from low : ℕ) (xs : List ℕ) → Ascend low xs → from ≤ low → rest p from xs ≡ rest p low xs
above_same p from low [] a l = refl
above_same p from low (x ∷ xs) a l =
    let first = a.0 in
    let one : nat_le from x ≡ true = grind (arith, nat_tests, first, l) in
    let two : nat_le low x ≡ true = grind (arith, nat_tests, first) in
    let on = above_same p from (suc x) xs a.1 (omega arith) in
    let off = above_same p low (suc x) xs a.1 (omega arith) in
    rw (one, two, on, off) refl

none_below : (leaf low : ℕ) (xs : List ℕ) → Ascend low xs → leaf < low → list_any (λ x. x == leaf) xs ≡ false
none_below leaf low [] a l = refl
none_below leaf low (x ∷ xs) a l =
    let first = a.0 in
    let out : (x == leaf) ≡ false = grind (arith, nat_tests, first, l) in
    let on = none_below leaf (suc x) xs a.1 (omega arith) in
    rw (out, on) refl

pub rest_next : (p : ℕ → Bool) (from leaf low : ℕ) (xs : List ℕ) → Ascend low xs → from ≤ leaf → ((x : ℕ) → from ≤ x → x < leaf → p x ≡ false)
    → rest p from xs ≡ cond (p leaf && list_any (λ x. x == leaf) xs) (leaf ∷ rest p (leaf + 1) xs) (rest p (leaf + 1) xs)
rest_next p from leaf low [] a l h = go (p leaf)
  where
    go : (b : Bool) → [] ≡ cond (b && false) (leaf ∷ []) []
    go true = refl
    go false = refl
rest_next p from leaf low (x ∷ xs) a l h = pick (order x leaf) (rest_next p from leaf (suc x) xs a.1 l h)
  where
    order : (x y : ℕ) → (x < y) ⊎ (x ≡ y) ⊎ (y < x)
    order x y = grind arith

    pick : (x < leaf) ⊎ (x ≡ leaf) ⊎ (leaf < x)
        → rest p from xs ≡ cond (p leaf && list_any (λ y. y == leaf) xs) (leaf ∷ rest p (leaf + 1) xs) (rest p (leaf + 1) xs)
        → rest p from (x ∷ xs) ≡ cond (p leaf && list_any (λ y. y == leaf) (x ∷ xs)) (leaf ∷ rest p (leaf + 1) (x ∷ xs)) (rest p (leaf + 1) (x ∷ xs))
    pick (inl below) on =
        let not_it : (x == leaf) ≡ false = grind (arith, nat_tests, below) in
        let past : nat_le (leaf + 1) x ≡ false = grind (arith, nat_tests, below) in
        rw (not_it, past) (skip (nat_le from x) refl ∙ on)
      where
        skip : (b : Bool) → nat_le from x ≡ b → cond (b && p x) (x ∷ rest p from xs) (rest p from xs) ≡ rest p from xs
        skip true e = let out = h x (grind (arith, nat_tests, e)) below in rw out refl
        skip false e = refl
    pick (inr (inl is)) on =
        let it : (x == leaf) ≡ true = grind (arith, nat_tests, is) in
        let up : nat_le from x ≡ true = grind (arith, nat_tests, is, l) in
        let past : nat_le (leaf + 1) x ≡ false = grind (arith, nat_tests, is) in
        let e : suc x ≡ leaf + 1 = omega arith in
        let same = above_same p from (suc x) xs a.1 (omega arith) ∙ ap (λ k. rest p k xs) e in
        rw (it, up, past, same) (subst (λ y. cond (p y) (y ∷ rest p (leaf + 1) xs) (rest p (leaf + 1) xs) ≡ cond (p leaf && true) (leaf ∷ rest p (leaf + 1) xs) (rest p (leaf + 1) xs)) (sym is) (go (p leaf)))
      where
        go : (b : Bool) → cond b (leaf ∷ rest p (leaf + 1) xs) (rest p (leaf + 1) xs) ≡ cond (b && true) (leaf ∷ rest p (leaf + 1) xs) (rest p (leaf + 1) xs)
        go true = refl
        go false = refl
    pick (inr (inr above)) on =
        let not_it : (x == leaf) ≡ false = grind (arith, nat_tests, above) in
        let none = none_below leaf (suc x) xs a.1 (omega arith) in
        let asc : Ascend (leaf + 1) (x ∷ xs) = (omega arith, a.1) in
        let same = above_same p from (leaf + 1) (x ∷ xs) asc (omega arith) in
        same ∙ sym (rw (not_it, none) (go (p leaf)))
      where
        go : (b : Bool) → cond (b && false) (leaf ∷ rest p (leaf + 1) (x ∷ xs)) (rest p (leaf + 1) (x ∷ xs)) ≡ rest p (leaf + 1) (x ∷ xs)
        go true = refl
        go false = refl
