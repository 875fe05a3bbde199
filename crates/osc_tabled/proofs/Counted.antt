-- How many tables there are, level by level.
use Rattle.std.proofs.Common.{ℕ, zero, suc, ◌+◌, ◌≡◌, ◌<◌, ◌≤◌, ◌==◌, ◌&&◌, ◌||◌, nat_lt, not, Bool, true, false, cond, Option, Some, None, is_some, List, [], ◌∷◌, ◌++◌, length, map, arith, refl, sym, ap, subst, ◌∙◌}
use Rattle.std.specs.List.{list_any}
use Rattle.std.proofs.lemmas.Bool.Decides.{nat_tests}
use Rattle.std.proofs.lemmas.List.Folds.{list_any-append}
use Rattle.osc_sv39.specs.Walk.{piece}
use Rattle.osc_image.specs.Frames.{different, tables_below}
use Rattle.osc_paging.specs.declared.TableFrame.{TableFrame}
use Rattle.osc_paging.specs.KeptTables.{frame_of, is_piece}
use Rattle.osc_paging.specs.Agree.{Apart}
use Rattle.osc_space.specs.Agree.{AreApart}
use Rattle.osc_settled.proofs.Different.{is_among}
use Rattle.osc_tabled.proofs.Members.{same-members, apart-different, different-append}

-- the numbers of the tables of a level
abbrev pub numbers_at : ℕ → List TableFrame → List ℕ
numbers_at level [] = []
numbers_at level (t ∷ ts) = cond (t.piece.level == level) (t.piece.number ∷ numbers_at level ts) (numbers_at level ts)

pub among-at : (level n : ℕ) (ts : List TableFrame) → is_among n (numbers_at level ts) ≡ is_some (frame_of ts level n)
among-at level n [] = refl
among-at level n (t ∷ ts) = go (t.piece.level == level) (t.piece.number == n) refl (among-at level n ts)
  where
    go : (a b : Bool) → (t.piece.number == n) ≡ b → is_among n (numbers_at level ts) ≡ is_some (frame_of ts level n)
        → is_among n (cond a (t.piece.number ∷ numbers_at level ts) (numbers_at level ts)) ≡ is_some (cond (a && (t.piece.number == n)) (Some t.frame) (frame_of ts level n))
    go true true e later = rw e refl
    go true false e later = rw e later
    go false b e later = later

pub apart-at : (level : ℕ) (ts : List TableFrame) → Apart ts → AreApart (numbers_at level ts)
apart-at level [] a = tt
apart-at level (t ∷ ts) a = go (t.piece.level == level) refl (apart-at level ts a.2)
  where
    go : (b : Bool) → (t.piece.level == level) ≡ b → AreApart (numbers_at level ts) → AreApart (cond b (t.piece.number ∷ numbers_at level ts) (numbers_at level ts))
    go true e later =
        let same : t.piece.level ≡ level = grind (arith, nat_tests, e) in
        (among-at level t.piece.number ts ∙ sym (ap (λ l. is_some (frame_of ts l t.piece.number)) same) ∙ ap (λ (o : Option ℕ). is_some o) a.0, later)
    go false e later = later

-- how many stand below a level
abbrev below : ℕ → List TableFrame → ℕ
below zero ts = 0
below (suc level) ts = length (numbers_at level ts) + below level ts

below-none : (level : ℕ) → below level [] ≡ 0
below-none zero = refl
below-none (suc level) = let e = below-none level in omega (arith, e)

below-cons : (level : ℕ) (t : TableFrame) (ts : List TableFrame) → below level (t ∷ ts) ≡ cond (nat_lt t.piece.level level) 1 0 + below level ts
below-cons zero t ts = grind (arith, nat_tests)
below-cons (suc level) t ts = go (t.piece.level == level) refl (below-cons level t ts)
  where
    go : (b : Bool) → (t.piece.level == level) ≡ b → below level (t ∷ ts) ≡ cond (nat_lt t.piece.level level) 1 0 + below level ts
        → length (cond b (t.piece.number ∷ numbers_at level ts) (numbers_at level ts)) + below level (t ∷ ts) ≡ cond (nat_lt t.piece.level (suc level)) 1 0 + (length (numbers_at level ts) + below level ts)
    go true e later = grind (arith, nat_tests, e, later)
    go false e later = grind (arith, nat_tests, e, later)

all-below : (most : ℕ) (ts : List TableFrame) → ((level n : ℕ) → is_some (frame_of ts level n) ≡ true → level < most) → below most ts ≡ length ts
all-below most [] h = below-none most
all-below most (t ∷ ts) h =
    let first : t.piece.level < most = h t.piece.level t.piece.number (let z : is_piece t.piece t.piece.level t.piece.number ≡ true = grind (arith, nat_tests) in ap (λ b. is_some (cond b (Some t.frame) (frame_of ts t.piece.level t.piece.number))) z) in
    let one : nat_lt t.piece.level most ≡ true = grind (arith, nat_tests, first) in
    let count = ap (λ (b : Bool). cond {A = ℕ} b 1 0) one in
    let cons = below-cons most t ts in
    let later = all-below most ts (λ level n e. h level n (still (is_piece t.piece level n) (frame_of ts level n) e)) in
    omega (arith, count, cons, later)
  where
    still : (b : Bool) (x : Option ℕ) → is_some x ≡ true → is_some (cond b (Some t.frame) x) ≡ true
    still true x e = refl
    still false x e = e

any-map : (f : ℕ → ℕ) (x : ℕ) (xs : List ℕ) → is_among x (map f xs) ≡ list_any (λ page. f page == x) xs
any-map f x [] = refl
any-map f x (y ∷ ys) = ap (λ b. (f y == x) || b) (any-map f x ys)

-- Below the topmost table these are the tables over the pages, but for some numbers of level 0, over pages too,
-- of which none stands twice; and the topmost one is the only one above.
pub record AreOver (pages gone : List ℕ) (top : ℕ) (ts : List TableFrame) : Type 0 where
  pub leaves : (n : ℕ) → is_some (frame_of ts 0 n) ≡ (list_any (λ page. piece 1 page == n) pages && not (is_among n gone))
  pub gone_over : (n : ℕ) → is_among n gone ≡ true → list_any (λ page. piece 1 page == n) pages ≡ true
  pub gone_apart : AreApart gone
  pub between : (level n : ℕ) → suc level < top → is_some (frame_of ts (suc level) n) ≡ list_any (λ page. piece (suc (suc level)) page == n) pages
  pub above : (level n : ℕ) → top ≤ level → is_some (frame_of ts level n) ≡ ((top == level) && (0 == n))

module _ (pages gone : List ℕ) (top : ℕ) (ts : List TableFrame) (deep : 0 < top) (a : Apart ts) (h : AreOver pages gone top ts) where
  at : (level : ℕ) → different (numbers_at level ts) ≡ length (numbers_at level ts)
  at level = apart-different (numbers_at level ts) (apart-at level ts a)

  leaf-count : different (map (piece 1) pages) ≡ length (numbers_at 0 ts) + length gone
  leaf-count =
      let same = same-members (map (piece 1) pages) (numbers_at 0 ts ++ gone) members in
      let both = different-append (numbers_at 0 ts) gone apart in
      let one = at 0 in let two = apart-different gone h.gone_apart in
      omega (arith, same, both, one, two)
    where
      split : (x o g : Bool) → x ≡ (o && not g) → (g ≡ true → o ≡ true) → o ≡ (x || g)
      split true true g e f = refl
      split false true true e f = refl
      split false true false e f = sym e
      split true false g e f = sym e
      split false false true e f = f refl
      split false false false e f = refl

      members : (n : ℕ) → is_among n (map (piece 1) pages) ≡ is_among n (numbers_at 0 ts ++ gone)
      members n =
          any-map (piece 1) n pages
          ∙ split (is_some (frame_of ts 0 n)) (list_any (λ page. piece 1 page == n) pages) (is_among n gone) (h.leaves n) (h.gone_over n)
          ∙ ap (λ b. b || is_among n gone) (sym (among-at 0 n ts))
          ∙ sym (list_any-append (λ y. y == n) (numbers_at 0 ts) gone)

      apart : (n : ℕ) → is_among n (numbers_at 0 ts) ≡ true → is_among n gone ≡ false
      apart n e = not-gone (list_any (λ page. piece 1 page == n) pages) (is_among n gone) (sym (h.leaves n) ∙ sym (among-at 0 n ts) ∙ e)
        where
          not-gone : (o g : Bool) → (o && not g) ≡ true → g ≡ false
          not-gone o false f = refl
          not-gone true true f = absurd (let z : ⊥ = grind (arith, f) in z)
          not-gone false true f = absurd (let z : ⊥ = grind (arith, f) in z)

  level-count : (level : ℕ) → suc level < top → different (map (piece (suc (suc level))) pages) ≡ length (numbers_at (suc level) ts)
  level-count level less =
      same-members (map (piece (suc (suc level))) pages) (numbers_at (suc level) ts)
      (λ n. any-map (piece (suc (suc level))) n pages ∙ sym (h.between level n less) ∙ sym (among-at (suc level) n ts))
      ∙ at (suc level)

  levels : (level : ℕ) → suc level ≤ top → tables_below (suc level) pages ≡ below (suc level) ts + length gone
  unfolding tables_below
  levels zero less = let one = leaf-count in omega (arith, one)
  levels (suc level) less =
      let here = level-count level (omega (arith, less)) in
      let on = levels level (omega (arith, less)) in
      omega (arith, here, on)

  root-count : length (numbers_at top ts) ≡ 1
  root-count =
      let same = same-members (numbers_at top ts) (0 ∷ []) (λ n. among-at top n ts ∙ h.above top n (omega arith) ∙ only n) in
      let one = at top in
      let single : different (0 ∷ []) ≡ 1 = refl in
      omega (arith, same, one, single)
    where
      only : (n : ℕ) → ((top == top) && (0 == n)) ≡ ((0 == n) || false)
      only n = grind (arith, nat_tests)

  pub counted : 1 + tables_below top pages ≡ length ts + length gone
  counted =
      let all = all-below (suc top) ts within in
      let root = root-count in
      let told = by top refl in
      omega (arith, all, root, told)
    where
      within : (level n : ℕ) → is_some (frame_of ts level n) ≡ true → level < suc top
      within level n e = go (nat_lt level (suc top)) refl
        where
          go : (b : Bool) → nat_lt level (suc top) ≡ b → level < suc top
          go true f = grind (arith, nat_tests, f)
          go false f =
              let late : top < level = grind (arith, nat_tests, f) in
              let apart : (top == level) ≡ false = grind (arith, nat_tests, late) in
              let z : true ≡ false = sym e ∙ h.above level n (omega (arith, late)) ∙ ap (λ b. b && (0 == n)) apart in
              absurd (let w : ⊥ = grind (arith, z) in w)

      by : (m : ℕ) → top ≡ m → tables_below m pages ≡ below m ts + length gone
      by zero e = absurd (let z : ⊥ = omega (arith, e, deep) in z)
      by (suc level) e = levels level (omega (arith, e))
