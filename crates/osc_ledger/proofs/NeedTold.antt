-- The tables that fresh shadow pages lack, counted from the journal.
use Rattle.std.proofs.Common.{ℕ, zero, suc, ◌+◌, ◌-◌, ◌≡◌, ◌<◌, ◌≤◌, ◌==◌, ◌&&◌, ◌||◌, ◌⊎◌, inr, ⊎_elim, ◌*◌, nat_le, not, Bool, true, false, cond, Option, Some, None, is_some, List, [], ◌∷◌, ◌++◌, map, arith, refl, sym, ap, subst, ◌∙◌}
use Rattle.std.specs.List.{list_any, range_with_len}
use Rattle.std.proofs.lemmas.Bool.Decides.{nat_tests}
use Rattle.osc_word.specs.AddressMap.{first_shared_page, first_shadow_page}
use Rattle.osc_sv39.specs.Walk.{piece}
use Rattle.osc_image.specs.Frames.{different, tables_below}
use Rattle.osc_paging.specs.declared.TableFrame.{TableFrame}
use Rattle.osc_paging.specs.KeptTables.{frame_of, lack, missing, pieces_over, need_below, need}
use Rattle.osc_paging.proofs.Needed.{piece_mono}
use Rattle.osc_space.specs.Objects.{next_page, leaf_given_up}
use Rattle.osc_space.specs.Share.{next_shared_page}
use Rattle.osc_machine.specs.Refusals.{region_pages, ever_mapped, new_tables}
use Rattle.osc_ledger.specs.Tables.{has_piece}
use Rattle.osc_ledger.specs.Needs.{ShadowNeedIsTold, RegionNeedIsTold}
use Rattle.osc_ledger.proofs.GivenUp.{fresh-kept}

piece-step : (l n : ℕ) → (piece l (n + 1) ≡ piece l n) ⊎ (piece l (n + 1) ≡ piece l n + 1)
piece-step zero n = inr refl
piece-step (suc l) n = grind (arith, piece-step l n)

-- a number among pieces
any-map : (f : ℕ → ℕ) (x : ℕ) (xs : List ℕ) → list_any (λ y. y == x) (map f xs) ≡ list_any (λ page. f page == x) xs
any-map f x [] = refl
any-map f x (y ∷ ys) = ap (λ b. (f y == x) || b) (any-map f x ys)

any-append : (f : ℕ → ℕ) (x : ℕ) (xs ys : List ℕ) → list_any (λ page. f page == x) (xs ++ ys) ≡ (list_any (λ page. f page == x) xs || list_any (λ page. f page == x) ys)
any-append f x [] ys = refl
any-append f x (z ∷ xs) ys = ap (λ b. (f z == x) || b) (any-append f x xs ys) ∙ assoc (f z == x) (list_any (λ page. f page == x) xs) (list_any (λ page. f page == x) ys)
  where
    assoc : (a b c : Bool) → (a || (b || c)) ≡ ((a || b) || c)
    assoc true b c = refl
    assoc false b c = refl

-- no later page is in an earlier piece
none-later : (l a first count : ℕ) → a < piece l first → list_any (λ page. piece l page == a) (range_with_len first count) ≡ false
none-later l a first zero less = refl
none-later l a first (suc count) less =
    let here : (piece l first == a) ≡ false = grind (arith, nat_tests, less) in
    let m = piece_mono l first (first + 1) (omega arith) in
    let later = none-later l a (first + 1) count (omega (arith, less, m)) in
    ap (λ b. b || list_any (λ page. piece l page == a) (range_with_len (first + 1) count)) here ∙ later

-- of the pieces from this page's on each lacks a table exactly where it has none of these pages
abbrev pub Lacks : List TableFrame → ℕ → List ℕ → ℕ → ℕ → Type 0
Lacks ts level ever first last =
    (n : ℕ) → piece (suc level) first ≤ n → n ≤ piece (suc level) last → lack (frame_of ts level n) ≡ cond (has_piece level n ever) 0 1

one-level : (ts : List TableFrame) (level : ℕ) (ever : List ℕ) (first count : ℕ) → Lacks ts level ever first (first + count)
    → different (map (piece (suc level)) (range_with_len first count ++ ever)) ≡ different (map (piece (suc level)) ever) + missing ts level (piece (suc level) first) (pieces_over (suc level) first count)
unfolding missing
one-level ts level ever first zero lacks = omega arith
one-level ts level ever first (suc zero) lacks =
    let a = piece (suc level) first in
    let at : first + 0 ≡ first = omega arith in
    let single : piece (suc level) (first + 0) - a + 1 ≡ 1 = (let z = ap (piece (suc level)) at in omega (arith, z)) in
    let m = piece_mono (suc level) first (first + 1) (omega arith) in
    let here = ap (λ (b : Bool). cond {A = ℕ} b 0 1) (any-map (piece (suc level)) a ever) ∙ sym (lacks a (omega arith) m) in
    let rest = ap (λ c. missing ts level a c) single in
    omega (arith, here, rest)
one-level ts level ever first (suc (suc more)) lacks =
    let on = one-level ts level ever (first + 1) (suc more) (λ n low high. lacks n (let m = piece_mono (suc level) first (first + 1) (omega arith) in omega (arith, low, m))
    (subst (λ x. n ≤ piece (suc level) x) (let z : first + 1 + suc more ≡ first + suc (suc more) = omega arith in z) high)) in
    ⊎_elim (λ (e : piece (suc level) (first + 1) ≡ piece (suc level) first). same e on) (λ (e : piece (suc level) (first + 1) ≡ piece (suc level) first + 1). next e on) (piece-step (suc level) first)
  where
    same : piece (suc level) (first + 1) ≡ piece (suc level) first
        → different (map (piece (suc level)) (range_with_len (first + 1) (suc more) ++ ever)) ≡ different (map (piece (suc level)) ever) + missing ts level (piece (suc level) (first + 1)) (pieces_over (suc level) (first + 1) (suc more))
        → different (map (piece (suc level)) (range_with_len first (suc (suc more)) ++ ever)) ≡ different (map (piece (suc level)) ever) + missing ts level (piece (suc level) first) (pieces_over (suc level) first (suc (suc more)))
    same e later =
        let f = piece (suc level) in
        let again : (f (first + 1) == f first) ≡ true = grind (arith, nat_tests, e) in
        let head = ap (λ (b : Bool). cond {A = ℕ} (b || list_any (λ y. y == f first) (map f (range_with_len (first + 1 + 1) more ++ ever))) 0 1) again in
        let last : first + 1 + more ≡ first + suc more = omega arith in
        let over : f (first + 1 + more) - f (first + 1) + 1 ≡ f (first + suc more) - f first + 1 = (let z = ap f last in omega (arith, z, e)) in
        let rest : missing ts level (f (first + 1)) (f (first + 1 + more) - f (first + 1) + 1) ≡ missing ts level (f first) (f (first + suc more) - f first + 1) = λ i. missing ts level (e i) (over i) in
        omega (arith, head, rest, later)

    next : piece (suc level) (first + 1) ≡ piece (suc level) first + 1
        → different (map (piece (suc level)) (range_with_len (first + 1) (suc more) ++ ever)) ≡ different (map (piece (suc level)) ever) + missing ts level (piece (suc level) (first + 1)) (pieces_over (suc level) (first + 1) (suc more))
        → different (map (piece (suc level)) (range_with_len first (suc (suc more)) ++ ever)) ≡ different (map (piece (suc level)) ever) + missing ts level (piece (suc level) first) (pieces_over (suc level) first (suc (suc more)))
    next e later =
        let f = piece (suc level) in
        let a = f first in
        let none = none-later (suc level) a (first + 1) (suc more) (omega (arith, e)) in
        let where-is : list_any (λ y. y == a) (map f (range_with_len (first + 1) (suc more) ++ ever)) ≡ has_piece level a ever =
        any-map f a (range_with_len (first + 1) (suc more) ++ ever) ∙ any-append f a (range_with_len (first + 1) (suc more)) ever ∙ ap (λ b. b || has_piece level a ever) none in
        let m = piece_mono (suc level) first (first + suc (suc more)) (omega arith) in
        let head = ap (λ (b : Bool). cond {A = ℕ} b 0 1) where-is ∙ sym (lacks a (omega arith) m) in
        let last : first + 1 + more ≡ first + suc more = omega arith in
        let grows = piece_mono (suc level) (first + 1) (first + 1 + more) (omega arith) in
        let over : f (first + suc more) - a + 1 ≡ suc (f (first + 1 + more) - f (first + 1) + 1) = (let z = ap f last in omega (arith, z, e, grows)) in
        let split = ap (λ c. missing ts level a c) over in
        let rest = ap (λ x. missing ts level x (f (first + 1 + more) - f (first + 1) + 1)) e in
        omega (arith, head, split, rest, later)

-- all levels
pub all-levels : (ts : List TableFrame) (ever : List ℕ) (first count levels : ℕ) → ((level : ℕ) → level < levels → Lacks ts level ever first (first + count))
    → tables_below levels (range_with_len first count ++ ever) ≡ tables_below levels ever + need_below ts levels first count
unfolding tables_below need_below
all-levels ts ever first count zero lacks = omega arith
all-levels ts ever first count (suc level) lacks =
    let here = one-level ts level ever first count (lacks level (omega arith)) in
    let lower = all-levels ts ever first count level (λ n less. lacks n (omega (arith, less))) in
    omega (arith, here, lower)

pub lack-is : (x : Option ℕ) → lack x ≡ cond (is_some x) 0 1
lack-is None = refl
lack-is (Some f) = refl

pub shadow_need_is_told : ShadowNeedIsTold
shadow_need_is_told s l t count told =
    let levels = told.levels in
    let top : s.config.levels - 1 ≡ t.top = omega (arith, levels) in
    let same = all-levels t.tables (ever_mapped s l) (next_page l.objects) count t.top lacks in
    let more = ap (λ n. tables_below n (range_with_len (next_page l.objects) count ++ ever_mapped s l)) top in
    let was = ap (λ n. tables_below n (ever_mapped s l)) top in
    omega (arith, same, more, was)
  where
    kept : (level n : ℕ) (b : Bool) → (level == 0) ≡ b → piece (suc level) (next_page l.objects) ≤ n → (b && leaf_given_up l.objects l.waiting n) ≡ false
    kept level n true e low =
        let zeroth : level ≡ 0 = grind (arith, nat_tests, e) in
        let first : piece 1 (next_page l.objects) ≤ n = subst (λ x. piece (suc x) (next_page l.objects) ≤ n) zeroth low in
        fresh-kept l.objects l.waiting n (next_page l.objects) (omega arith) (omega (arith, first))
    kept level n false e low = refl

    lacks : (level : ℕ) → level < t.top → Lacks t.tables level (ever_mapped s l) (next_page l.objects) (next_page l.objects + count)
    lacks level less n low high =
        lack-is (frame_of t.tables level n)
        ∙ ap (λ (b : Bool). cond {A = ℕ} b 0 1)
        (told.below level n less
        ∙ ap (λ b. has_piece level n (ever_mapped s l) && not b) (kept level n (level == 0) refl low)
        ∙ whole (has_piece level n (ever_mapped s l)))
      where
        whole : (b : Bool) → (b && not false) ≡ b
        whole true = refl
        whole false = refl

pub region_need_is_told : RegionNeedIsTold
region_need_is_told s l t count told below =
    let levels = told.levels in
    let top : s.config.levels - 1 ≡ t.top = omega (arith, levels) in
    let first : next_shared_page t ≡ first_shared_page + region_pages l.regions = ap (λ n. first_shared_page + n) told.regions in
    let same = all-levels t.tables (ever_mapped s l) (next_shared_page t) count t.top lacks in
    let more = ap (λ n. tables_below n (range_with_len (next_shared_page t) count ++ ever_mapped s l)) top in
    let was = ap (λ n. tables_below n (ever_mapped s l)) top in
    ap (λ n. new_tables s l n count) (sym first) ∙ (let e : new_tables s l (next_shared_page t) count ≡ need t (next_shared_page t) count = omega (arith, same, more, was) in e)
  where
    low-leaf : (n : ℕ) → n ≤ piece 1 (next_shared_page t + count) → leaf_given_up l.objects l.waiting n ≡ false
    low-leaf n high =
        let early : nat_le first_shadow_page (512 * n) ≡ false = grind (arith, nat_tests, (let z : 512 * n < first_shadow_page = omega (arith, high, below) in z)) in
        none (nat_le first_shadow_page (512 * n)) _ _ _ early
      where
        none : (a b c d : Bool) → a ≡ false → (((a && b) && c) && d) ≡ false
        none true b c d e = absurd (let z : ⊥ = grind (arith, e) in z)
        none false b c d e = refl

    kept : (level n : ℕ) (b : Bool) → (level == 0) ≡ b → n ≤ piece (suc level) (next_shared_page t + count) → (b && leaf_given_up l.objects l.waiting n) ≡ false
    kept level n true e high =
        let zeroth : level ≡ 0 = grind (arith, nat_tests, e) in
        low-leaf n (subst (λ x. n ≤ piece (suc x) (next_shared_page t + count)) zeroth high)
    kept level n false e high = refl

    lacks : (level : ℕ) → level < t.top → Lacks t.tables level (ever_mapped s l) (next_shared_page t) (next_shared_page t + count)
    lacks level less n low high =
        lack-is (frame_of t.tables level n)
        ∙ ap (λ (b : Bool). cond {A = ℕ} b 0 1)
        (told.below level n less
        ∙ ap (λ b. has_piece level n (ever_mapped s l) && not b) (kept level n (level == 0) refl high)
        ∙ whole (has_piece level n (ever_mapped s l)))
      where
        whole : (b : Bool) → (b && not false) ≡ b
        whole true = refl
        whole false = refl
