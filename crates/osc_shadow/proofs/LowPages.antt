-- A page of the address map is its own number, in tables of three or four levels.
use Rattle.std.proofs.Common.{ℕ, suc, ◌^◌, ◌≡◌, ◌<◌, ◌≤◌, ◌⊎◌, inl, inr, subst, sym, true, Option, Some, None, arith, refl, lit≤}
use Rattle.std.specs.Prelude.{IsSome}
use Rattle.std.proofs.lemmas.Bool.Decides.{nat_tests}
use Rattle.osc_sv39.specs.Walk.{is_canonical, number_of}
use Rattle.osc_paging.specs.KeptTables.{KeptTables, mapping_at, mapping_of}
use Rattle.osc_tables.specs.Inside.{IsTop}

pub at_top : (P : ℕ → Type 0) (top : ℕ) → IsTop top → P 2 → P 3 → P top
at_top P top range two three = go (between top range.0 range.1)
  where
    between : (top : ℕ) → 2 ≤ top → top ≤ 3 → (top ≡ 2) ⊎ (top ≡ 3)
    between top a b = grind arith

    go : (top ≡ 2) ⊎ (top ≡ 3) → P top
    go (inl e) = subst P (sym e) two
    go (inr e) = subst P (sym e) three

pub is_low : (top page : ℕ) → IsTop top → page < 2 ^ 26 → (is_canonical (suc top) page ≡ true) × (number_of (suc top) page ≡ page)
is_low top page range s = at_top (λ t. (is_canonical (suc t) page ≡ true) × (number_of (suc t) page ≡ page)) top range
    (grind (arith, nat_tests, s), omega arith)
    (grind (arith, nat_tests, s), omega arith)

pub low_mapping : (t : KeptTables) (page : ℕ) → IsTop t.top → page < 2 ^ 26 → mapping_of t page ≡ mapping_at t.pages page
low_mapping t page range s = let h = is_low t.top page range s in rw (h.0, h.1) refl

pub range_large : (top : ℕ) → IsTop top → 2 ^ 27 ≤ 512 ^ suc top
range_large top range = at_top (λ t. 2 ^ 27 ≤ 512 ^ suc t) top range (lit≤ tt) (lit≤ tt)

pub some_of : {A : Type 0} (x : Option A) → IsSome x → (y : A) × (x ≡ Some y)
some_of None h = cc
some_of (Some y) h = (y, refl)
