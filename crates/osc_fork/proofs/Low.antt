-- Pages in the lower half of the range.
use Rattle.std.proofs.Common.{ℕ, suc, ◌≡◌, ◌<◌, ◌≤◌, ◌==◌, ◌^◌, Bool, true, false, arith, refl, subst}
use Rattle.std.proofs.lemmas.Bool.Decides.{nat_tests}
use Rattle.osc_sv39.specs.Walk.{is_canonical, number_of}
use Rattle.osc_tables.specs.Inside.{IsTop}

-- what holds of three levels and of four
at_top : (P : ℕ → Type 0) (top : ℕ) → IsTop top → P 2 → P 3 → P top
at_top P top range three four = pick (top == 2) refl
  where
    pick : (b : Bool) → (top == 2) ≡ b → P top
    pick true e = let s : 2 ≡ top = grind (arith, nat_tests, e) in subst P s three
    pick false e = let s : 3 ≡ top = grind (arith, nat_tests, e, range.0, range.1) in subst P s four

-- the page is canonical, and its own number
pub record IsLow (levels page : ℕ) : Type 0 where
  pub canonical : is_canonical levels page ≡ true
  pub number : number_of levels page ≡ page

pub low_page : (top page : ℕ) → IsTop top → page < 67108864 → IsLow (suc top) page
low_page top page range s = at_top (λ t. IsLow (suc t) page) top range
    (record { canonical = grind (arith, nat_tests, s); number = omega arith })
    (record { canonical = grind (arith, nat_tests, s); number = omega arith })

pub reach : (top : ℕ) → IsTop top → 67108864 ≤ 512 ^ suc top
reach top range = at_top (λ t. 67108864 ≤ 512 ^ suc t) top range (omega arith) (omega arith)
