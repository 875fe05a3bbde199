-- What the calls of tables rest on.
use Rattle.std.proofs.Common.{ℕ, zero, suc, refl, ◌≡◌, ◌<◌, ◌≤◌, ◌*◌, ◌^◌, ◌==◌, Bool, true, false, cond, List, [], ◌∷◌, Some, arith, subst}
use Rattle.std.proofs.lemmas.Bool.Decides.{nat_tests}
use Rattle.std.proofs.Math.Nat.{pow-succ'}
use Rattle.osc_paging.specs.declared.Piece.{Piece}
use Rattle.osc_paging.specs.declared.TableFrame.{TableFrame}
use Rattle.osc_paging.specs.KeptTables.{piece_of}
use Rattle.osc_tables.specs.Inside.{IsTop, LieWithin}

-- what holds of three levels and of four
pub at_top : (P : ℕ → Type 0) (top : ℕ) → IsTop top → P 2 → P 3 → P top
at_top P top range three four = pick (top == 2) refl
  where
    pick : (b : Bool) → (top == 2) ≡ b → P top
    pick true e = let s : 2 ≡ top = grind (arith, nat_tests, e) in subst P s three
    pick false e = let s : 3 ≡ top = grind (arith, nat_tests, e, range.0, range.1) in subst P s four

-- how many pages the tables reach
pub range_small : (top : ℕ) → IsTop top → 512 ^ suc top ≤ 68719476736
range_small top range = at_top (λ t. 512 ^ suc t ≤ 68719476736) top range (omega arith) (omega arith)

-- a table that is found lies within the range
pub lies : (levels : ℕ) (ts : List TableFrame) (frame : ℕ) (p : Piece) → LieWithin levels ts → piece_of ts frame ≡ Some p → (p.level < levels) × (p.number * 512 ^ suc p.level < 512 ^ levels)
lies levels [] frame p w e = cc
lies levels (t ∷ ts) frame p w e = pick (t.frame == frame) e (lies levels ts frame p w.2)
  where
    pick : (b : Bool) → cond b (Some t.piece) (piece_of ts frame) ≡ Some p → (piece_of ts frame ≡ Some p → (p.level < levels) × (p.number * 512 ^ suc p.level < 512 ^ levels)) → (p.level < levels) × (p.number * 512 ^ suc p.level < 512 ^ levels)
    pick true e on = let d : t.piece ≡ p = cc in subst (λ (q : Piece). (q.level < levels) × (q.number * 512 ^ suc q.level < 512 ^ levels)) d (w.0, w.1)
    pick false e on = on e

power_more : (n k : ℕ) → n ≤ n * 512 ^ k
power_more n zero = omega arith
power_more n (suc k) = let h = power_more n k in rw pow-succ' (omega arith)

-- its number is small
pub lies_small : (top : ℕ) (ts : List TableFrame) (frame : ℕ) (p : Piece) → IsTop top → LieWithin (suc top) ts → piece_of ts frame ≡ Some p → p.number < 68719476736
lies_small top ts frame p range w e =
    let h = (lies (suc top) ts frame p w e).1 in
    let m = power_more p.number (suc p.level) in
    let most = range_small top range in
    omega arith

pub ruleset kept_facts = (nat_tests, lies)
