-- Pieces of numbers, and the need of frames.
use Rattle.std.proofs.Common.{ℕ, zero, suc, ◌≡◌, ◌<◌, ◌≤◌, ◌+◌, ◌-◌, ◌/◌, ◌*◌, ◌^◌, List, arith, refl}
use Rattle.std.proofs.lemmas.Bool.Decides.{nat_tests}
use Rattle.std.proofs.Math.Nat.{pow-succ', mul-le-mul_right}
use Rattle.osc_sv39.specs.Walk.{piece}
use Rattle.osc_paging.specs.declared.TableFrame.{TableFrame}
use Rattle.osc_paging.specs.KeptTables.{pieces_over, missing, need_below, lack, frame_of}
use Rattle.osc_paging.proofs.Needed.{piece_mono}

pub piece-le : (l n : ℕ) → piece l n ≤ n
piece-le zero n = omega arith
piece-le (suc l) n = let h = piece-le l n in omega arith

pub pieces_over-some : (l first count : ℕ) → 0 < count → pieces_over l first count ≡ piece l (first + (count - 1)) - piece l first + 1
pieces_over-some l first zero s = absurd (omega arith)
pieces_over-some l first (suc more) s = let e : suc more - 1 ≡ more = omega arith in rw e refl

pub piece-last : (l first count : ℕ) → piece l first ≤ piece l (first + (count - 1))
piece-last l first count = piece_mono l first (first + (count - 1)) (omega arith)

pub missing-step : (ts : List TableFrame) (l from count : ℕ) → 0 < count → missing ts l from count ≡ lack (frame_of ts l from) + missing ts l (from + 1) (count - 1)
unfolding missing
missing-step ts l from zero s = absurd (omega arith)
missing-step ts l from (suc count) s = let e : suc count - 1 ≡ count = omega arith in rw e refl

pub missing-none : (ts : List TableFrame) (l from : ℕ) → missing ts l from 0 ≡ 0
unfolding missing
missing-none ts l from = refl

pub need-step : (ts : List TableFrame) (l first count : ℕ) → 0 < l → need_below ts l first count ≡ missing ts (l - 1) (piece l first) (pieces_over l first count) + need_below ts (l - 1) first count
unfolding need_below
need-step ts zero first count s = absurd (omega arith)
need-step ts (suc l) first count s = let e : suc l - 1 ≡ l = omega arith in rw e refl

pub need-zero : (ts : List TableFrame) (first count : ℕ) → need_below ts 0 first count ≡ 0
unfolding need_below
need-zero ts first count = refl

pub ruleset piece_facts = (piece-le, pieces_over-some, piece-last, nat_tests)

pub ruleset need_facts = (missing-step, missing-none, need-step, need-zero, nat_tests)

-- a piece begins at or before each of its pages
pub piece-start : (l n : ℕ) → piece l n * 512 ^ l ≤ n
piece-start zero n = omega arith
piece-start (suc l) n =
    let h = piece-start l n in
    let b : piece l n / 512 * 512 ≤ piece l n = omega arith in
    let m = mul-le-mul_right (512 ^ l) b in
    rw pow-succ' (omega arith)
