-- A leaf table is linked where its pages and those under its neighbour need no more than the latter.
use Rattle.std.proofs.Common.{ℕ, zero, suc, ◌+◌, ◌-◌, ◌*◌, ◌%◌, ◌^◌, ◌≡◌, ◌<◌, List, Option, Some, None, arith, refl, ap, ◌∙◌}
use Rattle.std.specs.Prelude.{is_some, nat_eq}
use Rattle.std.proofs.lemmas.Bool.Decides.{nat_tests}
use Rattle.osc_sv39.specs.Walk.{piece, number_of}
use Rattle.osc_paging.specs.declared.TableFrame.{TableFrame}
use Rattle.osc_paging.specs.KeptTables.{KeptTables, levels_of, frame_of, lack, missing, need, need_below, pieces_over}
use Rattle.osc_tables.specs.Inside.{IsTop}
use Rattle.osc_shadow.proofs.LowPages.{at_top, is_low}

missing_one : (ts : List TableFrame) (l from : ℕ) → missing ts l from 1 ≡ lack (frame_of ts l from)
unfolding missing
missing_one ts l from = omega arith

missing_two : (ts : List TableFrame) (l from : ℕ) → missing ts l from 2 ≡ lack (frame_of ts l from) + lack (frame_of ts l (from + 1))
unfolding missing
missing_two ts l from = omega arith

need_step : (ts : List TableFrame) (l first count n : ℕ) → pieces_over (suc l) first count ≡ n → need_below ts (suc l) first count ≡ missing ts l (piece (suc l) first) n + need_below ts l first count
unfolding need_below
need_step ts l first count n e = rw e refl

need_none : (ts : List TableFrame) (first count : ℕ) → need_below ts 0 first count ≡ 0
unfolding need_below
need_none ts first count = refl

over : (l first more : ℕ) → pieces_over l first (suc more) ≡ piece l (first + more) - piece l first + 1
over l first more = refl

-- the two leaf tables, and the neighbour alone
low_need : (ts : List TableFrame) (even odd : ℕ) (b : ℕ) → even % 2 ≡ 0 → b < 2
    → need_below ts 1 (even * 512) 1024 ≡ need_below ts 1 ((even + b) * 512) 512 + lack (frame_of ts 0 (even + (1 - b)))
low_need ts even odd b e l = go b l
  where
    two : need_below ts 1 (even * 512) 1024 ≡ lack (frame_of ts 0 even) + lack (frame_of ts 0 (even + 1))
    two =
        let n : pieces_over 1 (even * 512) 1024 ≡ 2 = over 1 (even * 512) 1023 ∙ omega arith in
        let s = need_step ts 0 (even * 512) 1024 2 n in
        let p : piece 1 (even * 512) ≡ even = omega arith in
        let m : missing ts 0 (piece 1 (even * 512)) 2 ≡ lack (frame_of ts 0 even) + lack (frame_of ts 0 (even + 1)) = rw p (missing_two ts 0 even) in
        let z = need_none ts (even * 512) 1024 in
        omega arith

    one : (k : ℕ) → need_below ts 1 (k * 512) 512 ≡ lack (frame_of ts 0 k)
    one k =
        let n : pieces_over 1 (k * 512) 512 ≡ 1 = over 1 (k * 512) 511 ∙ omega arith in
        let s = need_step ts 0 (k * 512) 512 1 n in
        let p : piece 1 (k * 512) ≡ k = omega arith in
        let m : missing ts 0 (piece 1 (k * 512)) 1 ≡ lack (frame_of ts 0 k) = rw p (missing_one ts 0 k) in
        let z = need_none ts (k * 512) 512 in
        omega arith

    go : (b : ℕ) → b < 2 → need_below ts 1 (even * 512) 1024 ≡ need_below ts 1 ((even + b) * 512) 512 + lack (frame_of ts 0 (even + (1 - b)))
    go zero l =
        let a = one (even + 0) in
        let z : even + 0 ≡ even = omega arith in
        let a1 : lack (frame_of ts 0 (even + 0)) ≡ lack (frame_of ts 0 even) = ap (λ k. lack (frame_of ts 0 k)) z in
        let t = two in
        omega arith
    go (suc zero) l =
        let a = one (even + 1) in
        let z : even + (1 - 1) ≡ even = omega arith in
        let a1 : lack (frame_of ts 0 (even + (1 - 1))) ≡ lack (frame_of ts 0 even) = ap (λ k. lack (frame_of ts 0 k)) z in
        let t = two in
        omega arith
    go (suc (suc b)) l = absurd (omega arith)

-- above the leaves both have the same tables
high_need : (ts : List TableFrame) (l a b d : ℕ) → piece (suc l) a ≡ piece (suc l) b → pieces_over (suc l) a 1024 ≡ 1 → pieces_over (suc l) b 512 ≡ 1
    → need_below ts l a 1024 ≡ need_below ts l b 512 + d → need_below ts (suc l) a 1024 ≡ need_below ts (suc l) b 512 + d
high_need ts l a b d same one_a one_b h =
    let x = need_step ts l a 1024 1 one_a in
    let y = need_step ts l b 512 1 one_b in
    let z : missing ts l (piece (suc l) a) 1 ≡ missing ts l (piece (suc l) b) 1 = ap (λ p. missing ts l p 1) same in
    omega arith

pair_need : (ts : List TableFrame) (top even b : ℕ) → IsTop top → even % 2 ≡ 0 → b < 2
    → need_below ts top (even * 512) 1024 ≡ need_below ts top ((even + b) * 512) 512 + lack (frame_of ts 0 (even + (1 - b)))
pair_need ts top even b range e l = at_top (λ t. need_below ts t (even * 512) 1024 ≡ need_below ts t ((even + b) * 512) 512 + lack (frame_of ts 0 (even + (1 - b)))) top range second third
  where
    second : need_below ts 2 (even * 512) 1024 ≡ need_below ts 2 ((even + b) * 512) 512 + lack (frame_of ts 0 (even + (1 - b)))
    second = high_need ts 1 (even * 512) ((even + b) * 512) (lack (frame_of ts 0 (even + (1 - b)))) (omega arith)
        (over 2 (even * 512) 1023 ∙ omega arith) (over 2 ((even + b) * 512) 511 ∙ omega arith) (low_need ts even even b e l)

    third : need_below ts 3 (even * 512) 1024 ≡ need_below ts 3 ((even + b) * 512) 512 + lack (frame_of ts 0 (even + (1 - b)))
    third = high_need ts 2 (even * 512) ((even + b) * 512) (lack (frame_of ts 0 (even + (1 - b)))) (omega arith)
        (over 3 (even * 512) 1023 ∙ omega arith) (over 3 ((even + b) * 512) 511 ∙ omega arith) second

lack_says : (x : Option ℕ) (n m : ℕ) → n ≡ m + lack x → nat_eq n m ≡ is_some x
lack_says None n m e = grind (arith, nat_tests, e)
lack_says (Some f) n m e = grind (arith, nat_tests, e)

pub linked_says : (t : KeptTables) (leaf even neighbour n m : ℕ) → IsTop t.top → leaf < 2 ^ 17 → even ≡ leaf - leaf % 2 → neighbour ≡ even + 1 - leaf % 2
    → n ≡ need t (number_of (levels_of t) (even * 512)) 1024 → m ≡ need t (number_of (levels_of t) (neighbour * 512)) 512
    → nat_eq n m ≡ is_some (frame_of t.tables 0 leaf)
linked_says t leaf even neighbour n m top low e f needs_two needs_one =
    let a = is_low t.top (even * 512) top (omega arith) in
    let b = is_low t.top (neighbour * 512) top (omega arith) in
    let other : even + (1 - leaf % 2) ≡ neighbour = omega arith in
    let this : even + (1 - (1 - leaf % 2)) ≡ leaf = omega arith in
    let pair = pair_need t.tables t.top even (1 - leaf % 2) top (omega arith) (omega arith) in
    let two : n ≡ need t (even * 512) 1024 = needs_two ∙ ap (λ k. need t k 1024) a.1 in
    let one : m ≡ need t (neighbour * 512) 512 = needs_one ∙ ap (λ k. need t k 512) b.1 in
    let one_is : need t ((even + (1 - leaf % 2)) * 512) 512 ≡ need t (neighbour * 512) 512 = ap (λ k. need t (k * 512) 512) other in
    let lack_is : lack (frame_of t.tables 0 (even + (1 - (1 - leaf % 2)))) ≡ lack (frame_of t.tables 0 leaf) = ap (λ k. lack (frame_of t.tables 0 k)) this in
    lack_says (frame_of t.tables 0 leaf) n m (omega arith)
