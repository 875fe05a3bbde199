-- The words of a line, one byte at a time.
use Rattle.std.proofs.Common.{◌≡◌, ℕ, suc, ◌+◌, ◌<◌, Bool, true, false, ◌&&◌, List, length, get_or, drop, refl, sym, ap, ◌∙◌, add-one}
use Rattle.std.proofs.Math.Seq.{drop-cons}
use Rattle.std.specs.List.{list_all}

more : (test : ℕ → Bool) (at : ℕ) (text : List ℕ) → at < length text
    → list_all test (drop at text) ≡ (test (get_or text at 0) && list_all test (drop (at + 1) text))
more test at text within =
    ap (list_all test) (drop-cons text at 0 within)
    ∙ ap (λ k. test (get_or text at 0) && list_all test (drop k text)) (sym (add-one at))

pub all_passed : (test : ℕ → Bool) (at : ℕ) (text : List ℕ) → at < length text → test (get_or text at 0) ≡ true
    → list_all test (drop (at + 1) text) ≡ list_all test (drop at text)
all_passed test at text within passes = sym (more test at text within ∙ rw passes refl)

pub all_failed : (test : ℕ → Bool) (at : ℕ) (text : List ℕ) → at < length text → test (get_or text at 0) ≡ false
    → list_all test (drop at text) ≡ false
all_failed test at text within fails = more test at text within ∙ rw fails refl
