-- Words after a store, after a piece was zeroed, and after a list of jobs.
use Rattle.std.proofs.Common.{ℕ, zero, suc, ◌≡◌, ◌<◌, ◌≤◌, ◌==◌, ◌&&◌, ◌+◌, ◌*◌, cond, List, [], ◌∷◌, ◌++◌, Option, Some, None, arith, refl, ltb, ◌∙◌, length, set, get_or, slice_get}
use Rattle.std.proofs.lemmas.Bool.Decides.{nat_tests}
use Rattle.std.proofs.lemmas.List.{length-set}
use Rattle.osc_word.specs.declared.job_list.Job.{Job}
use Rattle.osc_sv39.specs.Walk.{word_at, put_word}
use Rattle.osc_paging.specs.JobWords.{zeroed, words_done, words_after}

-- what stands at a place after a write of y there
abbrev pub written : {X : Type 0} → Option X → X → Option X
written None y = None
written (Some x) y = Some y

pub slice_get-set : {X : Type 0} (xs : List X) (i j : ℕ) (y : X) → slice_get (set xs i y) j ≡ cond (j == i) (written (slice_get xs j) y) (slice_get xs j)
slice_get-set [] i j y = grind (arith, nat_tests)
slice_get-set (x ∷ xs) zero zero y = refl
slice_get-set (x ∷ xs) zero (suc j) y = grind (arith, nat_tests)
slice_get-set (x ∷ xs) (suc i) zero y = grind (arith, nat_tests)
slice_get-set (x ∷ xs) (suc i) (suc j) y = grind (arith, nat_tests, slice_get-set xs i j y)

pub get_or-set : (xs : List ℕ) (i j y : ℕ) → get_or (set xs i y) j 0 ≡ cond (j == i) (cond (ltb i (length xs)) y (get_or xs j 0)) (get_or xs j 0)
get_or-set [] i j y = grind (arith, nat_tests)
get_or-set (x ∷ xs) zero zero y = grind (arith, nat_tests)
get_or-set (x ∷ xs) zero (suc j) y = grind (arith, nat_tests)
get_or-set (x ∷ xs) (suc i) zero y = grind (arith, nat_tests)
get_or-set (x ∷ xs) (suc i) (suc j) y = grind (arith, nat_tests, get_or-set xs i j y)

get_or_past : (xs : List ℕ) (j : ℕ) → length xs ≤ j → get_or xs j 0 ≡ 0
get_or_past [] j l = refl
get_or_past (x ∷ xs) zero l = absurd (omega arith)
get_or_past (x ∷ xs) (suc j) l = get_or_past xs j (omega arith)

pub length-zeroed : (count from : ℕ) (words : List ℕ) → length (zeroed from count words) ≡ length words
unfolding zeroed
length-zeroed zero from words = refl
length-zeroed (suc count) from words = length-zeroed count (from + 1) _ ∙ length-set words from 0

pub zeroed_at : (count from : ℕ) (words : List ℕ) (j : ℕ) → get_or (zeroed from count words) j 0 ≡ cond (ltb j from) (get_or words j 0) (cond (ltb j (from + count)) 0 (get_or words j 0))
unfolding zeroed
zeroed_at zero from words j = grind (arith, nat_tests)
zeroed_at (suc count) from words j = grind (arith, nat_tests, zeroed_at count (from + 1) (set words from 0) j, get_or-set words from j 0, get_or_past words j)

-- a word after a store at another place, and after a frame was zeroed
pub put_word_at : (words : List ℕ) (g j v f i count : ℕ) → length words ≡ count * 512 → g < count → j < 512 → i < 512 → word_at (put_word words g j v) f i ≡ cond ((f == g) && (i == j)) v (word_at words f i)
put_word_at words g j v f i count e l m k = grind (arith, nat_tests, get_or-set words (g * 512 + j) (f * 512 + i) v)

pub zeroed_word_at : (words : List ℕ) (g f i : ℕ) → i < 512 → word_at (zeroed (g * 512 + 0) 512 words) f i ≡ cond (f == g) 0 (word_at words f i)
zeroed_word_at words g f i k = grind (arith, nat_tests, zeroed_at 512 (g * 512 + 0) words (f * 512 + i))

pub words_after-append : (entries : ℕ → ℕ → ℕ) (js ks : List Job) (words : List ℕ) → words_after entries (js ++ ks) words ≡ words_after entries ks (words_after entries js words)
words_after-append entries [] ks words = refl
words_after-append entries (job ∷ js) ks words = words_after-append entries js ks (words_done entries job words)
