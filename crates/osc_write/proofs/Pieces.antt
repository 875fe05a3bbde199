-- The jobs of a buffer, one word after another.
use Rattle.std.proofs.Common.{ℕ, zero, suc, ◌≡◌, ◌+◌, ◌-◌, ◌*◌, ◌/◌, ◌%◌, ◌<◌, ◌≤◌, ◌⊎◌, inl, inr, true, [], ◌∷◌, ◌++◌, refl, ap, ◌∙◌, arith}
use Rattle.std.specs.Prelude.{nat_lt, unwrap_or, min, max}
use Rattle.std.specs.List.{range_with_len, flat_map}
use Rattle.std.proofs.lemmas.Bool.{cases_lt}
use Rattle.std.proofs.lemmas.Bool.Decides.{nat_tests}
use Rattle.osc_word.specs.declared.job_list.Job.{Job}
use Rattle.osc_word.specs.declared.job_list.Job.TheVariants.{ToOut}
use Rattle.osc_paging.specs.KeptTables.{KeptTables}
use Rattle.osc_calls.specs.WritePlan.{load_frame, out_job, word_job, out_jobs}

-- the job of so many bytes of one word
abbrev pub piece_job : KeptTables → ℕ → ℕ → Job
piece_job t at count = ToOut (record { frame = unwrap_or (load_frame t at) 0; index = at % 4096 / 8 }) (at % 8) count

no_job : (t : KeptTables) (from to : ℕ) → to ≤ from → out_job t from to ≡ []
no_job t from to l = grind (arith, nat_tests)

one_job : (t : KeptTables) (from to count : ℕ) → 0 < count → to ≡ from + count → out_job t from to ≡ piece_job t from count ∷ []
one_job t from to count l e =
    let test : nat_lt from to ≡ true = grind (arith, nat_tests) in
    let same : to - from ≡ count = omega arith in
    rw (test, same) refl

no_bytes : (t : KeptTables) (at from n : ℕ) → flat_map (word_job t at at) (range_with_len from n) ≡ []
no_bytes t at from zero = refl
no_bytes t at from (suc n) =
    rw (no_job t (max at (8 * from)) (min at (8 * from + 8)) (omega arith)) (no_bytes t at (from + 1) n)

pub empty_buffer : (t : KeptTables) (at : ℕ) → out_jobs t at 0 ≡ []
empty_buffer t at =
    let e : at + 0 ≡ at = omega arith in
    rw e (no_bytes t at (at / 8) ((at % 8 + 0 + 7) / 8))

-- the words past the first one are those of the rest
same_words : (t : KeptTables) (at next end from n : ℕ) → at ≤ 8 * from → next ≤ 8 * from
    → flat_map (word_job t at end) (range_with_len from n) ≡ flat_map (word_job t next end) (range_with_len from n)
same_words t at next end from zero l h = refl
same_words t at next end from (suc n) l h =
    let a : max at (8 * from) ≡ 8 * from = omega arith in
    let b : max next (8 * from) ≡ 8 * from = omega arith in
    rw (a, b) (ap (λ xs. out_job t (8 * from) (min end (8 * from + 8)) ++ xs)
    (same_words t at next end (from + 1) n (omega arith) (omega arith)))

-- the bytes of one word
last_word : (t : KeptTables) (at left : ℕ) → 0 < left → left ≤ 8 - at % 8 → out_jobs t at left ≡ piece_job t at left ∷ []
last_word t at left l h =
    let n : (at % 8 + left + 7) / 8 ≡ 1 = omega arith in
    let a : max at (8 * (at / 8)) ≡ at = omega arith in
    let b : min (at + left) (8 * (at / 8) + 8) ≡ at + left = omega arith in
    rw (n, a, b) (ap (λ xs. xs ++ []) (one_job t at (at + left) left l refl))

-- and more
full_word : (t : KeptTables) (at left step : ℕ) → step ≡ 8 - at % 8 → step < left
    → out_jobs t at left ≡ piece_job t at step ∷ out_jobs t (at + step) (left - step)
full_word t at left step s l =
    let m = (left - step + 7) / 8 in
    let n : (at % 8 + left + 7) / 8 ≡ suc m = omega arith in
    let a : max at (8 * (at / 8)) ≡ at = omega arith in
    let b : min (at + left) (8 * (at / 8) + 8) ≡ at + step = omega arith in
    let next : (at + step) / 8 ≡ at / 8 + 1 = omega arith in
    let count : ((at + step) % 8 + (left - step) + 7) / 8 ≡ m = omega arith in
    let end : at + step + (left - step) ≡ at + left = omega arith in
    rw (n, a, b, next, count, end, one_job t at (at + step) step (omega arith) refl)
    (ap (λ xs. piece_job t at step ∷ xs) (same_words t at (at + step) (at + left) (at / 8 + 1) m (omega arith) (omega arith)))

pub next_word : (t : KeptTables) (at left : ℕ) → 0 < left
    → let step = min left (8 - at % 8) in
    out_jobs t at left ≡ piece_job t at step ∷ out_jobs t (at + step) (left - step)
next_word t at left l = pick (cases_lt (8 - at % 8) left)
  where
    step : ℕ
    step = min left (8 - at % 8)

    pick : (8 - at % 8 < left) ⊎ (left ≤ 8 - at % 8) → out_jobs t at left ≡ piece_job t at (min left (8 - at % 8)) ∷ out_jobs t (at + min left (8 - at % 8)) (left - min left (8 - at % 8))
    pick (inl more) =
        let s : min left (8 - at % 8) ≡ 8 - at % 8 = omega arith in
        rw s (full_word t at left (8 - at % 8) refl more)
    pick (inr all) =
        let s : min left (8 - at % 8) ≡ left = omega arith in
        let z : left - left ≡ 0 = omega arith in
        rw (s, z, empty_buffer t (at + left)) (last_word t at left l all)

-- ---- a buffer that ends with a word, and what follows
cut : (t : KeptTables) (fuel a b at : ℕ) → a ≤ fuel → (at + a) % 8 ≡ 0
    → out_jobs t at (a + b) ≡ out_jobs t at a ++ out_jobs t (at + a) b
cut t fuel zero b at l e =
    let z : 0 + b ≡ b = omega arith in
    let y : at + 0 ≡ at = omega arith in
    rw (z, empty_buffer t at) (rw y refl)
cut t zero (suc a) b at l e = absurd (omega arith)
cut t (suc fuel) (suc a) b at l e =
    let step = min (suc a) (8 - at % 8) in
    let same : min (suc a + b) (8 - at % 8) ≡ step = omega arith in
    let here = next_word t at (suc a) (omega arith) in
    let both = next_word t at (suc a + b) (omega arith) in
    let rest : suc a + b - step ≡ (suc a - step) + b = omega arith in
    let end : at + step + (suc a - step) ≡ at + suc a = omega arith in
    let later = cut t fuel (suc a - step) b (at + step) (omega arith) (omega arith) in
    rw here (rw same at both ∙ ap (λ xs. piece_job t at step ∷ xs) (ap (out_jobs t (at + step)) rest ∙ (later ∙ ap (λ x. out_jobs t (at + step) (suc a - step) ++ out_jobs t x b) end)))

pub cut_jobs : (t : KeptTables) (at a b : ℕ) → (at + a) % 8 ≡ 0
    → out_jobs t at (a + b) ≡ out_jobs t at a ++ out_jobs t (at + a) b
cut_jobs t at a b e = cut t a a b at (omega arith) e
