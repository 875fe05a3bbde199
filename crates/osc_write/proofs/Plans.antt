-- What the loops that push jobs keep, and the plan as the kernel has it.
use Rattle.std.proofs.Common.{ℕ, zero, suc, ◌≡◌, ◌+◌, ◌-◌, ◌*◌, ◌/◌, ◌%◌, ◌<◌, ◌≤◌, ◌⊎◌, inl, inr, Bool, true, false, length-append, Option, Some, None, List, [], ◌∷◌, ◌++◌, length, refl, ap, ◌∙◌, sym, arith}
use Rattle.std.specs.Prelude.{min, max, nat_lt, if◌then◌else◌}
use Rattle.std.specs.List.{range_with_len, flat_map}
use Rattle.std.proofs.lemmas.Bool.{cases_lt}
use Rattle.std.proofs.lemmas.List.{append-nil, append_assoc}
use Rattle.osc_word.specs.declared.job_list.Job.{Job}
use Rattle.osc_paging.specs.KeptTables.{KeptTables}
use Rattle.osc_calls.specs.WritePlan.{first_unreadable, out_job, word_job, out_jobs, write_by, write_count, write_plan}
use Rattle.osc_calls.specs.Kernel.{KernelState, Process}
use Rattle.osc_write.specs.Writing.{writes, writing, writing_by}
use Rattle.osc_write.proofs.Pieces.{piece_job, next_word, cut_jobs, empty_buffer}

-- one word more
pub word_pushed : (t : KeptTables) (total pushed new : List Job) (at left step : ℕ) → 0 < left → step ≡ min left (8 - at % 8)
    → pushed ++ out_jobs t at left ≡ total → new ≡ pushed ++ piece_job t at step ∷ []
    → new ++ out_jobs t (at + step) (left - step) ≡ total
word_pushed t total pushed new at left step l s h n =
    rw (n, s)
    (append_assoc pushed (piece_job t at (min left (8 - at % 8)) ∷ []) (out_jobs t (at + min left (8 - at % 8)) (left - min left (8 - at % 8)))
    ∙ (ap (λ xs. pushed ++ xs) (sym (next_word t at left l)) ∙ h))

-- the part of a buffer in its first page, and the rest
page_cut : (t : KeptTables) (at left step : ℕ) → step ≡ min left (4096 - at % 4096)
    → out_jobs t at left ≡ out_jobs t at step ++ out_jobs t (at + step) (left - step)
page_cut t at left step s = pick (cases_lt step left)
  where
    pick : (step < left) ⊎ (left ≤ step) → out_jobs t at left ≡ out_jobs t at step ++ out_jobs t (at + step) (left - step)
    pick (inl more) =
        let sum : left ≡ step + (left - step) = omega arith in
        ap (out_jobs t at) sum ∙ cut_jobs t at step (left - step) (omega arith)
    pick (inr all) =
        let whole : step ≡ left = omega arith in
        let none : left - left ≡ 0 = omega arith in
        rw (whole, none, empty_buffer t (at + left), append-nil) refl

-- one page more
pub page_pushed : (t : KeptTables) (total pushed new : List Job) (at left step : ℕ) → step ≡ min left (4096 - at % 4096)
    → pushed ++ out_jobs t at left ≡ total → new ≡ pushed ++ out_jobs t at step
    → new ++ out_jobs t (at + step) (left - step) ≡ total
page_pushed t total pushed new at left step s h n =
    rw n
    (append_assoc pushed (out_jobs t at step) (out_jobs t (at + step) (left - step))
    ∙ (ap (λ xs. pushed ++ xs) (sym (page_cut t at left step s)) ∙ h))

-- all are pushed
pub all_pushed : (t : KeptTables) (total pushed : List Job) (at left : ℕ) → left ≡ 0 → pushed ++ out_jobs t at left ≡ total → pushed ≡ total
all_pushed t total pushed at left z h =
    sym (append-nil pushed) ∙ (ap (λ xs. pushed ++ xs) (sym (empty_buffer t at)) ∙ (ap (λ n. pushed ++ out_jobs t at n) (sym z) ∙ h))

written_by : (found : Option ℕ) (t : KeptTables) (buf count : ℕ) (kernel : KernelState)
    → write_by found t buf count kernel ≡ writes (writing_by found t buf count kernel.jobs) kernel
written_by (Some address) t buf count kernel = refl
written_by None t buf count kernel = refl

-- ---- how many there are
same_lengths : (a b c d : List Job) → a ++ b ≡ c ++ d → length a + length b ≡ length c + length d
same_lengths a b c d e = sym (length-append a b) ∙ (ap length e ∙ length-append c d)

-- there is room for the next word
pub word_fits : (t : KeptTables) (pushed old total : List Job) (at left : ℕ) → 0 < left
    → pushed ++ out_jobs t at left ≡ old ++ total → length pushed + 1 ≤ length old + length total
word_fits t pushed old total at left l e =
    let one : length (out_jobs t at left) ≡ suc (length (out_jobs t (at + min left (8 - at % 8)) (left - min left (8 - at % 8)))) = ap length (next_word t at left l) in
    omega (arith, same_lengths pushed (out_jobs t at left) old total e, one)

-- and for the next page
pub page_fits : (t : KeptTables) (pushed old total : List Job) (at left step : ℕ) → step ≡ min left (4096 - at % 4096)
    → pushed ++ out_jobs t at left ≡ old ++ total → length pushed + length (out_jobs t at step) ≤ length old + length total
page_fits t pushed old total at left step s e =
    let cut = ap length (page_cut t at left step s) ∙ length-append (out_jobs t at step) (out_jobs t (at + step) (left - step)) in
    omega (arith, same_lengths pushed (out_jobs t at left) old total e, cut)

one_at_most : (t : KeptTables) (from to : ℕ) → length (out_job t from to) ≤ 1
one_at_most t from to = pick (nat_lt from to)
  where
    pick : (b : Bool) → length (if b then piece_job t from (to - from) ∷ [] else []) ≤ 1
    pick true = omega arith
    pick false = omega arith

few_words : (t : KeptTables) (at end from n : ℕ) → length (flat_map (word_job t at end) (range_with_len from n)) ≤ n
few_words t at end from zero = omega arith
few_words t at end from (suc n) =
    rw length-append
    (omega (arith, one_at_most t (max at (8 * from)) (min end (8 * from + 8)), few_words t at end (from + 1) n))

pub few_jobs : (t : KeptTables) (buf count : ℕ) → count ≤ 4194304 → length (out_jobs t buf count) ≤ 524289
few_jobs t buf count l =
    omega (arith, few_words t buf (buf + count) (buf / 8) ((buf % 8 + count + 7) / 8))

-- ---- the kernel
-- the plan of the kernel is that of the output's length
pub kernel_writes : (p : Process) (buf len : ℕ) (kernel : KernelState)
    → write_plan p buf len kernel ≡ writes (writing p.space.tables (length kernel.output) buf len kernel.jobs) kernel
kernel_writes p buf len kernel =
    let count = write_count kernel.output len in
    written_by (first_unreadable p.space.tables buf count) p.space.tables buf count kernel
