-- The first address of a buffer that is not readable, found page by page.
use Rattle.std.proofs.Common.{ℕ, zero, suc, ◌≡◌, ◌+◌, ◌-◌, ◌/◌, ◌%◌, ◌^◌, ◌<◌, ◌≤◌, ◌⊎◌, inl, inr, Bool, true, false, cond, Option, Some, None, refl, arith, map}
use Rattle.std.specs.Prelude.{find}
use Rattle.std.specs.List.{range_with_len}
use Rattle.std.proofs.lemmas.Bool.{cases_lt}
use Rattle.osc_paging.specs.KeptTables.{KeptTables, mapping_of}
use Rattle.osc_calls.specs.WritePlan.{is_unreadable, first_unreadable}

-- the first of so many addresses, from an offset of the buffer on, that is not readable
abbrev pub unreadable_from : KeptTables → ℕ → ℕ → ℕ → Option ℕ
unreadable_from tables buf from count =
    find (is_unreadable tables) (map (λ offset. (buf + offset) % 2 ^ 64) (range_with_len from count))

-- numbers that fail a test may be left out at the front
none_before : (test : ℕ → Bool) (place : ℕ → ℕ) (k from to n rest : ℕ) → to ≡ from + k → rest ≡ n - k
    → ((x : ℕ) → from ≤ x → x < to → test (place x) ≡ false)
    → find test (map place (range_with_len from n)) ≡ find test (map place (range_with_len to rest))
none_before test place zero from to n rest e f fails =
    let same : from ≡ to = omega arith in
    let all : n ≡ rest = omega arith in
    rw (same, all) refl
none_before test place (suc k) from to zero rest e f fails =
    let none : rest ≡ 0 = omega arith in
    rw none refl
none_before test place (suc k) from to (suc n) rest e f fails =
    let first : test (place from) ≡ false = fails from (omega arith) (omega arith) in
    rw first (none_before test place k (from + 1) to n rest (omega arith) (omega arith) (λ x l h. fails x (omega arith) h))

first_passes : (test : ℕ → Bool) (place : ℕ → ℕ) (from n : ℕ) → 0 < n → test (place from) ≡ true
    → find test (map place (range_with_len from n)) ≡ Some (place from)
first_passes test place from zero l passes = absurd (omega arith)
first_passes test place from (suc n) l passes = rw passes refl

not_found : (b : Bool) (x : ℕ) (rest : Option ℕ) → cond b (Some x) rest ≡ None → (b ≡ false) × (rest ≡ None)
not_found true x rest e = absurd (cc)
not_found false x rest e = (refl, e)

-- where none is found, none passes
none_passes : (test : ℕ → Bool) (place : ℕ → ℕ) (from n x : ℕ) → find test (map place (range_with_len from n)) ≡ None
    → from ≤ x → x < from + n → test (place x) ≡ false
none_passes test place from zero x none l h = absurd (omega arith)
none_passes test place from (suc n) x none l h =
    let here = not_found (test (place from)) (place from) (find test (map place (range_with_len (from + 1) n))) none in
    later (cases_lt from x) here.0 (λ more. none_passes test place (from + 1) n x here.1 (omega arith) (omega arith))
  where
    later : (from < x) ⊎ (x ≤ from) → test (place from) ≡ false → (from < x → test (place x) ≡ false) → test (place x) ≡ false
    later (inl more) first rest = rest more
    later (inr same) first rest = let e : x ≡ from = omega arith in rw e first

-- ---- pages
-- the addresses of one page are readable or not together
same_page : (buf from x at : ℕ) → at ≡ (buf + from) % 2 ^ 64 → from ≤ x → x < from + (4096 - at % 4096)
    → ((buf + x) % 2 ^ 64) / 4096 ≡ at / 4096
same_page buf from x at e l h = omega arith

pub page_read : (t : KeptTables) (buf from count : ℕ) → is_unreadable t ((buf + from) % 2 ^ 64) ≡ false
    → let at = (buf + from) % 2 ^ 64 in
    unreadable_from t buf from (count - from)
    ≡ unreadable_from t buf (from + (4096 - at % 4096)) (count - (from + (4096 - at % 4096)))
page_read t buf from count readable =
    let at = (buf + from) % 2 ^ 64 in
    none_before (is_unreadable t) (λ offset. (buf + offset) % 2 ^ 64) (4096 - at % 4096) from
    (from + (4096 - at % 4096)) (count - from) (count - (from + (4096 - at % 4096))) refl (omega arith)
    (λ x l h. rw (same_page buf from x at refl l h) readable)

pub page_not_read : (t : KeptTables) (buf from count : ℕ) → from < count → is_unreadable t ((buf + from) % 2 ^ 64) ≡ true
    → unreadable_from t buf from (count - from) ≡ Some ((buf + from) % 2 ^ 64)
page_not_read t buf from count l unreadable =
    first_passes (is_unreadable t) (λ offset. (buf + offset) % 2 ^ 64) from (count - from) (omega arith) unreadable

-- ---- the last page of all addresses
last_read : (t : KeptTables) (buf count x : ℕ) → mapping_of t (2 ^ 52 - 1) ≡ None → first_unreadable t buf count ≡ None
    → x < count → ((buf + x) % 2 ^ 64) / 4096 ≡ 2 ^ 52 - 1 → ⊥
last_read t buf count x last all l e =
    let readable : is_unreadable t ((buf + x) % 2 ^ 64) ≡ false =
    none_passes (is_unreadable t) (λ offset. (buf + offset) % 2 ^ 64) 0 count x all (omega arith) (omega arith) in
    let other : is_unreadable t ((buf + x) % 2 ^ 64) ≡ true = rw (e, last) refl in
    cc

-- a buffer that can be read ends below it, where it is not mapped
pub ends_below : (t : KeptTables) (buf count : ℕ) → mapping_of t (2 ^ 52 - 1) ≡ None → first_unreadable t buf count ≡ None
    → buf < 2 ^ 64 → count ≤ 4194304 → buf + count < 2 ^ 64
ends_below t buf count last all l few = pick (cases_lt (buf + count) (2 ^ 64)) (cases_lt buf (2 ^ 64 - 4096))
  where
    pick : (buf + count < 2 ^ 64) ⊎ (2 ^ 64 ≤ buf + count) → (buf < 2 ^ 64 - 4096) ⊎ (2 ^ 64 - 4096 ≤ buf) → buf + count < 2 ^ 64
    pick (inl below) _ = below
    pick (inr past) (inl before) =
        absurd (last_read t buf count (2 ^ 64 - 4096 - buf) last all (omega arith) (omega arith))
    pick (inr past) (inr within) = absurd (last_read t buf count 0 last all (omega arith) (omega arith))
