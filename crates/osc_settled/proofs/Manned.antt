-- Who still has a hart where a record changes.
use Rattle.std.proofs.Common.{ℕ, suc, ◌+◌, ◌≡◌, ◌≢◌, ◌<◌, ◌≤◌, ◌==◌, nat_le, Bool, true, false, cond, Option, Some, option_map, List, [], ◌∷◌, map, slice_get, slice_set, arith, refl, ap, sym, ◌∙◌}
use Rattle.std.specs.List.{count_by}
use Rattle.std.proofs.lemmas.Bool.Decides.{nat_tests}
use Rattle.std.proofs.lemmas.Option.{slice_get-map}
use Rattle.std.proofs.lemmas.List.Sums.{sum_by-cons}
use Rattle.osc_calls.specs.declared.HartRecord.{HartRecord}
use Rattle.osc_calls.specs.declared.HartRecord.TheVariants.{Idle, Runs, Stopped}
use Rattle.osc_calls.specs.Kernel.{Process, runs, is_last}
use Rattle.osc_calls.specs.ProcessPlans.{record_stopped, records_ended}
use Rattle.osc_settled.specs.Records.{IsManned, AllManned}
use Rattle.osc_settled.proofs.Lists.{get-put_same, get-put_other, sum-put, some_same}
use Rattle.osc_settled.proofs.Commits.{living_put}

-- another record changes than the one that runs it
pub manned_put : (records : List HartRecord) (hart q : ℕ) (old new : HartRecord) → slice_get records hart ≡ Some old → ((t : Option ℕ) → old ≢ Runs q t)
    → IsManned records q → IsManned (slice_set records hart new) q
manned_put records hart q old new e n m = record { hart = m.hart; thread = m.thread; at = get-put_other records hart m.hart new other ∙ m.at }
  where
    other : hart ≢ m.hart
    other same = n m.thread (some_same old (Runs q m.thread) (sym e ∙ ap (slice_get records) same ∙ m.at))

pub manned_new : (records : List HartRecord) (hart pid : ℕ) (old : HartRecord) (thread : Option ℕ) → slice_get records hart ≡ Some old → IsManned (slice_set records hart (Runs pid thread)) pid
manned_new records hart pid old thread e = record { hart = hart; thread = thread; at = get-put_same records hart old (Runs pid thread) e }

pub runs_other : (pid q : ℕ) (thread t : Option ℕ) → pid ≢ q → Runs pid thread ≢ Runs q t
runs_other pid q thread t n e = n (let same : pid ≡ q = cc in same)

stays_running : (pid q : ℕ) (t : Option ℕ) → pid ≢ q → record_stopped pid (Runs q t) ≡ Runs q t
stays_running pid q t n = go (q == pid) refl
  where
    go : (b : Bool) → (q == pid) ≡ b → cond b (Stopped pid) (Runs q t) ≡ Runs q t
    go true d = absurd (n (let same : pid ≡ q = grind (arith, nat_tests, d) in same))
    go false d = refl

-- a process ends, and this one does not
pub manned_ended : (records : List HartRecord) (hart pid q : ℕ) (thread : Option ℕ) → slice_get records hart ≡ Some (Runs pid thread) → pid ≢ q → IsManned records q → IsManned (records_ended hart pid records) q
manned_ended records hart pid q thread e n m = record {
  hart = m.hart;
  thread = m.thread;
  at = get-put_other (map (record_stopped pid) records) hart m.hart Idle other ∙ slice_get-map (record_stopped pid) records m.hart ∙ ap (option_map (record_stopped pid)) m.at
      ∙ ap (λ (r : HartRecord). Some r) (stays_running pid q m.thread n);
}
  where
    other : hart ≢ m.hart
    other same = runs_other pid q thread m.thread n (some_same (Runs pid thread) (Runs q m.thread) (sym e ∙ ap (slice_get records) same ∙ m.at))

-- ---- a thread that is not its process's last
abbrev count_one : ℕ → HartRecord → ℕ
count_one pid r = cond (runs pid r) 1 0

found : (pid : ℕ) (records : List HartRecord) → 0 < count_by (runs pid) records → IsManned records pid
found pid [] l = absurd (omega arith)
found pid (Idle ∷ records) l = let a = sum_by-cons (λ (r : HartRecord). cond (runs pid r) 1 0) Idle records in let m = found pid records (omega (arith, a, l)) in record { hart = suc m.hart; thread = m.thread; at = m.at }
found pid (Stopped other ∷ records) l = let a = sum_by-cons (λ (r : HartRecord). cond (runs pid r) 1 0) (Stopped other) records in let m = found pid records (omega (arith, a, l)) in record { hart = suc m.hart; thread = m.thread; at = m.at }
found pid (Runs other thread ∷ records) l = go (other == pid) refl (found pid records)
  where
    go : (b : Bool) → (other == pid) ≡ b → (0 < count_by (runs pid) records → IsManned records pid) → IsManned (Runs other thread ∷ records) pid
    go true d later = record { hart = 0; thread = thread; at = (let same : other ≡ pid = grind (arith, nat_tests, d) in ap (λ k. Some (Runs k thread)) same) }
    go false d later =
        let a = sum_by-cons (λ (r : HartRecord). cond (runs pid r) 1 0) (Runs other thread) records in
        let z : count_one pid (Runs other thread) ≡ 0 = ap (λ (b : Bool). cond {A = ℕ} b 1 0) d in
        let m = later (omega (arith, a, l, z)) in record { hart = suc m.hart; thread = m.thread; at = m.at }

pub manned_rest : (records : List HartRecord) (hart pid : ℕ) (thread : Option ℕ) → is_last records pid ≡ false → slice_get records hart ≡ Some (Runs pid thread) → IsManned (slice_set records hart Idle) pid
manned_rest records hart pid thread last e =
    let sum : count_by (runs pid) (slice_set records hart Idle) + cond (runs pid (Runs pid thread)) 1 0 ≡ count_by (runs pid) records + cond (runs pid Idle) 1 0 =
    sum-put (λ (r : HartRecord). cond (runs pid r) 1 0) records hart (Runs pid thread) Idle e in
    let few = le_one (count_by (runs pid) records) last in
    let one : cond (runs pid (Runs pid thread)) 1 0 ≤ 1 = small (runs pid (Runs pid thread)) in
    found pid (slice_set records hart Idle) (omega (arith, sum, few, one))
  where
    le_one : (n : ℕ) → nat_le n 1 ≡ false → 1 < n
    le_one n h = grind (arith, nat_tests, h)

    small : (b : Bool) → cond b 1 0 ≤ 1
    small true = omega arith
    small false = omega arith

-- ---- all of them
pub all_put : (ps : List Process) (records : List HartRecord) (pid : ℕ) (p r : Process) (ends : Option ℕ) → AllManned ps records ends → slice_get ps pid ≡ Some p → r.status ≡ p.status
    → AllManned (slice_set ps pid r) records ends
all_put ps records pid p r ends m e s q l n = m q (sym (living_put ps pid p r q e s) ∙ l) n
