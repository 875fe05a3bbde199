-- What a job shows is an access to a mapped page.
use Rattle.std.proofs.Common.{ℕ, zero, suc, ◌+◌, ◌-◌, ◌/◌, ◌%◌, ◌^◌, ◌≡◌, ◌≢◌, ◌<◌, ◌≤◌, Bool, true, false, is_none, Some, None, List, [], ◌∷◌, map, find, slice_get, sum_by, arith, refl, sym, ap, subst}
use Rattle.std.specs.List.{range_with_len}
use Rattle.std.proofs.lemmas.List.Sums.{sum_by-cons}
use Rattle.osc_word.specs.declared.calls.Answer.{Answer}
use Rattle.osc_word.specs.declared.calls.Answer.TheVariants as answer
use Rattle.osc_word.specs.declared.calls.Call.{Call}
use Rattle.osc_word.specs.declared.calls.Call.TheVariants as calls
use Rattle.osc_word.specs.declared.job_list.Job.{Job}
use Rattle.osc_word.specs.declared.job_list.Job.TheVariants.{ToOut}
use Rattle.osc_word.specs.declared.job_list.WordAt.{WordAt}
use Rattle.osc_word.specs.declared.steps.Access.TheVariants.{Load}
use Rattle.osc_sv39.specs.declared.entries.Access.TheVariants as kinds
use Rattle.osc_word.specs.declared.steps.Label.{Label}
use Rattle.osc_word.specs.declared.steps.Label.TheVariants.{Touched}
use Rattle.osc_sv39.specs.Walk.{frame_allowed}
use Rattle.osc_paging.specs.KeptTables.{KeptTables, mapping_of}
use Rattle.osc_calls.specs.Kernel.{KernelState, Committed, UnderWay, Returning}
use Rattle.osc_calls.specs.JobDone.{job_done}
use Rattle.osc_calls.specs.Labels.{out_count, buffer_shows, out_shows}
use Rattle.osc_calls.specs.WritePlan.{is_unreadable, first_unreadable}
use Rattle.osc_written.specs.Written.{AllWriteSome, Written, ShowsMapped, JobsShowMapped}

-- ---- a buffer whose bytes are all readable
none-found : (f : ℕ → Bool) (g : ℕ → ℕ) (from count i : ℕ) → find f (map g (range_with_len from count)) ≡ None → i < count → f (g (from + i)) ≡ false
none-found f g from zero i e l = absurd (omega (arith, l))
none-found f g from (suc count) i e l = go (f (g from)) refl i l (none-found f g (from + 1) count)
  where
    go : (b : Bool) → f (g from) ≡ b → (i : ℕ) → i < suc count → ((i : ℕ) → find f (map g (range_with_len (from + 1) count)) ≡ None → i < count → f (g (from + 1 + i)) ≡ false) → f (g (from + i)) ≡ false
    go true d i l later = absurd (let b : ⊥ = grind (arith, e, d) in b)
    go false d zero l later = let same : from ≡ from + 0 = omega arith in subst (λ z. f (g z) ≡ false) same d
    go false d (suc i) l later =
        let same : from + 1 + i ≡ from + suc i = omega arith in
        let rest : find f (map g (range_with_len (from + 1) count)) ≡ None = grind (arith, e, d) in
        subst (λ z. f (g z) ≡ false) same (later i rest (omega (arith, l)))

readable-at : (t : KeptTables) (buf total offset : ℕ) → first_unreadable t buf total ≡ None → offset < total → mapping_of t ((buf + offset) % 2 ^ 64 / 4096) ≢ None
readable-at t buf total offset e l none =
    let readable : is_unreadable t ((buf + (0 + offset)) % 2 ^ 64) ≡ false = none-found (is_unreadable t) (λ i. (buf + i) % 2 ^ 64) 0 total offset e l in
    let same : 0 + offset ≡ offset = omega arith in
    let at : is_unreadable t ((buf + offset) % 2 ^ 64) ≡ false = subst (λ z. is_unreadable t ((buf + z) % 2 ^ 64) ≡ false) same readable in
    let unreadable : is_unreadable t ((buf + offset) % 2 ^ 64) ≡ true = ap (λ m. is_none (frame_allowed kinds.Load m)) none in
    let b : ⊥ = grind (arith, at, unreadable) in b

-- ---- what a job shows
one-label : (x label : Label) (place : ℕ) → slice_get (x ∷ []) place ≡ Some label → label ≡ x
one-label x label zero e = let q : x ≡ label = cc in sym q
one-label x label (suc place) e = absurd (let b : ⊥ = grind (arith, e) in b)

buffer-mapped : (k : KernelState) (done : Committed) (call : Call) (a : Answer) (from : WordAt) (first count place : ℕ) (jobs : List Job) (label : Label) → k.jobs ≡ ToOut from first count ∷ jobs → k.under_way ≡ Returning done
    → done.calling.call ≡ call → done.answer ≡ a → Written k → slice_get (buffer_shows done.calling call a (count + sum_by out_count jobs) count) place ≡ Some label → ShowsMapped k label
buffer-mapped k done (calls.Write buf len) (answer.Number total) from first count place jobs label j u c a w e = record {
  done = done;
  returning = u;
  address = (buf + (total - (count + sum_by out_count jobs))) % 2 ^ 64;
  width = count;
  is = one-label (Touched done.calling.pid done.calling.hart ((buf + (total - (count + sum_by out_count jobs))) % 2 ^ 64) count Load true) label place e;
  mapped = λ p there. (let s = w done p buf len total u there c a in
      let some : AllWriteSome (ToOut from first count ∷ jobs) = subst AllWriteSome j s.some in
      let more : 0 < count = some.0 in
      let pending : sum_by out_count (ToOut from first count ∷ jobs) ≤ total = subst (λ js. sum_by out_count js ≤ total) j s.pending in
      let sum = sum_by-cons out_count (ToOut from first count) jobs in
      readable-at p.space.tables buf total (total - (count + sum_by out_count jobs)) s.readable (omega (arith, more, pending, sum)));
}
buffer-mapped k done call a from first count place jobs label j u c b w e = absurd (let z : ⊥ = grind (arith, e) in z)

shows-mapped : (k : KernelState) (u : UnderWay) (jobs : List Job) (place : ℕ) (label : Label) → k.jobs ≡ jobs → k.under_way ≡ u → Written k → slice_get (out_shows u jobs) place ≡ Some label → ShowsMapped k label
shows-mapped k (Returning done) (ToOut from first count ∷ jobs) place label j u w e = buffer-mapped k done done.calling.call done.answer from first count place jobs label j u refl refl w e
shows-mapped k u jobs place label j v w e = absurd (let z : ⊥ = grind (arith, e) in z)

pub jobs_show_mapped : JobsShowMapped
unfolding job_done
jobs_show_mapped k word place label w e = shows-mapped k k.under_way k.jobs place label refl refl w e
