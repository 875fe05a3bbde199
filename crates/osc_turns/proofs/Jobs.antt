-- Jobs that are left, and what a job's moves ask for.
use Rattle.std.proofs.Common.{ℕ, ◌≡◌, ◌<◌, List, [], ◌∷◌, Option, Some, None, slice_get, arith, refl, sym, ◌∙◌, ap, subst}
use Rattle.std.proofs.lemmas.Bool.Decides.{nat_tests}
use Rattle.osc_word.specs.declared.job_list.Job.{Job}
use Rattle.osc_word.specs.declared.job_list.Job.TheVariants.{PutWord, ZeroWords, CopyWords, CopyPart, CopyTable, ClearBox, Tell, ToOut}
use Rattle.osc_calls.specs.Kernel.{KernelState, next_job}
use Rattle.osc_calls.specs.JobDone.{entries, entry, entry_by}
use Rattle.osc_machine.specs.declared.HartAsk.{HartAsk}
use Rattle.osc_machine.specs.Turns.{move_ask}
use Rattle.osc_moves.specs.Standing.{Standing, IsEntry, IsEntryIn, moves_at, place_in, place_of}
use Rattle.osc_kernel.specs.Seen.{SeenKernel}
use Rattle.osc_turns.specs.Seen.{moves_in}
use Rattle.osc_turns.specs.Places.{WorksIn, EntryFor}

first_none : (jobs : List Job) → slice_get jobs 0 ≡ None → jobs ≡ []
first_none [] e = refl
first_none (job ∷ jobs) e = absurd (let z : ⊥ = grind (arith, e) in z)

pub none_next : (k : KernelState) → next_job k ≡ None → k.jobs ≡ []
none_next k e = first_none k.jobs e

-- ---- entries of tables that are copied
no_entry_in : (entries : ℕ → ℕ → ℕ) (job : Job) (done word : ℕ) → place_in job done ≡ None → IsEntryIn entries job done word
no_entry_in entries (CopyTable from to) done word none = λ below. absurd (let z : ⊥ = grind (arith, nat_tests, none, below) in z)
no_entry_in entries (PutWord at value) done word none = tt
no_entry_in entries (ZeroWords at count) done word none = tt
no_entry_in entries (CopyWords from to count) done word none = tt
no_entry_in entries (CopyPart from to bytes) done word none = tt
no_entry_in entries (ClearBox hart) done word none = tt
no_entry_in entries (Tell hart) done word none = tt
no_entry_in entries (ToOut at first count) done word none = tt

pub no_entry : (p : Standing) (k : Option SeenKernel) (word : ℕ) → place_of p ≡ None → EntryFor p k word
no_entry p None word none = tt
no_entry p (Some k) word none = no_entry_in (entries k.kernel) p.job p.done word none

-- the next move stores an entry
pub record StoresEntry (job : Job) (done index : ℕ) : Type 0 where
  pub from : ℕ
  pub to : ℕ
  pub table : job ≡ CopyTable from to
  pub same : index ≡ done
  pub below : index < 512

stores_in : (job : Job) (done index : ℕ) → place_in job done ≡ Some index → StoresEntry job done index
stores_in (CopyTable from to) done index e = record {
  from = from;
  to = to;
  table = refl;
  same = grind (arith, nat_tests, e);
  below = grind (arith, nat_tests, e);
}
stores_in (PutWord at value) done index e = absurd (let z : ⊥ = grind (arith, e) in z)
stores_in (ZeroWords at count) done index e = absurd (let z : ⊥ = grind (arith, e) in z)
stores_in (CopyWords from to count) done index e = absurd (let z : ⊥ = grind (arith, e) in z)
stores_in (CopyPart from to bytes) done index e = absurd (let z : ⊥ = grind (arith, e) in z)
stores_in (ClearBox hart) done index e = absurd (let z : ⊥ = grind (arith, e) in z)
stores_in (Tell hart) done index e = absurd (let z : ⊥ = grind (arith, e) in z)
stores_in (ToOut at first count) done index e = absurd (let z : ⊥ = grind (arith, e) in z)

pub stores_entry : (p : Standing) (index : ℕ) → place_of p ≡ Some index → StoresEntry p.job p.done index
stores_entry p index e = stores_in p.job p.done index e

entry_by_job : (k : KernelState) (p : Standing) (index word : ℕ) (next : Option Job) → StoresEntry p.job p.done index → next ≡ Some p.job → word ≡ entry_by k index next
    → IsEntry (entries k) p word
entry_by_job k p index word next s is e =
    let f : word ≡ entry_by k index (Some p.job) = rw is at e in
    let g : word ≡ entry_by k index (Some (CopyTable s.from s.to)) = rw s.table at f in
    subst (λ job. IsEntryIn (entries k) job p.done word) (sym s.table) (λ below. g ∙ ap (λ i. entries k s.to i) s.same)

pub is_entry : (k : KernelState) (p : Standing) (index word : ℕ) → place_of p ≡ Some index → next_job k ≡ Some p.job → word ≡ entry k index → IsEntry (entries k) p word
is_entry k p index word place next e = entry_by_job k p index word (next_job k) (stores_entry p index place) next e

-- what the first of the moves asks for
pub entry_asks : (p : Standing) (k : Option SeenKernel) (word : ℕ) (ask : HartAsk) → EntryFor p k word → WorksIn p k
    → ((es : ℕ → ℕ → ℕ) → IsEntry es p word → ask ≡ move_ask (moves_at es p) p.read) → ask ≡ move_ask (moves_in p k) p.read
entry_asks p None word ask e works asks = absurd works
entry_asks p (Some k) word ask e works asks = asks (entries k.kernel) e
