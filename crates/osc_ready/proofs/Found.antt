-- What each step of a call finds of the process that it concerns.
use Rattle.std.proofs.Common.{ℕ, zero, suc, ◌-◌, ◌≡◌, ◌<◌, ◌≤◌, ◌==◌, ◌&&◌, Bool, true, false, cond, Option, Some, None, is_none, List, [], ◌∷◌, length, slice_get, arith, refl, ap, sym, ◌∙◌, subst}
use Rattle.std.proofs.lemmas.Bool.Decides.{nat_tests}
use Rattle.std.proofs.lemmas.Option.{slice_get_within}
use Rattle.std.specs.Prelude.{All}
use Rattle.osc_space.specs.Space.{Closing, Keeps, first_reason}
use Rattle.osc_space.specs.Fork.{fork_plan, fork_reasons}
use Rattle.osc_parts.proofs.ForkParts.{forks_fit}
use Rattle.osc_share.specs.Holding.{AreDifferent, CanJoin}
use Rattle.osc_calls.specs.Refusals.{draft_of}
use Rattle.osc_calls.specs.declared.Thread.{Thread}
use Rattle.osc_calls.specs.declared.HartRecord.{HartRecord}
use Rattle.osc_calls.specs.declared.HartRecord.TheVariants.{Runs}
use Rattle.osc_calls.specs.Kernel.{KernelState, Process, Calling, Committed, Quiet, Waiting, Returning, Ends, process_at}
use Rattle.osc_calls.specs.Threads.{thread_at}
use Rattle.osc_calls.specs.Plan.{journal_entry}
use Rattle.osc_thread.specs.Lives.{runs, is_alive}
use Rattle.osc_settled.specs.Memory.{memory_of, entries_in, shared_by, shared, SpaceFits, MemoryFits}
use Rattle.osc_settled.specs.Records.{is_living, goes_on, is_at_work}
use Rattle.osc_settled.specs.UnderWay.{closing_of, closing_for, record_by, is_end, EffectFits, ReturningFits, UnderWayFits}
use Rattle.osc_settled.specs.KernelFits.{SizesFit, KernelFits}
use Rattle.osc_settled.proofs.Lists.{one_within}
use Rattle.osc_settled.proofs.Memories.{returns_keeps}
use Rattle.osc_settled.proofs.Commits.{lives_none}
use Rattle.osc_settled.proofs.Outcomes.{asks}
use Rattle.osc_settled.proofs.Beginning.{at_rest}
use Rattle.osc_ready.specs.Found.{ProcessFits, HasProcess, AskersFit, ChildFits, CallerFits, CallersFit, ReturnerFits, ReturnersFit, EnderFits, EndersFit}
use Rattle.osc_ready.proofs.Limits.{in_range}
use Rattle.osc_ready.proofs.Shared.{are_different, are_held, are_taken, can_join}

-- ---- one process
process_fits : (words : List ℕ) (k : KernelState) (closes : ℕ → Closing) (pid : ℕ) (p : Process) → SizesFit words k → MemoryFits words (memory_of k) closes
    → closes pid ≡ Keeps → process_at k pid ≡ Some p → p.status ≡ None → ProcessFits k p
process_fits words k closes pid p s m keeps e lives =
    let fits = m.spaces pid p e lives in
    let here = subst (λ c. SpaceFits words (memory_of k) c p.space) keeps fits in
    let limits = in_range k.config s.config in
    let same : length k.regions ≡ length k.free = s.regions ∙ sym s.free in
    record {
      lives = lives;
      parts = returns_keeps k.config.heap k.config.batch k.regions p.space k.free here.returns;
      few = (let a = s.free in let b = limits.frames in omega (arith, a, b));
      regions = same;
      different = are_different words (memory_of k) closes m pid p e fits.frames;
      joins = can_join words (memory_of k) closes m pid p e fits.frames same (let a = s.processes in let b = limits.processes in omega (arith, a, b));
    }

has_process : (words : List ℕ) (k : KernelState) (closes : ℕ → Closing) (pid : ℕ) → SizesFit words k → MemoryFits words (memory_of k) closes
    → closes pid ≡ Keeps → is_living (process_at k pid) ≡ true → HasProcess k pid
has_process words k closes pid s m keeps l = go (process_at k pid) refl
  where
    go : (o : Option Process) → process_at k pid ≡ o → HasProcess k pid
    go None e = absurd (let z = sym (ap is_living e) ∙ l in let w : ⊥ = grind (arith, z) in w)
    go (Some p) e = record { process = p; at = e; fits = process_fits words k closes pid p s m keeps e (lives_none p (process_at k pid) e l) }

-- ---- before a call commits
pub askers_fit : AskersFit
askers_fit words k hart pid thread f u e =
    let r = at_rest words k f u in
    has_process words k (λ q. Keeps) pid r.sizes r.memory refl (r.records.lives hart pid thread e)

-- a thread at work lives
at_work : (threads : List Thread) (pid number : ℕ) → is_at_work threads pid (Some number) ≡ true → is_alive threads number ≡ true
at_work threads pid number e = go (thread_at threads number) e
  where
    go : (t : Option Thread) → goes_on pid t ≡ true → runs t ≡ true
    go None h = absurd (let z : ⊥ = grind (arith, h) in z)
    go (Some t) h = grind (arith, nat_tests, h)

child_fits : (words : List ℕ) (k : KernelState) (pid : ℕ) (p : Process) → MemoryFits words (memory_of k) (λ q. Keeps) → process_at k pid ≡ Some p → ProcessFits k p
    → first_reason (fork_reasons p.space k.free) ≡ None → ChildFits k (fork_plan p.space k.free).child
child_fits words k pid p m e fits granted =
    let f = forks_fit k.config.heap k.config.batch (entries_in k.processes) words k.regions (draft_of k p) (record { parts = fits.parts; tables = (m.spaces pid p e fits.lives).tables }) granted in
    record {
      root = f.child.agrees.root;
      different = subst AreDifferent (sym f.same) fits.different;
      joins = subst (λ xs. All (CanJoin k.regions) xs) (sym f.same) fits.joins;
    }

pub callers_fit : CallersFit
callers_fit words k c f u =
    let a = asks words k c f u in
    let has = has_process words k (λ q. Keeps) c.pid a.sizes a.memory refl (a.records.lives c.hart c.pid c.thread a.waits.caller) in
    record {
      has = has;
      jobs = a.waits.jobs;
      room = a.waits.room;
      hart = slice_get_within k.records c.hart (Runs c.pid c.thread) a.waits.caller;
      runs = a.waits.caller;
      alive = λ number is. at_work k.threads c.pid number
          (subst (λ t. is_at_work k.threads c.pid t ≡ true) is (a.records.works c.hart c.pid c.thread a.waits.caller));
      forks = λ granted. child_fits words k c.pid has.process a.memory has.at has.fits granted;
    }

-- ---- before a call returns
itself : (n : ℕ) → (n == n) ≡ true
itself n = grind (arith, nat_tests)

returning : (words : List ℕ) (k : KernelState) (done : Committed) → KernelFits words k → k.under_way ≡ Returning done → ReturningFits k done
returning words k done f u = subst (λ x. UnderWayFits k x) u f.under_way

returning_memory : (words : List ℕ) (k : KernelState) (done : Committed) → KernelFits words k → k.under_way ≡ Returning done → MemoryFits words (memory_of k) (λ pid. closing_for pid done)
returning_memory words k done f u = subst (λ x. MemoryFits words (memory_of k) (closing_of x)) u f.memory

pub returners_fit : ReturnersFit
returners_fit words k done f u = go (process_at k done.calling.pid) refl
  where
    r : ReturningFits k done
    r = returning words k done f u

    go : (o : Option Process) → process_at k done.calling.pid ≡ o → ReturnerFits k done
    go None e = absurd (let z = sym (ap is_living e) ∙ r.lives in let w : ⊥ = grind (arith, z) in w)
    go (Some p) e =
        let lives = lives_none p (process_at k done.calling.pid) e r.lives in
        let fits = (returning_memory words k done f u).spaces done.calling.pid p e lives in
        let here = subst (λ b. SpaceFits words (memory_of k) (cond b done.closing Keeps) p.space) (itself done.calling.pid) fits in
        record {
          process = p;
          at = e;
          lives = lives;
          few = (let a = f.sizes.free in let b = (in_range k.config f.sizes.config).frames in omega (arith, a, b));
          hart = slice_get_within k.records done.calling.hart (record_by (is_end done.answer) done.calling) r.caller;
          journal = (let a = slice_get_within k.journal (length k.journal - 1) (journal_entry done.calling done.answer) r.last in omega (arith, a));
          frames = here.frames;
          returns = here.returns;
        }

pub enders_fit : EndersFit
enders_fit words k done p status f u is e =
    let r = returning words k done f u in
    let m = returning_memory words k done f u in
    let lives = lives_none p (process_at k done.calling.pid) e r.lives in
    let keeps : done.closing ≡ Keeps = subst (λ x. EffectFits k done.calling done.closing x) is r.effect in
    let same : length k.regions ≡ length k.free = f.sizes.regions ∙ sym f.sizes.free in
    let frames = (m.spaces done.calling.pid p e lives).frames in
    record {
      fits = process_fits words k (λ q. closing_for q done) done.calling.pid p f.sizes m (nothing (done.calling.pid == done.calling.pid) keeps) e lives;
      held = are_held words (memory_of k) (λ q. closing_for q done) m done.calling.pid p e frames same;
      covered = λ f. (let a = m.holders f in let b : shared_by f p ≤ shared f k.processes = one_within (shared_by f) k.processes done.calling.pid p e in omega (arith, a, b));
      taken = are_taken words (memory_of k) (λ q. closing_for q done) m done.calling.pid p e frames;
    }
  where
    nothing : (b : Bool) → done.closing ≡ Keeps → cond b done.closing Keeps ≡ Keeps
    nothing true keeps = keeps
    nothing false keeps = refl
