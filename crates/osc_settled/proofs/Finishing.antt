-- A kernel that is given back keeps what holds.
use Rattle.std.proofs.Common.{ℕ, zero, suc, ◌+◌, ◌*◌, ◌≡◌, ◌≢◌, ◌<◌, ◌≤◌, ◌==◌, Bool, true, false, cond, Option, Some, None, List, [], ◌∷◌, length, map, slice_get, slice_set, arith, refl, ap, sym, ◌∙◌, subst}
use Rattle.std.specs.List.{sum_by}
use Rattle.std.proofs.lemmas.Bool.Decides.{nat_tests}
use Rattle.osc_word.specs.declared.job_list.Job.{Job}
use Rattle.osc_paging.specs.declared.TableFrame.{TableFrame}
use Rattle.osc_paging.specs.declared.Piece.{Piece}
use Rattle.osc_paging.specs.KeptTables.{piece_of}
use Rattle.osc_paging.specs.JobWords.{words_after}
use Rattle.osc_paging.specs.Agree.{Agrees}
use Rattle.osc_space.specs.Space.{Space, Draft, Closing, Keeps}
use Rattle.osc_space.specs.Finish.{finished}
use Rattle.osc_space.specs.Fork.{table_frame_of}
use Rattle.osc_space.specs.Share.{Regions}
use Rattle.osc_parts.specs.Frames.{among, Trades}
use Rattle.osc_parts.proofs.Trading.{held_is, fit_after, shared_same}
use Rattle.osc_calls.specs.declared.HartRecord.{HartRecord}
use Rattle.osc_calls.specs.declared.HartRecord.TheVariants.{Idle, Runs, Stopped}
use Rattle.osc_calls.specs.Kernel.{KernelState, Process, Committed, Returning, process_at}
use Rattle.osc_calls.specs.Labels.{out_count}
use Rattle.osc_calls.specs.Refusals.{draft_of}
use Rattle.osc_calls.specs.Planned.{with_draft}
use Rattle.osc_calls.specs.Finish.{hart_left}
use Rattle.osc_settled.specs.Memory.{Memory, memory_of, entries_in, held_by, shared_by, at_rest, SpaceFits, IsBare, MemoryFits}
use Rattle.osc_settled.specs.Records.{RecordsFit, AllManned}
use Rattle.osc_settled.specs.UnderWay.{closing_of, ReturningFits}
use Rattle.osc_settled.specs.KernelFits.{SizesFit}
use Rattle.osc_settled.proofs.Manned.{manned_put, all_put}
use Rattle.osc_settled.proofs.Lists.{get-put_same, get-put_other, length-put, sum-put, some_same}
use Rattle.osc_settled.proofs.Memories.{Undisturbed, frames_stay, parts_stay, keeps_returns, returns_keeps, UsedOnce, undisturbed, closes_for}
use Rattle.osc_settled.proofs.Commits.{lives_none, living_put, records_stay}
use Rattle.osc_settled.proofs.Ending.{threads_stay, records_idle}
use Rattle.osc_settled.proofs.Beginning.{AtRest}

-- ---- tables of a process whose frames stay
table_counts : (f : ℕ) (ts : List TableFrame) (p : Piece) → piece_of ts f ≡ Some p → 0 < among f (map table_frame_of ts)
table_counts f [] p e = absurd (let z : ⊥ = grind (arith, e) in z)
table_counts f (t ∷ ts) p e = go (t.frame == f) e (table_counts f ts p)
  where
    go : (b : Bool) → cond b (Some t.piece) (piece_of ts f) ≡ Some p → (piece_of ts f ≡ Some p → 0 < among f (map table_frame_of ts)) → 0 < cond b 1 0 + among f (map table_frame_of ts)
    go true g later = omega arith
    go false g later = let l = later g in omega (arith, l)

pub tables_stay : (s : Space) (regions : Regions) (free after : List Bool) (words : List ℕ)
    → Agrees s.tables free words → length after ≡ length free → Undisturbed s regions after → Agrees s.tables after words
tables_stay s regions free after words a l u = record {
  size = a.size ∙ ap (λ n. n * 512) (sym l);
  small = (let x = a.small in omega (arith, x, l));
  apart = a.apart;
  taken = λ f p e. u.taken f (let h = held_is f s in let t = table_counts f s.tables.tables p e in omega (arith, h, t));
  parents = a.parents;
  leaves = a.leaves;
  agree = a.agree;
  spare = λ f p e. ((a.spare f p e).0, u.taken f (let h = held_is f s in let t = table_counts f s.tables.aside p e in omega (arith, h, t)));
  zeros = a.zeros;
}

-- ---- the return of one process's call
abbrev pub returned_process : Process → Draft → Process
returned_process p e = record p { space = e.space }

abbrev pub memory_returned : Memory → ℕ → Process → Draft → Memory
memory_returned m pid p e = record m {
  processes = slice_set m.processes pid (returned_process p e);
  free = e.free;
  jobs = e.jobs;
}

uses_returned : (m : Memory) (pid : ℕ) (p : Process) (e : Draft) → slice_get m.processes pid ≡ Some p
    → UsedOnce m.processes m.regions m.free → Trades p.space m.free e.space e.free
    → UsedOnce (slice_set m.processes pid (returned_process p e)) m.regions e.free
uses_returned m pid p e at u t = record {
  uses = λ f l. (let was = u.uses f (let c = t.count in omega (arith, c, l)) in
      let each = t.each f in let sum = sum-put (held_by f) m.processes pid p (returned_process p e) at in
      omega (arith, was, each, sum));
  holders = λ f. (let was = u.holders f in let sum = sum-put (shared_by f) m.processes pid p (returned_process p e) at in
      let same : shared_by f (returned_process p e) ≡ shared_by f p = shared_same p.space e.space f t.shared in
      omega (arith, was, sum, same));
}

pub return_memory : (words : List ℕ) (m : Memory) (pid : ℕ) (p : Process) (closing : Closing)
    → MemoryFits words m (closes_for pid closing) → m.jobs ≡ [] → slice_get m.processes pid ≡ Some p → p.status ≡ None
    → MemoryFits words (memory_returned m pid p (finished closing (at_rest p.space m.free))) (λ q. Keeps)
return_memory words m pid p closing fit none at lives = record {
  spaces = λ q r g alive. go q r (pid == q) refl g alive;
  bare = λ q status r g over. ended q status r (pid == q) refl g over;
  uses = once.uses;
  holders = once.holders;
}
  where
    e : Draft
    e = finished closing (at_rest p.space m.free)

    new : Process
    new = returned_process p (finished closing (at_rest p.space m.free))

    itself : (n : ℕ) → (n == n) ≡ true
    itself n = grind (arith, nat_tests)

    mine_was : SpaceFits words m closing p.space
    mine_was = subst (λ b. SpaceFits words m (cond b closing Keeps) p.space) (itself pid) (fit.spaces pid p at lives)

    once : UsedOnce (slice_set m.processes pid (returned_process p (finished closing (at_rest p.space m.free)))) m.regions (finished closing (at_rest p.space m.free)).free
    once = uses_returned m pid p (finished closing (at_rest p.space m.free)) at (record { uses = fit.uses; holders = fit.holders }) mine_was.returns.gives

    mine : (r : Process) → returned_process p (finished closing (at_rest p.space m.free)) ≡ r
        → SpaceFits words (memory_returned m pid p (finished closing (at_rest p.space m.free))) Keeps r.space
    mine r same = subst (λ (x : Process). SpaceFits words (memory_returned m pid p (finished closing (at_rest p.space m.free))) Keeps x.space) same (record {
      returns = keeps_returns m.heap m.batch m.regions (finished closing (at_rest p.space m.free)).space (finished closing (at_rest p.space m.free)).free mine_was.returns.parts;
      frames = fit_after p.space (finished closing (at_rest p.space m.free)).space m.free (finished closing (at_rest p.space m.free)).free mine_was.frames mine_was.returns.gives;
      tables = subst (λ js. Agrees (finished closing (at_rest p.space m.free)).space.tables (finished closing (at_rest p.space m.free)).free
          (words_after (entries_in (slice_set m.processes pid (returned_process p (finished closing (at_rest p.space m.free))))) js words)) (sym mine_was.returns.jobs)
          (mine_was.returns.agrees words (subst (λ js. Agrees p.space.tables m.free (words_after (entries_in m.processes) js words)) none mine_was.tables));
    })

    theirs : (q : ℕ) (r : Process) → slice_get (slice_set m.processes pid (returned_process p (finished closing (at_rest p.space m.free)))) q ≡ Some r → SpaceFits words m Keeps r.space
        → SpaceFits words (memory_returned m pid p (finished closing (at_rest p.space m.free))) Keeps r.space
    theirs q r g was =
        let u = undisturbed (slice_set m.processes pid (returned_process p (finished closing (at_rest p.space m.free)))) m.regions m.free (finished closing (at_rest p.space m.free)).free q r once g was.frames mine_was.returns.gives.count in
        record {
          returns = keeps_returns m.heap m.batch m.regions r.space (finished closing (at_rest p.space m.free)).free
              (parts_stay m.heap m.batch r.space m.regions m.free (finished closing (at_rest p.space m.free)).free (returns_keeps m.heap m.batch m.regions r.space m.free was.returns) mine_was.returns.gives.count u);
          frames = frames_stay r.space m.regions m.free (finished closing (at_rest p.space m.free)).free was.frames u;
          tables = subst (λ js. Agrees r.space.tables (finished closing (at_rest p.space m.free)).free
              (words_after (entries_in (slice_set m.processes pid (returned_process p (finished closing (at_rest p.space m.free))))) js words)) (sym mine_was.returns.jobs)
              (tables_stay r.space m.regions m.free (finished closing (at_rest p.space m.free)).free words
              (subst (λ js. Agrees r.space.tables m.free (words_after (entries_in m.processes) js words)) none was.tables) mine_was.returns.gives.count u);
        }

    go : (q : ℕ) (r : Process) (b : Bool) → (pid == q) ≡ b → slice_get (slice_set m.processes pid (returned_process p (finished closing (at_rest p.space m.free)))) q ≡ Some r → r.status ≡ None
        → SpaceFits words (memory_returned m pid p (finished closing (at_rest p.space m.free))) Keeps r.space
    go q r true d g alive =
        let same : q ≡ pid = grind (arith, nat_tests, d) in
        mine r (some_same (returned_process p (finished closing (at_rest p.space m.free))) r (sym (get-put_same m.processes pid p (returned_process p (finished closing (at_rest p.space m.free))) at)
        ∙ subst (λ k. slice_get (slice_set m.processes pid (returned_process p (finished closing (at_rest p.space m.free)))) k ≡ Some r) same g))
    go q r false d g alive =
        let n : pid ≢ q = grind (arith, nat_tests, d) in
        theirs q r g (subst (λ b. SpaceFits words m (cond b closing Keeps) r.space) d (fit.spaces q r (sym (get-put_other m.processes pid q (returned_process p (finished closing (at_rest p.space m.free))) n) ∙ g) alive))

    ended : (q status : ℕ) (r : Process) (b : Bool) → (pid == q) ≡ b → slice_get (slice_set m.processes pid (returned_process p (finished closing (at_rest p.space m.free)))) q ≡ Some r → r.status ≡ Some status → IsBare r.space
    ended q status r true d g over =
        let same : q ≡ pid = grind (arith, nat_tests, d) in
        let is = some_same (returned_process p (finished closing (at_rest p.space m.free))) r (sym (get-put_same m.processes pid p (returned_process p (finished closing (at_rest p.space m.free))) at)
        ∙ subst (λ k. slice_get (slice_set m.processes pid (returned_process p (finished closing (at_rest p.space m.free)))) k ≡ Some r) same g) in
        absurd (let z : None ≡ Some status = sym lives ∙ ap (λ (x : Process). x.status) is ∙ over in let w : ⊥ = grind (arith, z) in w)
    ended q status r false d g over =
        let n : pid ≢ q = grind (arith, nat_tests, d) in
        fit.bare q status r (sym (get-put_other m.processes pid q (returned_process p (finished closing (at_rest p.space m.free))) n) ∙ g) over

-- ---- the kernel
pub returned_rests : (words : List ℕ) (k : KernelState) (done : Committed) (p : Process) → SizesFit words k → MemoryFits words (memory_of k) (closing_of (Returning done))
    → RecordsFit k.processes k.threads k.records None → AllManned k.processes k.records None → ReturningFits k done → k.jobs ≡ [] → process_at k done.calling.pid ≡ Some p
    → AtRest words (with_draft done.calling.pid p (finished done.closing (draft_of k p)) k)
returned_rests words k done p s m r v u none e =
    subst (λ (js : List Job). AtRest words (with_draft done.calling.pid p (finished done.closing (record { space = p.space; free = k.free; jobs = js })) k)) (sym none) (record {
      sizes = record {
        config = s.config;
        memory = s.memory;
        free = mine.returns.gives.count ∙ s.free;
        regions = s.regions;
        records = s.records;
        processes = subst (λ n. n ≤ k.config.processes) (sym (length-put k.processes done.calling.pid (returned_process p (finished done.closing (at_rest p.space k.free))))) s.processes;
        threads = s.threads;
        journal = s.journal;
        output = (let x = s.output in let y = ap (λ js. sum_by out_count js) mine.returns.jobs in omega (arith, x, y));
        peak = s.peak;
      };
      memory = return_memory words (memory_of k) done.calling.pid p done.closing m none e lives;
      records = records_stay k.processes (slice_set k.processes done.calling.pid (returned_process p (finished done.closing (at_rest p.space k.free)))) k.threads k.records None r
          (λ q. living_put k.processes done.calling.pid p (returned_process p (finished done.closing (at_rest p.space k.free))) q e refl)
          (length-put k.processes done.calling.pid (returned_process p (finished done.closing (at_rest p.space k.free))));
      manned = all_put k.processes k.records done.calling.pid p (returned_process p (finished done.closing (at_rest p.space k.free))) None v e refl;
      jobs = mine.returns.jobs;
    })
  where
    lives : p.status ≡ None
    lives = lives_none p (process_at k done.calling.pid) e u.lives

    itself : (n : ℕ) → (n == n) ≡ true
    itself n = grind (arith, nat_tests)

    mine : SpaceFits words (memory_of k) done.closing p.space
    mine = subst (λ b. SpaceFits words (memory_of k) (cond b done.closing Keeps) p.space) (itself done.calling.pid) (m.spaces done.calling.pid p e lives)

-- a record that is put where it stands changes nothing
put_itself : (xs : List HartRecord) (i : ℕ) (x : HartRecord) → slice_get xs i ≡ Some x → slice_set xs i x ≡ xs
put_itself [] i x e = refl
put_itself (y ∷ xs) zero x e = ap (λ z. z ∷ xs) (sym (some_same y x e))
put_itself (y ∷ xs) (suc i) x e = ap (λ zs. y ∷ zs) (put_itself xs i x e)

kept_rests : (words : List ℕ) (k : KernelState) (hart : ℕ) (kept : HartRecord) → slice_get k.records hart ≡ Some kept → AtRest words k
    → AtRest words (record k { records = slice_set k.records hart kept })
kept_rests words k hart kept e r = subst (λ (rs : List HartRecord). AtRest words (record k { records = rs })) (sym (put_itself k.records hart kept e)) r

-- a stopped hart that leaves is idle
pub left_rests : (words : List ℕ) (k : KernelState) (hart : ℕ) (kept : Option HartRecord) → slice_get k.records hart ≡ kept → AtRest words k → AtRest words (hart_left hart kept k)
left_rests words k hart None e r = r
left_rests words k hart (Some Idle) e r = kept_rests words k hart Idle e r
left_rests words k hart (Some (Runs pid thread)) e r = kept_rests words k hart (Runs pid thread) e r
left_rests words k hart (Some (Stopped pid)) e r = record {
  sizes = record {
    config = r.sizes.config;
    memory = r.sizes.memory;
    free = r.sizes.free;
    regions = r.sizes.regions;
    records = length-put k.records hart Idle ∙ r.sizes.records;
    processes = r.sizes.processes;
    threads = r.sizes.threads;
    journal = r.sizes.journal;
    output = r.sizes.output;
    peak = r.sizes.peak;
  };
  memory = r.memory;
  records = records_idle k.processes k.threads k.threads k.records None hart r.records (threads_stay k.processes k.threads k.records None hart r.records);
  manned = λ q l n. manned_put k.records hart q (Stopped pid) Idle e (λ t x. (let z : ⊥ = cc in z)) (r.manned q l n);
  jobs = r.jobs;
}
