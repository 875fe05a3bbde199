-- What a change of one process's memory keeps of the memories of all.
use Rattle.std.proofs.Common.{ℕ, zero, suc, ◌+◌, ◌≡◌, ◌≢◌, ◌<◌, ◌≤◌, ◌==◌, Bool, true, false, cond, Some, None, List, [], ◌∷◌, ◌++◌, length, map, slice_get, slice_set, arith, refl, ap, sym, ◌∙◌, subst}
use Rattle.std.proofs.lemmas.Bool.Decides.{nat_tests}
use Rattle.std.proofs.lemmas.Option.{slice_get_within}
use Rattle.osc_word.specs.declared.settings.HeapKind.{HeapKind}
use Rattle.osc_word.specs.declared.job_list.Job.{Job}
use Rattle.osc_word.specs.declared.job_list.Job.TheVariants.{PutWord, ZeroWords, CopyWords, CopyPart, CopyTable, ClearBox, Tell, ToOut}
use Rattle.osc_paging.specs.declared.TableFrame.{TableFrame}
use Rattle.osc_paging.specs.KeptTables.{KeptTables, piece_of}
use Rattle.osc_paging.specs.JobWords.{words_after}
use Rattle.osc_paging.specs.Agree.{Agrees}
use Rattle.osc_paging.specs.CopyLaws.{IsNoTable, WritesElsewhere, AllElsewhere, KeepsTaken}
use Rattle.osc_paging.proofs.Elsewhere.{jobs_elsewhere_keep, taking_keeps}
use Rattle.osc_space.specs.Space.{Space, Draft, Outcome, Closing, Keeps}
use Rattle.osc_space.specs.Finish.{finished}
use Rattle.osc_space.specs.Fork.{table_frame_of}
use Rattle.osc_space.specs.Share.{Regions, holders, shared_frames}
use Rattle.osc_parts.specs.Frames.{among, vacant, one_where, frames_held, FramesFit, Trades}
use Rattle.osc_parts.specs.Settled.{PartsFit}
use Rattle.osc_parts.specs.Jobs.{WritesWhere, AllWriteWhere, IsOwn}
use Rattle.osc_parts.specs.PlanFits.{with_jobs, PlanFits}
use Rattle.osc_parts.proofs.Trading.{held_is, held_taken, shared_same, fits, held_once, quiet_taken}
use Rattle.osc_parts.proofs.Settling.{settled_frames}
use Rattle.osc_calls.specs.Kernel.{Process}
use Rattle.osc_settled.specs.Memory.{Memory, draft_in, entries_in, held_by, shared_by, held, shared, one_if, at_rest, Returns, SpaceFits, IsBare, MemoryFits}
use Rattle.osc_settled.proofs.Lists.{get-put_same, get-put_other, sum-put, one_within, two_within, some_same}

-- ---- frames
-- a frame below the count that is not free is taken
pub taken_there : (free : List Bool) (f : ℕ) → f < length free → vacant free f ≡ 0 → slice_get free f ≡ Some false
taken_there [] f l v = absurd (omega arith)
taken_there (true ∷ free) zero l v = absurd (let z : ⊥ = omega (arith, v) in z)
taken_there (false ∷ free) zero l v = refl
taken_there (x ∷ free) (suc f) l v = taken_there free f (omega (arith, l)) v

none_counts : (n : ℕ) → one_if n ≡ 0 → n ≡ 0
none_counts zero e = refl
none_counts (suc n) e = absurd (omega (arith, e))

-- ---- a memory whose free frames change while it stays
-- no frame that it uses is free now, and no free frame has a holder
pub record Undisturbed (s : Space) (regions : Regions) (after : List Bool) : Type 0 where
  pub taken : (f : ℕ) → 0 < among f (frames_held s) + among f (shared_frames s.tables) → slice_get after f ≡ Some false
  pub unheld : (f : ℕ) → slice_get after f ≡ Some true → holders regions f ≡ 0

pub frames_stay : (s : Space) (regions : Regions) (free after : List Bool) → FramesFit s free → Undisturbed s regions after → FramesFit s after
frames_stay s regions free after k u =
    fits s after (λ f. (let a = held_once s free f k in omega (arith, a))) u.taken

pub parts_stay : (kind : HeapKind) (batch : ℕ) (s : Space) (regions : Regions) (free after : List Bool)
    → PartsFit kind batch regions s free → length after ≡ length free → Undisturbed s regions after → PartsFit kind batch regions s after
parts_stay kind batch s regions free after p l u =
    let was = p.agrees in
    let fit = frames_stay s regions free after (settled_frames kind s regions free was) u in
    record {
      agrees = record {
        frames = was.frames ∙ sym l;
        count = was.count ∙ sym l;
        room = was.room ∙ (let a = l in omega (arith, a));
        root = was.root;
        aside = was.aside;
        heap = was.heap;
        shared = record {
          count = was.shared.count ∙ sym l;
          first = was.shared.first;
          held = was.shared.held;
          unheld = u.unheld;
        };
        ranges = was.ranges;
        apart = was.apart;
        taken = quiet_taken s after was.aside fit;
      };
      heap = p.heap;
      levels = p.levels;
      shadows = p.shadows;
      few = p.few;
      waits = p.waits;
      private = p.private;
    }

-- ---- a call that gives nothing back
pub keeps_returns : (kind : HeapKind) (batch : ℕ) (regions : Regions) (s : Space) (free : List Bool) → PartsFit kind batch regions s free → Returns kind batch regions Keeps s free
unfolding finished
keeps_returns kind batch regions s free p = record {
  blocks = λ block h. absurd (let z : ⊥ = grind (arith, h) in z);
  jobs = refl;
  gives = record { count = refl; each = λ f. refl; shared = refl };
  parts = p;
  agrees = λ words a. a;
}

pub returns_keeps : (kind : HeapKind) (batch : ℕ) (regions : Regions) (s : Space) (free : List Bool) → Returns kind batch regions Keeps s free → PartsFit kind batch regions s free
unfolding finished
returns_keeps kind batch regions s free r = r.parts

-- ---- what a fit plan's return makes
pub plan_returns : (kind : HeapKind) (batch : ℕ) (entries : ℕ → ℕ → ℕ) (words : List ℕ) (regions : Regions) (d : Draft) (o : Outcome)
    → PlanFits kind batch entries words regions d o → Returns kind batch regions o.closing o.draft.space o.draft.free
plan_returns kind batch entries words regions d o p =
    let same : finished o.closing (at_rest o.draft.space o.draft.free) ≡ with_jobs [] (finished o.closing o.draft) = p.same [] in
    record {
      blocks = p.held;
      jobs = ap (λ (e : Draft). e.jobs) same;
      gives = subst (λ (e : Draft). Trades o.draft.space o.draft.free e.space e.free) (sym same) p.gives;
      parts = subst (λ (e : Draft). PartsFit kind batch regions e.space e.free) (sym same) p.parts;
      agrees = λ now a. subst (λ (e : Draft). Agrees e.space.tables e.free now) (sym same) (p.agrees now [] a);
    }

-- ---- tables of another process
no_piece : (f : ℕ) (ts : List TableFrame) → among f (map table_frame_of ts) ≡ 0 → piece_of ts f ≡ None
no_piece f [] e = refl
no_piece f (t ∷ ts) e = go (t.frame == f) e (no_piece f ts)
  where
    go : (b : Bool) → cond b 1 0 + among f (map table_frame_of ts) ≡ 0 → (among f (map table_frame_of ts) ≡ 0 → piece_of ts f ≡ None) → cond b (Some t.piece) (piece_of ts f) ≡ None
    go true g later = absurd (omega (arith, g))
    go false g later = later (omega (arith, g))

pub no_table : (f : ℕ) (s : Space) → among f (frames_held s) ≡ 0 → IsNoTable s.tables f
no_table f s e =
    let a = held_is f s in
    (no_piece f s.tables.tables (omega (arith, a, e)), no_piece f s.tables.aside (omega (arith, a, e)))

job_elsewhere : (own : ℕ → Type 0) (t : KeptTables) (job : Job) → ((f : ℕ) → own f → IsNoTable t f) → WritesWhere own job → WritesElsewhere t job
job_elsewhere own t (PutWord at value) h w = (w.0, h at.frame w.1)
job_elsewhere own t (ZeroWords at count) h w = (w.0, h at.frame w.1)
job_elsewhere own t (CopyWords from to count) h w = (w.1, h to.frame w.2)
job_elsewhere own t (CopyPart from to bytes) h w = (w.0, h to.frame w.1)
job_elsewhere own t (CopyTable from to) h w = h to w
job_elsewhere own t (ClearBox hart) h w = tt
job_elsewhere own t (Tell hart) h w = tt
job_elsewhere own t (ToOut at first count) h w = tt

pub all_elsewhere : (own : ℕ → Type 0) (t : KeptTables) (jobs : List Job) → ((f : ℕ) → own f → IsNoTable t f) → AllWriteWhere own jobs → AllElsewhere t jobs
all_elsewhere own t [] h w = tt
all_elsewhere own t (job ∷ jobs) h w = (job_elsewhere own t job h w.0, all_elsewhere own t jobs h w.1)

-- where a frame is used once, a process that has it keeps it from all others
pub record UsedOnce (processes : List Process) (regions : Regions) (free : List Bool) : Type 0 where
  pub uses : (frame : ℕ) → frame < length free → vacant free frame + held frame processes + one_if (holders regions frame) ≡ 1
  pub holders : (frame : ℕ) → holders regions frame ≡ shared frame processes

pub other_without : (processes : List Process) (regions : Regions) (free : List Bool) (a b f : ℕ) (p q : Process)
    → UsedOnce processes regions free → a ≢ b → slice_get processes a ≡ Some p → slice_get processes b ≡ Some q → f < length free
    → 0 < held_by f p → held_by f q ≡ 0
other_without processes regions free a b f p q u n e g l h =
    let x = u.uses f l in let y : held_by f p + held_by f q ≤ held f processes = two_within (held_by f) processes a b p q n e g in omega (arith, x, y, h)

-- a frame that some process uses is not free
pub used_taken : (processes : List Process) (regions : Regions) (free : List Bool) (a f : ℕ) (p : Process)
    → UsedOnce processes regions free → slice_get processes a ≡ Some p → f < length free
    → 0 < held_by f p + shared_by f p → slice_get free f ≡ Some false
used_taken processes regions free a f p u e l h =
    let x = u.uses f l in
    let y : held_by f p ≤ held f processes = one_within (held_by f) processes a p e in
    let z : shared_by f p ≤ shared f processes = one_within (shared_by f) processes a p e in
    taken_there free f l (go (holders regions f) (u.holders f) x y z)
  where
    go : (n : ℕ) → n ≡ shared f processes → vacant free f + held f processes + one_if n ≡ 1 → held_by f p ≤ held f processes → shared_by f p ≤ shared f processes → vacant free f ≡ 0
    go zero w x y z = omega (arith, w, x, y, z, h)
    go (suc n) w x y z = omega (arith, x)

pub undisturbed : (processes : List Process) (regions : Regions) (free after : List Bool) (a : ℕ) (p : Process)
    → UsedOnce processes regions after → slice_get processes a ≡ Some p → FramesFit p.space free → length after ≡ length free → Undisturbed p.space regions after
undisturbed processes regions free after a p u e k l = record {
  taken = λ f h. (let within : f < length free = slice_get_within free f false (held_taken p.space free f k h) in used_taken processes regions after a f p u e (omega (arith, within, l)) h);
  unheld = λ f h. (let within = slice_get_within after f true h in let x = u.uses f within in let v : vacant after f ≡ 1 = ap one_where h in none_counts (holders regions f) (omega (arith, x, v)));
}

-- ---- the plan of one process's call
abbrev pub made : Process → Outcome → Process
made p o = record p { space = o.draft.space }

abbrev pub memory_after : Memory → ℕ → Process → Outcome → Memory
memory_after m pid p o = record m {
  processes = slice_set m.processes pid (made p o);
  free = o.draft.free;
  jobs = o.draft.jobs;
}

abbrev pub closes_for : ℕ → Closing → ℕ → Closing
closes_for pid closing q = cond (pid == q) closing Keeps

pub uses_after : (m : Memory) (pid : ℕ) (p : Process) (o : Outcome) → slice_get m.processes pid ≡ Some p
    → UsedOnce m.processes m.regions m.free → Trades p.space m.free o.draft.space o.draft.free
    → UsedOnce (slice_set m.processes pid (made p o)) m.regions o.draft.free
uses_after m pid p o e u t = record {
  uses = λ f l. (let was = u.uses f (let c = t.count in omega (arith, c, l)) in
      let each = t.each f in let sum = sum-put (held_by f) m.processes pid p (made p o) e in
      omega (arith, was, each, sum));
  holders = λ f. (let was = u.holders f in let sum = sum-put (shared_by f) m.processes pid p (made p o) e in
      let same : shared_by f (made p o) ≡ shared_by f p = shared_same p.space o.draft.space f t.shared in
      omega (arith, was, sum, same));
}

-- what jobs of one process write is no table of another
other_elsewhere : (processes : List Process) (regions : Regions) (free : List Bool) (a b : ℕ) (p q : Process)
    → UsedOnce processes regions free → a ≢ b → slice_get processes a ≡ Some p → slice_get processes b ≡ Some q → FramesFit p.space free
    → (f : ℕ) → IsOwn p.space f → IsNoTable q.space.tables f
other_elsewhere processes regions free a b p q u n e g k f h =
    no_table f q.space (other_without processes regions free a b f p q u n e g (slice_get_within free f false (held_taken p.space free f k (omega (arith, h)))) h)

-- the words of another process's tables, where no job was pending before
pub other_tables : (entries : ℕ → ℕ → ℕ) (t : KeptTables) (own : ℕ → Type 0) (free after : List Bool) (words : List ℕ) (jobs : List Job)
    → Agrees t free words → KeepsTaken free after → AllWriteWhere own jobs → ((f : ℕ) → own f → IsNoTable t f)
    → Agrees t after (words_after entries jobs words)
other_tables entries t own free after words jobs a k w h =
    jobs_elsewhere_keep entries t after words jobs (taking_keeps t free after words a k) (all_elsewhere own t jobs h w)

pub plan_memory : (words : List ℕ) (m : Memory) (pid : ℕ) (p : Process) (o : Outcome)
    → MemoryFits words m (λ q. Keeps) → m.jobs ≡ [] → slice_get m.processes pid ≡ Some p → p.status ≡ None
    → ((entries : ℕ → ℕ → ℕ) → PlanFits m.heap m.batch entries words m.regions (draft_in m p.space) o)
    → MemoryFits words (memory_after m pid p o) (closes_for pid o.closing)
plan_memory words m pid p o fit none e lives plan = record {
  spaces = λ q r at live. go q r (pid == q) refl at live;
  bare = λ q status r at over. ended q status r (pid == q) refl at over;
  uses = once.uses;
  holders = once.holders;
}
  where
    after : Memory
    after = memory_after m pid p o

    any : PlanFits m.heap m.batch (entries_in after.processes) words m.regions (draft_in m p.space) o
    any = plan (entries_in after.processes)

    once : UsedOnce after.processes after.regions after.free
    once = uses_after m pid p o e (record { uses = fit.uses; holders = fit.holders }) any.trades

    mine : (r : Process) → made p o ≡ r → SpaceFits words after o.closing r.space
    mine r same = subst (λ (x : Process). SpaceFits words after o.closing x.space) same (record {
      returns = plan_returns m.heap m.batch (entries_in after.processes) words m.regions (draft_in m p.space) o any;
      frames = any.frames;
      tables = any.tables;
    })

    theirs : (q : ℕ) (r : Process) → pid ≢ q → slice_get after.processes q ≡ Some r → SpaceFits words m Keeps r.space → SpaceFits words after Keeps r.space
    theirs q r n at was =
        let u = undisturbed after.processes after.regions m.free after.free q r once at was.frames any.takes.size in
        record {
          returns = keeps_returns m.heap m.batch m.regions r.space after.free (parts_stay m.heap m.batch r.space m.regions m.free after.free (returns_keeps m.heap m.batch m.regions r.space m.free was.returns) any.takes.size u);
          frames = frames_stay r.space m.regions m.free after.free was.frames u;
          tables = other_tables (entries_in after.processes) r.space.tables (IsOwn o.draft.space) m.free after.free words after.jobs
              (subst (λ js. Agrees r.space.tables m.free (words_after (entries_in m.processes) js words)) none was.tables)
              any.takes
              (subst (λ js. AllWriteWhere (IsOwn o.draft.space) js) (sym (any.pushes.is ∙ ap (λ js. js ++ any.pushes.more) none)) any.pushes.within)
              (other_elsewhere after.processes after.regions after.free pid q (made p o) r once n (get-put_same m.processes pid p (made p o) e) at any.frames);
        }

    go : (q : ℕ) (r : Process) (b : Bool) → (pid == q) ≡ b → slice_get after.processes q ≡ Some r → r.status ≡ None → SpaceFits words after (cond b o.closing Keeps) r.space
    go q r true d at live =
        let same : q ≡ pid = grind (arith, nat_tests, d) in
        mine r (some_same (made p o) r (sym (get-put_same m.processes pid p (made p o) e) ∙ subst (λ k. slice_get after.processes k ≡ Some r) same at))
    go q r false d at live =
        let n : pid ≢ q = grind (arith, nat_tests, d) in
        theirs q r n at (fit.spaces q r (sym (get-put_other m.processes pid q (made p o) n) ∙ at) live)

    ended : (q status : ℕ) (r : Process) (b : Bool) → (pid == q) ≡ b → slice_get after.processes q ≡ Some r → r.status ≡ Some status → IsBare r.space
    ended q status r true d at over =
        let same : q ≡ pid = grind (arith, nat_tests, d) in
        let is = some_same (made p o) r (sym (get-put_same m.processes pid p (made p o) e) ∙ subst (λ k. slice_get after.processes k ≡ Some r) same at) in
        absurd (let z : None ≡ Some status = sym lives ∙ ap (λ (x : Process). x.status) is ∙ over in let w : ⊥ = grind (arith, z) in w)
    ended q status r false d at over =
        let n : pid ≢ q = grind (arith, nat_tests, d) in
        fit.bare q status r (sym (get-put_other m.processes pid q (made p o) n) ∙ at) over
