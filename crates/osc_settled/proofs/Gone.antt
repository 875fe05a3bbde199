-- The return of a call that ends its process keeps what holds.
use Rattle.std.proofs.Common.{ℕ, zero, suc, ◌+◌, ◌-◌, ◌≡◌, ◌≢◌, ◌<◌, ◌≤◌, ◌==◌, ◌&&◌, nat_lt, Bool, true, false, cond, Option, Some, None, is_none, List, [], ◌∷◌, length, slice_get, slice_set, arith, refl, ap, sym, ◌∙◌, subst}
use Rattle.std.proofs.lemmas.Bool.Decides.{nat_tests}
use Rattle.osc_paging.specs.JobWords.{words_after}
use Rattle.osc_paging.specs.Agree.{Agrees}
use Rattle.osc_space.specs.Space.{Space, Closing, Keeps}
use Rattle.osc_space.specs.Share.{Regions, RegionsAndFree, holders, shared_frames, let_regions_go, leave}
use Rattle.osc_space.specs.Finish.{Ended, ended}
use Rattle.osc_parts.specs.Frames.{among, frames_held, frames_mapped}
use Rattle.osc_parts.specs.EndLaws.{AreHeld, dropped, EndFits}
use Rattle.osc_parts.proofs.Counts.{among-append}
use Rattle.osc_parts.proofs.EndParts.{ends_fit}
use Rattle.osc_calls.specs.declared.Thread.{Thread}
use Rattle.osc_calls.specs.declared.HartRecord.{HartRecord}
use Rattle.osc_calls.specs.declared.HartRecord.TheVariants.{Stopped}
use Rattle.osc_calls.specs.Kernel.{KernelState, Process, process_at}
use Rattle.osc_calls.specs.Finish.{with_ended}
use Rattle.osc_settled.specs.Memory.{Memory, memory_of, entries_in, held_by, shared_by, shared, one_if, SpaceFits, IsBare, MemoryFits}
use Rattle.osc_settled.specs.Records.{is_living, RecordsFit, AllManned}
use Rattle.osc_settled.specs.KernelFits.{SizesFit}
use Rattle.osc_settled.proofs.Lists.{get-put_same, get-put_other, length-put, sum-put, one_within, two_within, some_same}
use Rattle.osc_settled.proofs.Memories.{frames_stay, keeps_returns, returns_keeps, UsedOnce, undisturbed, closes_for}
use Rattle.osc_settled.proofs.Finishing.{tables_stay}
use Rattle.osc_settled.proofs.Apart.{holds_apart}
use Rattle.osc_settled.proofs.Beginning.{AtRest}

-- ---- what is left of the process
pub bare_end : (regions : Regions) (s : Space) (free : List Bool) → IsBare (ended regions s free).space
unfolding ended
bare_end regions s free = record { pages = refl; tables = refl; aside = refl; blocks = refl; frames = refl; waiting = refl }

length_go : (frames : List ℕ) (r : RegionsAndFree) → length (let_regions_go frames r).regions ≡ length r.regions
length_go [] r = refl
length_go (f ∷ frames) r = length_go frames _ ∙ length-put r.regions f (holders r.regions f - 1)

length_end : (regions : Regions) (s : Space) (free : List Bool) → length (ended regions s free).regions ≡ length regions
unfolding ended leave
length_end regions s free = length_go (shared_frames s.tables) (record { regions = regions; free = free })

nothing_mapped : (s : Space) (f : ℕ) → frames_mapped s ≡ [] → among f (frames_held s) + among f (shared_frames s.tables) ≡ 0
nothing_mapped s f e = sym (among-append f (frames_held s) (shared_frames s.tables)) ∙ ap (λ xs. among f xs) e

-- ---- the memories
abbrev pub process_gone : Process → ℕ → Ended → Process
process_gone p status e = record p { space = e.space; status = Some status }

abbrev pub memory_gone : Memory → ℕ → ℕ → Process → Ended → Memory
memory_gone m pid status p e = record m {
  processes = slice_set m.processes pid (process_gone p status e);
  regions = e.regions;
  free = e.free;
}

drops : (left after was : ℕ) → after + left ≡ was → cond (nat_lt 0 left && (after == 0)) 1 0 + one_if after ≡ one_if was
drops zero zero was e = let same : was ≡ 0 = omega (arith, e) in subst (λ n. 0 ≡ one_if n) (sym same) refl
drops zero (suc after) was e = go was e
  where
    go : (n : ℕ) → suc after + 0 ≡ n → cond (nat_lt 0 0 && (suc after == 0)) 1 0 + 1 ≡ one_if n
    go zero g = absurd (omega (arith, g))
    go (suc n) g = grind (arith, nat_tests)
drops (suc left) zero was e = go was e
  where
    go : (n : ℕ) → 0 + suc left ≡ n → cond (nat_lt 0 (suc left) && (0 == 0)) 1 0 + 0 ≡ one_if n
    go zero g = absurd (omega (arith, g))
    go (suc n) g = grind (arith, nat_tests)
drops (suc left) (suc after) was e = go was e
  where
    go : (n : ℕ) → suc after + suc left ≡ n → cond (nat_lt 0 (suc left) && (suc after == 0)) 1 0 + 1 ≡ one_if n
    go zero g = absurd (omega (arith, g))
    go (suc n) g = grind (arith, nat_tests)

uses_gone : (m : Memory) (pid status : ℕ) (p : Process) (e : Ended) → slice_get m.processes pid ≡ Some p
    → UsedOnce m.processes m.regions m.free → EndFits m.regions p.space m.free e
    → UsedOnce (slice_set m.processes pid (process_gone p status e)) e.regions e.free
uses_gone m pid status p e at u t = record {
  uses = λ f l. (let was = u.uses f (let c = t.count in omega (arith, c, l)) in
      let frees = t.frees f in let sum = sum-put (held_by f) m.processes pid p (process_gone p status e) at in
      let none = nothing_mapped e.space f t.none in
      let drop : dropped (shared_frames p.space.tables) e.regions f + one_if (holders e.regions f) ≡ one_if (holders m.regions f) =
      drops (among f (shared_frames p.space.tables)) (holders e.regions f) (holders m.regions f) (t.holds f) in
      omega (arith, was, frees, sum, none, drop));
  holders = λ f. (let was = u.holders f in let sum = sum-put (shared_by f) m.processes pid p (process_gone p status e) at in
      let none = nothing_mapped e.space f t.none in let holds = t.holds f in
      omega (arith, was, sum, none, holds));
}

pub gone_memory : (words : List ℕ) (m : Memory) (pid status : ℕ) (p : Process) (closing : Closing)
    → MemoryFits words m (closes_for pid closing) → closing ≡ Keeps → m.jobs ≡ [] → slice_get m.processes pid ≡ Some p → p.status ≡ None
    → MemoryFits words (memory_gone m pid status p (ended m.regions p.space m.free)) (λ q. Keeps)
gone_memory words m pid status p closing fit keeps none at lives = record {
  spaces = λ q r g alive. go q r (pid == q) refl g alive;
  bare = λ q s r g over. gone q s r (pid == q) refl g over;
  uses = once.uses;
  holders = once.holders;
}
  where
    each : (q : ℕ) (r : Process) → slice_get m.processes q ≡ Some r → r.status ≡ None → SpaceFits words m Keeps r.space
    each q r g alive = pick (pid == q) (fit.spaces q r g alive)
      where
        pick : (b : Bool) → SpaceFits words m (cond b closing Keeps) r.space → SpaceFits words m Keeps r.space
        pick true s = subst (λ c. SpaceFits words m c r.space) keeps s
        pick false s = s

    was_once : UsedOnce m.processes m.regions m.free
    was_once = record { uses = fit.uses; holders = fit.holders }

    is_held : AreHeld m.regions (shared_frames p.space.tables)
    is_held f = let a : shared_by f p ≤ shared f m.processes = one_within (shared_by f) m.processes pid p at in let b = fit.holders f in omega (arith, a, b)

    mine : SpaceFits words m Keeps p.space
    mine = each pid p at lives

    the_end : EndFits m.regions p.space m.free (ended m.regions p.space m.free)
    the_end = ends_fit m.heap m.batch m.regions p.space m.free (returns_keeps m.heap m.batch m.regions p.space m.free mine.returns) is_held

    once : UsedOnce (slice_set m.processes pid (process_gone p status (ended m.regions p.space m.free))) (ended m.regions p.space m.free).regions (ended m.regions p.space m.free).free
    once = uses_gone m pid status p (ended m.regions p.space m.free) at was_once the_end

    theirs : (q : ℕ) (r : Process) → pid ≢ q → slice_get m.processes q ≡ Some r → slice_get (slice_set m.processes pid (process_gone p status (ended m.regions p.space m.free))) q ≡ Some r
        → SpaceFits words m Keeps r.space → SpaceFits words (memory_gone m pid status p (ended m.regions p.space m.free)) Keeps r.space
    theirs q r n before g was =
        let e = ended m.regions p.space m.free in
        let u = undisturbed (slice_set m.processes pid (process_gone p status (ended m.regions p.space m.free))) (ended m.regions p.space m.free).regions m.free (ended m.regions p.space m.free).free q r once g was.frames the_end.count in
        record {
          returns = keeps_returns m.heap m.batch (ended m.regions p.space m.free).regions r.space (ended m.regions p.space m.free).free
              (the_end.others m.heap m.batch r.space (returns_keeps m.heap m.batch m.regions r.space m.free was.returns)
              (holds_apart m.processes m.regions m.free pid q p r was_once n at before mine.frames was.frames)
              (holds_apart m.processes m.regions m.free q pid r p was_once (λ h. n (sym h)) before at was.frames mine.frames)
              (λ f. (let a : shared_by f p + shared_by f r ≤ shared f m.processes = two_within (shared_by f) m.processes pid q p r n at before in let b = fit.holders f in omega (arith, a, b))));
          frames = frames_stay r.space (ended m.regions p.space m.free).regions m.free (ended m.regions p.space m.free).free was.frames u;
          tables = subst (λ js. Agrees r.space.tables (ended m.regions p.space m.free).free (words_after (entries_in (slice_set m.processes pid (process_gone p status (ended m.regions p.space m.free)))) js words)) (sym none)
              (tables_stay r.space (ended m.regions p.space m.free).regions m.free (ended m.regions p.space m.free).free words
              (subst (λ js. Agrees r.space.tables m.free (words_after (entries_in m.processes) js words)) none was.tables) the_end.count u);
        }

    go : (q : ℕ) (r : Process) (b : Bool) → (pid == q) ≡ b → slice_get (slice_set m.processes pid (process_gone p status (ended m.regions p.space m.free))) q ≡ Some r → r.status ≡ None
        → SpaceFits words (memory_gone m pid status p (ended m.regions p.space m.free)) Keeps r.space
    go q r true d g alive =
        let same : q ≡ pid = grind (arith, nat_tests, d) in
        let is = some_same (process_gone p status (ended m.regions p.space m.free)) r (sym (get-put_same m.processes pid p (process_gone p status (ended m.regions p.space m.free)) at)
        ∙ subst (λ k. slice_get (slice_set m.processes pid (process_gone p status (ended m.regions p.space m.free))) k ≡ Some r) same g) in
        absurd (let z : Some status ≡ None = ap (λ (x : Process). x.status) is ∙ alive in let w : ⊥ = grind (arith, z) in w)
    go q r false d g alive =
        let n : pid ≢ q = grind (arith, nat_tests, d) in
        let before = sym (get-put_other m.processes pid q (process_gone p status (ended m.regions p.space m.free)) n) ∙ g in
        theirs q r n before g (each q r before alive)

    gone : (q s : ℕ) (r : Process) (b : Bool) → (pid == q) ≡ b → slice_get (slice_set m.processes pid (process_gone p status (ended m.regions p.space m.free))) q ≡ Some r → r.status ≡ Some s → IsBare r.space
    gone q s r true d g over =
        let same : q ≡ pid = grind (arith, nat_tests, d) in
        let is = some_same (process_gone p status (ended m.regions p.space m.free)) r (sym (get-put_same m.processes pid p (process_gone p status (ended m.regions p.space m.free)) at)
        ∙ subst (λ k. slice_get (slice_set m.processes pid (process_gone p status (ended m.regions p.space m.free))) k ≡ Some r) same g) in
        subst (λ (x : Process). IsBare x.space) is (bare_end m.regions p.space m.free)
    gone q s r false d g over =
        let n : pid ≢ q = grind (arith, nat_tests, d) in
        fit.bare q s r (sym (get-put_other m.processes pid q (process_gone p status (ended m.regions p.space m.free)) n) ∙ g) over

-- ---- the records
pub records_after_end : (ps : List Process) (threads : List Thread) (records : List HartRecord) (pid status : ℕ) (p r : Process)
    → RecordsFit ps threads records (Some pid) → slice_get ps pid ≡ Some p → r.status ≡ Some status → RecordsFit (slice_set ps pid r) threads records None
records_after_end ps threads records pid status p r f at over = record {
  lives = λ h q t g. ap is_living (get-put_other ps pid q r (λ same. f.goes_on h q t g (ap (λ k. Some k) same))) ∙ f.lives h q t g;
  goes_on = λ h q t g e. (let z : ⊥ = grind (arith, e) in z);
  works = f.works;
  alone = f.alone;
  known = λ h q g. subst (λ n. q < n) (sym (length-put ps pid r)) (f.known h q g);
  stopped = λ h q g alive. absurd (stopped h q (pid == q) refl g alive);
  spawned = λ place t g. subst (λ n. t.pid < n) (sym (length-put ps pid r)) (f.spawned place t g);
}
  where
    dead : is_living (slice_get (slice_set ps pid r) pid) ≡ false
    dead = ap is_living (get-put_same ps pid p r at) ∙ ap (λ (s : Option ℕ). is_none s) over

    stopped : (h q : ℕ) (b : Bool) → (pid == q) ≡ b → slice_get records h ≡ Some (Stopped q) → is_living (slice_get (slice_set ps pid r) q) ≡ true → ⊥
    stopped h q true d g alive =
        let same : q ≡ pid = grind (arith, nat_tests, d) in
        let z : true ≡ false = sym (subst (λ k. is_living (slice_get (slice_set ps pid r) k) ≡ true) same alive) ∙ dead in
        let w : ⊥ = grind (arith, z) in w
    stopped h q false d g alive =
        let n : pid ≢ q = grind (arith, nat_tests, d) in
        n (some_same pid q (f.stopped h q g (sym (ap is_living (get-put_other ps pid q r n)) ∙ alive)))

-- ---- the kernel
pub gone_rests : (words : List ℕ) (k : KernelState) (pid status : ℕ) (p : Process) (closing : Closing) → SizesFit words k → MemoryFits words (memory_of k) (closes_for pid closing)
    → closing ≡ Keeps → RecordsFit k.processes k.threads k.records (Some pid) → AllManned k.processes k.records (Some pid) → k.jobs ≡ [] → process_at k pid ≡ Some p → p.status ≡ None
    → AtRest words (with_ended pid status p (ended k.regions p.space k.free) k)
gone_rests words k pid status p closing s m keeps r v none at lives = record {
  sizes = record {
    config = s.config;
    memory = s.memory;
    free = freed ∙ s.free;
    regions = length_end k.regions p.space k.free ∙ s.regions;
    records = s.records;
    processes = subst (λ n. n ≤ k.config.processes) (sym (length-put k.processes pid (process_gone p status (ended k.regions p.space k.free)))) s.processes;
    threads = s.threads;
    journal = s.journal;
    output = s.output;
    peak = s.peak;
  };
  memory = gone_memory words (memory_of k) pid status p closing m keeps none at lives;
  records = records_after_end k.processes k.threads k.records pid status p (process_gone p status (ended k.regions p.space k.free)) r at refl;
  manned = λ q l n. v q (sym (ap is_living (get-put_other k.processes pid q (process_gone p status (ended k.regions p.space k.free)) (alive q l))) ∙ l)
      (λ x. alive q l (some_same pid q x));
  jobs = none;
}
  where
    dead : is_living (slice_get (slice_set k.processes pid (process_gone p status (ended k.regions p.space k.free))) pid) ≡ false
    dead = ap is_living (get-put_same k.processes pid p (process_gone p status (ended k.regions p.space k.free)) at)

    alive : (q : ℕ) → is_living (slice_get (slice_set k.processes pid (process_gone p status (ended k.regions p.space k.free))) q) ≡ true → pid ≢ q
    alive q l same =
        let z : true ≡ false = sym (subst (λ x. is_living (slice_get (slice_set k.processes pid (process_gone p status (ended k.regions p.space k.free))) x) ≡ true) (sym same) l) ∙ dead in
        let w : ⊥ = grind (arith, z) in w

    itself : (n : ℕ) → (n == n) ≡ true
    itself n = grind (arith, nat_tests)

    mine : SpaceFits words (memory_of k) Keeps p.space
    mine = subst (λ c. SpaceFits words (memory_of k) c p.space) keeps (subst (λ b. SpaceFits words (memory_of k) (cond b closing Keeps) p.space) (itself pid) (m.spaces pid p at lives))

    freed : length (ended k.regions p.space k.free).free ≡ length k.free
    freed = (ends_fit k.config.heap k.config.batch k.regions p.space k.free (returns_keeps k.config.heap k.config.batch k.regions p.space k.free mine.returns)
        (λ f. (let a : shared_by f p ≤ shared f k.processes = one_within (shared_by f) k.processes pid p at in let b = m.holders f in omega (arith, a, b)))).count
