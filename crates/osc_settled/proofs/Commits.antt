-- A call that commits: what its plan owes, and what holds then.
use Rattle.std.proofs.Common.{ℕ, ◌-◌, ◌≡◌, ◌<◌, ◌≤◌, ◌==◌, max, Bool, true, false, Option, Some, None, is_none, List, [], ◌∷◌, ◌++◌, length, slice_get, slice_set, arith, refl, ap, sym, ◌∙◌, subst}
use Rattle.std.proofs.lemmas.Bool.Decides.{nat_tests}
use Rattle.std.proofs.lemmas.List.{length-append}
use Rattle.osc_space.specs.Space.{Closing}
use Rattle.osc_slot.specs.Heap.{free_count}
use Rattle.osc_parts.specs.Jobs.{AllWriteWhere}
use Rattle.osc_calls.specs.declared.Thread.{Thread}
use Rattle.osc_calls.specs.declared.HartRecord.{HartRecord}
use Rattle.osc_calls.specs.Kernel.{Process, Calling, Effect, Nothing, Clears, Starts, Ends, process_at}
use Rattle.osc_calls.specs.Planned.{Planned}
use Rattle.osc_calls.specs.Plan.{committed, journal_entry}
use Rattle.osc_settled.specs.Memory.{memory_of, MemoryFits}
use Rattle.osc_settled.specs.Records.{is_living, ends_by, RecordsFit, AllManned}
use Rattle.osc_settled.specs.UnderWay.{HasAlone, made_by, is_end, record_by, EffectFits}
use Rattle.osc_settled.specs.KernelFits.{SizesFit, KernelFits}
use Rattle.osc_settled.proofs.Lists.{get-put_same, get-put_other}
use Rattle.osc_settled.proofs.Memories.{closes_for}

-- ---- lists
pub last_of : {X : Type 0} (xs : List X) (x : X) → slice_get (xs ++ x ∷ []) (length (xs ++ x ∷ []) - 1) ≡ Some x
last_of {X = X} xs x = let l : length (xs ++ x ∷ []) - 1 ≡ length xs = (let a = length-append xs (x ∷ []) in omega (arith, a)) in ap (slice_get (xs ++ x ∷ [])) l ∙ at_end xs
  where
    at_end : (ys : List X) → slice_get (ys ++ x ∷ []) (length ys) ≡ Some x
    at_end [] = refl
    at_end (y ∷ ys) = at_end ys

-- ---- who lives
pub lives_none : (p : Process) (o : Option Process) → o ≡ Some p → is_living o ≡ true → p.status ≡ None
lives_none p o e l = go p.status (sym (ap is_living e) ∙ l)
  where
    go : (s : Option ℕ) → is_none s ≡ true → s ≡ None
    go None h = refl
    go (Some s) h = absurd (let z : ⊥ = grind (arith, h) in z)

pub none_lives : (p : Process) (o : Option Process) → o ≡ Some p → p.status ≡ None → is_living o ≡ true
none_lives p o e l = ap is_living e ∙ ap (λ (s : Option ℕ). is_none s) l

pub living_put : (processes : List Process) (pid : ℕ) (p r : Process) (q : ℕ) → slice_get processes pid ≡ Some p → r.status ≡ p.status
    → is_living (slice_get (slice_set processes pid r) q) ≡ is_living (slice_get processes q)
living_put processes pid p r q e s = go (pid == q) refl
  where
    go : (b : Bool) → (pid == q) ≡ b → is_living (slice_get (slice_set processes pid r) q) ≡ is_living (slice_get processes q)
    go false d = ap is_living (get-put_other processes pid q r (grind (arith, nat_tests, d)))
    go true d =
        let same : pid ≡ q = grind (arith, nat_tests, d) in
        subst (λ k. is_living (slice_get (slice_set processes pid r) k) ≡ is_living (slice_get processes k)) same
        (ap is_living (get-put_same processes pid p r e) ∙ ap (λ (s : Option ℕ). is_none s) s ∙ sym (ap is_living e))

pub records_stay : (ps qs : List Process) (threads : List Thread) (records : List HartRecord) (ends : Option ℕ)
    → RecordsFit ps threads records ends → ((q : ℕ) → is_living (slice_get qs q) ≡ is_living (slice_get ps q)) → length qs ≡ length ps
    → RecordsFit qs threads records ends
records_stay ps qs threads records ends f h l = record {
  lives = λ hart pid thread e. h pid ∙ f.lives hart pid thread e;
  goes_on = f.goes_on;
  works = f.works;
  alone = f.alone;
  known = λ hart pid e. subst (λ n. pid < n) (sym l) (f.known hart pid e);
  stopped = λ hart pid e alive. f.stopped hart pid e (sym (h pid) ∙ alive);
  spawned = λ place t e. subst (λ n. t.pid < n) (sym l) (f.spawned place t e);
}

-- ---- the commit
-- what a plan owes
pub record Owed (words : List ℕ) (c : Calling) (m : Planned) : Type 0 where
  pub sizes : SizesFit words m.kernel
  pub room : length m.kernel.journal < m.kernel.config.journal
  pub memory : MemoryFits words (memory_of m.kernel) (closes_for c.pid m.closing)
  pub records : RecordsFit m.kernel.processes m.kernel.threads m.kernel.records (ends_by c.pid m.effect)
  pub manned : AllManned m.kernel.processes m.kernel.records (ends_by c.pid m.effect)
  pub lives : is_living (process_at m.kernel c.pid) ≡ true
  pub caller : slice_get m.kernel.records c.hart ≡ Some (record_by (is_end m.answer) c)
  pub jobs : AllWriteWhere (HasAlone m.kernel.regions (process_at m.kernel (made_by m.effect c.pid))) m.kernel.jobs
  pub effect : EffectFits m.kernel c m.closing m.effect

effect-committed : (c a : Calling) (m : Planned) (closing : Closing) (e : Effect) → EffectFits m.kernel a closing e → EffectFits (committed c m) a closing e
effect-committed c a m closing Nothing f = f
effect-committed c a m closing Clears f = tt
effect-committed c a m closing (Starts hart start) f =
    (f.0, record { other = f.1.other; runs = f.1.runs; root = f.1.root; levels = f.1.levels; frames = f.1.frames })
effect-committed c a m closing (Ends status) f = f

pub commits : (words : List ℕ) (c : Calling) (m : Planned) → Owed words c m → KernelFits words (committed c m)
commits words c m o = record {
  sizes = record {
    config = o.sizes.config;
    memory = o.sizes.memory;
    free = o.sizes.free;
    regions = o.sizes.regions;
    records = o.sizes.records;
    processes = o.sizes.processes;
    threads = o.sizes.threads;
    journal = (let a = length-append m.kernel.journal (journal_entry c m.answer ∷ []) in let r = o.room in omega (arith, a, r));
    output = o.sizes.output;
    peak = (let a = o.sizes.peak in let b = o.sizes.free in greatest m.kernel.peak (length m.kernel.free) (free_count m.kernel.free) m.kernel.config.frames a b);
  };
  memory = o.memory;
  records = o.records;
  manned = o.manned;
  under_way = record {
    last = last_of m.kernel.journal (journal_entry c m.answer);
    lives = o.lives;
    caller = o.caller;
    jobs = o.jobs;
    effect = effect-committed c c m m.closing m.effect o.effect;
  };
}
  where
    greatest : (peak n count frames : ℕ) → peak ≤ frames → n ≡ frames → max peak (n - count) ≤ frames
    greatest peak n count frames a b = omega (arith, a, b)
