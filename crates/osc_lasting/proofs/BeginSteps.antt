-- A hart that takes the kernel leaves what each hart relies on, whatever it asks.
use Rattle.std.proofs.Common.{ℕ, ◌≡◌, ◌<◌, not, Bool, true, false, cond, Option, Some, None, List, length, slice_get, arith, refl, sym, ap, subst}
use Rattle.std.proofs.lemmas.Bool.Decides.{nat_tests}
use Rattle.osc_word.specs.declared.calls.Answer.TheVariants.{Nothing}
use Rattle.osc_word.specs.declared.settings.HeapKind.TheVariants.{Oscar}
use Rattle.osc_calls.specs.declared.Begun.{Begun}
use Rattle.osc_calls.specs.declared.Begun.TheVariants as begun
use Rattle.osc_calls.specs.declared.HartRecord.TheVariants.{Runs}
use Rattle.osc_calls.specs.Kernel.{KernelState, Process, Calling, UnderWay, Quiet, Retrying, Leaving, Waiting, process_at, has_journal_room}
use Rattle.osc_calls.specs.Requests.{calling_of, meant, is_ready}
use Rattle.osc_calls.specs.Begin.{first_step, no_words, begun_in, begin_as, begin_call, begin}
use Rattle.osc_settled.specs.KernelFits.{KernelFits}
use Rattle.osc_settled.proofs.Memories.{returns_keeps}
use Rattle.osc_settled.proofs.Beginning.{at_rest, asks_as}
use Rattle.osc_showing.specs.Showing.{is_closed}
use Rattle.osc_relying.specs.Levels.{LevelsFit}
use Rattle.osc_relying.specs.Relying.{answer_for, may_keep}
use Rattle.osc_lasting.specs.Lasting.{Lasts, each_hart, BeginsLast}
use Rattle.osc_lasting.proofs.Carried.{Carried, same-carried, IsCalm, carries-last, lasts-then}
use Rattle.osc_lasting.proofs.PlanSteps.{plans_last}

-- ---- a kernel that nobody has
calm : (words : List ℕ) (k : KernelState) → KernelFits words k → k.under_way ≡ Quiet → (pid : ℕ) (p : Process) → process_at k pid ≡ Some p → p.status ≡ None → IsCalm k pid p
calm words k f u pid p here lives =
    let r = at_rest words k f u in
    let parts = returns_keeps k.config.heap k.config.batch k.regions p.space k.free (r.memory.spaces pid p here lives).returns in
    record { none = ap (λ x. answer_for x pid) u; aside = parts.agrees.aside }

-- with no call committed
abbrev taken : UnderWay → KernelState → KernelState
taken u k = record k { under_way = u }

record IsOpen (k : KernelState) (u : UnderWay) : Type 0 where
  none : (pid : ℕ) → answer_for u pid ≡ Nothing
  keeps : (n pid : ℕ) → may_keep (taken u k) n pid ≡ true

taken-last : (words : List ℕ) (k : KernelState) (u : UnderWay) → KernelFits words k → k.under_way ≡ Quiet → IsOpen k u → Lasts k (taken u k) each_hart
taken-last words k u f q o = carries-last k (taken u k) (calm words k f q) (λ pid p here lives. record {
  after = p;
  is = here;
  lives = lives;
  carried = subst (λ a. Carried p.space p.space a k.jobs) (sym (o.none pid)) (same-carried p.space Nothing k.jobs (λ frame h. ap (λ js. is_closed js frame) (let r = at_rest words k f q in r.jobs)));
  keeps = λ n l. o.keeps n pid;
})

-- ---- a call that is planned at once
waiting-fits : (words : List ℕ) (k : KernelState) (c : Calling) → KernelFits words k → k.under_way ≡ Quiet → length k.journal < k.config.journal → slice_get k.records c.hart ≡ Some (Runs c.pid c.thread) → KernelFits words (taken (Waiting c) k)
waiting-fits words k c f q room caller =
    let r = at_rest words k f q in record {
      sizes = record {
        config = f.sizes.config;
        memory = f.sizes.memory;
        free = f.sizes.free;
        regions = f.sizes.regions;
        records = f.sizes.records;
        processes = f.sizes.processes;
        threads = f.sizes.threads;
        journal = f.sizes.journal;
        output = f.sizes.output;
        peak = f.sizes.peak;
      };
      memory = r.memory;
      records = r.records;
      manned = r.manned;
      under_way = record { jobs = r.jobs; room = room; caller = caller };
    }

-- has room in the journal
room-if : (k : KernelState) (c : Calling) (o : Option Process) → begun_in o c k ≡ begun.Planned → length k.journal < k.config.journal
room-if k c None e = absurd (let b : ⊥ = grind (arith, e) in b)
room-if k c (Some p) e = go (is_ready k c.pid c.call) (has_journal_room k) refl e
  where
    go : (ready room : Bool) → has_journal_room k ≡ room → cond (not ready) begun.Again (cond (not room) begun.JournalFull (first_step c p k (meant c.call))) ≡ begun.Planned → length k.journal < k.config.journal
    go false room r e = absurd (let b : ⊥ = grind (arith, e) in b)
    go true false r e = absurd (let b : ⊥ = grind (arith, e) in b)
    go true true r e = grind (arith, nat_tests, r)

waits : (k : KernelState) (c : Calling) → IsOpen k (Waiting c)
waits k c = record { none = λ pid. refl; keeps = λ n pid. refl }

begun-last : (words : List ℕ) (k : KernelState) (c : Calling) → KernelFits words k → LevelsFit k → k.config.heap ≡ Oscar → k.under_way ≡ Quiet → slice_get k.records c.hart ≡ Some (Runs c.pid c.thread)
    → (b : Begun) → begun_in (process_at k c.pid) c k ≡ b → Lasts k (begin_as b c k).kernel each_hart
begun-last words k c f levels oscar q caller begun.Again e = taken-last words k Retrying f q (record { none = λ pid. refl; keeps = λ n pid. refl })
begun-last words k c f levels oscar q caller begun.JournalFull e = taken-last words k Retrying f q (record { none = λ pid. refl; keeps = λ n pid. refl })
begun-last words k c f levels oscar q caller begun.Gone e = taken-last words k (Leaving c.hart) f q (record { none = λ pid. refl; keeps = λ n pid. refl })
begun-last words k c f levels oscar q caller begun.Boxes e = taken-last words k (Waiting c) f q (waits k c)
begun-last words k c f levels oscar q caller (begun.Header first second) e = taken-last words k (Waiting c) f q (waits k c)
begun-last words k c f levels oscar q caller begun.Planned e =
    lasts-then k (taken (Waiting c) k) (begin_as begun.Planned c k).kernel refl (λ pid h. (let b : ⊥ = grind (arith, h) in b))
    (taken-last words k (Waiting c) f q (waits k c))
    (plans_last words no_words c (taken (Waiting c) k) (waiting-fits words k c f q (room-if k c (process_at k c.pid) e) caller) levels oscar refl)

pub begins_last : BeginsLast
unfolding begin
begins_last words regs hart pc asked k f levels oscar q = go (calling_of hart regs pc asked (slice_get k.records hart)) refl
  where
    go : (o : Option Calling) → calling_of hart regs pc asked (slice_get k.records hart) ≡ o → Lasts k (begin_call hart o k).kernel each_hart
    go None e = taken-last words k (Leaving hart) f q (record { none = λ pid. refl; keeps = λ n pid. refl })
    go (Some c) e =
        let who = asks_as hart pc regs asked (slice_get k.records hart) c e in
        begun-last words k c f levels oscar q (subst (λ z. slice_get k.records z ≡ Some (Runs c.pid c.thread)) who.1 who.0) (begun_in (process_at k c.pid) c k) refl
