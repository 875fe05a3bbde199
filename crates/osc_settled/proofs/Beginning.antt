-- A hart that takes the kernel keeps what holds.
use Rattle.std.proofs.Common.{ℕ, ◌≡◌, ◌<◌, nat_lt, not, Bool, true, false, cond, Option, Some, None, List, [], length, slice_get, arith, refl, ap, subst}
use Rattle.std.proofs.lemmas.Bool.Decides.{nat_tests}
use Rattle.osc_word.specs.declared.calls.Request.{Request}
use Rattle.osc_word.specs.declared.calls.Request.TheVariants as request
use Rattle.osc_calls.specs.declared.Begun.{Begun}
use Rattle.osc_calls.specs.declared.Begun.TheVariants as begun
use Rattle.osc_calls.specs.declared.HartRecord.{HartRecord}
use Rattle.osc_calls.specs.declared.HartRecord.TheVariants.{Idle, Runs, Stopped}
use Rattle.osc_calls.specs.Kernel.{KernelState, Process, Calling, UnderWay, Quiet, Retrying, Leaving, Waiting, process_at, has_journal_room}
use Rattle.osc_calls.specs.Requests.{calling_of, meant, is_ready}
use Rattle.osc_calls.specs.Begin.{first_step, begun_in, no_words, begin_as, begin_call, begin}
use Rattle.osc_space.specs.Space.{Keeps}
use Rattle.osc_settled.specs.Memory.{memory_of, MemoryFits}
use Rattle.osc_settled.specs.Records.{ending, RecordsFit, AllManned}
use Rattle.osc_settled.specs.UnderWay.{closing_of, UnderWayFits}
use Rattle.osc_settled.specs.KernelFits.{SizesFit, KernelFits}
use Rattle.osc_settled.specs.KeepLaws.{BeginsKeep}
use Rattle.osc_settled.proofs.Plans.{plans_keep}

-- ---- a kernel that nobody has
pub record AtRest (words : List ℕ) (k : KernelState) : Type 0 where
  pub sizes : SizesFit words k
  pub memory : MemoryFits words (memory_of k) (λ q. Keeps)
  pub records : RecordsFit k.processes k.threads k.records None
  pub manned : AllManned k.processes k.records None
  pub jobs : k.jobs ≡ []

pub at_rest : (words : List ℕ) (k : KernelState) → KernelFits words k → k.under_way ≡ Quiet → AtRest words k
at_rest words k f e = record {
  sizes = f.sizes;
  memory = subst (λ u. MemoryFits words (memory_of k) (closing_of u)) e f.memory;
  records = subst (λ u. RecordsFit k.processes k.threads k.records (ending u)) e f.records;
  manned = subst (λ u. AllManned k.processes k.records (ending u)) e f.manned;
  jobs = subst (λ u. UnderWayFits k u) e f.under_way;
}

-- the same kernel while a hart has it, before its call is committed
abbrev taken : UnderWay → KernelState → KernelState
taken u k = record k { under_way = u }

same_sizes : (words : List ℕ) (k : KernelState) (u : UnderWay) → SizesFit words k → SizesFit words (taken u k)
same_sizes words k u s = record {
  config = s.config;
  memory = s.memory;
  free = s.free;
  regions = s.regions;
  records = s.records;
  processes = s.processes;
  threads = s.threads;
  journal = s.journal;
  output = s.output;
  peak = s.peak;
}

pub rests_quiet : (words : List ℕ) (k : KernelState) → AtRest words k → KernelFits words (taken Quiet k)
rests_quiet words k r = record { sizes = same_sizes words k Quiet r.sizes; memory = r.memory; records = r.records; manned = r.manned; under_way = r.jobs }

rests_retrying : (words : List ℕ) (k : KernelState) → AtRest words k → KernelFits words (taken Retrying k)
rests_retrying words k r = record { sizes = same_sizes words k Retrying r.sizes; memory = r.memory; records = r.records; manned = r.manned; under_way = r.jobs }

rests_leaving : (words : List ℕ) (k : KernelState) (hart : ℕ) → AtRest words k → KernelFits words (taken (Leaving hart) k)
rests_leaving words k hart r = record { sizes = same_sizes words k (Leaving hart) r.sizes; memory = r.memory; records = r.records; manned = r.manned; under_way = r.jobs }

rests_waiting : (words : List ℕ) (k : KernelState) (c : Calling) → AtRest words k → has_journal_room k ≡ true → slice_get k.records c.hart ≡ Some (Runs c.pid c.thread)
    → KernelFits words (taken (Waiting c) k)
rests_waiting words k c r room e = record {
  sizes = same_sizes words k (Waiting c) r.sizes;
  memory = r.memory;
  records = r.records;
  manned = r.manned;
  under_way = record { jobs = r.jobs; room = below (length k.journal) k.config.journal room; caller = e };
}
  where
    below : (n m : ℕ) → nat_lt n m ≡ true → n < m
    below n m e = grind (arith, nat_tests, e)

-- ---- what a call needs
-- a call that waits or commits has room in the journal
abbrev goes_ahead : Begun → Bool
goes_ahead begun.Again = false
goes_ahead begun.JournalFull = false
goes_ahead begun.Gone = false
goes_ahead begun.Boxes = true
goes_ahead (begun.Header first second) = true
goes_ahead begun.Planned = true

has_room : (o : Option Process) (c : Calling) (k : KernelState) → goes_ahead (begun_in o c k) ≡ true → has_journal_room k ≡ true
has_room None c k e = absurd (let z : ⊥ = grind (arith, e) in z)
has_room (Some p) c k e = go (is_ready k c.pid c.call) (has_journal_room k) e
  where
    go : (ready room : Bool) → goes_ahead (cond (not ready) begun.Again (cond (not room) begun.JournalFull (first_step c p k (meant c.call)))) ≡ true → room ≡ true
    go false room g = absurd (let z : ⊥ = grind (arith, g) in z)
    go true true g = refl
    go true false g = absurd (let z : ⊥ = grind (arith, g) in z)

-- who asks runs a thread
pub asks_as : (hart pc : ℕ) (regs : List ℕ) (asked : Request) (kept : Option HartRecord) (c : Calling)
    → calling_of hart regs pc asked kept ≡ Some c → (kept ≡ Some (Runs c.pid c.thread)) × (hart ≡ c.hart)
asks_as hart pc regs (request.Call call) (Some (Runs pid thread)) c e =
    let is : record { hart = hart; pid = pid; thread = thread; call = call; regs = regs; pc = pc } ≡ c = cc in
    (ap (λ (x : Calling). Some (Runs x.pid x.thread)) is, ap (λ (x : Calling). x.hart) is)
asks_as hart pc regs (request.Call call) (Some Idle) c e = absurd (let z : ⊥ = cc in z)
asks_as hart pc regs (request.Call call) (Some (Stopped pid)) c e = absurd (let z : ⊥ = cc in z)
asks_as hart pc regs (request.Call call) None c e = absurd (let z : ⊥ = cc in z)
asks_as hart pc regs request.Idle kept c e = absurd (let z : ⊥ = cc in z)

-- ---- the begin
begun_keeps : (words : List ℕ) (k : KernelState) (c : Calling) (b : Begun) → AtRest words k → (goes_ahead b ≡ true → KernelFits words (taken (Waiting c) k))
    → KernelFits words (begin_as b c k).kernel
begun_keeps words k c begun.Again r w = rests_retrying words k r
begun_keeps words k c begun.JournalFull r w = rests_retrying words k r
begun_keeps words k c begun.Gone r w = rests_leaving words k c.hart r
begun_keeps words k c begun.Boxes r w = w refl
begun_keeps words k c (begun.Header first second) r w = w refl
begun_keeps words k c begun.Planned r w = plans_keep words no_words (taken (Waiting c) k) c (w refl) refl

pub begins_keep : BeginsKeep
unfolding begin
begins_keep words hart pc regs asked k f u = keeps (calling_of hart regs pc asked (slice_get k.records hart)) refl
  where
    r : AtRest words k
    r = at_rest words k f u

    keeps : (o : Option Calling) → calling_of hart regs pc asked (slice_get k.records hart) ≡ o → KernelFits words (begin_call hart o k).kernel
    keeps None e = rests_leaving words k hart r
    keeps (Some c) e =
        begun_keeps words k c (begun_in (process_at k c.pid) c k) r
        (λ g. (let who = asks_as hart pc regs asked (slice_get k.records hart) c e in
        rests_waiting words k c r (has_room (process_at k c.pid) c k g) (subst (λ h. slice_get k.records h ≡ Some (Runs c.pid c.thread)) who.1 who.0)))
