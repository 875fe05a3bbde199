-- What follows of a kernel that fits, at every moment.
use Rattle.std.specs.Prelude.{ℕ, ◌+◌, ◌-◌, ◌*◌, ◌/◌, ◌≡◌, ◌≢◌, ◌<◌, ◌≤◌, true, Some, None, is_some, option_map, List, [], length, sum_by, if◌then◌else◌}
use Rattle.osc_word.specs.declared.settings.Config.{Config}
use Rattle.osc_word.specs.declared.settings.HeapKind.TheVariants.{Oscar, Plain}
use Rattle.osc_word.specs.declared.calls.Call.{Call}
use Rattle.osc_word.specs.declared.calls.Call.TheVariants as calls
use Rattle.osc_word.specs.AddressMap.{is_shadow}
use Rattle.osc_sv39.specs.declared.entries.Access.{Access}
use Rattle.osc_sv39.specs.Walk.{walk, frame_allowed}
use Rattle.osc_class.specs.Rooms.{room_of, shadow_pages}
use Rattle.osc_slot.specs.declared.Block.{Block}
use Rattle.osc_slot.specs.Slots.{is_held, is_room}
use Rattle.osc_slot.specs.Heap.{frame_of, free_count, next_block, block_of_user}
use Rattle.osc_paging.specs.JobWords.{words_after}
use Rattle.osc_paging.specs.KeptTables.{levels_of, root_of, mapping_at, mapping_of, need}
use Rattle.osc_space.specs.Objects.{Seen, next_page, is_live_page, object_at}
use Rattle.osc_space.specs.Header.{Found, object_reasons, block_of, mapped_word, header_at}
use Rattle.osc_space.specs.BlockWords.{block_word}
use Rattle.osc_space.specs.declared.HeaderLook.TheVariants.{Words}
use Rattle.osc_space.specs.declared.ObjectFact.{ObjectFact}
use Rattle.osc_space.specs.LeafFlags.{read_write_at}
use Rattle.osc_space.specs.Space.{Space, Draft, Keeps, first_reason}
use Rattle.osc_space.specs.Agree.{IsLive}
use Rattle.osc_space.specs.Malloc.{block_need}
use Rattle.osc_space.specs.Realloc.{stays, frames_for}
use Rattle.osc_space.specs.Fork.{private_frames}
use Rattle.osc_space.specs.Share.{next_shared_page}
use Rattle.osc_space.specs.Finish.{finished, ended}
use Rattle.osc_parts.specs.Frames.{frames_held, Trades}
use Rattle.osc_parts.specs.Settled.{PartsFit}
use Rattle.osc_parts.specs.OthersFit.{HoldsApart}
use Rattle.osc_parts.specs.EndLaws.{EndFits}
use Rattle.osc_parts.specs.PlanFits.{gives_block}
use Rattle.osc_calls.specs.Kernel.{KernelState, Process, Calling, Committed, Quiet, Waiting, Returning, process_at}
use Rattle.osc_calls.specs.JobDone.{entries}
use Rattle.osc_calls.specs.Requests.{meant}
use Rattle.osc_calls.specs.Refusals.{draft_of, refusal}
use Rattle.osc_calls.specs.Planned.{answered}
use Rattle.osc_calls.specs.CallLaws.{is_denied}
use Rattle.osc_calls.specs.Plan.{plan_of, commit_shown, plan}
use Rattle.osc_calls.specs.Finish.{finish}
use Rattle.osc_settled.specs.Memory.{at_rest, one_if}
use Rattle.osc_settled.specs.Records.{ending}
use Rattle.osc_settled.specs.UnderWay.{closing_of}
use Rattle.osc_settled.specs.KernelFits.{KernelFits}

-- ---- words
-- once the pending jobs are done a walk gives the kept mapping, for each process that has not ended
abbrev pub WalksFollow : Type 0
WalksFollow =
    (words : List ℕ) (k : KernelState) (pid root address : ℕ) (p : Process) (access : Access)
    → KernelFits words k → process_at k pid ≡ Some p → p.status ≡ None → root_of p.space.tables ≡ Some root
    → walk (words_after (entries k) k.jobs words) root (levels_of p.space.tables) address access
    ≡ frame_allowed access (mapping_of p.space.tables (address / 4096))

-- ---- parts
-- while nobody has the kernel no job is pending, and the parts of each process that has not ended fit
pub record RestFits (k : KernelState) : Type 0 where
  pub jobs : k.jobs ≡ []
  pub parts : (pid : ℕ) (p : Process) → process_at k pid ≡ Some p → p.status ≡ None
      → PartsFit k.config.heap k.config.batch k.regions p.space k.free

abbrev pub PartsHold : Type 0
PartsHold = (words : List ℕ) (k : KernelState) → KernelFits words k → k.under_way ≡ Quiet → RestFits k

-- ---- shadow pages
-- Each mapped shadow page lies below the mark and is one of a live object, and each page of a live
-- object maps the frame of its page of the object's block, as the block stands once the call under way
-- has returned; each live object has a block of its own then.
pub record ShadowsFit (s after : Space) : Type 0 where
  pub below : (page : ℕ) → is_shadow page ≡ true → is_some (mapping_at s.tables.pages page) ≡ true → page < next_page s.objects
  pub live : (page : ℕ) → is_shadow page ≡ true → is_some (mapping_at s.tables.pages page) ≡ is_live_page s.objects page
  pub held : (object : ℕ) (o : ObjectFact) → IsLive s object o → is_held after.heap.held (block_of o) ≡ true
  pub own : (a b : ℕ) (o p : ObjectFact) → IsLive s a o → IsLive s b p → o.canon ≡ p.canon → a ≡ b
  pub mapped : (object k : ℕ) (o : ObjectFact) → IsLive s object o → k < o.pages
      → mapping_at s.tables.pages (o.first + k) ≡ option_map read_write_at (frame_of after.heap.pages (o.canon / 4096 + k))

abbrev pub ShadowsFollow : Type 0
ShadowsFollow =
    (words : List ℕ) (k : KernelState) (pid : ℕ) (p : Process)
    → KernelFits words k → k.config.heap ≡ Oscar → process_at k pid ≡ Some p → p.status ≡ None
    → ShadowsFit p.space (finished (closing_of k.under_way pid) (at_rest p.space k.free)).space

-- ---- headers
-- The look at a live object gives the two words before its address, and through its pages these are the
-- two header words of its block.
pub record HeaderFits (s : Space) (o : ObjectFact) : Type 0 where
  pub look : header_at s o.user ≡ Words (mapped_word s.tables (o.user - 16)) (mapped_word s.tables (o.user - 8))
  pub first : mapped_word s.tables (o.user - 16) ≡ block_word s.heap.pages (block_of o) 0
  pub second : mapped_word s.tables (o.user - 8) ≡ block_word s.heap.pages (block_of o) 8

-- for each live object while its process has nothing to give back: always but between a plan and its return
abbrev pub HeadersFollow : Type 0
HeadersFollow =
    (words : List ℕ) (k : KernelState) (pid object : ℕ) (p : Process) (o : ObjectFact)
    → KernelFits words k → k.config.heap ≡ Oscar → closing_of k.under_way pid ≡ Keeps → process_at k pid ≡ Some p → p.status ≡ None
    → IsLive p.space object o → HeaderFits p.space o

-- ---- frames
-- no frame that one process holds alone is another's, also in the middle of a fork
abbrev pub ProcessesApart : Type 0
ProcessesApart =
    (words : List ℕ) (k : KernelState) (a b : ℕ) (p q : Process)
    → KernelFits words k → a ≢ b → process_at k a ≡ Some p → process_at k b ≡ Some q → p.status ≡ None → q.status ≡ None
    → HoldsApart p.space q.space

-- how many frames are held alone, and how many are of a region
abbrev pub held_count : List Process → ℕ
held_count processes = sum_by (λ (p : Process). length (frames_held p.space)) processes

abbrev pub region_count : List ℕ → ℕ
region_count regions = sum_by one_if regions

-- free frames, those held alone and those of regions are all frames
abbrev pub FramesAddUp : Type 0
FramesAddUp =
    (words : List ℕ) (k : KernelState) → KernelFits words k
    → free_count k.free + held_count k.processes + region_count k.regions ≡ k.config.frames

-- ---- plans
-- a refused call changes nothing but the journal and the peak, and gives nothing back
abbrev pub RefusedKeep : Type 0
RefusedKeep =
    (found : Found) (k : KernelState) (c : Calling) (p : Process)
    → k.under_way ≡ Waiting c → process_at k c.pid ≡ Some p → is_denied (plan_of found c p k).answer ≡ true
    → plan found k ≡ commit_shown c (answered (plan_of found c p k).answer k)

-- the most jobs of a plan
abbrev pub most_jobs : Config → Call → ℕ
most_jobs config (calls.Write buf len) = 524289
most_jobs config _ = 8 * config.frames + 64

abbrev pub JobsHaveRoom : Type 0
JobsHaveRoom =
    (words : List ℕ) (found : Found) (k : KernelState) (c : Calling)
    → KernelFits words k → k.under_way ≡ Waiting c → length (plan found k).kernel.jobs ≤ most_jobs k.config (meant c.call)

-- a malloc that is not refused takes the frames of its block and of the tables that are missing
abbrev pub MallocsTake : Type 0
MallocsTake =
    (words : List ℕ) (found : Found) (k : KernelState) (c : Calling) (p : Process) (n : ℕ)
    → KernelFits words k → k.under_way ≡ Waiting c → process_at k c.pid ≡ Some p → k.config.heap ≡ Oscar
    → meant c.call ≡ calls.Malloc n → refusal c p k ≡ None
    → free_count (plan found k).kernel.free
    + (block_need (draft_of k p) (room_of n) + need p.space.tables (next_page p.space.objects) (shadow_pages (room_of n)))
    ≡ free_count k.free

-- a realloc under the heap with shadows, of an object whose header is as it was kept, takes the frames of
-- the new block where the old one does not stay, and those of the tables that the new pages lack
abbrev pub ReallocsTake : Type 0
ReallocsTake =
    (words : List ℕ) (found : Found) (k : KernelState) (c : Calling) (p : Process) (pointer n : ℕ) (s : Seen)
    → KernelFits words k → k.under_way ≡ Waiting c → process_at k c.pid ≡ Some p → k.config.heap ≡ Oscar
    → meant c.call ≡ calls.Realloc pointer n → object_at p.space.objects pointer ≡ Some s
    → first_reason (object_reasons (Some s) found) ≡ None → refusal c p k ≡ None
    → free_count (plan found k).kernel.free
    + (frames_for (stays s.fact n) n (draft_of k p) + need p.space.tables (next_page p.space.objects) (shadow_pages (room_of n)))
    ≡ free_count k.free

-- under the plain heap a malloc takes those of the pages that hold no block yet and of the tables over them
abbrev pub plain_need : ℕ → Draft → ℕ
plain_need n d =
    block_need d (room_of n) + need d.space.tables ((next_block d.space.heap (room_of n)).start / 4096) (block_need d (room_of n))

abbrev pub PlainMallocsTake : Type 0
PlainMallocsTake =
    (words : List ℕ) (found : Found) (k : KernelState) (c : Calling) (p : Process) (n : ℕ)
    → KernelFits words k → k.under_way ≡ Waiting c → process_at k c.pid ≡ Some p → k.config.heap ≡ Plain
    → meant c.call ≡ calls.Malloc n → refusal c p k ≡ None
    → free_count (plan found k).kernel.free + plain_need n (draft_of k p) ≡ free_count k.free

-- and a realloc of a held block takes none where the block stays, and else those of a malloc
abbrev pub PlainReallocsTake : Type 0
PlainReallocsTake =
    (words : List ℕ) (found : Found) (k : KernelState) (c : Calling) (p : Process) (pointer n : ℕ) (old : Block)
    → KernelFits words k → k.under_way ≡ Waiting c → process_at k c.pid ≡ Some p → k.config.heap ≡ Plain
    → meant c.call ≡ calls.Realloc pointer n → block_of_user p.space.heap.held pointer ≡ Some old → refusal c p k ≡ None
    → free_count (plan found k).kernel.free + (if is_room (room_of n) old.room then 0 else plain_need n (draft_of k p))
    ≡ free_count k.free

-- a fork that is not refused takes a frame for each private frame of its process
abbrev pub ForksTake : Type 0
ForksTake =
    (words : List ℕ) (found : Found) (k : KernelState) (c : Calling) (p : Process)
    → KernelFits words k → k.under_way ≡ Waiting c → process_at k c.pid ≡ Some p → meant c.call ≡ calls.Fork → refusal c p k ≡ None
    → free_count (plan found k).kernel.free + length (private_frames p.space (length k.free)) ≡ free_count k.free

-- a share that is not refused takes the frames of its pages and of the tables that are missing
abbrev pub SharesTake : Type 0
SharesTake =
    (words : List ℕ) (found : Found) (k : KernelState) (c : Calling) (p : Process) (n : ℕ)
    → KernelFits words k → k.under_way ≡ Waiting c → process_at k c.pid ≡ Some p → meant c.call ≡ calls.Share n → refusal c p k ≡ None
    → free_count (plan found k).kernel.free + (n + need p.space.tables (next_shared_page p.space.tables) n) ≡ free_count k.free

-- ---- returns
-- what a call gives back that ends no process: blocks that are held; each frame that its process holds
-- no more is free, and no other frame becomes free
pub record GivesBack (k : KernelState) (done : Committed) (p : Process) : Type 0 where
  pub blocks : (block : Block) → gives_block done.closing block ≡ true → is_held p.space.heap.held block ≡ true
  pub frames : (finish k).kernel.free ≡ (finished done.closing (at_rest p.space k.free)).free
  pub each : Trades p.space k.free (finished done.closing (at_rest p.space k.free)).space (finish k).kernel.free

abbrev pub FinishGives : Type 0
FinishGives =
    (words : List ℕ) (k : KernelState) (done : Committed) (p : Process)
    → KernelFits words k → k.jobs ≡ [] → k.under_way ≡ Returning done → process_at k done.calling.pid ≡ Some p → ending (Returning done) ≡ None
    → GivesBack k done p

-- a call that ends its process gives back all frames of the process, and those of regions that nobody holds any more
pub record GivesAll (k : KernelState) (p : Process) : Type 0 where
  pub frames : (finish k).kernel.free ≡ (ended k.regions p.space k.free).free
  pub regions : (finish k).kernel.regions ≡ (ended k.regions p.space k.free).regions
  pub fits : EndFits k.regions p.space k.free (ended k.regions p.space k.free)

abbrev pub EndsGive : Type 0
EndsGive =
    (words : List ℕ) (k : KernelState) (done : Committed) (p : Process)
    → KernelFits words k → k.under_way ≡ Returning done → process_at k done.calling.pid ≡ Some p → ending (Returning done) ≡ Some done.calling.pid
    → GivesAll k p
