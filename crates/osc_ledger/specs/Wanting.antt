-- Memory is refused for want of it: when the frames that the journal tells are those of the kernel, each
-- call is answered as the rule of refusals says. This project's own.
use Rattle.std.specs.Prelude.{ℕ, ◌+◌, ◌/◌, ◌≡◌, ◌≤◌, Bool, true, false, Some, None, Ok, is_some, List, length}
use Rattle.osc_word.specs.declared.settings.Config.{Config}
use Rattle.osc_word.specs.declared.settings.HeapKind.TheVariants.{Oscar, Plain}
use Rattle.osc_word.specs.declared.calls.Call.{Call}
use Rattle.osc_word.specs.declared.calls.Call.TheVariants.{Malloc, Realloc, Fork, Share}
use Rattle.osc_word.specs.Limits.{first_fault}
use Rattle.osc_word.specs.AddressMap.{first_shared_page}
use Rattle.osc_class.specs.declared.Room.{Room}
use Rattle.osc_image.specs.Image.{Image}
use Rattle.osc_image.specs.Frames.{needed_frames}
use Rattle.osc_image.specs.Form.{image_of}
use Rattle.osc_slot.specs.Slots.{need as block_need}
use Rattle.osc_slot.specs.Heap.{next_block, free_count}
use Rattle.osc_paging.specs.KeptTables.{need}
use Rattle.osc_space.specs.Objects.{mark, next_page}
use Rattle.osc_space.specs.Header.{Found}
use Rattle.osc_space.specs.Fork.{private_frames}
use Rattle.osc_space.specs.Share.{next_shared_page}
use Rattle.osc_calls.specs.Kernel.{KernelState, Process, Calling, UnderWay, Waiting, Returning, process_at, idle_hart}
use Rattle.osc_calls.specs.Plan.{plan_of}
use Rattle.osc_settled.specs.KernelFits.{KernelFits}
use Rattle.osc_machine.specs.Run.{at}
use Rattle.osc_machine.specs.Start.{start_of}
use Rattle.osc_machine.specs.Laws.{HasKernel}
use Rattle.osc_machine.specs.Replay.{Ledger, ledger_at, replay}
use Rattle.osc_machine.specs.Refusals.{Setting, setting_of, region_pages, process_frames, new_tables, unused, refusal_told, faults, IsAnswered, RefusesByRule}
use Rattle.osc_ledger.specs.Replays.{ReplayFits}

-- What a process's ledger tells of its frames is so: how many it has alone, and the tables that it lacks over
-- fresh shadow pages, over the pages of its next region, and over those of its next block on the plain heap.
pub record WantsFit (s : Setting) (free : List Bool) (l : Ledger) (p : Process) : Type 0 where
  pub shadows : p.space.shadows ≡ s.config.shadows
  pub private : process_frames s l ≡ length (private_frames p.space (length free))
  pub over_shadows : (count : ℕ) → s.config.heap ≡ Oscar → mark p.space.objects + count ≤ p.space.shadows
      → new_tables s l (next_page p.space.objects) count ≡ need p.space.tables (next_page p.space.objects) count
  pub over_regions : (count : ℕ) → count ≤ free_count free
      → new_tables s l (first_shared_page + region_pages l.regions) count ≡ need p.space.tables (next_shared_page p.space.tables) count
  pub over_blocks : (room : Room) → s.config.heap ≡ Plain → block_need p.space.heap.frames p.space.heap.held room ≤ free_count free
      → new_tables s l ((next_block p.space.heap room).start / 4096) (block_need p.space.heap.frames p.space.heap.held room)
      ≡ need p.space.tables ((next_block p.space.heap room).start / 4096) (block_need p.space.heap.frames p.space.heap.held room)

-- the unused frames that the journal tells are the free ones, and so it is for each process that has not ended
pub record FramesTold (s : Setting) (k : KernelState) : Type 0 where
  pub unused : unused s (replay s.config k.journal) ≡ free_count k.free
  pub each : (pid : ℕ) (p : Process) → process_at k pid ≡ Some p → p.status ≡ None
      → WantsFit s k.free (ledger_at (replay s.config k.journal) pid) p

-- calls that may be refused for want of frames
abbrev pub wants_frames : Call → Bool
wants_frames (Malloc size) = true
wants_frames (Realloc pointer size) = true
wants_frames Fork = true
wants_frames (Share pages) = true
wants_frames _ = false

abbrev pub setting : KernelState → List ℕ → Setting
setting k image = record { config = k.config; image = image }

-- ---- the laws
-- the plan of each call answers by the rule; no word of frames is needed where it wants none
abbrev pub PlansAnswerByRule : Type 0
PlansAnswerByRule =
    (words image : List ℕ) (found : Found) (k : KernelState) (c : Calling) (p : Process)
    → KernelFits words k → k.under_way ≡ Waiting c → process_at k c.pid ≡ Some p → ReplayFits k
    → (wants_frames c.call ≡ true → FramesTold (setting k image) k)
    → faults c.call (plan_of found c p k).answer ≡ false
    → IsAnswered (refusal_told (setting k image) k.journal (is_some (idle_hart k.records)) c.pid c.call) c.call (plan_of found c p k).answer

-- no call is committed that has not returned
abbrev pub is_committed : UnderWay → Bool
is_committed (Returning done) = true
is_committed _ = false

-- a run in which the frames are told wherever a call may commit answers by the rule
abbrev pub RunsAnswerByRule : Type 0
RunsAnswerByRule =
    (file : List ℕ) (image : Image) (config : Config) (picks : List ℕ)
    → first_fault config ≡ None → image_of file ≡ Ok image → needed_frames config.levels image ≤ config.frames
    → ((i : ℕ) (k : KernelState) → HasKernel (at (start_of image config) picks i).state k → is_committed k.under_way ≡ false → FramesTold (setting_of image config) k)
    → RefusesByRule (setting_of image config) (start_of image config) picks
