-- What harts may rely on: each entry of a cache, and each table or leaf that a walk has read, is kept, or is
-- about to go while the cache is still to be cleared. One joint invariant with the machine's words. This
-- project's own.
use Rattle.std.specs.Prelude.{ℕ, suc, ◌≡◌, ◌≤◌, ◌==◌, not, nat_lt, if◌then◌else◌, Bool, true, false, ◌&&◌, ◌||◌, Some, None, Ok, List, slice_get}
use Rattle.std.specs.List.{list_any}
use Rattle.osc_word.specs.declared.calls.Answer.{Answer}
use Rattle.osc_word.specs.declared.calls.Answer.TheVariants.{Nothing}
use Rattle.osc_word.specs.declared.settings.Config.{Config}
use Rattle.osc_word.specs.declared.settings.HeapKind.TheVariants.{Oscar}
use Rattle.osc_word.specs.Limits.{first_fault}
use Rattle.osc_sv39.specs.declared.entries.Mapping.{Mapping}
use Rattle.osc_sv39.specs.Walk.{piece, number_of, is_canonical}
use Rattle.osc_image.specs.Image.{Image}
use Rattle.osc_image.specs.Frames.{needed_frames}
use Rattle.osc_image.specs.Form.{image_of}
use Rattle.osc_paging.specs.Boxes.{BoxState, no_entries}
use Rattle.osc_paging.specs.KeptTables.{levels_of, mapping_at, frame_of, piece_of}
use Rattle.osc_space.specs.Space.{Space}
use Rattle.osc_guest.specs.Carry.{CacheOk, HartOk}
use Rattle.osc_calls.specs.Kernel.{KernelState, Process, UnderWay, Returning, process_at}
use Rattle.osc_calls.specs.Open.{open_kernel}
use Rattle.osc_settled.specs.Records.{ending}
use Rattle.osc_machine.specs.Parts.{HartState, State}
use Rattle.osc_machine.specs.Start.{start_of}
use Rattle.osc_machine.specs.Step.{box_at}
use Rattle.osc_safe.specs.Holding.{call_box}
use Rattle.osc_records.specs.Agreeing.{is_start}
use Rattle.osc_showing.specs.Showing.{is_closed, clears}
use Rattle.osc_showing.specs.Leading.{piece_at}
use Rattle.osc_showing.specs.PlanTurns.{cleared_by}
use Rattle.osc_caches.specs.Blocks.{BlocksStand}
use Rattle.osc_caches.specs.Going.{GoingPage}
use Rattle.osc_caches.specs.ShowSteps.{AllShow}
use Rattle.osc_caches.specs.Words.{WordsAgree}
use Rattle.osc_relying.specs.Levels.{LevelsFit}
use Rattle.osc_relying.specs.Shut.{AllShut}

-- ---- the call under way
-- what it answers a process; nothing to others
abbrev pub answer_for : UnderWay → ℕ → Answer
answer_for (Returning done) pid = if done.calling.pid == pid then done.answer else Nothing
answer_for under_way pid = Nothing

-- it clears each cache of so many, before blocks of this process are given back
abbrev pub flushes : ℕ → UnderWay → ℕ → Bool
flushes harts (Returning done) pid = (done.calling.pid == pid) && nat_lt 0 (cleared_by harts done.closing)
flushes harts under_way pid = false

-- hart n may still hold what goes of this process
abbrev pub may_keep : KernelState → ℕ → ℕ → Bool
may_keep k n pid = not (flushes k.config.harts k.under_way pid) || list_any (clears n) k.jobs

-- ---- pages and tables
-- the frame of a page that is mapped, or that goes and may still be held by hart n
pub data HasPage (k : KernelState) (n pid : ℕ) (s : Space) (number frame : ℕ) : Type 0 where
  Kept : (m : Mapping) → mapping_at s.tables.pages number ≡ Some m → m.frame ≡ frame → HasPage k n pid s number frame
  Goes : GoingPage s (answer_for k.under_way pid) number frame → may_keep k n pid ≡ true → HasPage k n pid s number frame

-- a table that is kept and made, or a leaf table that stands aside
pub data HasTable (k : KernelState) (n pid : ℕ) (s : Space) (level number table : ℕ) : Type 0 where
  Made : frame_of s.tables.tables level (piece (suc level) number) ≡ Some table → is_closed k.jobs table ≡ false → HasTable k n pid s level number table
  Aside : level ≡ 0 → piece_of s.tables.aside table ≡ Some (piece_at 0 (piece 1 number)) → is_closed k.jobs table ≡ false → may_keep k n pid ≡ true
      → HasTable k n pid s level number table

-- `called`: the box of hart n is in the hand of a call, which may yet change it
pub record PageOf (k : KernelState) (n : ℕ) (called : Bool) (pid page frame : ℕ) : Type 0 where
  pub p : Process
  pub is : process_at k pid ≡ Some p
  pub lives : p.status ≡ None
  pub goes_on : ending k.under_way ≡ Some pid → called ≡ true
  pub canonical : is_canonical (levels_of p.space.tables) page ≡ true
  pub has : HasPage k n pid p.space (number_of (levels_of p.space.tables) page) frame

pub record TableOf (k : KernelState) (n pid level page table : ℕ) : Type 0 where
  pub p : Process
  pub is : process_at k pid ≡ Some p
  pub lives : p.status ≡ None
  pub has : HasTable k n pid p.space level (number_of (levels_of p.space.tables) page) table

-- ---- the box of a hart, wherever it is
pub data HasBox (s : State) (n : ℕ) (box : BoxState) (called : Bool) : Type 0 where
  AtHome : called ≡ false → box_at s n ≡ Some box → HasBox s n box called
  InHand : (h : HartState) → called ≡ false → slice_get s.harts n ≡ Some h → h.user.held ≡ Some box → HasBox s n box called
  Called : (m : ℕ) (h : HartState) → called ≡ true → slice_get s.harts m ≡ Some h → call_box h n ≡ Some box → HasBox s n box called

-- ---- the whole
pub record Relies (s : State) (k : KernelState) : Type 0 where
  pub words : WordsAgree s s.words
  pub shows : AllShow s s.words
  pub boxes : (n : ℕ) (h : HartState) (box : BoxState) (called : Bool) → slice_get s.harts n ≡ Some h → HasBox s n box called
      → CacheOk (PageOf k n called) h.user.pid box.slots
  -- an order to begin is put with the clearing of the cache
  pub starts : (n : ℕ) (box : BoxState) (called : Bool) → HasBox s n box called → is_start box.order ≡ true → box.slots ≡ no_entries
  pub walks : (n : ℕ) (h : HartState) → slice_get s.harts n ≡ Some h → HartOk (PageOf k n false) (TableOf k n) h.user
  pub levels : LevelsFit k
  pub blocks : (pid : ℕ) (p : Process) → process_at k pid ≡ Some p → p.status ≡ None → BlocksStand p.space
  pub shut : AllShut s

-- ---- the law
-- so it is of the machine that opens with the image of a file, on the heap with shadows
abbrev pub StartsRely : Type 0
StartsRely =
    (file : List ℕ) (image : Image) (config : Config)
    → first_fault config ≡ None → image_of file ≡ Ok image → needed_frames config.levels image ≤ config.frames → config.heap ≡ Oscar
    → Relies (start_of image config) (open_kernel image config)
