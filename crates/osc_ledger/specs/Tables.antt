-- Which tables a process has, by the pages that it ever mapped. This project's own.
use Rattle.std.specs.Prelude.{ℕ, suc, ◌≡◌, ◌<◌, ◌≤◌, ◌==◌, ◌&&◌, not, Bool, true, false, Some, is_some, List, length}
use Rattle.std.specs.List.{list_any}
use Rattle.osc_word.specs.declared.settings.HeapKind.TheVariants.{Oscar}
use Rattle.osc_word.specs.declared.calls.Call.{Call}
use Rattle.osc_word.specs.declared.calls.Call.TheVariants.{Malloc, Free, Realloc}
use Rattle.osc_sv39.specs.Walk.{piece}
use Rattle.osc_paging.specs.KeptTables.{KeptTables, levels_of, frame_of}
use Rattle.osc_space.specs.Objects.{leaf_given_up}
use Rattle.osc_space.specs.Space.{Space, Draft, Closing}
use Rattle.osc_space.specs.Fork.{fork_plan}
use Rattle.osc_space.specs.Finish.{finished}
use Rattle.osc_space.specs.Share.{shared_pages}
use Rattle.osc_space.specs.Header.{Found}
use Rattle.osc_calls.specs.Kernel.{KernelState, Process, Calling, Waiting, process_at}
use Rattle.osc_calls.specs.Plan.{plan_of}
use Rattle.osc_settled.specs.KernelFits.{KernelFits}
use Rattle.osc_machine.specs.Replay.{Ledger, ledger_at, told_by, replay}
use Rattle.osc_machine.specs.Refusals.{Setting, region_pages, ever_mapped}
use Rattle.osc_ledger.specs.Replays.{ReplayFits}
use Rattle.osc_ledger.specs.Wanting.{setting}

-- one of these pages lies in the piece of this number that a table of this level is over
abbrev pub has_piece : ℕ → ℕ → List ℕ → Bool
has_piece level number pages = list_any (λ page. piece (suc level) page == number) pages

-- the table was made for a page that was ever mapped, and is no leaf that was given up
abbrev pub table_told : Setting → Ledger → ℕ → ℕ → Bool
table_told s l level number = has_piece level number (ever_mapped s l) && not ((level == 0) && leaf_given_up l.objects l.waiting number)

-- Below the topmost table there are exactly these, and above them the topmost one alone; and as many pages
-- of regions are mapped as shares gave.
pub record TablesTold (s : Setting) (l : Ledger) (t : KeptTables) : Type 0 where
  pub levels : levels_of t ≡ s.config.levels
  pub below : (level number : ℕ) → level < t.top → is_some (frame_of t.tables level number) ≡ table_told s l level number
  pub above : (level number : ℕ) → t.top ≤ level → is_some (frame_of t.tables level number) ≡ ((t.top == level) && (0 == number))
  pub regions : length (shared_pages t) ≡ region_pages l.regions

-- ---- the law
abbrev pub is_heap_call : Call → Bool
is_heap_call (Malloc size) = true
is_heap_call (Free pointer) = true
is_heap_call (Realloc pointer size) = true
is_heap_call _ = false

-- on the heap with shadows the plan of each call on it keeps that of its process, refused or not
abbrev pub HeapPlansKeepTables : Type 0
HeapPlansKeepTables =
    (words image : List ℕ) (found : Found) (k : KernelState) (c : Calling) (p q : Process)
    → KernelFits words k → k.under_way ≡ Waiting c → process_at k c.pid ≡ Some p → ReplayFits k → k.config.heap ≡ Oscar → is_heap_call c.call ≡ true
    → TablesTold (setting k image) (ledger_at (replay k.config k.journal) c.pid) p.space.tables
    → process_at (plan_of found c p k).kernel c.pid ≡ Some q
    → TablesTold (setting k image) (told_by k.config (length k.journal) c.call (plan_of found c p k).answer (ledger_at (replay k.config k.journal) c.pid)) q.space.tables

-- so has a child of a fork, whose ledger is its parent's but for its threads
abbrev pub ForksKeepTables : Type 0
ForksKeepTables =
    (s : Setting) (l : Ledger) (space : Space) (free : List Bool)
    → TablesTold s l space.tables → TablesTold s (record l { threads = 1; spawned = 0 }) (fork_plan space free).child.tables

-- and what a call gives back when it returns changes none of these
abbrev pub ReturnsKeepTables : Type 0
ReturnsKeepTables =
    (s : Setting) (l : Ledger) (closing : Closing) (d : Draft)
    → TablesTold s l d.space.tables → TablesTold s l (finished closing d).space.tables
