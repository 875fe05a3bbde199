-- Through each step of the machine the words show of the tables of a process in a call on the heap what they
-- may. This project's own.
use Rattle.std.specs.Prelude.{ℕ, ◌≡◌, ◌<◌, true, Some, List, slice_get}
use Rattle.osc_word.specs.declared.job_list.WordAt.{WordAt}
use Rattle.osc_word.specs.declared.settings.HeapKind.TheVariants.{Oscar}
use Rattle.osc_sv39.specs.Walk.{put_word}
use Rattle.osc_calls.specs.Kernel.{KernelState, Committed, Returning}
use Rattle.osc_calls.specs.Requests.{meant}
use Rattle.osc_machine.specs.declared.HartAsk.TheVariants.{Store}
use Rattle.osc_machine.specs.Parts.{Outside, HartState, State}
use Rattle.osc_machine.specs.Turns.{hart_ask}
use Rattle.osc_machine.specs.Step.{step}
use Rattle.osc_machine.specs.Laws.{HasKernel}
use Rattle.osc_safe.specs.Holding.{Holds}
use Rattle.osc_safe.specs.Standing.{Stands}
use Rattle.osc_caches.specs.Words.{WordsAgree}
use Rattle.osc_caches.specs.DataFrames.{IsNobodysTable}
use Rattle.osc_caches.specs.HeapShows.{is_heap_call}
use Rattle.osc_caches.specs.Working.{ShowsAt}

-- in a call on the heap that is committed
abbrev pub HandShows : HartState → List ℕ → Type 0
HandShows h words =
    (k : KernelState) (done : Committed) → h.kernel ≡ Some k → k.under_way ≡ Returning done → is_heap_call (meant done.calling.call) ≡ true
    → ShowsAt h.place k done.calling.pid words

abbrev pub AllShow : State → List ℕ → Type 0
AllShow s words = (n : ℕ) (h : HartState) → slice_get s.harts n ≡ Some h → HandShows h words

abbrev pub IsOscar : State → Type 0
IsOscar s = (k : KernelState) → HasKernel s k → k.config.heap ≡ Oscar

-- a store of a hart outside a call leaves what is shown
abbrev pub StoreShows : State → ℕ → Type 0
StoreShows s n =
    (h : HartState) (to : WordAt) (value : ℕ) → slice_get s.harts n ≡ Some h → h.place ≡ Outside → hart_ask h ≡ Store to value
    → AllShow s (put_word s.words to.frame to.index value)

abbrev pub StepsKeepShowing : Type 0
StepsKeepShowing =
    (s : State) (n : ℕ) → Holds s → Stands s → IsOscar s → WordsAgree s s.words → StoreShows s n → AllShow s s.words
    → AllShow (step s n).state (step s n).state.words

-- and so does a store in a frame that is no table
abbrev pub StoresShow : Type 0
StoresShow =
    (s : State) (k : KernelState) (frame index value : ℕ) → Stands s → HasKernel s k → IsNobodysTable k frame → index < 512
    → AllShow s s.words → AllShow s (put_word s.words frame index value)
