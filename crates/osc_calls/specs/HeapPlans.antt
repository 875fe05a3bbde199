-- The calls on the heap, by the kind of heap: whether they read an object's header first, and their
-- plans. A free of 0 does nothing. This project's own.
use Rattle.std.specs.Prelude.{ℕ, ◌==◌, if◌then◌else◌, Option, Some, None, List, length}
use Rattle.osc_word.specs.declared.settings.HeapKind.{HeapKind}
use Rattle.osc_word.specs.declared.settings.HeapKind.TheVariants.{Oscar, Plain}
use Rattle.osc_word.specs.declared.calls.Answer.TheVariants as answers
use Rattle.osc_slot.specs.declared.Block.{Block}
use Rattle.osc_slot.specs.declared.HeapPage.{HeapPage}
use Rattle.osc_slot.specs.Heap.{block_of_user}
use Rattle.osc_space.specs.declared.HeaderLook.{HeaderLook}
use Rattle.osc_space.specs.declared.HeaderLook.TheVariants.{Words}
use Rattle.osc_space.specs.Space.{Space, Draft, Outcome, Terms, unchanged}
use Rattle.osc_space.specs.BlockWords.{block_word}
use Rattle.osc_space.specs.Header.{Found, header_at}
use Rattle.osc_space.specs.Malloc.{malloc_plan}
use Rattle.osc_space.specs.Free.{free_plan}
use Rattle.osc_space.specs.Realloc.{realloc_plan}
use Rattle.osc_space.specs.PlainHeap.{plain_malloc_plan, plain_free_plan, plain_realloc_plan}
use Rattle.osc_calls.specs.declared.Begun.{Begun}
use Rattle.osc_calls.specs.declared.Begun.TheVariants.{Header, Planned}
use Rattle.osc_calls.specs.Kernel.{KernelState}

-- ---- the header
-- only a live object has a header
abbrev pub header_step : HeaderLook → Begun
header_step (Words first second) = Header first second
header_step _ = Planned

-- the header of a held block
abbrev pub block_step : List HeapPage → Option Block → Begun
block_step pages None = Planned
block_step pages (Some block) = Header (block_word pages block 0) (block_word pages block 8)

-- on the plain heap a free reads no header
abbrev pub free_step : HeapKind → Space → ℕ → Begun
free_step Oscar space pointer = header_step (header_at space pointer)
free_step Plain space pointer = Planned

abbrev pub realloc_step : HeapKind → Space → ℕ → Begun
realloc_step Oscar space pointer = header_step (header_at space pointer)
realloc_step Plain space pointer = block_step space.heap.pages (block_of_user space.heap.held pointer)

-- ---- the plans
-- the call's place is at the journal's end
abbrev pub terms_of : KernelState → Terms
terms_of kernel = record { harts = kernel.config.harts; call = length kernel.journal; batch = kernel.config.batch }

abbrev pub malloc_by : HeapKind → ℕ → Draft → Outcome
malloc_by Oscar size d = malloc_plan size d
malloc_by Plain size d = plain_malloc_plan size d

abbrev pub free_by : HeapKind → Terms → ℕ → Found → Draft → Outcome
free_by Oscar terms pointer found d = free_plan terms pointer found d
free_by Plain terms pointer found d = plain_free_plan terms.harts pointer d

abbrev pub free_of : HeapKind → Terms → ℕ → Found → Draft → Outcome
free_of kind terms pointer found d =
    if pointer == 0 then unchanged answers.Nothing d else free_by kind terms pointer found d

-- on the plain heap the old size is what was found in the header
abbrev pub realloc_by : HeapKind → Terms → ℕ → ℕ → Found → Draft → Outcome
realloc_by Oscar terms pointer size found d = realloc_plan terms pointer size found d
realloc_by Plain terms pointer size found d = plain_realloc_plan terms.harts pointer size found.second d
