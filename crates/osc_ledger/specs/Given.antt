-- The address that a malloc gives, by the journal alone. This project's own.
use Rattle.std.specs.Prelude.{ℕ, ◌+◌, ◌*◌, ◌%◌, ◌≡◌, Some, List, length}
use Rattle.osc_word.specs.declared.settings.Config.{Config}
use Rattle.osc_word.specs.declared.calls.Call.{Call}
use Rattle.osc_word.specs.declared.calls.Call.TheVariants.{Malloc}
use Rattle.osc_word.specs.declared.calls.Answer.{Answer}
use Rattle.osc_word.specs.declared.calls.Answer.TheVariants.{Given, Placed}
use Rattle.osc_class.specs.Rooms.{room_of}
use Rattle.osc_space.specs.Objects.{next_page}
use Rattle.osc_space.specs.Header.{Found}
use Rattle.osc_calls.specs.Kernel.{KernelState, Process, Calling, Waiting, process_at}
use Rattle.osc_calls.specs.Plan.{plan_of}
use Rattle.osc_settled.specs.KernelFits.{KernelFits}
use Rattle.osc_machine.specs.Replay.{Ledger, ledger_at, fresh_block, replay}
use Rattle.osc_ledger.specs.Replays.{ReplayFits}

-- the user address of the next block of the room
abbrev pub block_address : Config → ℕ → Ledger → ℕ
block_address config size l = (fresh_block config (room_of size) l).start + 16

-- the next object is on the page after the mark, at its block's offset; on the plain heap it is in its block
abbrev pub AddressTold : Config → Ledger → Call → Answer → Type 0
AddressTold config l (Malloc size) (Given object pointer) =
    (object ≡ length l.objects) × (pointer ≡ next_page l.objects * 4096 + block_address config size l % 4096)
AddressTold config l (Malloc size) (Placed pointer) = pointer ≡ block_address config size l
AddressTold config l _ _ = Unit {0}

abbrev pub PlansGiveTold : Type 0
PlansGiveTold =
    (words : List ℕ) (found : Found) (k : KernelState) (c : Calling) (p : Process)
    → KernelFits words k → k.under_way ≡ Waiting c → process_at k c.pid ≡ Some p → ReplayFits k
    → AddressTold k.config (ledger_at (replay k.config k.journal) c.pid) c.call (plan_of found c p k).answer
