use Rattle.std.proofs.Common.{◌≡◌, ◌+◌, ◌-◌, length}
use Rattle.osc_world.specs.Accesses.{overlaid}
use Rattle.osc_world.specs.Values.{spread}
use Rattle.osc_values.specs.Stored.{byte_count}
use Rattle.osc_values.proofs.Stores.{bytes_from}
use Rattle.osc_values.proofs.overlay.overlay.Given as goal

abbrev pub invariant-loop-index : goal.invariant-loop-index
invariant-loop-index l =
    (overlaid l.bytes (l.offset + l.index) (bytes_from l.value l.index (byte_count l.width l.value - l.index))
    ≡ overlaid l.fn.bytes l.offset (spread l.width l.value)) × (length l.bytes ≡ length l.fn.bytes)
