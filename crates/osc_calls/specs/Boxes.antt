-- What each hart's box gets by the committed call, at its job or when the hart that called gives it
-- back. This project's own.
use Rattle.std.specs.Prelude.{ℕ, ◌==◌, Bool, false, if◌then◌else◌, slice_get, Option, Some}
use Rattle.osc_word.specs.declared.orders.Order.TheVariants as orders
use Rattle.osc_paging.specs.Boxes.{BoxState, cleared}
use Rattle.osc_calls.specs.declared.BoxChange.{BoxChange}
use Rattle.osc_calls.specs.declared.BoxChange.TheVariants.{Keep, Clear, Put}
use Rattle.osc_calls.specs.declared.HartRecord.{HartRecord}
use Rattle.osc_calls.specs.declared.HartRecord.TheVariants.{Stopped}
use Rattle.osc_calls.specs.Kernel.{KernelState, Effect, Nothing, Clears, Starts, Ends, UnderWay, Returning, none_lives}

abbrev pub is_stopped : ℕ → Option HartRecord → Bool
is_stopped pid (Some (Stopped other)) = other == pid
is_stopped pid _ = false

-- where no process lives any more every hart rests; else the harts of the process are stopped, and
-- every other box is cleared
abbrev pub end_change : KernelState → ℕ → ℕ → BoxChange
end_change kernel pid hart =
    if none_lives pid kernel then Put orders.Over
    else if is_stopped pid (slice_get kernel.records hart) then Put orders.Stop
    else Clear

abbrev pub change_of : KernelState → ℕ → ℕ → Effect → BoxChange
change_of kernel pid hart Nothing = Keep
change_of kernel pid hart Clears = Clear
change_of kernel pid hart (Starts new start) = if new == hart then Put (orders.Start start) else Keep
change_of kernel pid hart (Ends status) = end_change kernel pid hart

abbrev pub change_by : KernelState → ℕ → UnderWay → BoxChange
change_by kernel hart (Returning done) = change_of kernel done.calling.pid hart done.effect
change_by kernel hart _ = Keep

-- what this hart's box gets
unfoldable pub box_change : ℕ → KernelState → BoxChange
box_change hart kernel = change_by kernel hart kernel.under_way

-- ---- a box that is changed
abbrev pub changed : BoxChange → BoxState → BoxState
changed Keep box = box
changed Clear box = cleared box
changed (Put order) box = record (cleared box) { order = order }
