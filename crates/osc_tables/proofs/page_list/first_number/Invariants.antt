-- Only gaps are passed.
use Rattle.std.proofs.Common.{◌≡◌, drop}
use Rattle.osc_tables.specs.Listed.{first_number}
use Rattle.osc_tables.specs.Slots.{pages_in}
use Rattle.osc_tables.proofs.page_list.first_number.Given as goal

abbrev pub invariant-loop-slot : goal.invariant-loop-slot
invariant-loop-slot l = first_number (pages_in (drop l.slot-index l.slots)) ≡ first_number (pages_in l.slots)
