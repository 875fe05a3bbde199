-- There is no page.
use Rattle.std.proofs.Common.{◌*◌, ◌+◌, length}
use Rattle.osc_slot.specs.Areas.{first_page}
use Rattle.osc_heap.proofs.Held.{no_table, none_above}
use Rattle.osc_heap.proofs.pages.HeldPages.new.Goals as goal

pub returns-clause-held : goal.returns-clause-held
returns-clause-held c = rw c.in_ok-with_capacity.ensures.items (none_above (0x1FFFFFF + length c.in_ok-new.field-0))

pub returns-clause-none : goal.returns-clause-none
returns-clause-none c = rw (c.in_ok-new.ensures, c.in_ok-with_capacity.ensures.items) (no_table first_page (13 * c.args.frames) _)
