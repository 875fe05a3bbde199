-- The table's frames are given back first, and then those of the later pages.
use Rattle.std.proofs.Common.{◌+◌, length, sym, ◌∙◌}
use Rattle.osc_slot.specs.Areas.{first_page}
use Rattle.osc_heap.proofs.Held.{can_parts, give_parts, no_table, none_above}
use Rattle.osc_heap.proofs.pages.HeldPages.clear.Goals as goal

pub give_table-requires : goal.give_table-requires
give_table-requires c = (can_parts first_page c.args.self.now.table c.args.self.now.rest.items c.args.frames.now c.requires.taken).0

pub give_all-requires : goal.give_all-requires
give_all-requires c = rw (c.deref.ensures.value, c.give_table.ensures) (can_parts first_page c.args.self.now.table c.args.self.now.rest.items c.args.frames.now c.requires.taken).1

pub returns-clause-pages : goal.returns-clause-pages
returns-clause-pages c = rw (c.clear.ensures, c.clear-2.ensures.items) (no_table first_page (length c.args.self.now.table) _)

pub returns-clause-free : goal.returns-clause-free
returns-clause-free c =
    (rw (c.deref.ensures.value, c.give_table.ensures) at c.give_all.ensures) ∙ sym (give_parts first_page c.args.self.now.table c.args.self.now.rest.items c.args.frames.now)

pub returns-clause-held : goal.returns-clause-held
returns-clause-held c = rw c.clear-2.ensures.items (none_above (0x1FFFFFF + length c.clear.new.self))
