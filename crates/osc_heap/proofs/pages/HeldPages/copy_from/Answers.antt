-- The table and the later pages are copied.
use Rattle.std.proofs.Common.{◌+◌, length, arith, sym}
use Rattle.osc_slot.specs.Areas.{first_page}
use Rattle.osc_heap.proofs.Held.{length_renamed, have_parts, rest_le, no_rest, map_table, above_map}
use Rattle.osc_heap.proofs.pages.HeldPages.copy_from.Goals as goal

pub copy_from-requires-clause-names : goal.copy_from-requires-clause-names
copy_from-requires-clause-names c = (have_parts (length c.args.names.now) first_page c.args.other.now.table c.args.other.now.rest.items c.requires.names).0

pub copy_all-requires-clause-empty : goal.copy_all-requires-clause-empty
copy_all-requires-clause-empty c = no_rest first_page c.args.self.now.table c.args.self.now.rest.items c.requires.empty

pub copy_all-requires-clause-room : goal.copy_all-requires-clause-room
copy_all-requires-clause-room c =
    let few = rest_le first_page c.args.other.now.table c.args.other.now.rest.items in
    let room = c.requires.room in
    rw c.deref.ensures.value (omega arith)

pub copy_all-requires-clause-names : goal.copy_all-requires-clause-names
copy_all-requires-clause-names c = rw c.deref.ensures.value (have_parts (length c.args.names.now) first_page c.args.other.now.table c.args.other.now.rest.items c.requires.names).1

pub returns-clause-pages : goal.returns-clause-pages
returns-clause-pages c =
    rw (c.copy_from.ensures, c.copy_all.ensures.pages, c.deref.ensures.value) (sym (map_table c.args.names.now first_page c.args.other.now.table c.args.other.now.rest.items))

pub returns-clause-held : goal.returns-clause-held
returns-clause-held c =
    let long = length_renamed c.args.names.now c.args.other.now.table in
    rw (c.copy_from.ensures, c.copy_all.ensures.pages, c.deref.ensures.value, long) (above_map (0x1FFFFFF + length c.args.other.now.table) c.args.names.now c.args.other.now.rest.items c.requires.held.1)
