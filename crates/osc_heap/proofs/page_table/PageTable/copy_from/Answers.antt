-- The entries are copied, each with the frame that is named for its own.
use Rattle.std.proofs.Common.{ℕ, ◌≡◌, ◌<◌, ◌≤◌, ◌*◌, Option, Some, None, List, length, map, get_or, subst, sym, ap, ◌∙◌, arith}
use Rattle.osc_slot.specs.Areas.{first_page}
use Rattle.osc_slot.specs.Heap.{HaveFrames}
use Rattle.osc_heap.specs.Layout.{pages_from, renamed}
use Rattle.osc_heap.specs.Table.{table_of}
use Rattle.osc_heap.proofs.Held.{length_renamed}
use Rattle.osc_heap.proofs.Tables.{same_frames, entry_named, renamed_table}
use Rattle.osc_heap.proofs.page_table.PageTable.copy_from.Goals as goal

pub copy_entries-requires-clause-room : goal.copy_entries-requires-clause-room
copy_entries-requires-clause-room c =
    let same = same_frames c.self.inside.frames c.other.inside.frames c.self.inside.entries.items c.other.inside.entries.items c.args.self.now c.args.other.now c.self.view_is c.other.view_is c.requires.lengths in
    let few = c.other.invariant.1 in
    let room = c.self.invariant.2 in
    rw c.deref.ensures.value (omega (arith, c.clear.ensures.capacity))

pub copy_entries-requires-clause-names : goal.copy_entries-requires-clause-names
copy_entries-requires-clause-names c = rw c.deref.ensures.value (λ at frame l e.
    entry_named c.other.inside.frames (length c.args.names.now) at frame c.other.inside.entries.items c.args.other.now c.other.view_is c.other.invariant.1 c.requires.names l e)

pub invariant_of-self : goal.invariant_of-self
invariant_of-self c =
    let same = same_frames c.self.inside.frames c.other.inside.frames c.self.inside.entries.items c.other.inside.entries.items c.args.self.now c.args.other.now c.self.view_is c.other.view_is c.requires.lengths in
    let few = c.other.invariant.1 in
    let room = c.self.invariant.2 in
    let long = length_renamed c.args.names.now c.other.inside.entries.items in
    (c.self.invariant.0, rw (c.copy_entries.ensures.entries, c.deref.ensures.value) (omega arith), omega (arith, c.clear.ensures.capacity, c.copy_entries.ensures.room))

pub returns : goal.returns
returns c =
    let same = same_frames c.self.inside.frames c.other.inside.frames c.self.inside.entries.items c.other.inside.entries.items c.args.self.now c.args.other.now c.self.view_is c.other.view_is c.requires.lengths in
    let entries : c.copy_entries.new.into.items ≡ map (renamed c.args.names.now) c.other.inside.entries.items = rw c.deref.ensures.value at c.copy_entries.ensures.entries in
    ap (λ (es : List (Option ℕ)). table_of c.self.inside.frames es) entries
    ∙ ap (λ (n : ℕ). table_of n (map (renamed c.args.names.now) c.other.inside.entries.items)) same
    ∙ renamed_table c.other.inside.frames c.args.names.now c.other.inside.entries.items
    ∙ ap (λ (table : List (Option ℕ)). map (renamed c.args.names.now) table) c.other.view_is
