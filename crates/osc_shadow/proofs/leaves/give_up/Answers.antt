-- A dead leaf table has no entry.
use Rattle.std.proofs.Common.{◌≡◌, true}
use Rattle.std.specs.Prelude.{is_some}
use Rattle.osc_paging.specs.KeptTables.{frame_of}
use Rattle.osc_space.specs.Objects.{leaf_dead}
use Rattle.osc_tables.specs.Calls.{changed}
use Rattle.osc_shadow.proofs.GivenUp.{is_empty_leaf, is_given_up}
use Rattle.osc_shadow.proofs.leaves.give_up.Goals as goal

pub reclaim-requires-clause-leaf : goal.reclaim-requires-clause-leaf
reclaim-requires-clause-leaf c =
    let dead : leaf_dead c.args.marks.now.objects c.args.leaf ≡ true = (let e = c.leaf_dead.ensures.dead in let f = c.if-leaf_dead.true in cc) in
    let there : is_some (frame_of c.args.tables.now.tables 0 c.args.leaf) ≡ true = (let e = c.is_linked.ensures in let f = c.if-is_linked.true in cc) in
    is_empty_leaf c.args.tables.now c.args.marks.now c.args.leaf c.requires.top c.leaf_dead.ensures.valid c.requires.shadows dead there

pub returns-then-is_linked-clause-next : goal.returns-then-is_linked-clause-next
returns-then-is_linked-clause-next c free =
    let dead : leaf_dead c.args.marks.now.objects c.args.leaf ≡ true = (let e = c.leaf_dead.ensures.dead in let f = c.if-leaf_dead.true in cc) in
    let there : is_some (frame_of c.args.tables.now.tables 0 c.args.leaf) ≡ true = (let e = c.is_linked.ensures in let f = c.if-is_linked.true in cc) in
    is_given_up c.args.tables.now c.args.marks.now c.args.leaf (changed c.args.tables.now free c.args.jobs.now.pushed) (changed c.reclaim.new.self free c.reclaim.new.jobs.pushed) c.requires.top c.leaf_dead.ensures.valid dead there (c.reclaim.ensures.next free)
