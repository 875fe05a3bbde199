-- The frames that were found are the private ones.
use Rattle.std.proofs.Common.{◌≡◌, ◌<◌, ◌≤◌, ◌∙◌, nat_lt, Bool, true, false, cond, Some, None, List, length, arith, refl, sym, subst}
use Rattle.std.proofs.lemmas.Bool.Decides.{nat_tests}
use Rattle.osc_word.specs.declared.calls.Answer.TheVariants.{NoFrames}
use Rattle.osc_frames.specs.Free.{free_count}
use Rattle.osc_space.specs.Fork.{fork_reasons}
use Rattle.osc_space.specs.Space.{first_reason}
use Rattle.osc_fork.specs.Names.{Known, marked_frames}
use Rattle.osc_fork.specs.Plan.{space_of}
use Rattle.osc_fork.proofs.Known.{images_small, canons_small, count_is}
use Rattle.osc_fork.proofs.Forks.{known_names, refused_by}
use Rattle.osc_fork.proofs.plan.lacks_frames.Goals as goal

pub mark_pages-requires-clause-frames : goal.mark_pages-requires-clause-frames
mark_pages-requires-clause-frames c =
    let parts = c.requires.agrees in
    let small = images_small (space_of c.args.tables.now c.args.marks.now c.args.heap.now parts.waiting) c.args.frames.now parts.agrees.ranges parts.agrees.taken in
    λ k d l. (let s = small k d l in omega (arith, s, c.mark_tables.auto.names, c.requires.names))

pub mark_pages-requires-2-clause-frames : goal.mark_pages-requires-2-clause-frames
mark_pages-requires-2-clause-frames c =
    let parts = c.requires.agrees in
    let small = canons_small parts.kind (space_of c.args.tables.now c.args.marks.now c.args.heap.now parts.waiting) c.args.frames.now parts.agrees.heap c.mark_pages.ensures.order.ascend parts.agrees.taken in
    λ k d l. (let s = small k d l in omega (arith, s, c.mark_pages.auto.names, c.mark_tables.auto.names, c.requires.names))

pub returns-clause-known : goal.returns-clause-known
returns-clause-known c waiting =
    known_names c.args.tables.now c.args.marks.now c.args.heap.now c.args.frames.now c.mark_tables.new.names c.mark_pages.new.names c.mark_pages-2.new.names c.mark_objects.new.names c.requires.agrees c.mark_pages.ensures.order.ascend c.mark_objects.ensures.valid
    (c.mark_tables.auto.names ∙ c.requires.names) c.mark_tables.ensures c.mark_pages.ensures.names c.mark_pages-2.ensures.names c.mark_objects.ensures.more c.mark_objects.ensures.found waiting

pub returns-clause-count : goal.returns-clause-count
returns-clause-count c =
    let count = c.count_marked.ensures ∙ count_is c.mark_objects.new.names in
    let free = c.free_count.ensures in
    grind (arith, nat_tests, count, free)

pub returns-clause-refused : goal.returns-clause-refused
returns-clause-refused c waiting =
    let k = known_names c.args.tables.now c.args.marks.now c.args.heap.now c.args.frames.now c.mark_tables.new.names c.mark_pages.new.names c.mark_pages-2.new.names c.mark_objects.new.names c.requires.agrees c.mark_pages.ensures.order.ascend c.mark_objects.ensures.valid
    (c.mark_tables.auto.names ∙ c.requires.names) c.mark_tables.ensures c.mark_pages.ensures.names c.mark_pages-2.ensures.names c.mark_objects.ensures.more c.mark_objects.ensures.found waiting in
    let count = c.count_marked.ensures ∙ count_is c.mark_objects.new.names in
    let free = c.free_count.ensures in
    refused_by (space_of c.args.tables.now c.args.marks.now c.args.heap.now waiting) c.args.frames.now c.mark_objects.new.names (nat_lt c.free_count.result c.count_marked.result) c.requires.agrees.few k (grind (arith, nat_tests, count, free))
