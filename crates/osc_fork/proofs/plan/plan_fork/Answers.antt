-- The frames that were found are the private ones, and their copies are those of the plan.
use Rattle.std.proofs.Common.{◌≡◌, ◌<◌, ◌≤◌, ◌∙◌, nat_lt, true, false, cond, Some, None, arith, refl, ap, sym, subst}
use Rattle.std.proofs.lemmas.Bool.Decides.{nat_tests}
use Rattle.osc_word.specs.declared.calls.Answer.TheVariants.{NoFrames}
use Rattle.osc_slot.specs.Heap.{AreNames}
use Rattle.osc_tables.specs.Calls.{CanRename}
use Rattle.osc_fork.specs.Plan.{space_of, forking}
use Rattle.osc_fork.proofs.Forks.{is_none, is_forked, names_are, can_rename, are_names, stands_for_itself}
use Rattle.osc_fork.proofs.Fitting.{copied_fits}
use Rattle.osc_fork.proofs.plan.plan_fork.Goals as goal

pub returns-then-lacks_frames-clause-plan : goal.returns-then-lacks_frames-clause-plan
returns-then-lacks_frames-clause-plan c waiting = (c.lacks_frames.ensures.refused waiting ∙ ap (λ b. cond b (Some NoFrames) None) c.if-lacks_frames.true, refl)

pub copy_frames-requires-clause-others : goal.copy_frames-requires-clause-others
copy_frames-requires-clause-others c frame l ne =
    let k = c.lacks_frames.ensures.known c.requires.agrees.waiting in
    stands_for_itself (space_of c.args.tables.now c.args.marks.now c.args.heap.now c.requires.agrees.waiting) c.args.frames.now c.lacks_frames.new.names k frame l ne

pub copy_frames-requires-clause-enough : goal.copy_frames-requires-clause-enough
copy_frames-requires-clause-enough c =
    let count = sym c.lacks_frames.ensures.count ∙ c.if-lacks_frames.false in
    grind (arith, nat_tests, count)

pub copy_to-requires-clause-names : goal.copy_to-requires-clause-names
copy_to-requires-clause-names c =
    let parts = c.requires.agrees in
    let s = space_of c.args.tables.now c.args.marks.now c.args.heap.now parts.waiting in
    let k = c.lacks_frames.ensures.known parts.waiting in
    let count = sym c.lacks_frames.ensures.count ∙ c.if-lacks_frames.false in
    let none = is_none s c.args.frames.now c.lacks_frames.new.names parts.few k (grind (arith, nat_tests, count)) in
    subst (λ names. CanRename c.args.tables.now names) (sym (names_are s c.args.frames.now c.lacks_frames.new.names c.copy_frames.new.names parts.few k c.copy_frames.ensures.names))
    (can_rename parts.kind s parts.regions c.args.frames.now parts.agrees c.lacks_frames.ensures.order.ascend none)

pub copy_to-requires-3-clause-names : goal.copy_to-requires-3-clause-names
copy_to-requires-3-clause-names c =
    let parts = c.requires.agrees in
    let s = space_of c.args.tables.now c.args.marks.now c.args.heap.now parts.waiting in
    let k = c.lacks_frames.ensures.known parts.waiting in
    let count = sym c.lacks_frames.ensures.count ∙ c.if-lacks_frames.false in
    let none = is_none s c.args.frames.now c.lacks_frames.new.names parts.few k (grind (arith, nat_tests, count)) in
    subst (λ names. AreNames c.args.heap.now.frames names c.args.heap.now.pages) (sym (names_are s c.args.frames.now c.lacks_frames.new.names c.copy_frames.new.names parts.few k c.copy_frames.ensures.names))
    (are_names parts.kind s parts.regions c.args.frames.now parts.agrees none)

pub returns-clause-plan : goal.returns-clause-plan
returns-clause-plan c waiting =
    let k = c.lacks_frames.ensures.known waiting in
    let count = sym c.lacks_frames.ensures.count ∙ c.if-lacks_frames.false in
    let forked =
    is_forked c.args.tables.now c.args.marks.now c.args.heap.now waiting (forking c.args.child_tables.now c.args.child_marks.now c.args.child_heap.now c.args.frames.now c.args.jobs.now.pushed)
    c.lacks_frames.new.names c.copy_frames.new.names c.copy_frames.new.frames c.copy_frames.new.jobs.pushed c.requires.agrees.few k
    (grind (arith, nat_tests, count)) c.copy_frames.ensures.names c.copy_frames.ensures.frames c.copy_frames.ensures.pushed in
    rw (c.copy_to.ensures, c.copy_to-2.ensures.child, c.copy_to-3.ensures.child) forked

pub returns-clause-fits : goal.returns-clause-fits
returns-clause-fits c waiting =
    copied_fits (space_of c.args.tables.now c.args.marks.now c.args.heap.now waiting) (forking c.args.child_tables.now c.args.child_marks.now c.args.child_heap.now c.args.frames.now c.args.jobs.now.pushed)
    (forking c.copy_to.new.child c.copy_to-2.new.child c.copy_to-3.new.child c.copy_frames.new.frames c.copy_frames.new.jobs.pushed) c.copy_frames.new.names (returns-clause-plan c waiting)
