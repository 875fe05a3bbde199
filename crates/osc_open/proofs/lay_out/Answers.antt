-- The root is in frame 0, and then all pages can be laid.
use Rattle.std.proofs.Common.{ℕ, ◌∙◌, Option, Some, rules, ap, sym, subst}
use Rattle.std.specs.Prelude.{IsSome}
use Rattle.osc_paging.specs.TableChanges.{opened}
use Rattle.osc_calls.specs.Open.{lay_all, rooted}
use Rattle.osc_open.specs.Laying.{pages_of}
use Rattle.osc_open.specs.Row.{CanLay, alike}
use Rattle.osc_open.proofs.Start.{can_lay_start, laid_all, read_and_write, root_frame, root_is, root_left, rooted_is, some_frame, stack_alike}
use Rattle.osc_open.proofs.lay_out.Goals as goal

pub unwrap-root-requires : goal.unwrap-root-requires
unwrap-root-requires c =
    let some = some_frame c.args.config.now.levels c.args.config.now.frames (pages_of c.args.pages.now) c.requires.enough in
    let there : IsSome {T = ℕ} (Some 0) = search rules in
    subst (λ (x : Option ℕ). IsSome x) (sym (root_is c.args.config.now.frames c.args.frames.now c.take.result some c.requires.free c.take.ensures.least)) there

pub lay_image-requires-clause-can : goal.lay_image-requires-clause-can
lay_image-requires-clause-can c =
    let config = c.args.config.now in
    let some = some_frame config.levels config.frames (pages_of c.args.pages.now) c.requires.enough in
    let zero = root_frame config.frames c.unwrap-root.result c.args.frames.now c.take.result some c.requires.free c.take.ensures.least c.unwrap-root.ensures in
    let left = root_left config.frames c.args.frames.now c.take.new.self c.take.result some c.requires.free c.take.ensures.least c.take.ensures.after in
    can_lay_start config (pages_of c.args.pages.now) c.open.new.self c.take.new.self c.args.jobs.now c.requires.levels c.requires.pages c.requires.enough c.requires.spare
    (c.open.ensures ∙ (ap (λ n. opened n c.args.tables.now) zero ∙ ap (opened 0) c.requires.tables)) left

pub lay_alike-requires-clause-can : goal.lay_alike-requires-clause-can
lay_alike-requires-clause-can c =
    subst (λ ps. CanLay c.args.config.now.frames ps c.lay_image.new.tables c.lay_image.new.frames c.lay_image.new.jobs) stack_alike c.lay_image.ensures.stack

pub returns-clause-laid : goal.returns-clause-laid
returns-clause-laid c =
    let config = c.args.config.now in
    let ps = pages_of c.args.pages.now in
    let some = some_frame config.levels config.frames ps c.requires.enough in
    let zero = root_frame config.frames c.unwrap-root.result c.args.frames.now c.take.result some c.requires.free c.take.ensures.least c.unwrap-root.ensures in
    let left = root_left config.frames c.args.frames.now c.take.new.self c.take.result some c.requires.free c.take.ensures.least c.take.ensures.after in
    let first = rooted_is config c.unwrap-root.result c.args.tables.now c.open.new.self c.take.new.self c.args.jobs.now.pushed zero c.requires.tables c.open.ensures left c.requires.jobs in
    c.lay_alike.ensures.next
    ∙ (ap (λ d. lay_all (alike 0x1000F0 16 read_and_write) d) (c.lay_image.ensures.next ∙ ap (lay_all ps) first)
    ∙ laid_all ps (rooted config))
