-- The sizes stay.
use Rattle.std.proofs.Common.{◌≡◌, ◌∙◌, refl, ap, subst, sym}
use Rattle.osc_paging.specs.KeptTables.{KeptTables}
use Rattle.osc_space.specs.Share.{Sharing}
use Rattle.osc_parts.proofs.Shapes.{SameShape}
use Rattle.osc_share.specs.Plan.{sharing}
use Rattle.osc_shadow.specs.Parts.{space_of}
use Rattle.osc_calls.specs.Kernel.{Process}
use Rattle.osc_process.specs.Parts.{SameSizes}
use Rattle.osc_process.proofs.Forks.{share_shape}
use Rattle.osc_process.proofs.rooms.Process.share.Goals as goal

pub returns-clause-sizes : goal.returns-clause-sizes
returns-clause-sizes c =
    let i = c.self.inside in
    let t = c.plan_share.new.tables in
    let shape : SameShape i.space.tables t = subst (λ (s : Sharing). SameShape i.space.tables s.tables) (sym c.in-Given.ensures.plan.2)
    (share_shape c.args.n (sharing i.space.tables c.args.regions.now c.args.frames.now c.args.jobs.now.pushed)) in
    subst (λ (p : Process). SameSizes p.space (space_of t i.space.marks i.space.heap i.waiting)) c.self.view_is
    (record { top = shape.top; count = shape.count; room = shape.room; shadows = refl; frames = refl })
