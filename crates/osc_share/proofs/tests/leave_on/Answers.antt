-- The machine keeps its frames.
use Rattle.std.proofs.Common.{◌∙◌, ap, length}
use Rattle.osc_space.specs.Share.{RegionsAndFree}
use Rattle.osc_share.specs.Holding.{regions_and_free}
use Rattle.osc_share.proofs.Holds.{lengths_leave}
use Rattle.osc_share.proofs.tests.leave_on.Goals as goal

pub returns-clause-regions : goal.returns-clause-regions
returns-clause-regions g c =
    ap (λ (r : RegionsAndFree). length r.regions) c.leave.ensures ∙
    ((lengths_leave c.args.tables.now (regions_and_free c.args.regions.now c.args.frames.now)).regions ∙ c.requires.regions)

pub returns-clause-frames : goal.returns-clause-frames
returns-clause-frames g c =
    ap (λ (r : RegionsAndFree). length r.free) c.leave.ensures ∙
    ((lengths_leave c.args.tables.now (regions_and_free c.args.regions.now c.args.frames.now)).free ∙ c.requires.frames)
