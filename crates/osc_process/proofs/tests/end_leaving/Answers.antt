-- A process that stands in its machine can end.
use Rattle.osc_process.proofs.Standing.{can_end}
use Rattle.osc_process.proofs.tests.end_leaving.Goals as goal

pub end-requires : goal.end-requires
end-requires g c =
    let m = c.args.m.now in
    record { can = can_end m.config m.process m.regions m.frames m.jobs c.requires.stands }
