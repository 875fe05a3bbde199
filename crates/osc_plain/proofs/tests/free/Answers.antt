-- A process that is settled has parts that agree.
use Rattle.std.proofs.Common.{◌≡◌, arith, ap, length}
use Rattle.osc_plain.proofs.tests.free.Goals as goal

pub plain_free-got-requires-clause-agree : goal.plain_free-got-requires-clause-agree
plain_free-got-requires-clause-agree g c = record {
  free = c.args.m.now.frames;
  agree = record {
    few = c.requires.settled.settled.tables.small;
    shadows = 8;
    regions = c.requires.settled.regions;
    agrees = c.requires.settled.settled.parts.agrees;
  };
}

pub plain_free-got-requires-clause-spare : goal.plain_free-got-requires-clause-spare
plain_free-got-requires-clause-spare g c =
    let none : length c.args.m.now.jobs.pushed ≡ 0 = ap length c.requires.none in
    let small = c.requires.settled.settled.tables.small in
    let frames = c.requires.settled.settled.parts.agrees.frames in
    let room = c.requires.room in
    omega arith
