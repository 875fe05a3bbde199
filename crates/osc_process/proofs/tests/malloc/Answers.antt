-- The process stands in its machine again.
use Rattle.osc_process.proofs.Standing.{malloc_after}
use Rattle.osc_process.proofs.tests.malloc.Goals as goal

pub returns : goal.returns
returns c =
    let m = c.args.m.now in
    let a = c.malloc-answer in
    record {
      stands = malloc_after m.config m.process m.regions m.frames m.jobs c.requires.stands c.clear.new.self a.new.jobs c.clear.ensures
          c.args.n a.result a.new.self a.new.frames a.ensures.plan a.ensures.sizes a.ensures.room;
    }
