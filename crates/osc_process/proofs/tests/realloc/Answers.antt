-- What the realloc gives back can be returned, and the process stands in its machine again.
use Rattle.osc_release.specs.Outcomes.{found_of}
use Rattle.osc_process.proofs.Standing.{realloc_returns, realloc_after}
use Rattle.osc_process.proofs.tests.realloc.Goals as goal

pub finish-requires : goal.finish-requires
finish-requires c =
    let m = c.args.m.now in
    let a = c.realloc-answer in
    record {
      returns = realloc_returns m.config m.process m.regions m.frames m.jobs c.requires.stands c.clear.new.self a.new.jobs c.clear.ensures
          c.args.call c.args.pointer c.args.n (found_of c.args.found) a.result a.new.closing a.new.self a.new.frames a.ensures.plan;
    }

pub returns : goal.returns
returns c =
    let m = c.args.m.now in
    let a = c.realloc-answer in
    record {
      stands = realloc_after m.config m.process m.regions m.frames m.jobs c.requires.stands c.clear.new.self a.new.jobs c.clear.ensures
          c.args.call c.args.pointer c.args.n (found_of c.args.found) a.result a.new.closing a.new.self c.finish.new.self a.new.frames c.finish.new.frames
          a.ensures.plan a.ensures.sizes c.finish.ensures.sizes a.ensures.room c.finish.ensures.after;
    }
