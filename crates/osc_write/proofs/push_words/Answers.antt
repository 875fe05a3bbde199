-- One page more is pushed.
use Rattle.std.proofs.Common.{◌∙◌, ◌++◌, arith}
use Rattle.osc_calls.specs.WritePlan.{out_jobs}
use Rattle.osc_write.proofs.Plans.{page_pushed, page_fits, all_pushed}
use Rattle.osc_write.proofs.push_words.Goals as goal

pub push_page-requires-clause-room : goal.push_page-requires-clause-room
push_page-requires-clause-room c =
    omega (
      arith,
      page_fits c.args.tables.now c.loop-left.jobs.pushed c.args.jobs.now.pushed (out_jobs c.args.tables.now c.args.buf c.args.count) c.loop-left.at c.loop-left.left c.min-bytes.result
          c.min-bytes.ensures c.loop-left.invariant.rest,
      c.loop-left.invariant.room,
      c.requires.room,
    )

pub loop-left-preserved : goal.loop-left-preserved
loop-left-preserved c = record {
  rest =
      page_pushed c.args.tables.now (c.args.jobs.now.pushed ++ out_jobs c.args.tables.now c.args.buf c.args.count) c.loop-left.jobs.pushed c.push_page.new.jobs.pushed c.loop-left.at c.loop-left.left c.min-bytes.result
      c.min-bytes.ensures c.loop-left.invariant.rest c.push_page.ensures.pushed;
  end = omega (arith, c.loop-left.invariant.end, c.min-bytes.ensures);
  room = c.push_page.ensures.room ∙ c.loop-left.invariant.room;
}

pub returns-clause-pushed : goal.returns-clause-pushed
returns-clause-pushed c =
    all_pushed c.args.tables.now (c.args.jobs.now.pushed ++ out_jobs c.args.tables.now c.args.buf c.args.count) c.loop-left.jobs.pushed c.loop-left.at c.loop-left.left
    (omega (arith, c.loop-left-test.false)) c.loop-left.invariant.rest
