-- One word more is pushed. All bytes lie in the page of the first one.
use Rattle.std.proofs.Common.{◌≡◌, ◌∙◌, ◌/◌, ◌%◌, ◌++◌, ◌∷◌, [], arith, ap}
use Rattle.std.specs.Prelude.{unwrap_or}
use Rattle.osc_word.specs.declared.job_list.Job.TheVariants.{ToOut}
use Rattle.osc_sv39.specs.declared.entries.Access.TheVariants.{Load}
use Rattle.osc_sv39.specs.Walk.{frame_allowed}
use Rattle.osc_paging.specs.KeptTables.{mapping_of}
use Rattle.osc_calls.specs.WritePlan.{load_frame, out_jobs}
use Rattle.osc_write.proofs.Plans.{word_pushed, word_fits, all_pushed}
use Rattle.osc_write.proofs.push_page.Goals as goal

pub push-requires : goal.push-requires
push-requires c =
    omega (
      arith,
      word_fits c.args.tables.now c.loop-left.jobs.pushed c.args.jobs.now.pushed (out_jobs c.args.tables.now c.args.from c.args.count) c.loop-left.at c.loop-left.left
          (omega (arith, c.loop-left-test.true)) c.loop-left.invariant.rest,
      c.loop-left.invariant.room,
      c.requires.room,
    )

pub loop-left-preserved : goal.loop-left-preserved
loop-left-preserved c =
    let t = c.args.tables.now in
    let at = c.loop-left.at in
    let bytes = c.min-bytes.result in
    let page : c.args.from / 4096 ≡ at / 4096 = omega (arith, c.loop-left.invariant.start, c.loop-left.invariant.end, c.requires.page, c.loop-left-test.true) in
    let frame : c.unwrap_or-frame.result ≡ unwrap_or (load_frame t at) 0 =
    c.unwrap_or-frame.ensures ∙ ap (λ o. unwrap_or o 0) (c.load_frame.ensures ∙ ap (λ p. frame_allowed Load (mapping_of t p)) page) in
    let job = ap (λ f. c.loop-left.jobs.pushed ++ ToOut (record { frame = f; index = at % 4096 / 8 }) (at % 8) bytes ∷ []) frame in
    record {
      rest =
          word_pushed t (c.args.jobs.now.pushed ++ out_jobs t c.args.from c.args.count) c.loop-left.jobs.pushed c.push.new.self.pushed at c.loop-left.left bytes
          (omega (arith, c.loop-left-test.true)) c.min-bytes.ensures c.loop-left.invariant.rest (ap (λ j. j.pushed) c.push.ensures ∙ job);
      start = omega (arith, c.loop-left.invariant.start);
      end = omega (arith, c.loop-left.invariant.end, c.min-bytes.ensures);
      room = ap (λ j. j.room) c.push.ensures ∙ c.loop-left.invariant.room;
    }

pub returns-clause-pushed : goal.returns-clause-pushed
returns-clause-pushed c =
    all_pushed c.args.tables.now (c.args.jobs.now.pushed ++ out_jobs c.args.tables.now c.args.from c.args.count) c.loop-left.jobs.pushed c.loop-left.at c.loop-left.left
    (omega (arith, c.loop-left-test.false)) c.loop-left.invariant.rest
