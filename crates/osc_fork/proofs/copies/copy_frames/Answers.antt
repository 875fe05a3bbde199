-- One frame more is named.
use Rattle.std.proofs.Common.{◌<◌, ◌∙◌, length, arith, sym}
use Rattle.std.proofs.lemmas.List.{set-get_or}
use Rattle.osc_fork.proofs.Copying.{copying_one, copying_other, all_copied}
use Rattle.osc_fork.proofs.copies.copy_frames.Goals as goal
use Rattle.osc_fork.proofs.copies.copy_frames.Goals.{then-name, else-name}

pub loop-from-preserved : goal.loop-from-preserved
loop-from-preserved c =
    let within : c.loop-from.from < length c.loop-from.names = omega (arith, c.loop-from-test.true, c.loop-from.auto.names) in
    elim c.if-name.branch [
      | then-name w ↦
          rw (w.names-is, w.frames-is, w.jobs-is, w.copy_frame.ensures.taken, w.copy_frame.ensures.pushed)
          (copying_one c.args.tables.now c.loop-from.from w.copy_frame.result c.args.names.now c.loop-from.names c.args.frames.now c.loop-from.frames c.args.jobs.now c.loop-from.jobs within w.if-name.true w.copy_frame.ensures.least c.loop-from.invariant)
      | else-name w ↦
          let own = sym (c.loop-from.invariant.ahead c.loop-from.from (omega arith)) in
          let unchanged = set-get_or c.loop-from.names c.loop-from.from 0 in
          rw (w.names-is, w.frames-is, w.jobs-is, unchanged)
          (copying_other c.args.tables.now c.loop-from.from c.args.names.now c.loop-from.names c.args.frames.now c.loop-from.frames c.args.jobs.now c.loop-from.jobs within w.if-name.false
          (c.requires.others c.loop-from.from (omega (arith, within, c.loop-from.invariant.size)) (λ e. w.if-name.false (sym own ∙ e))) c.loop-from.invariant)
    ]

pub returns-clause-names : goal.returns-clause-names
returns-clause-names c =
    (all_copied c.args.tables.now c.loop-from.from c.args.names.now c.loop-from.names c.args.frames.now c.loop-from.frames c.args.jobs.now c.loop-from.jobs (omega (arith, c.loop-from-test.false, c.loop-from.auto.names)) c.loop-from.invariant).names_are
