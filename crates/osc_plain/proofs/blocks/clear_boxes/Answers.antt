-- One box more.
use Rattle.std.proofs.Common.{arith, ap, ◌≡◌, ◌++◌, ◌∷◌, [], ◌∙◌, length}
use Rattle.std.proofs.lemmas.List.{length-append}
use Rattle.osc_word.specs.declared.job_list.Job.TheVariants.{ClearBox}
use Rattle.osc_shadow.proofs.Cuts.{push_next, push_none}
use Rattle.osc_shadow.proofs.Clears.{next_clear, no_clear}
use Rattle.osc_plain.proofs.blocks.clear_boxes.Goals as goal

pub loop-hart-preserved : goal.loop-hart-preserved
loop-hart-preserved c =
    let pushed : c.push.new.self.pushed ≡ c.loop-hart.jobs.pushed ++ (ClearBox c.loop-hart.hart ∷ []) = (let e = c.push.ensures in cc) in
    let room : c.push.new.self.room ≡ c.loop-hart.jobs.room = (let e = c.push.ensures in cc) in
    let long = ap length pushed ∙ length-append c.loop-hart.jobs.pushed (ClearBox c.loop-hart.hart ∷ []) in
    record {
      pushed = push_next _ _ _ _ _ _ pushed (next_clear c.args.harts c.loop-hart.hart (omega arith)) c.loop-hart.invariant.pushed;
      few = omega arith;
      room = room ∙ c.loop-hart.invariant.room;
    }

pub returns-clause-pushed : goal.returns-clause-pushed
returns-clause-pushed c = push_none _ _ _ (no_clear c.args.harts c.loop-hart.hart (omega arith)) c.loop-hart.invariant.pushed
