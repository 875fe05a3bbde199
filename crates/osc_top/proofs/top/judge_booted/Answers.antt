use Rattle.std.proofs.Common.{◌≡◌, length, true, Some, sym, ap, subst, ◌∙◌}
use Rattle.std.proofs.lemmas.List.{with_items_is}
use Rattle.std.specs.Vec.{with_items}
use Rattle.osc_machine.specs.Parts.{State}
use Rattle.osc_core.specs.Shared.{state_of}
use Rattle.osc_core.specs.Sound.{Sound}
use Rattle.osc_judged.specs.Judged.{judged_over}
use Rattle.osc_top.proofs.Runs.{judges, ran-over, ran-spent, ran-guest}
use Rattle.osc_top.proofs.top.judge_booted.Goals as goal

pub returns-in-Over : goal.returns-in-Over
returns-in-Over c =
    let ran = c.in_ok-ended.ensures in
    let task = c.args.task.now in
    let harts = with_items_is c.args.booted.harts c.run_judged.new.harts (c.run_judged.auto.harts ∙ c.deref_mut.ensures.len) in
    let before : state_of c.args.booted.machine c.deref_mut.result.now ≡ state_of c.args.booted.machine c.args.booted.harts.items = ap (state_of c.args.booted.machine) c.deref_mut.ensures.value in
    let after : state_of c.run_judged.new.machine (with_items c.args.booted.harts c.run_judged.new.harts).items ≡ state_of c.run_judged.new.machine c.run_judged.new.harts = ap (state_of c.run_judged.new.machine) harts in
    record {
      gives = ran-over true task c.args.image.now _ _ _ _ c.in-Over.picks _ before after ran.state (sym ran.end ∙ c.in-Over.is)
          (ap Some c.verdict_of.ensures ∙ judges c.args.image.now task.config _ _ _ (ran.world ∙ ap (judged_over _) c.in_ok-world.ensures) ran.error);
      guest = ran-guest task _ _ _ _ c.requires.ends before after ran.state;
      sound = subst Sound (sym after) ran.sound;
    }

pub returns-in-Spent : goal.returns-in-Spent
returns-in-Spent c =
    let ran = c.in_ok-ended.ensures in
    let before : state_of c.args.booted.machine c.deref_mut.result.now ≡ state_of c.args.booted.machine c.args.booted.harts.items = ap (state_of c.args.booted.machine) c.deref_mut.ensures.value in
    record {
      gives = ran-spent true c.args.task.now c.args.image.now _ _ _ before ran.state (sym ran.end ∙ c.in-Spent.is);
      guest = tt;
      sound = tt;
    }
