use Rattle.std.proofs.Common.{◌≡◌, length, false, refl, sym, ap, subst, ◌∙◌}
use Rattle.std.specs.Prelude.{List}
use Rattle.std.proofs.lemmas.List.{with_items_is}
use Rattle.std.specs.Vec.{with_items}
use Rattle.osc_machine.specs.Parts.{State}
use Rattle.osc_machine.specs.Run.{run}
use Rattle.osc_core.specs.Shared.{state_of}
use Rattle.osc_core.specs.Sound.{Sound}
use Rattle.osc_top.proofs.Runs.{picks_of, ran-over, ran-spent, ran-guest}
use Rattle.osc_top.proofs.top.run_booted.Goals as goal

pub returns-in-Over : goal.returns-in-Over
returns-in-Over c image =
    let ran = c.run_seeded.ensures in
    let task = c.args.task.now in
    let harts = with_items_is c.args.booted.harts c.run_seeded.new.harts (c.run_seeded.auto.harts ∙ c.deref_mut.ensures.len) in
    let before : state_of c.args.booted.machine c.deref_mut.result.now ≡ state_of c.args.booted.machine c.args.booted.harts.items = ap (state_of c.args.booted.machine) c.deref_mut.ensures.value in
    let after : state_of c.run_seeded.new.machine (with_items c.args.booted.harts c.run_seeded.new.harts).items ≡ state_of c.run_seeded.new.machine c.run_seeded.new.harts = ap (state_of c.run_seeded.new.machine) harts in
    record {
      gives = ran-over false task image _ _ _ _ c.in-Over.picks _ before after ran.state (sym ran.end ∙ c.in-Over.is) refl;
      guest = ran-guest task _ _ _ _ c.requires.ends before after ran.state;
      sound = subst Sound (sym after) ran.sound;
    }

pub returns-in-Spent : goal.returns-in-Spent
returns-in-Spent c image =
    let ran = c.run_seeded.ensures in
    let before : state_of c.args.booted.machine c.deref_mut.result.now ≡ state_of c.args.booted.machine c.args.booted.harts.items = ap (state_of c.args.booted.machine) c.deref_mut.ensures.value in
    record {
      gives = ran-spent false c.args.task.now image _ _ _ before ran.state (sym ran.end ∙ c.in-Spent.is);
      guest = tt;
      sound = tt;
    }
