-- The run after one more event, by what the event meant.
use Rattle.std.proofs.Common.{◌≡◌, ℕ, ◌+◌, Some, None, refl}
use Rattle.std.specs.declared.option.Option.{Option}
use Rattle.osc_word.specs.declared.steps.Event.{Event}
use Rattle.osc_world.specs.declared.ObjectWhy.{ObjectWhy}
use Rattle.osc_world.specs.World.{World}
use Rattle.osc_world.specs.Offers.{Meaning, Goes, Errs, Unfit}
use Rattle.osc_world.specs.Events.{meaning}
use Rattle.osc_world.specs.Run.{ObjectRun, judged_as}
use Rattle.osc_judge.specs.Judging.{world_after, error_of, judged_by}

abbrev pub run_with : World → ℕ → Option ObjectWhy → Option ObjectRun
run_with world events error = Some (record { world = world; events = events; error = error })

goes : (world now : World) (events : ℕ) (m : Meaning World ObjectWhy) → None ≡ error_of m → now ≡ world_after world m
    → run_with now (events + 1) None ≡ Some (judged_as world events m)
goes world now events (Goes next) none is = rw is refl
goes world now events (Errs why) none is = absurd (cc)
goes world now events Unfit none is = absurd (cc)

errs : (world now : World) (events : ℕ) (why : ObjectWhy) (m : Meaning World ObjectWhy) → Some why ≡ error_of m → now ≡ world_after world m
    → run_with now events (Some why) ≡ Some (judged_as world events m)
errs world now events why (Goes next) some is = absurd (cc)
errs world now events why (Errs other) some is = rw (is, some) refl
errs world now events why Unfit some is = rw (is, some) refl

pub judged_goes : (world now : World) (events : ℕ) (event : Event) → None ≡ error_of (meaning world event) → now ≡ world_after world (meaning world event)
    → run_with now (events + 1) None ≡ judged_by event (run_with world events None)
judged_goes world now events event none is = goes world now events (meaning world event) none is

pub judged_errs : (world now : World) (events : ℕ) (why : ObjectWhy) (event : Event) → Some why ≡ error_of (meaning world event)
    → now ≡ world_after world (meaning world event) → run_with now events (Some why) ≡ judged_by event (run_with world events None)
judged_errs world now events why event some is = errs world now events why (meaning world event) some is
