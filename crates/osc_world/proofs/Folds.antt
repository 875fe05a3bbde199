-- The folds over events.
use Rattle.std.proofs.Common.{◌≡◌, ℕ, Bool, true, false, ◌&&◌, ap, sym, List, [], ◌∷◌, ◌++◌, Option, Some, None, refl, ◌∙◌, true≢false}
use Rattle.std.specs.Option.{option_and_then}
use Rattle.osc_word.specs.declared.steps.Event.{Event}
use Rattle.osc_world.specs.declared.ObjectWhy.{ObjectWhy}
use Rattle.osc_world.specs.declared.ObjectWhy.TheVariants.{Trap}
use Rattle.osc_world.specs.World.{World}
use Rattle.osc_world.specs.Offers.{Meaning, Goes, Errs, Unfit}
use Rattle.osc_world.specs.Events.{is_meaning, meaning, fits}
use Rattle.osc_world.specs.Run.{ObjectRun, judged_as, judged, object_run, all_fit, fits_after}
use Rattle.osc_world.specs.PlainWorld.{Plain}
use Rattle.osc_world.specs.PlainRun.{plain_run, plain_meaning}

unfit-trap : (world : World) (events : ℕ) (m : Meaning World ObjectWhy) → is_meaning m ≡ false → judged_as world events m ≡ record { world = world; events = events; error = Some Trap }
unfit-trap world events (Goes now) e = absurd (true≢false e)
unfit-trap world events (Errs why) e = absurd (true≢false e)
unfit-trap world events Unfit e = refl

pub unfit_traps : (world : World) (events : ℕ) (event : Event) → fits world event ≡ false → judged (record { world = world; events = events; error = None }) event ≡ record { world = world; events = events; error = Some Trap }
unfit_traps world events event e = unfit-trap world events (meaning world event) e

erred-stays : (world : World) (n : ℕ) (why : ObjectWhy) (events : List Event) → object_run (record { world = world; events = n; error = Some why }) events ≡ record { world = world; events = n; error = Some why }
unfolding object_run
erred-stays world n why [] = refl
erred-stays world n why (event ∷ events) = erred-stays world n why events

error-stays : (world : World) (n : ℕ) (error : Option ObjectWhy) (why : ObjectWhy) (events : List Event) → error ≡ Some why → object_run (record { world = world; events = n; error = error }) events ≡ record { world = world; events = n; error = error }
error-stays world n error why events e = rw e (erred-stays world n why events)

pub error_stays : (run : ObjectRun) (why : ObjectWhy) (events : List Event) → run.error ≡ Some why → object_run run events ≡ run
error_stays run why events e = error-stays run.world run.events run.error why events e

pub object_run-append : (run : ObjectRun) (events more : List Event) → object_run run (events ++ more) ≡ object_run (object_run run events) more
unfolding object_run
object_run-append run [] more = refl
object_run-append run (event ∷ events) more = object_run-append (judged run event) events more

pub plain_run-append : (plain : Option Plain) (events more : List Event) → plain_run plain (events ++ more) ≡ plain_run (plain_run plain events) more
unfolding plain_run
plain_run-append plain [] more = refl
plain_run-append plain (event ∷ events) more = plain_run-append (option_and_then (λ now. plain_meaning now event) plain) events more

pub stuck_stays : (events : List Event) → plain_run None events ≡ None
unfolding plain_run
stuck_stays [] = refl
stuck_stays (event ∷ events) = stuck_stays events

pub error_stays-append : (run : ObjectRun) (why : ObjectWhy) (events more : List Event) → (object_run run events).error ≡ Some why → object_run run (events ++ more) ≡ object_run run events
error_stays-append run why events more e = object_run-append run events more ∙ error_stays (object_run run events) why more e

and-assoc : (a b c : Bool) → ((a && b) && c) ≡ (a && (b && c))
and-assoc true b c = refl
and-assoc false b c = refl

pub all_fit-append : (run : ObjectRun) (events more : List Event) → all_fit run (events ++ more) ≡ (all_fit run events && all_fit (object_run run events) more)
unfolding object_run all_fit
all_fit-append run [] more = refl
all_fit-append run (event ∷ events) more =
    ap (λ rest. fits_after run.error run.world event && rest) (all_fit-append (judged run event) events more)
    ∙ sym (and-assoc (fits_after run.error run.world event) (all_fit (judged run event) events) (all_fit (object_run (judged run event) events) more))
