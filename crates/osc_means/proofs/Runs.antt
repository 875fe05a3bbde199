-- The plain state that a run reaches shows the world that the object run reaches.
use Rattle.std.proofs.Common.{ℕ, ◌≡◌, ◌≤◌, List, [], ◌∷◌, Option, Some, None, option_map, arith, refl, ap, sym, subst, ◌∙◌, slice_get, unwrap_or}
use Rattle.std.proofs.lemmas.Option.{slice_get_within}
use Rattle.std.specs.Option.{option_and_then}
use Rattle.osc_word.specs.declared.steps.Event.{Event}
use Rattle.osc_word.specs.declared.settings.Config.{Config}
use Rattle.osc_image.specs.Image.{Image}
use Rattle.osc_world.specs.declared.ObjectWhy.{ObjectWhy}
use Rattle.osc_world.specs.declared.ObjectWhy.TheVariants.{Trap}
use Rattle.osc_world.specs.States.{Process, status_of}
use Rattle.osc_world.specs.Offers.{Meaning, Goes, Errs, Unfit}
use Rattle.osc_world.specs.World.{World, Memory}
use Rattle.osc_world.specs.Events.{meaning}
use Rattle.osc_world.specs.Run.{ObjectRun, judged_as, judged_on, judged, object_run, begins, boot, object_run_of}
use Rattle.osc_world.specs.Knows.{Knows}
use Rattle.osc_world.specs.PlainWorld.{Flat, Plain}
use Rattle.osc_world.specs.PlainRun.{plain_meaning, plain_run, plain_boot, plain_run_of}
use Rattle.osc_world.proofs.Folds.{error_stays, stuck_stays}
use Rattle.osc_world.proofs.KnownRuns.{event-knows, boot-knows}
use Rattle.osc_means.specs.Shown.{Mirrored, Shows, Kept, given_at, places}
use Rattle.osc_means.specs.PlainHeap.{Agrees}
use Rattle.osc_means.proofs.Rows.{stands}
use Rattle.osc_means.proofs.EventsShow.{event-shows}
use Rattle.osc_means.proofs.Keeping.{run-keeps}
use Rattle.osc_means.proofs.Booting.{boot-shows}

run-shows : (frames : ℕ) (place : ℕ → ℕ → ℕ) (events : List Event) (world : World) (n : ℕ) (plain then : Plain) → frames ≤ 4096 → Knows world → Shows frames place world plain
    → (object_run (record { world = world; events = n; error = None }) events).error ≡ None → plain_run (Some plain) events ≡ Some then → Kept place then
    → Shows frames place (object_run (record { world = world; events = n; error = None }) events).world then
unfolding object_run plain_run
run-shows frames place [] world n plain then limit knows s e f k = let same : plain ≡ then = cc in subst (Shows frames place world) same s
run-shows frames place (event ∷ events) world n plain then limit knows s e f k = by (meaning world event) (plain_meaning plain event) refl refl e f
    (λ now m next. run-shows frames place events now m next then limit)
  where
    erred : (why : ObjectWhy) → (object_run (record { world = world; events = n; error = Some why }) events).error ≡ None → ⊥
    erred why g = let stays = ap (λ (r : ObjectRun). r.error) (error_stays (record { world = world; events = n; error = Some why }) why events refl) in absurd (cc)

    by : (m : Meaning World ObjectWhy) (p : Option Plain) → meaning world event ≡ m → plain_meaning plain event ≡ p → (object_run (judged_as world n m) events).error ≡ None → plain_run p events ≡ Some then
        → ((now : World) (m : ℕ) (next : Plain) → Knows now → Shows frames place now next → (object_run (record { world = now; events = m; error = None }) events).error ≡ None
        → plain_run (Some next) events ≡ Some then → Kept place then → Shows frames place (object_run (record { world = now; events = m; error = None }) events).world then)
        → Shows frames place (object_run (judged_as world n m) events).world then
    by (Errs why) p g h e f later = absurd (erred why e)
    by Unfit p g h e f later = absurd (erred Trap e)
    by (Goes now) None g h e f later = absurd (let stuck = stuck_stays events in cc)
    by (Goes now) (Some next) g h e f later =
        let kept : Kept place next = (λ pid o u given. k pid o u (run-keeps events next then f pid o u given)) in
        later now _ next (event-knows world event now knows g) (event-shows frames place world now plain next event limit knows s g h kept) e f k

places-kept : (plain : Plain) → Kept (places plain) plain
places-kept plain pid o user e = ap (λ z. unwrap_or z 0) e

pub runs-show : (image : Image) (config : Config) (events : List Event) (plain : Plain) → config.frames ≤ 4096 → (object_run_of image config events).error ≡ None → plain_run_of image config events ≡ Some plain
    → Shows config.frames (places plain) (object_run_of image config events).world plain
runs-show image config events plain limit e f =
    run-shows config.frames (places plain) events (boot image config) 0 (plain_boot image config) plain limit (boot-knows image config) (boot-shows image config (places plain)) e f (places-kept plain)

-- ---- what is seen from outside

-- both runs have ended in the same way
same-status : (frames : ℕ) (place : ℕ → ℕ → ℕ) (world : World) (plain : Plain) → Shows frames place world plain → status_of plain ≡ status_of world
same-status frames place world plain s = by (slice_get world.processes 0) (slice_get plain.processes 0) refl refl
  where
    by : (u : Option (Process Memory)) (v : Option (Process Flat)) → slice_get world.processes 0 ≡ u → slice_get plain.processes 0 ≡ v
        → option_and_then (λ (process : Process Flat). process.status) v ≡ option_and_then (λ (process : Process Memory). process.status) u
    by None None e f = refl
    by (Some u) (Some v) e f = (s.processes 0 u v e f).status
    by None (Some v) e f =
        let inside = slice_get_within plain.processes 0 v f in
        let there = stands world.processes 0 (let c = s.count in omega arith) in
        absurd (let g = there.1 in cc)
    by (Some u) None e f =
        let inside = slice_get_within world.processes 0 u e in
        let there = stands plain.processes 0 (let c = s.count in omega arith) in
        absurd (let g = there.1 in cc)

pub shown-agrees : (frames : ℕ) (place : ℕ → ℕ → ℕ) (world : World) (plain : Plain) → Shows frames place world plain → Agrees world plain
shown-agrees frames place world plain s = record { output = s.output; status = same-status frames place world plain s }
