-- Where a hart goes on in a call.
use Rattle.std.proofs.Common.{ℕ, ◌≡◌, true, false, Option, Some, None, is_some, List, [], ◌∷◌, slice_get, arith, refl}
use Rattle.std.specs.Option.{option_map_or}
use Rattle.std.proofs.lemmas.List.Quantifiers.{position-Some}
use Rattle.osc_word.specs.declared.job_list.Job.{Job}
use Rattle.osc_paging.specs.Boxes.{BoxState}
use Rattle.osc_calls.specs.declared.Begun.{Begun}
use Rattle.osc_calls.specs.declared.Begun.TheVariants as begun
use Rattle.osc_calls.specs.Kernel.{KernelState, next_job}
use Rattle.osc_calls.specs.JobDone.{entries}
use Rattle.osc_calls.specs.Moves.{moves_of}
use Rattle.osc_machine.specs.Parts.{Working, GivingBoxes, Returning}
use Rattle.osc_machine.specs.Turns.{return_of, first_held, place_on, place_begun}
use Rattle.osc_machine.specs.Laws.{is_in_call}
use Rattle.osc_turns.specs.Places.{BegunFits}
use Rattle.osc_core.specs.Sound.{HasJob, PlaceSound}

no_job : (jobs : List Job) → slice_get jobs 0 ≡ None → jobs ≡ []
no_job [] e = refl
no_job (job ∷ jobs) e = absurd (let z : ⊥ = grind (arith, e) in z)

first_job : (k : KernelState) (jobs : List Job) (job : Job) → k.jobs ≡ jobs → slice_get jobs 0 ≡ Some job → HasJob k
first_job k [] job e f = absurd (let z : ⊥ = grind (arith, f) in z)
first_job k (x ∷ jobs) job e f = record { job = x; jobs = jobs; next = e }

placed_at : (next : Option Job) (held : Option ℕ) (k : KernelState) (boxes : List (Option BoxState)) → next_job k ≡ next → first_held boxes ≡ held
    → PlaceSound (option_map_or (λ job. Working (moves_of (entries k) job) None) next (option_map_or (λ box. GivingBoxes box) held (Returning (return_of false k)))) boxes (Some k)
placed_at None None k boxes e f = (no_job k.jobs e, refl)
placed_at None (Some n) k boxes e f = (no_job k.jobs e, (position-Some (λ (b : Option BoxState). is_some b) boxes n None f).1)
placed_at (Some job) held k boxes e f = first_job k k.jobs job refl e

pub placed : (k : KernelState) (boxes : List (Option BoxState)) → PlaceSound (place_on k boxes) boxes (Some k)
placed k boxes = placed_at (next_job k) (first_held boxes) k boxes refl refl

pub begun_placed : (b : Begun) (k : KernelState) (boxes : List (Option BoxState)) → BegunFits b k → PlaceSound (place_begun b k boxes) boxes (Some k)
begun_placed begun.Again k boxes fits = (fits.0, refl)
begun_placed begun.JournalFull k boxes fits = (fits.0, refl)
begun_placed begun.Gone k boxes fits = (fits.0, refl)
begun_placed begun.Boxes k boxes fits = (fits.calling, fits.waits)
begun_placed (begun.Header first second) k boxes fits = (fits.calling, fits.waits)
begun_placed begun.Planned k boxes fits = placed k boxes

-- ---- in a call
on_in_by : (next : Option Job) (held : Option ℕ) (k : KernelState)
    → is_in_call (option_map_or (λ job. Working (moves_of (entries k) job) None) next (option_map_or (λ box. GivingBoxes box) held (Returning (return_of false k)))) ≡ true
on_in_by None None k = refl
on_in_by None (Some n) k = refl
on_in_by (Some job) held k = refl

pub on_in : (k : KernelState) (boxes : List (Option BoxState)) → is_in_call (place_on k boxes) ≡ true
on_in k boxes = on_in_by (next_job k) (first_held boxes) k

pub begun_in : (b : Begun) (k : KernelState) (boxes : List (Option BoxState)) → is_in_call (place_begun b k boxes) ≡ true
begun_in begun.Again k boxes = refl
begun_in begun.JournalFull k boxes = refl
begun_in begun.Gone k boxes = refl
begun_in begun.Boxes k boxes = refl
begun_in (begun.Header first second) k boxes = refl
begun_in begun.Planned k boxes = on_in k boxes
