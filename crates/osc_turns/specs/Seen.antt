-- Where a hart is in a call, by what its code keeps and by the kernel that it holds.
use Rattle.std.specs.Prelude.{ℕ, Bool, Option, Some, None, List, [], option_map, slice_index}
use Rattle.osc_word.specs.declared.calls.Resume.TheVariants.{Again}
use Rattle.osc_word.specs.declared.steps.Event.{Event}
use Rattle.osc_word.specs.declared.steps.Label.{Label}
use Rattle.osc_calls.specs.Kernel.{KernelState, Shown}
use Rattle.osc_calls.specs.Plan.{plan}
use Rattle.osc_calls.specs.JobDone.{entries}
use Rattle.osc_calls.specs.Moves.{Move}
use Rattle.osc_machine.specs.Parts.{Return, CallPlace, Outside, TakingBoxes, FirstWord, SecondWord, Working, GivingBoxes, Returning, HartState}
use Rattle.osc_machine.specs.Turns.{Turn, return_of, found_words}
use Rattle.osc_machine.specs.Views.{label_in}
use Rattle.osc_moves.specs.Standing.{Standing, moves_at}
use Rattle.osc_turns.specs.declared.place.Place.{Place}
use Rattle.osc_turns.specs.declared.place.Place.TheVariants as at
use Rattle.osc_turns.specs.declared.place.Stepped.{Stepped}
use Rattle.osc_kernel.specs.Seen.{SeenKernel}

abbrev pub kernel_in : Option SeenKernel → Option KernelState
kernel_in seen = option_map (λ (k : SeenKernel). k.kernel) seen

-- a hart that does a job, or gives the kernel, holds it
abbrev pub moves_in : Standing → Option SeenKernel → List Move
moves_in p None = []
moves_in p (Some k) = moves_at (entries k.kernel) p

abbrev pub returning_from : Bool → Option KernelState → Return
returning_from full None = record { resume = Again; shows = []; full = full }
returning_from full (Some k) = return_of full k

abbrev pub returning : Bool → Option SeenKernel → CallPlace
returning full None = Returning (record { resume = Again; shows = []; full = full })
returning full (Some k) = Returning (return_of full k.kernel)

abbrev pub place_seen : Place → Option SeenKernel → CallPlace
place_seen at.Outside k = Outside
place_seen (at.TakingBoxes next) k = TakingBoxes next
place_seen (at.FirstWord first second) k = FirstWord first second
place_seen (at.SecondWord found second) k = SecondWord found second
place_seen (at.Working p) k = Working (moves_in p k) p.read
place_seen (at.GivingBoxes next) k = GivingBoxes next
place_seen (at.Returning full) k = returning full k
place_seen (at.Returned full resume label before) k = Returning (return_of full before.value.kernel)

-- ---- what an answer comes to
-- the hart, the event, and the label beside the objects that were let go
pub record Turned : Type 0 where
  pub hart : HartState
  pub event : Option Event
  pub label : Option Label

abbrev pub made : HartState → Stepped → Turned
made hart stepped = record { hart = hart; event = stepped.commit; label = stepped.label }

abbrev pub turned : Turn → Turned
turned turn = record { hart = turn.hart; event = turn.event; label = label_in turn.shows }

-- ---- a plan
abbrev pub planned_with : List ℕ → KernelState → Shown
planned_with found k = plan (found_words (slice_index found 0) (slice_index found 1)) k
