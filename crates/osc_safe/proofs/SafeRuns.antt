-- A run whose accesses are safe is safe.
use Rattle.std.proofs.Common.{ℕ, ◌≡◌, inl, inr, ⊎_elim, false, List, subst}
use Rattle.std.specs.List.{Contains}
use Rattle.osc_word.specs.declared.steps.Label.TheVariants.{Touched}
use Rattle.osc_machine.specs.Parts.{State}
use Rattle.osc_machine.specs.DeadPages.{Grave, Past}
use Rattle.osc_machine.specs.Safe.{Touches, shows_at, InstructionChangesNothing, ReachesBlock}
use Rattle.osc_machine.specs.Start.{start_of}
use Rattle.osc_safe.specs.Undone.{UndoneChangesNothing}
use Rattle.osc_safe.specs.Accesses.{SafeByAccesses}
use Rattle.osc_safe.proofs.FreshRuns.{runs_grant_once}
use Rattle.osc_safe.proofs.NamingRuns.{runs_report}
use Rattle.osc_safe.proofs.UnwrittenRuns.{runs_refuse}
use Rattle.osc_safe.proofs.UndoneRuns.{runs_undo}

-- an access to a grave that was not done changes nothing
undone : (graves : Past → List Grave) (start : State) (picks : List ℕ) (i : ℕ) (t : Touches graves start picks i) → UndoneChangesNothing start picks → t.done ≡ false → InstructionChangesNothing start picks t.hart i
undone graves start picks i t law e =
    law i t.pid t.hart t.address t.width t.kind (subst (λ b. Contains (shows_at start picks i) (Touched t.pid t.hart t.address t.width t.kind b)) e t.shown)

pub safe_by_accesses : SafeByAccesses
safe_by_accesses file image config picks fit is_image room a =
    let law = runs_undo file image config picks fit is_image room in record {
      faults = a.faults;
      quiet = λ i t. undone (λ p. p.dead) (start_of image config) picks i t law (a.faults i t);
      unwritten = runs_refuse file image config picks fit is_image room;
      reported = runs_report file image config picks fit is_image room;
      fresh = runs_grant_once file image config picks fit is_image room;
      waits = λ i t. ⊎_elim
          (λ (e : t.done ≡ false). inl (e, undone (λ p. p.waiting) (start_of image config) picks i t law e))
          (λ (r : ReachesBlock (start_of image config) picks i t.hart t.pid t.address t.grave.shadow.object). inr r)
          (a.waits i t);
    }
