-- The moments of a run, one after another.
use Rattle.std.proofs.Common.{ℕ, zero, suc, ◌+◌, ◌≡◌, ◌≤◌, ◌⊎◌, inl, inr, Some, None, Ok, List, [], ◌∷◌, take, slice_get, arith, refl, ap, subst}
use Rattle.osc_word.specs.declared.settings.Config.{Config}
use Rattle.osc_word.specs.Limits.{first_fault}
use Rattle.osc_image.specs.Image.{Image}
use Rattle.osc_image.specs.Frames.{needed_frames}
use Rattle.osc_image.specs.Form.{image_of}
use Rattle.osc_machine.specs.Parts.{State}
use Rattle.osc_machine.specs.Step.{step}
use Rattle.osc_machine.specs.Run.{Ran, with_step, run_on, at}
use Rattle.osc_machine.specs.Start.{start_of}
use Rattle.osc_safe.proofs.StandingRuns.{first_ran}
use Rattle.osc_safe.proofs.TellingRuns.{Known, known-on, first-known}

-- after one pick more the machine is one step further; where there is no pick left it stands still
abbrev Further : List ℕ → ℕ → Ran → Ran → Type 0
Further picks i now next = (next ≡ now) ⊎ ((x : ℕ) × (slice_get picks i ≡ Some x) × (next ≡ with_step now (step now.state x)))

further-on : (picks : List ℕ) (i : ℕ) (ran : Ran) → Further picks i (run_on (take i picks) ran) (run_on (take (suc i) picks) ran)
unfolding run_on
further-on [] zero ran = inl refl
further-on [] (suc i) ran = inl refl
further-on (x ∷ picks) zero ran = inr (x, refl, refl)
further-on (x ∷ picks) (suc i) ran = further-on picks i (with_step ran (step ran.state x))

pub further : (start : State) (picks : List ℕ) (i : ℕ) → Further picks i (at start picks i) (at start picks (i + 1))
further start picks i =
    let next : suc i ≡ i + 1 = omega arith in
    subst (λ z. Further picks i (at start picks i) (at start picks z)) next (further-on picks i (record { state = start; commits = []; trace = [] }))

-- and where there is a pick, it is that step
picked-on : (picks : List ℕ) (i x : ℕ) (ran : Ran) → slice_get picks i ≡ Some x → run_on (take (suc i) picks) ran ≡ with_step (run_on (take i picks) ran) (step (run_on (take i picks) ran).state x)
unfolding run_on
picked-on [] i x ran e = absurd (let b : ⊥ = grind (arith, e) in b)
picked-on (y ∷ picks) zero x ran e = let same : y ≡ x = grind (arith, e) in ap (λ z. with_step ran (step ran.state z)) same
picked-on (y ∷ picks) (suc i) x ran e = picked-on picks i x (with_step ran (step ran.state y)) e

pub picked : (start : State) (picks : List ℕ) (i x : ℕ) → slice_get picks i ≡ Some x → at start picks (i + 1) ≡ with_step (at start picks i) (step (at start picks i).state x)
picked start picks i x e =
    let next : suc i ≡ i + 1 = omega arith in
    subst (λ z. at start picks z ≡ with_step (at start picks i) (step (at start picks i).state x)) next (picked-on picks i x (record { state = start; commits = []; trace = [] }) e)

-- what is known at each moment
pub known-at : (file : List ℕ) (image : Image) (config : Config) (picks : List ℕ) → first_fault config ≡ None → image_of file ≡ Ok image → needed_frames config.levels image ≤ config.frames
    → (i : ℕ) → Known (at (start_of image config) picks i)
known-at file image config picks fit is_image room i = known-on (take i picks) (first_ran image config) (first-known file image config fit is_image room)
