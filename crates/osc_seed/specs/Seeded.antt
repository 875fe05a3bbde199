-- Seeded runs: a seed picks the hart of each step, until the machine is over or so many picks are made.
use Rattle.std.specs.Prelude.{ℕ, ◌≡◌, ◌≤◌, Bool, true, false, None, Ok, List, length}
use Rattle.osc_word.specs.declared.settings.Config.{Config}
use Rattle.osc_word.specs.declared.settings.HeapKind.TheVariants.{Oscar}
use Rattle.osc_word.specs.Limits.{first_fault}
use Rattle.osc_image.specs.Image.{Image}
use Rattle.osc_image.specs.Frames.{needed_frames}
use Rattle.osc_image.specs.Form.{image_of}
use Rattle.osc_machine.specs.Parts.{State}
use Rattle.osc_machine.specs.Views.{machine_over}
use Rattle.osc_machine.specs.Picks.{picks}
use Rattle.osc_machine.specs.Run.{run, until_over}
use Rattle.osc_machine.specs.Safe.{Safe}
use Rattle.osc_machine.specs.Agreements.{ReplayAgrees}
use Rattle.osc_machine.specs.Refusals.{setting_of, RefusesByRule}
use Rattle.osc_machine.specs.Start.{start_of}
use Rattle.osc_seed.specs.declared.SeededEnd.{SeededEnd}
use Rattle.osc_seed.specs.declared.SeededEnd.TheVariants.{Over, Spent}

-- the picks that are made: the first ones of the seed with which the machine is over, and no more; so many
-- where it isn't over with any
abbrev pub picks_made : State → ℕ → ℕ → List ℕ
picks_made s seed count = until_over s (picks (length s.harts) seed count)

-- the answer after so many picks, by whether the machine is over then
abbrev pub end_after : Bool → ℕ → SeededEnd
end_after true made = Over made
end_after false made = Spent

-- where the machine isn't over after the picks that were made, all picks were made
abbrev pub SpentMakesAll : Type 0
SpentMakesAll =
    (s : State) (seed count : ℕ) → machine_over (run s (picks_made s seed count)).state ≡ false
    → picks_made s seed count ≡ picks (length s.harts) seed count

-- on the heap with shadows a run over these picks is safe, if it begins with the image of a file that the frames
-- hold and a configuration in range
abbrev pub SafeFromStart : State → List ℕ → Type 0
SafeFromStart s made =
    (file : List ℕ) (image : Image) (config : Config)
    → first_fault config ≡ None → image_of file ≡ Ok image → needed_frames config.levels image ≤ config.frames → config.heap ≡ Oscar
    → s ≡ start_of image config → Safe s made

-- under both heaps the journal of such a run tells, at its end, the objects, those that wait and the held blocks
-- of each process, if no hart holds the kernel then
abbrev pub ToldFromStart : State → List ℕ → Type 0
ToldFromStart s made =
    (file : List ℕ) (image : Image) (config : Config)
    → first_fault config ≡ None → image_of file ≡ Ok image → needed_frames config.levels image ≤ config.frames
    → s ≡ start_of image config → ReplayAgrees config (run s made).state

-- and each call that wants memory, a hart, a process or a thread is refused in such a run exactly where the rule of
-- refusals says so by the journal before it
abbrev pub RefusedFromStart : State → List ℕ → Type 0
RefusedFromStart s made =
    (file : List ℕ) (image : Image) (config : Config)
    → first_fault config ≡ None → image_of file ≡ Ok image → needed_frames config.levels image ≤ config.frames
    → s ≡ start_of image config → RefusesByRule (setting_of image config) s made
