-- The journal of what is run for a task tells what the kernel keeps, and memory is refused by it. This project's own.
use Rattle.std.specs.Prelude.{ℕ, ◌≡◌, ◌≤◌, Option, None, Ok, List}
use Rattle.osc_word.specs.Limits.{first_fault}
use Rattle.osc_image.specs.Image.{Image}
use Rattle.osc_image.specs.Frames.{needed_frames}
use Rattle.osc_image.specs.Form.{image_of}
use Rattle.osc_machine.specs.Agreements.{ReplayAgrees}
use Rattle.osc_machine.specs.Refusals.{setting_of, RefusesByRule}
use Rattle.osc_machine.specs.Run.{run}
use Rattle.osc_machine.specs.Start.{start_of}
use Rattle.osc_seed.specs.Seeded.{picks_made}
use Rattle.osc_cli.specs.declared.task.Task.{Task}
use Rattle.osc_top.specs.Answer.{HasFile}

-- where the task's file is an image that the frames hold, its journal tells at the end of its run the objects,
-- those that wait and the held blocks of each process, if no hart holds the kernel then
abbrev pub RunsTold : Task → Option (List ℕ) → Option (List ℕ) → Type 0
RunsTold task before after =
    (file : List ℕ) (image : Image) → HasFile task.mode task.number before after file
    → first_fault task.config ≡ None → image_of file ≡ Ok image → needed_frames task.config.levels image ≤ task.config.frames
    → ReplayAgrees task.config (run (start_of image task.config) (picks_made (start_of image task.config) task.seed task.picks)).state

-- and each call that wants memory, a hart, a process or a thread is refused exactly where the rule of refusals says so
abbrev pub RunsRefused : Task → Option (List ℕ) → Option (List ℕ) → Type 0
RunsRefused task before after =
    (file : List ℕ) (image : Image) → HasFile task.mode task.number before after file
    → first_fault task.config ≡ None → image_of file ≡ Ok image → needed_frames task.config.levels image ≤ task.config.frames
    → RefusesByRule (setting_of image task.config) (start_of image task.config) (picks_made (start_of image task.config) task.seed task.picks)
