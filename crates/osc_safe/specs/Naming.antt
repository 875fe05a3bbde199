-- A report of an access to a page that is dead or waits names the object whose page it was, and the call by
-- which that died. This project's own.
use Rattle.std.specs.Prelude.{ℕ, ◌/◌, ◌+◌, ◌≡◌, ◌≤◌, ◌⊎◌, Some, None, Ok, List}
use Rattle.osc_word.specs.declared.settings.Config.{Config}
use Rattle.osc_word.specs.declared.calls.Fault.TheVariants as fault
use Rattle.osc_word.specs.Limits.{first_fault}
use Rattle.osc_image.specs.Image.{Image}
use Rattle.osc_image.specs.Frames.{needed_frames}
use Rattle.osc_image.specs.Form.{image_of}
use Rattle.osc_calls.specs.declared.Report.{Report}
use Rattle.osc_machine.specs.Parts.{State}
use Rattle.osc_machine.specs.DeadPages.{Grave, dead_at, waiting_at}
use Rattle.osc_machine.specs.Safe.{state_at, trace_at, Reports, NamesGrave}
use Rattle.osc_machine.specs.Start.{start_of}

abbrev pub ReportsName : State → List ℕ → Type 0
ReportsName start picks =
    (i cause address : ℕ) (report : Report) (grave : Grave) → Reports start picks i report
    → report.fault ≡ fault.Access cause address
    → (dead_at (trace_at start picks i) report.pid (address / 4096) ≡ Some grave)
    ⊎ (waiting_at (trace_at start picks i) report.pid (address / 4096) ≡ Some grave)
    → NamesGrave (state_at start picks (i + 1)) report address grave

abbrev pub RunsReport : Type 0
RunsReport =
    (file : List ℕ) (image : Image) (config : Config) (picks : List ℕ)
    → first_fault config ≡ None → image_of file ≡ Ok image → needed_frames config.levels image ≤ config.frames
    → ReportsName (start_of image config) picks
