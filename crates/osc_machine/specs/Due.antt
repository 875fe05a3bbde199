-- The text that is due for a run: a line for each report, then the lines of the mode. This project's own.
use Rattle.std.specs.Prelude.{ℕ, List, [], ◌∷◌, ◌++◌, length, codes, map}
use Rattle.std.specs.List.{concat}
use Rattle.std.specs.Fmt.{decimal}
use Rattle.osc_word.specs.declared.settings.Config.{Config}
use Rattle.osc_calls.specs.declared.Report.{Report}
use Rattle.osc_calls.specs.Lines.{report_line}
use Rattle.osc_image.specs.Image.{Image}
use Rattle.osc_machine.specs.declared.Counts.{Counts}
use Rattle.osc_machine.specs.Parts.{HartState, State}
use Rattle.osc_machine.specs.Start.{start_of}
use Rattle.osc_machine.specs.Run.{run}
use Rattle.osc_machine.specs.Views.{output_of, reports_of, counts_of, retired}

abbrev pub ended_line : List ℕ → List ℕ
ended_line text = text ++ 10 ∷ []

-- a line for each report, in the order of the ends
abbrev pub report_lines : List Report → List ℕ
report_lines reports = concat (map (λ r. ended_line (report_line r)) reports)

-- ---- a seeded run
abbrev pub summary_text : ℕ → Counts → List (List ℕ)
summary_text picks c =
    codes "run: picks " ∷ decimal picks ∷ codes " retired " ∷ decimal c.retired ∷ codes " calls " ∷ decimal c.calls
    ∷ codes " hits " ∷ decimal c.hits ∷ codes " walks " ∷ decimal c.walks ∷ codes " clears " ∷ decimal c.clears
    ∷ codes " marks " ∷ decimal c.marks ∷ codes " peak " ∷ decimal c.peak ∷ []

-- the summary of a run of so many steps
unfoldable pub summary_line : ℕ → Counts → List ℕ
summary_line picks c = ended_line (concat (summary_text picks c))

-- ---- a run on threads: a line for each hart
unfoldable pub retired_line : HartState → List ℕ
retired_line h = ended_line (concat (codes "hart " ∷ decimal h.number ∷ codes ": retired " ∷ decimal (retired h) ∷ []))

abbrev pub retired_lines : State → List ℕ
retired_lines s = concat (map retired_line s.harts)

-- ---- what is due for a run over these picks
-- the guest's output
abbrev pub due_output : Image → Config → List ℕ → List ℕ
due_output image config picks = output_of (run (start_of image config) picks).state

-- the text of a seeded run
abbrev pub due_text : Image → Config → List ℕ → List ℕ
due_text image config picks =
    let s = (run (start_of image config) picks).state in
    report_lines (reports_of s) ++ summary_line (length picks) (counts_of s)

-- the text of a run on threads
abbrev pub due_text_of_threads : Image → Config → List ℕ → List ℕ
due_text_of_threads image config picks =
    let s = (run (start_of image config) picks).state in
    report_lines (reports_of s) ++ retired_lines s
