-- What a malloc of this crate made and answered. This project's own.
use Rattle.std.specs.Prelude.{ℕ, Bool, List}
use Rattle.osc_word.specs.JobList.{JobList}
use Rattle.osc_word.specs.declared.calls.Answer.{Answer}
use Rattle.osc_word.specs.declared.calls.Answer.TheVariants as answer
use Rattle.osc_space.specs.Space.{Draft, Outcome, Keeps}
use Rattle.osc_shadow.specs.declared.Space.{Space}
use Rattle.osc_shadow.specs.declared.malloc.Malloced.{Malloced}
use Rattle.osc_shadow.specs.declared.malloc.Malloced.TheVariants.{Given, NoShadow, NoFrames}
use Rattle.osc_shadow.specs.Parts.{draft_of}

-- a memory in a machine, with the objects that wait
abbrev pub draft_now : Space → List ℕ → List Bool → JobList → Draft
draft_now s waiting free jobs = draft_of s.tables s.marks s.heap waiting free jobs.pushed

abbrev pub malloc_answer : Malloced → Answer
malloc_answer (Given object pointer) = answer.Given object pointer
malloc_answer NoShadow = answer.NoShadow
malloc_answer NoFrames = answer.NoFrames

-- a malloc gives nothing back
abbrev pub planned : Malloced → Draft → Outcome
planned result d = record { answer = malloc_answer result; draft = d; closing = Keeps }
