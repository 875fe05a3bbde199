-- A process alone in its machine, between two calls. This project's own.
use Rattle.std.specs.Prelude.{ℕ, ◌+◌, ◌*◌, ◌≡◌, ◌≤◌, Bool, None, List, [], length}
use Rattle.osc_word.specs.JobList.{JobList}
use Rattle.osc_word.specs.Limits.{first_fault}
use Rattle.osc_word.specs.declared.settings.Config.{Config}
use Rattle.osc_space.specs.Share.{Regions, shared_pages}
use Rattle.osc_parts.specs.Settled.{Settled}
use Rattle.osc_settled.specs.Memory.{at_rest}
use Rattle.osc_calls.specs.Kernel.{Process}
use Rattle.osc_process.specs.Parts.{SameSizes, unused}

-- the machine is a valid one, with room for the jobs of any plan; the process has its sizes and no
-- region; and its memory is settled for some words
pub record Stands (config : Config) (p : Process) (regions : Regions) (free : List Bool) (jobs : JobList) : Type 0 where
  pub valid : first_fault config ≡ None
  pub count : length free ≡ config.frames
  pub spare : 8 * length free + 64 ≤ jobs.room
  pub sizes : SameSizes (unused config.levels config.frames config.shadows).space p.space
  pub alone : shared_pages p.space.tables ≡ []
  pub entries : ℕ → ℕ → ℕ
  pub words : List ℕ
  pub settled : Settled config.heap config.batch entries words regions (at_rest p.space free)
