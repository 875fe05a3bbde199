-- Lists of jobs with their room. They are this project's own.
use Rattle.std.specs.Prelude.{ℕ, ◌-◌, List, [], ◌∷◌, ◌++◌, length}
use Rattle.osc_word.specs.declared.job_list.Job.{Job}

-- the jobs in the order in which they were pushed, and how many there may be
pub record JobList : Type 0 where
  pub pushed : List Job
  pub room : ℕ

abbrev pub no_jobs : ℕ → JobList
no_jobs room = record { pushed = []; room = room }

-- how many more may be pushed
abbrev pub spare : JobList → ℕ
spare jobs = jobs.room - length jobs.pushed

abbrev pub with_job : JobList → Job → JobList
with_job jobs job = record jobs { pushed = jobs.pushed ++ job ∷ [] }

abbrev pub without_jobs : JobList → JobList
without_jobs jobs = record jobs { pushed = [] }
