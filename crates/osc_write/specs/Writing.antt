-- What a write answers, and the jobs that it leaves. This project's own.
use Rattle.std.specs.Prelude.{ℕ, ◌-◌, min, Option, Some, None, List, ◌++◌}
use Rattle.osc_word.specs.declared.job_list.Job.{Job}
use Rattle.osc_word.specs.declared.calls.Answer.{Answer}
use Rattle.osc_word.specs.declared.calls.Answer.TheVariants.{Number, BadBuffer}
use Rattle.osc_word.specs.Environment.{output_limit}
use Rattle.osc_paging.specs.KeptTables.{KeptTables}
use Rattle.osc_calls.specs.WritePlan.{first_unreadable, out_jobs}
use Rattle.osc_calls.specs.Kernel.{KernelState}
use Rattle.osc_calls.specs.Planned.{Planned, answered}

pub record Writing : Type 0 where
  pub answer : Answer
  pub jobs : List Job

-- the bytes that a write writes, when the output has so many already
abbrev pub count_after : ℕ → ℕ → ℕ
count_after written len = min len (output_limit - written)

abbrev pub writing_by : Option ℕ → KeptTables → ℕ → ℕ → List Job → Writing
writing_by (Some address) tables buf count jobs = record { answer = BadBuffer address; jobs = jobs }
writing_by None tables buf count jobs = record { answer = Number count; jobs = jobs ++ out_jobs tables buf count }

abbrev pub writing_counted : KeptTables → ℕ → ℕ → List Job → Writing
writing_counted tables buf count jobs = writing_by (first_unreadable tables buf count) tables buf count jobs

-- a write through these tables, after so many bytes of output and these jobs
abbrev pub writing : KeptTables → ℕ → ℕ → ℕ → List Job → Writing
writing tables written buf len jobs = writing_counted tables buf (count_after written len) jobs

-- the kernel with such a write
abbrev pub writes : Writing → KernelState → Planned
writes w kernel = answered w.answer (record kernel { jobs = w.jobs })
