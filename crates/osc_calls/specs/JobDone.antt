-- A job that is done, and what stands in a table that a job copies. This project's own.
use Rattle.std.specs.Prelude.{ℕ, ◌-◌, List, ◌++◌, length, take, drop, slice_get, Option, Some, None}
use Rattle.byteorder.specs.Endian.{little_bytes}
use Rattle.osc_word.specs.declared.job_list.Job.{Job}
use Rattle.osc_word.specs.declared.job_list.Job.TheVariants.{CopyTable, ToOut}
use Rattle.osc_paging.specs.KeptTables.{kept_word}
use Rattle.osc_calls.specs.Kernel.{KernelState, Process, Shown, next_job}
use Rattle.osc_calls.specs.Labels.{out_shows}

-- ---- copied tables
-- the process that was made last is the child of the fork that has such jobs
abbrev pub newest : List Process → Option Process
newest processes = slice_get processes (length processes - 1)

abbrev pub child_entry : Option Process → ℕ → ℕ → ℕ
child_entry None frame index = 0
child_entry (Some child) frame index = kept_word child.space.tables frame index

-- what a copied table's frame gets at an index: the child's own entry
abbrev pub entries : KernelState → ℕ → ℕ → ℕ
entries kernel frame index = child_entry (newest kernel.processes) frame index

abbrev pub entry_by : KernelState → ℕ → Option Job → ℕ
entry_by kernel index (Some (CopyTable from to)) = entries kernel to index
entry_by kernel index _ = 0

-- what the next job, which copies a table, stores at an index
abbrev pub entry : KernelState → ℕ → ℕ
entry kernel index = entry_by kernel index (next_job kernel)

-- ---- a job that is done
-- so many bytes of a word, from byte `first` on; the lowest byte of a word is its first
abbrev pub bytes_of : ℕ → ℕ → ℕ → List ℕ
bytes_of word first count = take count (drop first (little_bytes 8 word))

abbrev pub output_after : ℕ → Option Job → List ℕ → List ℕ
output_after word (Some (ToOut at first count)) output = output ++ bytes_of word first count
output_after word _ output = output

-- the next job is done; `word` is the one that it read last
unfoldable pub job_done : ℕ → KernelState → Shown
job_done word kernel = record {
  kernel = record kernel { jobs = drop 1 kernel.jobs; output = output_after word (next_job kernel) kernel.output };
  shows = out_shows kernel.under_way kernel.jobs;
}
