-- The plan of a write: a buffer is read through the kept page tables, and its bytes are written out
-- one word of memory after another. This project's own; which pages are readable follows the RISC-V
-- Privileged manual, "Sv39" and "Sv48".
use Rattle.std.specs.Prelude.{ℕ, ◌+◌, ◌-◌, ◌*◌, ◌/◌, ◌%◌, ◌^◌, nat_lt, min, max, Bool, if◌then◌else◌, List, [], ◌∷◌, ◌++◌, map, find, length, Option, Some, None, is_none, unwrap_or}
use Rattle.std.specs.List.{range_with_len, flat_map}
use Rattle.osc_word.specs.declared.job_list.Job.{Job}
use Rattle.osc_word.specs.declared.job_list.Job.TheVariants.{ToOut}
use Rattle.osc_word.specs.declared.calls.Answer.TheVariants.{Number, BadBuffer}
use Rattle.osc_word.specs.Environment.{output_limit}
use Rattle.osc_sv39.specs.declared.entries.Access.TheVariants.{Load}
use Rattle.osc_sv39.specs.Walk.{frame_allowed}
use Rattle.osc_paging.specs.KeptTables.{KeptTables, mapping_of}
use Rattle.osc_calls.specs.Kernel.{KernelState, Process}
use Rattle.osc_calls.specs.Planned.{Planned, answered}

-- the bytes that a write writes: all of them, but no more than there is room for
abbrev pub write_count : List ℕ → ℕ → ℕ
write_count output len = min len (output_limit - length output)

-- ---- which bytes are readable
-- the frame of an address, where the guest may load from it
abbrev pub load_frame : KeptTables → ℕ → Option ℕ
load_frame tables address = frame_allowed Load (mapping_of tables (address / 4096))

abbrev pub is_unreadable : KeptTables → ℕ → Bool
is_unreadable tables address = is_none (load_frame tables address)

-- so many addresses from this one on
abbrev pub addresses : ℕ → ℕ → List ℕ
addresses from count = map (λ offset. (from + offset) % 2 ^ 64) (range_with_len 0 count)

abbrev pub first_unreadable : KeptTables → ℕ → ℕ → Option ℕ
first_unreadable tables buf count = find (is_unreadable tables) (addresses buf count)

-- ---- the pieces
-- the bytes from one address to another, which lie in one word
abbrev pub out_job : KeptTables → ℕ → ℕ → List Job
out_job tables from to =
    if nat_lt from to
    then ToOut (record { frame = unwrap_or (load_frame tables from) 0; index = from % 4096 / 8 }) (from % 8) (to - from) ∷ []
    else []

-- those of a buffer that lie in the word of this number
abbrev pub word_job : KeptTables → ℕ → ℕ → ℕ → List Job
word_job tables from to word = out_job tables (max from (8 * word)) (min to (8 * word + 8))

-- one job for each word that has some of the bytes, ascending
abbrev pub out_jobs : KeptTables → ℕ → ℕ → List Job
out_jobs tables buf count =
    flat_map (word_job tables buf (buf + count)) (range_with_len (buf / 8) ((buf % 8 + count + 7) / 8))

-- ---- the plan
abbrev pub write_by : Option ℕ → KeptTables → ℕ → ℕ → KernelState → Planned
write_by (Some address) tables buf count kernel = answered (BadBuffer address) kernel
write_by None tables buf count kernel =
    answered (Number count) (record kernel { jobs = kernel.jobs ++ out_jobs tables buf count })

abbrev pub write_counted : KeptTables → ℕ → ℕ → KernelState → Planned
write_counted tables buf count kernel = write_by (first_unreadable tables buf count) tables buf count kernel

-- where one of the bytes is not readable, nothing is written
abbrev pub write_plan : Process → ℕ → ℕ → KernelState → Planned
write_plan p buf len kernel = write_counted p.space.tables buf (write_count kernel.output len) kernel
