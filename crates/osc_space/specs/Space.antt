-- One process's memory, and what a plan makes of it: a plan commits a call, and leaves jobs that
-- make the words of memory follow. This project's own.
use Rattle.std.specs.Prelude.{ℕ, ◌+◌, Bool, nat_lt, Option, Some, None, option_map, find, List, ◌++◌}
use Rattle.osc_word.specs.declared.job_list.Job.{Job}
use Rattle.osc_word.specs.declared.calls.Answer.{Answer}
use Rattle.osc_word.specs.declared.calls.Answer.TheVariants.{NoFrames}
use Rattle.osc_paging.specs.KeptTables.{KeptTables, need}
use Rattle.osc_paging.specs.TableChanges.{Changed}
use Rattle.osc_slot.specs.declared.Block.{Block}
use Rattle.osc_slot.specs.Heap.{Heap, HeapAndFree, free_count}
use Rattle.osc_space.specs.declared.ObjectFact.{ObjectFact}

-- `waiting` has the objects that were freed and whose blocks are held until a flush, in the order of
-- their calls; `shadows` is the greatest number of shadow pages that may ever be granted
pub record Space : Type 0 where
  pub tables : KeptTables
  pub objects : List ObjectFact
  pub waiting : List ℕ
  pub shadows : ℕ
  pub heap : Heap

-- what a plan changes: a memory, the free frames of the machine, true where free, and the jobs that
-- were pushed
pub record Draft : Type 0 where
  pub space : Space
  pub free : List Bool
  pub jobs : List Job

-- what a free is told: the harts of the machine, the place of this call in the journal, and how many
-- objects wait when they are let go
pub record Terms : Type 0 where
  pub harts : ℕ
  pub call : ℕ
  pub batch : ℕ

-- what is given back when a call returns: nothing, or these blocks in this order and the leaf tables
-- that stand aside; then none waits any more
pub data Closing : Type 0 where
  Keeps : Closing
  GivesBack : List Block → Closing

-- what a plan answers and makes, and what is given back when its call returns
pub record Outcome : Type 0 where
  pub answer : Answer
  pub draft : Draft
  pub closing : Closing

-- ---- refusals
-- a refusal, and whether it holds
pub record Reason : Type 0 where
  pub holds : Bool
  pub answer : Answer

abbrev pub reason : Bool → Answer → Reason
reason holds answer = record { holds = holds; answer = answer }

-- the answer of the first that holds
abbrev pub first_reason : List Reason → Option Answer
first_reason reasons = option_map (λ (r : Reason). r.answer) (find (λ (r : Reason). r.holds) reasons)

-- nothing is changed
abbrev pub unchanged : Answer → Draft → Outcome
unchanged answer d = record { answer = answer; draft = d; closing = Keeps }

-- what is made, unless it is refused
abbrev pub unless : Option Answer → Draft → Outcome → Outcome
unless None d made = made
unless (Some refused) d made = unchanged refused d

-- so many frames, and those of the tables that are missing over so many pages, are more than the
-- free ones
abbrev pub lack_of_frames : List Bool → KeptTables → ℕ → ℕ → ℕ → Reason
lack_of_frames free tables frames first count = reason (nat_lt (free_count free) (frames + need tables first count)) NoFrames

-- ---- parts of a draft
abbrev pub push : List Job → Draft → Draft
push jobs d = record d { jobs = d.jobs ++ jobs }

abbrev pub with_objects : List ObjectFact → Draft → Draft
with_objects objects d = record d { space = record (d.space) { objects = objects } }

abbrev pub with_heap : HeapAndFree → Draft → Draft
with_heap h d = record d { space = record (d.space) { heap = h.heap }; free = h.free }

-- a change of the tables, as the tables' own crate defines it
abbrev pub with_changed : Changed → Draft → Draft
with_changed c d = record d { space = record (d.space) { tables = c.tables }; free = c.free; jobs = c.jobs }

abbrev pub change : (Changed → Changed) → Draft → Draft
change rule d = with_changed (rule (record { tables = d.space.tables; free = d.free; jobs = d.jobs })) d
