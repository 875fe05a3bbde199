-- Examples: calls on a small machine, one after another, each with its jobs done.
use Rattle.std.specs.Prelude.{ℕ, true, false, List, [], ◌∷◌, map, Option, Some, None}
use Rattle.std.specs.List.{range_with_len}
use Rattle.osc_word.specs.declared.settings.Config.{Config}
use Rattle.osc_word.specs.declared.settings.HeapKind.TheVariants.{Oscar, Plain}
use Rattle.osc_word.specs.declared.calls.Call.{Call}
use Rattle.osc_word.specs.declared.calls.Request.TheVariants as request
use Rattle.osc_word.specs.declared.calls.Answer.{Answer}
use Rattle.osc_word.specs.declared.calls.Entry.{Entry}
use Rattle.osc_word.specs.declared.calls.Resume.{Resume}
use Rattle.osc_word.specs.declared.job_list.Job.{Job}
use Rattle.osc_word.specs.declared.steps.Label.{Label}
use Rattle.osc_image.specs.Image.{Image}
use Rattle.osc_space.specs.Header.{Found}
use Rattle.osc_calls.specs.declared.Report.{Report}
use Rattle.osc_calls.specs.declared.BoxChange.{BoxChange}
use Rattle.osc_calls.specs.Kernel.{KernelState, Process, process_at}
use Rattle.osc_calls.specs.ProcessPlans.{no_registers}
use Rattle.osc_calls.specs.Begin.{Began, begin, no_words}
use Rattle.osc_calls.specs.Plan.{plan}
use Rattle.osc_calls.specs.JobDone.{job_done}
use Rattle.osc_calls.specs.Boxes.{box_change}
use Rattle.osc_calls.specs.Finish.{Finished, finish}
use Rattle.osc_calls.specs.Open.{open_page, open_pages, open_word, rooted, kernel_with}

-- ---- the machine: so many harts, and a process that has its topmost table alone
abbrev pub small : ℕ → Config
small harts = record {
  heap = Oscar;
  harts = harts;
  processes = 2;
  frames = 16;
  shadows = 3;
  journal = 8;
  levels = 3;
  batch = 1;
}

abbrev pub machine : Config → KernelState
machine config = kernel_with config (rooted config)

abbrev pub first : ℕ → KernelState
first harts = machine (small harts)

-- the same on the plain heap, with a journal of one entry, and where two freed objects wait for each other
abbrev pub plain_first : KernelState
plain_first = machine (record (small 1) { heap = Plain })

abbrev pub brief_first : KernelState
brief_first = machine (record (small 2) { journal = 1 })

abbrev pub paired_first : KernelState
paired_first = machine (record (small 2) { batch = 2 })

-- ---- calls
-- a call of a hart, and the header as it is found where the call reads one
pub record Asks : Type 0 where
  pub hart : ℕ
  pub call : Call
  pub found : Found

abbrev pub asks : ℕ → Call → Asks
asks hart call = record { hart = hart; call = call; found = no_words }

-- a call whose hart finds these two words
abbrev pub finds : ℕ → Call → ℕ → ℕ → Asks
finds hart call first second = record { hart = hart; call = call; found = record { first = first; second = second } }

-- once the call has begun, with its hart at the pc 0x10000
abbrev pub beginning : Asks → KernelState → Began
beginning a kernel = begin a.hart no_registers 0x10000 (request.Call a.call) kernel

-- once it is committed
abbrev pub planned : Asks → KernelState → KernelState
planned a kernel = (plan a.found (beginning a kernel).kernel).kernel

-- what the commit shows, where the call waits for boxes or a header
abbrev pub plan_shows : Asks → KernelState → List Label
plan_shows a kernel = (plan a.found (beginning a kernel).kernel).shows

abbrev pub jobs_of : Asks → KernelState → List Job
jobs_of a kernel = (planned a kernel).jobs

-- with so many of its jobs done, each of which has read this word last
abbrev pub works : List ℕ → KernelState → KernelState
works [] kernel = kernel
works (word ∷ words) kernel = works words (job_done word kernel).kernel

-- once it has returned
abbrev pub answer_to : Asks → KernelState → Finished
answer_to a kernel = finish (record (planned a kernel) { jobs = [] })

abbrev pub after : List Asks → KernelState → KernelState
after [] kernel = kernel
after (a ∷ rest) kernel = after rest (answer_to a kernel).kernel

-- how the harts go on
abbrev pub resumes : List Asks → KernelState → List Resume
resumes [] kernel = []
resumes (a ∷ rest) kernel = let f = answer_to a kernel in f.resume ∷ resumes rest f.kernel

-- what the returns show
abbrev pub returns_show : List Asks → KernelState → List (List Label)
returns_show [] kernel = []
returns_show (a ∷ rest) kernel = let f = answer_to a kernel in f.shows ∷ returns_show rest f.kernel

abbrev pub reports : KernelState → List Report
reports kernel = kernel.reports

-- the answers that the journal has
abbrev pub answers_of : KernelState → List Answer
answers_of kernel = map (λ (e : Entry). e.answer) kernel.journal

-- what each hart's box gets
abbrev pub changes : KernelState → List BoxChange
changes kernel = map (λ hart. box_change hart kernel) (range_with_len 0 kernel.config.harts)

-- ---- an image of one page, which can be read and executed, with three instructions at its entry
abbrev pub one_page : Image
one_page = record {
  entry = 0x10000;
  segments = (record {
    address = 0x10000;
    size = 12;
    bytes = 0x13 ∷ 0x05 ∷ 0x70 ∷ 0 ∷ 0x93 ∷ 0x08 ∷ 0x10 ∷ 0 ∷ 0x73 ∷ 0 ∷ 0 ∷ 0 ∷ [];
    readable = true;
    writable = false;
    executable = true;
  }) ∷ [];
}

abbrev pub one_page_opened : ℕ → KernelState
one_page_opened levels =
    open_pages (open_page 16 (record { 0 = 10 }) ∷ []) (record (small 1) { frames = 24; levels = levels })

abbrev pub opened_word : Option Process → ℕ → ℕ → ℕ
opened_word None frame index = 0
opened_word (Some p) frame index = open_word one_page p.space.tables frame index

-- what stands at this place of memory at the start
abbrev pub word_opened : ℕ → ℕ → ℕ
word_opened frame index = opened_word (process_at (one_page_opened 3) 0) frame index
