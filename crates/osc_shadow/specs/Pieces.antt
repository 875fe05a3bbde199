-- The pieces of a run of words, and the job on one. This project's own.
use Rattle.std.specs.Prelude.{ℕ, ◌+◌, ◌/◌, List}
use Rattle.osc_word.specs.declared.job_list.Job.{Job}
use Rattle.osc_word.specs.declared.job_list.Job.TheVariants.{ZeroWords, CopyWords}
use Rattle.osc_slot.specs.declared.Block.{Block}
use Rattle.osc_slot.specs.declared.HeapPage.{HeapPage}
use Rattle.osc_space.specs.BlockWords.{Stretch, block_word, words_in}

-- how many pieces of 4096 bytes a run of words that ends there has at most
abbrev pub pieces : ℕ → ℕ
pieces to = (to + 4095) / 4096

abbrev pub zero_job : List HeapPage → Block → Stretch → Job
zero_job pages block s = ZeroWords (block_word pages block s.from) (words_in s)

-- the job on one of those that are copied into another block
abbrev pub copy_job : List HeapPage → Block → Block → Stretch → Job
copy_job pages old block s = CopyWords (block_word pages old s.from) (block_word pages block s.from) (words_in s)
