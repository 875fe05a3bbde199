-- The laws of the words of a block.
use Rattle.std.specs.Prelude.{ℕ, ◌+◌, ◌-◌, ◌/◌, ◌%◌, ◌≡◌, ◌<◌, ◌≤◌, ◌⊎◌, List, [], ◌∷◌, sum_by}
use Rattle.std.specs.List.{list_any}
use Rattle.osc_word.specs.declared.job_list.Job.{Job}
use Rattle.osc_word.specs.declared.job_list.Job.TheVariants.{PutWord, ZeroWords, CopyWords, CopyPart, CopyTable}
use Rattle.osc_class.specs.Rooms.{block_bytes}
use Rattle.osc_slot.specs.declared.Block.{Block}
use Rattle.osc_slot.specs.declared.HeapPage.{HeapPage}
use Rattle.osc_word.specs.AddressMap.{is_within}
use Rattle.osc_space.specs.BlockWords.{Stretch, stretches, block_word, zero_jobs, zero_block, header_jobs, copy_jobs, trim_jobs, whole_end}

-- each lies between two offsets, is not empty, and crosses no multiple of 4096
abbrev pub AreCut : ℕ → ℕ → List Stretch → Type 0
AreCut from to [] = Unit {0}
AreCut from to (s ∷ ss) = (from ≤ s.from) × (s.from < s.to) × (s.to ≤ to) × (s.from / 4096 ≡ (s.to - 1) / 4096) × AreCut from to ss

-- the stretches have each byte of a run once
pub record CutsRun (start end : ℕ) : Type 0 where
  pub cut : AreCut start end (stretches start end)
  pub covers : (byte : ℕ) → list_any (λ (s : Stretch). is_within s.from s.to byte) (stretches start end) ≡ is_within start end byte
  pub once : sum_by (λ (s : Stretch). s.to - s.from) (stretches start end) ≡ end - start

abbrev pub StretchesCut : Type 0
StretchesCut = (start end : ℕ) → CutsRun start end

-- a block begins with a page, or lies within one
abbrev pub LiesInFrames : Block → Type 0
LiesInFrames block = (block.start % 4096 ≡ 0) ⊎ (block.start % 4096 + block_bytes block.room ≤ 4096)

-- the words of a job are all in the frame of the first
abbrev pub StaysInFrame : Job → Type 0
StaysInFrame (ZeroWords at count) = at.index + count ≤ 512
StaysInFrame (CopyWords from to count) = (from.index + count ≤ 512) × (to.index + count ≤ 512)
StaysInFrame _ = Unit {0}

abbrev pub StayInFrames : List Job → Type 0
StayInFrames [] = Unit {0}
StayInFrames (job ∷ jobs) = StaysInFrame job × StayInFrames jobs

-- no piece of a block's jobs crosses a frame
pub record NoPieceCrosses : Type 0 where
  pub zero : (pages : List HeapPage) (block : Block) (from to : ℕ) → LiesInFrames block → to ≤ block_bytes block.room
      → StayInFrames (zero_jobs pages block from to)
  pub copy : (pages : List HeapPage) (old block : Block) (bytes : ℕ) → LiesInFrames old → LiesInFrames block
      → whole_end bytes ≤ block_bytes old.room → whole_end bytes ≤ block_bytes block.room
      → StayInFrames (copy_jobs pages old block bytes)

-- the frame of a word of the block
pub record IsFrameOf (pages : List HeapPage) (block : Block) (frame : ℕ) : Type 0 where
  pub offset : ℕ
  pub within : offset < block_bytes block.room
  pub is : (block_word pages block offset).frame ≡ frame

-- a job writes in such a frame, if any
abbrev pub WritesIn : List HeapPage → Block → Job → Type 0
WritesIn pages block (PutWord at value) = IsFrameOf pages block at.frame
WritesIn pages block (ZeroWords at count) = IsFrameOf pages block at.frame
WritesIn pages block (CopyWords from to count) = IsFrameOf pages block to.frame
WritesIn pages block (CopyPart from to bytes) = IsFrameOf pages block to.frame
WritesIn pages block (CopyTable from to) = IsFrameOf pages block to
WritesIn pages block _ = Unit {0}

abbrev pub AllWriteIn : List HeapPage → Block → List Job → Type 0
AllWriteIn pages block [] = Unit {0}
AllWriteIn pages block (job ∷ jobs) = WritesIn pages block job × AllWriteIn pages block jobs

-- the jobs on a block write in the frames of its words alone
pub record BlockJobsStay (pages : List HeapPage) (block : Block) : Type 0 where
  pub zero : AllWriteIn pages block (zero_block pages block)
  pub header : (size : ℕ) → 16 ≤ block_bytes block.room → AllWriteIn pages block (header_jobs pages block size)
  pub copy : (old : Block) (bytes : ℕ) → 16 + bytes ≤ block_bytes block.room → AllWriteIn pages block (copy_jobs pages old block bytes)
  pub trim : (bytes size : ℕ) → 16 + bytes ≤ block_bytes block.room → AllWriteIn pages block (trim_jobs pages block bytes size)
