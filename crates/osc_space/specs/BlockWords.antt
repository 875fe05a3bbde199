-- The words of a block, and the jobs on them. A block has a header of two words: the address of its
-- first byte after the header, and the size that was asked for. Small blocks lie within one frame, and a
-- block of pages begins with its first page, so a run of words that is cut at each 4096 bytes of
-- the block crosses no frame. This project's own.
use Rattle.std.specs.Prelude.{ℕ, zero, suc, ◌+◌, ◌-◌, ◌*◌, ◌/◌, ◌%◌, ◌==◌, nat_lt, min, max, unwrap_or, List, [], ◌∷◌, ◌++◌, map, if◌then◌else◌}
use Rattle.std.specs.List.{range_with_len}
use Rattle.osc_word.specs.declared.job_list.WordAt.{WordAt}
use Rattle.osc_word.specs.declared.job_list.Job.{Job}
use Rattle.osc_word.specs.declared.job_list.Job.TheVariants.{PutWord, ZeroWords, CopyWords, CopyPart}
use Rattle.osc_sv39.specs.declared.entries.Mapping.{Mapping}
use Rattle.osc_class.specs.Rooms.{block_bytes, shadow_pages}
use Rattle.osc_slot.specs.declared.Block.{Block}
use Rattle.osc_slot.specs.declared.HeapPage.{HeapPage}
use Rattle.osc_slot.specs.Heap.{frame_of}
use Rattle.osc_space.specs.LeafFlags.{read_write_at}

-- ---- places
-- the frame of a page that holds a block
abbrev pub frame_at : List HeapPage → ℕ → ℕ
frame_at pages page = unwrap_or (frame_of pages page) 0

-- the word at a canonical address
abbrev pub word_of_address : List HeapPage → ℕ → WordAt
word_of_address pages address = record { frame = frame_at pages (address / 4096); index = address % 4096 / 8 }

-- the word so many bytes past a block's start
abbrev pub block_word : List HeapPage → Block → ℕ → WordAt
block_word pages block offset = word_of_address pages (block.start + offset)

-- so many pages from this one on, each with the frame that it has, to be read and written
abbrev pub mappings_of : List HeapPage → ℕ → ℕ → List Mapping
mappings_of pages first count = map (λ page. read_write_at (frame_at pages page)) (range_with_len first count)

-- the mappings of a block's pages, for its shadows
abbrev pub block_mappings : List HeapPage → Block → List Mapping
block_mappings pages block = mappings_of pages (block.start / 4096) (shadow_pages block.room)

-- ---- runs of words
-- the bytes of a block from one offset to another, both multiples of 8
pub record Stretch : Type 0 where
  pub from : ℕ
  pub to : ℕ

abbrev pub stretch : ℕ → ℕ → List Stretch
stretch from to = if nat_lt from to then record { from = from; to = to } ∷ [] else []

-- the parts of a stretch in so many pieces of 4096 bytes, from this one on
unfoldable pub cut : ℕ → ℕ → ℕ → ℕ → List Stretch
cut zero piece from to = []
cut (suc count) piece from to = stretch (max from (4096 * piece)) (min to (4096 * piece + 4096)) ++ cut count (piece + 1) from to

abbrev pub stretches : ℕ → ℕ → List Stretch
stretches from to = cut ((to + 4095) / 4096) 0 from to

abbrev pub words_in : Stretch → ℕ
words_in s = (s.to - s.from) / 8

-- ---- jobs
abbrev pub zero_jobs : List HeapPage → Block → ℕ → ℕ → List Job
zero_jobs pages block from to =
    map (λ (s : Stretch). ZeroWords (block_word pages block s.from) (words_in s)) (stretches from to)

-- all words after the header become 0
abbrev pub zero_block : List HeapPage → Block → List Job
zero_block pages block = zero_jobs pages block 16 (block_bytes block.room)

abbrev pub size_job : List HeapPage → Block → ℕ → Job
size_job pages block size = PutWord (block_word pages block 8) size

-- the two header words
abbrev pub header_jobs : List HeapPage → Block → ℕ → List Job
header_jobs pages block size = PutWord (block_word pages block 0) (block.start + 16) ∷ size_job pages block size ∷ []

-- the offset of the word past the last whole one among so many bytes after the header
abbrev pub whole_end : ℕ → ℕ
whole_end bytes = 16 + bytes / 8 * 8

-- the offset of the first word that has none of them
abbrev pub words_end : ℕ → ℕ
words_end bytes = 16 + (bytes + 7) / 8 * 8

-- where bytes are no whole words, the last of their words is copied with those bytes alone
abbrev pub part_job : List HeapPage → Block → Block → ℕ → List Job
part_job pages from to bytes =
    if bytes % 8 == 0 then []
    else CopyPart (block_word pages from (whole_end bytes)) (block_word pages to (whole_end bytes)) (bytes % 8) ∷ []

-- so many bytes after the header are copied into another block
abbrev pub copy_jobs : List HeapPage → Block → Block → ℕ → List Job
copy_jobs pages from to bytes =
    map (λ (s : Stretch). CopyWords (block_word pages from s.from) (block_word pages to s.from) (words_in s)) (stretches 16 (whole_end bytes))
    ++ part_job pages from to bytes

-- of a block that stays, so many bytes are kept and all after them become 0; the size is put anew
abbrev pub trim_jobs : List HeapPage → Block → ℕ → ℕ → List Job
trim_jobs pages block bytes size =
    part_job pages block block bytes
    ++ zero_jobs pages block (words_end bytes) (block_bytes block.room)
    ++ size_job pages block size ∷ []
