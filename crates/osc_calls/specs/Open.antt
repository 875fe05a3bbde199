-- The kernel and the words of memory at the start: process 0 with its image and its stack. Frames are
-- taken from the least on: the root, and then for each page ascending the tables that are missing
-- over it, from the top, and its own. This project's own; the flags of a leaf are those of the RISC-V
-- Privileged manual, "Sv39" and "Sv48".
use Rattle.std.specs.Prelude.{ℕ, ◌+◌, ◌*◌, ◌/◌, ◌%◌, ◌==◌, true, false, List, [], ◌∷◌, ◌++◌, map, find, position, replicate, slice_set, Option, Some, None, unwrap_or}
use Rattle.std.specs.List.{range_with_len, filter_map}
use Rattle.std.specs.Option.{option_map}
use Rattle.byteorder.specs.Endian.{little_number}
use Rattle.osc_word.specs.declared.settings.Config.{Config}
use Rattle.osc_word.specs.declared.orders.Start.{Start}
use Rattle.osc_word.specs.AddressMap.{stack_end}
use Rattle.osc_word.specs.Registers.{with_register}
use Rattle.osc_sv39.specs.declared.flags.PteBits.{PteBits}
use Rattle.osc_slot.specs.Heap.{empty_heap}
use Rattle.osc_paging.specs.declared.Piece.{Piece}
use Rattle.osc_paging.specs.declared.Mapped.{Mapped}
use Rattle.osc_paging.specs.KeptTables.{KeptTables, closed, kept_word, piece_of}
use Rattle.osc_paging.specs.TableChanges.{Changed, link_all, put_leaf, opened}
use Rattle.osc_image.specs.Image.{Image, bits_at, byte_at, pages}
use Rattle.osc_image.specs.Frames.{stack_pages}
use Rattle.osc_space.specs.Share.{no_regions}
use Rattle.osc_space.specs.Space.{Space}
use Rattle.osc_space.specs.LeafFlags.{leaf_of_page}
use Rattle.osc_calls.specs.declared.HartRecord.{HartRecord}
use Rattle.osc_calls.specs.declared.HartRecord.TheVariants.{Idle, Runs}
use Rattle.osc_calls.specs.Kernel.{KernelState, Process, Quiet, process_at, root}
use Rattle.osc_calls.specs.ProcessPlans.{no_registers, thread_start}

-- ---- the pages
-- a page, by its number, and R, W and X
pub record OpenPage : Type 0 where
  pub page : ℕ
  pub bits : PteBits

abbrev pub open_page : ℕ → PteBits → OpenPage
open_page page bits = record { page = page; bits = bits }

abbrev pub image_page : Image → ℕ → Option OpenPage
image_page image page = option_map (open_page page) (bits_at image page)

-- the pages of an image, ascending
abbrev pub image_pages : Image → List OpenPage
image_pages image = filter_map (image_page image) (pages image)

-- the stack's 16 pages, which stand after every image page: R and W
abbrev pub all_pages : List OpenPage → List OpenPage
all_pages of_image = of_image ++ map (λ page. open_page page (record { 0 = 6 })) stack_pages

-- ---- the tables
-- a page gets this frame
abbrev pub laid : OpenPage → Option ℕ → Changed → Changed
laid p None c = c
laid p (Some frame) c =
    put_leaf p.page (record { frame = frame; bits = leaf_of_page p.bits }) (record c { free = slice_set c.free frame false })

abbrev pub lay : OpenPage → Changed → Changed
lay p c = laid p (position (λ b. b) c.free) c

-- the missing tables first, and then the least free frame
abbrev pub lay_all : List OpenPage → Changed → Changed
lay_all [] c = c
lay_all (p ∷ rest) c = lay_all rest (lay p (link_all c.tables.top p.page c))

-- the topmost table alone, in the least frame
abbrev pub rooted : Config → Changed
rooted config = record {
  tables = opened 0 (closed config.levels config.frames (config.frames + config.shadows));
  free = slice_set (replicate config.frames true) 0 false;
  jobs = [];
}

-- ---- the kernel
-- hart 0 runs process 0's first thread, and the others are idle
abbrev pub first_records : ℕ → List HartRecord
first_records harts = slice_set (replicate harts Idle) 0 (Runs 0 None)

abbrev pub first_space : Config → KeptTables → Space
first_space config tables =
    record { tables = tables; objects = []; waiting = []; shadows = config.shadows; heap = empty_heap config.frames }

abbrev pub first_process : Config → KeptTables → Process
first_process config tables = record { space = first_space config tables; inherited = 0; parent = None; status = None }

-- the jobs that make the words of the tables are the first ones
abbrev pub kernel_with : Config → Changed → KernelState
kernel_with config c = record {
  config = config;
  free = c.free;
  processes = first_process config c.tables ∷ [];
  regions = no_regions config.frames;
  threads = [];
  records = first_records config.harts;
  journal = [];
  output = [];
  reports = [];
  jobs = c.jobs;
  under_way = Quiet;
  peak = 0;
}

-- the kernel for an image of these pages, with the jobs of their tables
abbrev pub opening : List OpenPage → Config → KernelState
opening of_image config = kernel_with config (lay_all (all_pages of_image) (rooted config))

-- the kernel at the start: the jobs are done
abbrev pub open_pages : List OpenPage → Config → KernelState
open_pages of_image config = record (opening of_image config) { jobs = [] }

unfoldable pub open_kernel : Image → Config → KernelState
open_kernel image config = open_pages (image_pages image) config

-- ---- the words
-- the byte of an image at an address, 0 where it has none
abbrev pub image_byte : Image → ℕ → ℕ
image_byte image address = unwrap_or (byte_at image address) 0

-- the eight bytes from an address on, the lowest first
abbrev pub image_word : Image → ℕ → ℕ
image_word image address = little_number 8 (map (image_byte image) (range_with_len address 8))

abbrev pub data_word : Image → Option Mapped → ℕ → ℕ
data_word image None index = 0
data_word image (Some m) index = image_word image (4096 * m.number + 8 * index)

-- what stands in a frame: a table's entries, or the bytes of the page that has it, or else zeros
abbrev pub word_by : Image → KeptTables → Option Piece → ℕ → ℕ → ℕ
word_by image tables (Some p) frame index = kept_word tables frame index
word_by image tables None frame index = data_word image (find (λ (m : Mapped). m.mapping.frame == frame) tables.pages) index

abbrev pub open_word : Image → KeptTables → ℕ → ℕ → ℕ
open_word image tables frame index = word_by image tables (piece_of tables.tables frame) frame index

abbrev pub words_with : Image → ℕ → Option Process → List ℕ
words_with image frames None = []
words_with image frames (Some p) =
    map (λ place. open_word image p.space.tables (place / 512) (place % 512)) (range_with_len 0 (frames * 512))

-- the words of all frames at the start, frame by frame
unfoldable pub open_words : Image → KernelState → List ℕ
open_words image kernel = words_with image kernel.config.frames (process_at kernel 0)

-- ---- the first thread
-- it begins at the entry with the stack's end in x2
abbrev pub open_start : Image → KernelState → Start
open_start image kernel =
    thread_start kernel.config 0 (root kernel 0) (with_register no_registers 2 stack_end) image.entry
