-- The segments that a reader keeps: what each means, and the pages that it touches. This project's own.
use Rattle.std.specs.Prelude.{ℕ, ◌+◌, ◌/◌, max, Bool, ◌||◌, List, [], ◌∷◌, take, drop, map}
use Rattle.osc_image.specs.Image as image
use Rattle.osc_elf.specs.declared.segment.Segment.{Segment}
use Rattle.osc_sv39.specs.declared.entries.Access.{Access}
use Rattle.osc_sv39.specs.declared.entries.Access.TheVariants.{Fetch, Load, Store}

-- the segment of a file
abbrev pub shown : List ℕ → Segment → image.Segment
shown file segment = record {
  address = segment.address;
  size = segment.size;
  bytes = take segment.file_size (drop segment.offset file);
  readable = segment.readable;
  writable = segment.writable;
  executable = segment.executable;
}

abbrev pub all_shown : List ℕ → List Segment → List image.Segment
all_shown file segments = map (shown file) segments

-- what a segment permits, whatever the file
abbrev pub grants : Segment → Access → Bool
grants segment Fetch = segment.executable
grants segment Load = segment.readable || segment.writable
grants segment Store = segment.writable

-- the first page that a segment touches
abbrev pub first_page : Segment → ℕ
first_page segment = segment.address / 4096

-- the page after the last that a segment touches
abbrev pub end_page : Segment → ℕ
end_page segment = (segment.address + segment.size + 4095) / 4096

-- the page after the last that any of the segments touches
abbrev pub last_end : List Segment → ℕ
last_end [] = 0
last_end (segment ∷ segments) = max (end_page segment) (last_end segments)
