-- The source and the sink in memory, as contracts see them. This project's own.
-- Calls are numbered from 1, and `failing` lists the numbers of those that are to fail.
use Rattle.std.specs.Prelude.{ℕ, ◌-◌, ◌<◌, ◌≤◌, min, List, ◌++◌, length, drop, Contains, ◌⊎◌}
use Rattle.osc_outside.specs.Faults.{risen}

pub record MemoryInput : Type 0 where
  pub left : List ℕ
  pub most : ℕ
  pub failing : List ℕ
  pub calls : ℕ
  pub faults : ℕ

-- the next call is to fail
abbrev pub ReadFails : MemoryInput → Type 0
ReadFails source = Contains source.failing (risen source.calls)

-- how many bytes a read into a buffer of this length gives
abbrev pub read_count : MemoryInput → ℕ → ℕ
read_count source size = min source.most (min size (length source.left))

abbrev pub after_read : MemoryInput → ℕ → MemoryInput
after_read source count = record source { left = drop count source.left; calls = risen source.calls }

abbrev pub after_failed_read : MemoryInput → MemoryInput
after_failed_read source = record source { calls = risen source.calls; faults = risen source.faults }

pub record MemoryOutput : Type 0 where
  pub holds : List ℕ
  pub room : ℕ
  pub most : ℕ
  pub failing : List ℕ
  pub calls : ℕ
  pub faults : ℕ

-- the next call is to fail, or the piece has bytes and no room is left for one
abbrev pub WriteFails : MemoryOutput → List ℕ → Type 0
WriteFails sink piece =
    Contains sink.failing (risen sink.calls) ⊎ ((0 < length piece) × (sink.room ≤ length sink.holds))

-- how many bytes of a piece of this length a write takes
abbrev pub write_count : MemoryOutput → ℕ → ℕ
write_count sink size = min sink.most (min size (sink.room - length sink.holds))

abbrev pub after_write : MemoryOutput → List ℕ → MemoryOutput
after_write sink bytes = record sink { holds = sink.holds ++ bytes; calls = risen sink.calls }

abbrev pub after_failed_write : MemoryOutput → MemoryOutput
after_failed_write sink = record sink { calls = risen sink.calls; faults = risen sink.faults }
