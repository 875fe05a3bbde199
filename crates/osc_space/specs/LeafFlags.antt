-- The flags of the leaf of a page. They are those of the RISC-V Privileged manual, "Sv39".
use Rattle.std.specs.Prelude.{ℕ, ◌+◌, ◌*◌, ◌/◌, ◌%◌}
use Rattle.osc_sv39.specs.declared.flags.PteBits.{PteBits}
use Rattle.osc_sv39.specs.declared.entries.Mapping.{Mapping}

-- V, U, A and D, with R, W and X of a page
abbrev pub leaf_of_page : PteBits → PteBits
leaf_of_page bits = record { 0 = 0xD1 + bits.0 / 2 % 8 * 2 }

-- of a page that can be read and written
abbrev pub read_write : PteBits
read_write = record { 0 = 0xD7 }

abbrev pub read_write_at : ℕ → Mapping
read_write_at frame = record { frame = frame; bits = read_write }
