-- The file has the fields before the index.
use Rattle.std.proofs.Common.{◌≡◌, ◌++◌, drop}
use Rattle.osc_asm.specs.File.{fields_bytes}
use Rattle.osc_asm.proofs.header.push_fields.Given as goal

abbrev pub invariant-loop-field : goal.invariant-loop-field
invariant-loop-field l =
    l.file.items ++ fields_bytes (drop l.field-index l.fields) ≡ l.fn.file.items ++ fields_bytes l.fields
