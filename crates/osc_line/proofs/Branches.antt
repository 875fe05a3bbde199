-- The parts of a branch to a name.
use Rattle.std.proofs.Common.{◌≡◌, ℕ, List, ◌++◌, codes, refl, ◌∙◌, append_assoc}
use Rattle.osc_rv.specs.declared.instr.BranchKind.{BranchKind}
use Rattle.osc_text.specs.declared.spelling.Mnemonic.TheVariants as mnemonic
use Rattle.osc_text.specs.Names.{branch_name}
use Rattle.osc_line.specs.Line.{first_register}
use Rattle.osc_line.specs.Parts.{from_byte}
use Rattle.osc_line.proofs.Splits.{parts_of}
use Rattle.osc_line.proofs.OneName.{no_space}

pub branch_parts : (line front after word : List ℕ) (kind : BranchKind) (rs1 rs2 : ℕ) → line ≡ front ++ after → after ≡ from_byte 32 line
    → line ≡ branch_name kind ++ codes " " ++ first_register rs1 (first_register rs2 word)
    → (front ≡ branch_name kind) × (after ≡ codes " " ++ first_register rs1 (first_register rs2 word))
branch_parts line front after word kind rs1 rs2 whole from is =
    let rest = first_register rs1 (first_register rs2 word) in
    parts_of 32 line front after (branch_name kind) (codes " " ++ rest) whole from (no_space (mnemonic.Branch kind)) refl
    (is ∙ append_assoc (branch_name kind) (codes " ") rest)
