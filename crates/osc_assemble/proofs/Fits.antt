-- What a line says lies within it.
use Rattle.std.proofs.Common.{ℕ, ◌+◌, ◌≤◌, List, ◌++◌, length, ap, arith, length-append}
use Rattle.std.specs.Prelude.{codes}
use Rattle.osc_rv.specs.declared.instr.BranchKind.{BranchKind}
use Rattle.osc_text.specs.Names.{branch_name}
use Rattle.osc_text.specs.Text.{register_text}
use Rattle.osc_line.specs.declared.line.Name.{Name}
use Rattle.osc_line.specs.declared.line.Line.TheVariants.{Bind, Branch, Jump, La, Bytes}
use Rattle.osc_line.specs.Line.{Says, EndsIn, first_register}

after-front : (front rest : List ℕ) → length rest ≤ length (front ++ rest)
after-front front rest = omega (arith, length-append front rest)

after-register : (register : ℕ) (rest : List ℕ) → length rest ≤ length (first_register register rest)
after-register register rest =
    after-front (register_text register ++ codes ", ") rest

ends : (line word : List ℕ) (name : Name) → EndsIn line word name → length word ≤ length line
    → name.start + name.count ≤ length line
ends line word name at within = omega (arith, at.start, at.count, within)

pub bind-fits : (line : List ℕ) (name : Name) → Says line (Bind name) → name.start + name.count ≤ length line
bind-fits line name says = omega (arith, says.0, says.3, ap length says.4, length-append says.1 (codes ":"))

pub branch-fits : (line : List ℕ) (kind : BranchKind) (rs1 rs2 : ℕ) (to : Name) → Says line (Branch kind rs1 rs2 to)
    → to.start + to.count ≤ length line
branch-fits line kind rs1 rs2 to says =
    ends line says.2 to says.3
    (omega (
      arith,
      ap length says.4,
      after-front (branch_name kind ++ codes " ") (first_register rs1 (first_register rs2 says.2)),
      after-register rs1 (first_register rs2 says.2),
      after-register rs2 says.2,
    ))

pub jump-fits : (line : List ℕ) (rd : ℕ) (to : Name) → Says line (Jump rd to) → to.start + to.count ≤ length line
jump-fits line rd to says =
    ends line says.1 to says.2
    (omega (arith, ap length says.3, after-front (codes "jal ") (first_register rd says.1), after-register rd says.1))

pub la-fits : (line : List ℕ) (rd : ℕ) (to : Name) → Says line (La rd to) → to.start + to.count ≤ length line
la-fits line rd to says =
    ends line says.1 to says.2
    (omega (arith, ap length says.3, after-front (codes "la ") (first_register rd says.1), after-register rd says.1))

pub bytes-fits : (line : List ℕ) (start digits : ℕ) → Says line (Bytes start digits) → start + digits ≤ length line
bytes-fits line start digits says =
    omega (arith, says.0, says.3, ap length says.4, length-append (codes "bytes ") says.1)
