-- Where no kind of line is said, no line is.
use Rattle.std.proofs.Common.{◌≡◌, ℕ, Bool, true, false, List, sym, ◌∙◌}
use Rattle.std.proofs.lemmas.Bool.{false≢true}
use Rattle.osc_rv.specs.declared.instr.Instr.{Instr}
use Rattle.osc_rv.specs.declared.instr.BranchKind.{BranchKind}
use Rattle.osc_rv.specs.Instr.{FieldsFit}
use Rattle.osc_text.specs.Text.{text_of}
use Rattle.osc_line.specs.declared.line.Name.{Name}
use Rattle.osc_line.specs.declared.line.Line.{Line}
use Rattle.osc_line.specs.declared.line.Line.TheVariants.{Blank, Bind, Plain, Branch, Jump, Li, La, Lab, Bytes}
use Rattle.osc_line.specs.Line.{is_blank, Says}

-- no line of a kind is said
pub record SaysNothing (line : List ℕ) : Type 0 where
  pub plain : (instr : Instr) → FieldsFit instr → text_of instr ≡ line → ⊥
  pub blank : is_blank line ≡ false
  pub bind : (name : Name) → Says line (Bind name) → ⊥
  pub branch : (kind : BranchKind) (rs1 rs2 : ℕ) (to : Name) → Says line (Branch kind rs1 rs2 to) → ⊥
  pub jump : (rd : ℕ) (to : Name) → Says line (Jump rd to) → ⊥
  pub li : (rd value : ℕ) → Says line (Li rd value) → ⊥
  pub la : (rd : ℕ) (to : Name) → Says line (La rd to) → ⊥
  pub lab : (rd offset : ℕ) → Says line (Lab rd offset) → ⊥
  pub bytes : (start digits : ℕ) → Says line (Bytes start digits) → ⊥

pub nothing_said : (line : List ℕ) → SaysNothing line → (said : Line) → Says line said → ⊥
nothing_said line none Blank is = false≢true (sym none.blank ∙ is)
nothing_said line none (Bind name) is = none.bind name is
nothing_said line none (Plain instr) is = none.plain instr is.0 is.1
nothing_said line none (Branch kind rs1 rs2 to) is = none.branch kind rs1 rs2 to is
nothing_said line none (Jump rd to) is = none.jump rd to is
nothing_said line none (Li rd value) is = none.li rd value is
nothing_said line none (La rd to) is = none.la rd to is
nothing_said line none (Lab rd offset) is = none.lab rd offset is
nothing_said line none (Bytes start digits) is = none.bytes start digits is
