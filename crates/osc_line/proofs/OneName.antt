-- No two mnemonics have one name.
use Rattle.std.proofs.Common.{◌≡◌, ℕ, Bool, true, false, List, [], ◌∷◌, ◌++◌, Option, Some, None, map, flat_map, find, refl, sym, ap, ◌∙◌}
use Rattle.std.specs.Str.{bytes_eq}
use Rattle.osc_rv.specs.declared.instr.UpperOp.TheVariants.{Lui, Auipc}
use Rattle.osc_rv.specs.declared.instr.BranchKind.TheVariants.{Beq, Bne, Blt, Bge, Bltu, Bgeu}
use Rattle.osc_rv.specs.declared.instr.LoadKind.TheVariants.{Lb, Lh, Lw, Ld, Lbu, Lhu, Lwu}
use Rattle.osc_rv.specs.declared.instr.StoreKind.TheVariants.{Sb, Sh, Sw, Sd}
use Rattle.osc_rv.specs.declared.instr.ImmOp.TheVariants.{Addi, Slti, Sltiu, Xori, Ori, Andi, Addiw}
use Rattle.osc_rv.specs.declared.instr.ShiftOp.TheVariants.{Left, Right, Signed}
use Rattle.osc_rv.specs.declared.instr.RegOp.TheVariants.{Add, Sub, Sll, Slt, Sltu, Xor, Srl, Sra, Or, And, Addw, Subw, Sllw, Srlw, Sraw}
use Rattle.osc_rv.specs.declared.instr.MulOp.TheVariants as mul
use Rattle.osc_rv.specs.declared.instr.AmoOp.{AmoOp}
use Rattle.osc_rv.specs.declared.instr.AmoOp.TheVariants as amo
use Rattle.osc_rv.specs.declared.instr.Width.{Width}
use Rattle.osc_rv.specs.declared.instr.Width.TheVariants.{W, D}
use Rattle.osc_text.specs.declared.spelling.Mnemonic.{Mnemonic}
use Rattle.osc_text.specs.declared.spelling.Mnemonic.TheVariants as mnemonic
use Rattle.osc_text.specs.Names.{name_of}
use Rattle.osc_line.proofs.Splits.{lacks}

-- every mnemonic
ordered : (Width → Bool → Bool → Mnemonic) → List Mnemonic
ordered of =
    of W false false ∷ of W true false ∷ of W false true ∷ of W true true
    ∷ of D false false ∷ of D true false ∷ of D false true ∷ of D true true ∷ []

mnemonics : List Mnemonic
mnemonics =
    map (λ op. mnemonic.Upper op) (Lui ∷ Auipc ∷ [])
    ++ map (λ op. mnemonic.Branch op) (Beq ∷ Bne ∷ Blt ∷ Bge ∷ Bltu ∷ Bgeu ∷ [])
    ++ map (λ op. mnemonic.Load op) (Lb ∷ Lh ∷ Lw ∷ Ld ∷ Lbu ∷ Lhu ∷ Lwu ∷ [])
    ++ map (λ op. mnemonic.Store op) (Sb ∷ Sh ∷ Sw ∷ Sd ∷ [])
    ++ map (λ op. mnemonic.Imm op) (Addi ∷ Slti ∷ Sltiu ∷ Xori ∷ Ori ∷ Andi ∷ Addiw ∷ [])
    ++ map (λ op. mnemonic.Shift op) (Left ∷ Right ∷ Signed ∷ [])
    ++ map (λ op. mnemonic.ShiftW op) (Left ∷ Right ∷ Signed ∷ [])
    ++ map (λ op. mnemonic.Op op) (Add ∷ Sub ∷ Sll ∷ Slt ∷ Sltu ∷ Xor ∷ Srl ∷ Sra ∷ Or ∷ And ∷ Addw ∷ Subw ∷ Sllw ∷ Srlw ∷ Sraw ∷ [])
    ++ map (λ op. mnemonic.Mul op) (mul.Mul ∷ mul.Mulh ∷ mul.Mulhsu ∷ mul.Mulhu ∷ mul.Div ∷ mul.Divu ∷ mul.Rem ∷ mul.Remu ∷ mul.Mulw ∷ mul.Divw ∷ mul.Divuw ∷ mul.Remw ∷ mul.Remuw ∷ [])
    ++ (mnemonic.Jal ∷ mnemonic.Jalr ∷ mnemonic.Fence ∷ mnemonic.FenceI ∷ mnemonic.Ecall ∷ mnemonic.Ebreak ∷ [])
    ++ flat_map (λ op. ordered (λ width aq rl. mnemonic.Amo op width aq rl)) (amo.Add ∷ amo.Swap ∷ amo.Xor ∷ amo.Or ∷ amo.And ∷ amo.Min ∷ amo.Max ∷ amo.Minu ∷ amo.Maxu ∷ [])
    ++ ordered (λ width aq rl. mnemonic.Lr width aq rl)
    ++ ordered (λ width aq rl. mnemonic.Sc width aq rl)

named : List ℕ → Option Mnemonic
named name = find (λ m. bytes_eq (name_of m) name) mnemonics

-- the name gives the mnemonic back, and has no space
back : (m : Mnemonic) → (named (name_of m) ≡ Some m) × (lacks 32 (name_of m) ≡ true)
unfolding named mnemonics ordered
back (mnemonic.Upper Lui) = (refl, refl)
back (mnemonic.Upper Auipc) = (refl, refl)
back (mnemonic.Branch Beq) = (refl, refl)
back (mnemonic.Branch Bne) = (refl, refl)
back (mnemonic.Branch Blt) = (refl, refl)
back (mnemonic.Branch Bge) = (refl, refl)
back (mnemonic.Branch Bltu) = (refl, refl)
back (mnemonic.Branch Bgeu) = (refl, refl)
back (mnemonic.Load Lb) = (refl, refl)
back (mnemonic.Load Lh) = (refl, refl)
back (mnemonic.Load Lw) = (refl, refl)
back (mnemonic.Load Ld) = (refl, refl)
back (mnemonic.Load Lbu) = (refl, refl)
back (mnemonic.Load Lhu) = (refl, refl)
back (mnemonic.Load Lwu) = (refl, refl)
back (mnemonic.Store Sb) = (refl, refl)
back (mnemonic.Store Sh) = (refl, refl)
back (mnemonic.Store Sw) = (refl, refl)
back (mnemonic.Store Sd) = (refl, refl)
back (mnemonic.Imm Addi) = (refl, refl)
back (mnemonic.Imm Slti) = (refl, refl)
back (mnemonic.Imm Sltiu) = (refl, refl)
back (mnemonic.Imm Xori) = (refl, refl)
back (mnemonic.Imm Ori) = (refl, refl)
back (mnemonic.Imm Andi) = (refl, refl)
back (mnemonic.Imm Addiw) = (refl, refl)
back (mnemonic.Shift Left) = (refl, refl)
back (mnemonic.Shift Right) = (refl, refl)
back (mnemonic.Shift Signed) = (refl, refl)
back (mnemonic.ShiftW Left) = (refl, refl)
back (mnemonic.ShiftW Right) = (refl, refl)
back (mnemonic.ShiftW Signed) = (refl, refl)
back (mnemonic.Op Add) = (refl, refl)
back (mnemonic.Op Sub) = (refl, refl)
back (mnemonic.Op Sll) = (refl, refl)
back (mnemonic.Op Slt) = (refl, refl)
back (mnemonic.Op Sltu) = (refl, refl)
back (mnemonic.Op Xor) = (refl, refl)
back (mnemonic.Op Srl) = (refl, refl)
back (mnemonic.Op Sra) = (refl, refl)
back (mnemonic.Op Or) = (refl, refl)
back (mnemonic.Op And) = (refl, refl)
back (mnemonic.Op Addw) = (refl, refl)
back (mnemonic.Op Subw) = (refl, refl)
back (mnemonic.Op Sllw) = (refl, refl)
back (mnemonic.Op Srlw) = (refl, refl)
back (mnemonic.Op Sraw) = (refl, refl)
back (mnemonic.Mul mul.Mul) = (refl, refl)
back (mnemonic.Mul mul.Mulh) = (refl, refl)
back (mnemonic.Mul mul.Mulhsu) = (refl, refl)
back (mnemonic.Mul mul.Mulhu) = (refl, refl)
back (mnemonic.Mul mul.Div) = (refl, refl)
back (mnemonic.Mul mul.Divu) = (refl, refl)
back (mnemonic.Mul mul.Rem) = (refl, refl)
back (mnemonic.Mul mul.Remu) = (refl, refl)
back (mnemonic.Mul mul.Mulw) = (refl, refl)
back (mnemonic.Mul mul.Divw) = (refl, refl)
back (mnemonic.Mul mul.Divuw) = (refl, refl)
back (mnemonic.Mul mul.Remw) = (refl, refl)
back (mnemonic.Mul mul.Remuw) = (refl, refl)
back mnemonic.Jal = (refl, refl)
back mnemonic.Jalr = (refl, refl)
back mnemonic.Fence = (refl, refl)
back mnemonic.FenceI = (refl, refl)
back mnemonic.Ecall = (refl, refl)
back mnemonic.Ebreak = (refl, refl)
back (mnemonic.Amo amo.Add W false false) = (refl, refl)
back (mnemonic.Amo amo.Add W false true) = (refl, refl)
back (mnemonic.Amo amo.Add W true false) = (refl, refl)
back (mnemonic.Amo amo.Add W true true) = (refl, refl)
back (mnemonic.Amo amo.Add D false false) = (refl, refl)
back (mnemonic.Amo amo.Add D false true) = (refl, refl)
back (mnemonic.Amo amo.Add D true false) = (refl, refl)
back (mnemonic.Amo amo.Add D true true) = (refl, refl)
back (mnemonic.Amo amo.Swap W false false) = (refl, refl)
back (mnemonic.Amo amo.Swap W false true) = (refl, refl)
back (mnemonic.Amo amo.Swap W true false) = (refl, refl)
back (mnemonic.Amo amo.Swap W true true) = (refl, refl)
back (mnemonic.Amo amo.Swap D false false) = (refl, refl)
back (mnemonic.Amo amo.Swap D false true) = (refl, refl)
back (mnemonic.Amo amo.Swap D true false) = (refl, refl)
back (mnemonic.Amo amo.Swap D true true) = (refl, refl)
back (mnemonic.Amo amo.Xor W false false) = (refl, refl)
back (mnemonic.Amo amo.Xor W false true) = (refl, refl)
back (mnemonic.Amo amo.Xor W true false) = (refl, refl)
back (mnemonic.Amo amo.Xor W true true) = (refl, refl)
back (mnemonic.Amo amo.Xor D false false) = (refl, refl)
back (mnemonic.Amo amo.Xor D false true) = (refl, refl)
back (mnemonic.Amo amo.Xor D true false) = (refl, refl)
back (mnemonic.Amo amo.Xor D true true) = (refl, refl)
back (mnemonic.Amo amo.Or W false false) = (refl, refl)
back (mnemonic.Amo amo.Or W false true) = (refl, refl)
back (mnemonic.Amo amo.Or W true false) = (refl, refl)
back (mnemonic.Amo amo.Or W true true) = (refl, refl)
back (mnemonic.Amo amo.Or D false false) = (refl, refl)
back (mnemonic.Amo amo.Or D false true) = (refl, refl)
back (mnemonic.Amo amo.Or D true false) = (refl, refl)
back (mnemonic.Amo amo.Or D true true) = (refl, refl)
back (mnemonic.Amo amo.And W false false) = (refl, refl)
back (mnemonic.Amo amo.And W false true) = (refl, refl)
back (mnemonic.Amo amo.And W true false) = (refl, refl)
back (mnemonic.Amo amo.And W true true) = (refl, refl)
back (mnemonic.Amo amo.And D false false) = (refl, refl)
back (mnemonic.Amo amo.And D false true) = (refl, refl)
back (mnemonic.Amo amo.And D true false) = (refl, refl)
back (mnemonic.Amo amo.And D true true) = (refl, refl)
back (mnemonic.Amo amo.Min W false false) = (refl, refl)
back (mnemonic.Amo amo.Min W false true) = (refl, refl)
back (mnemonic.Amo amo.Min W true false) = (refl, refl)
back (mnemonic.Amo amo.Min W true true) = (refl, refl)
back (mnemonic.Amo amo.Min D false false) = (refl, refl)
back (mnemonic.Amo amo.Min D false true) = (refl, refl)
back (mnemonic.Amo amo.Min D true false) = (refl, refl)
back (mnemonic.Amo amo.Min D true true) = (refl, refl)
back (mnemonic.Amo amo.Max W false false) = (refl, refl)
back (mnemonic.Amo amo.Max W false true) = (refl, refl)
back (mnemonic.Amo amo.Max W true false) = (refl, refl)
back (mnemonic.Amo amo.Max W true true) = (refl, refl)
back (mnemonic.Amo amo.Max D false false) = (refl, refl)
back (mnemonic.Amo amo.Max D false true) = (refl, refl)
back (mnemonic.Amo amo.Max D true false) = (refl, refl)
back (mnemonic.Amo amo.Max D true true) = (refl, refl)
back (mnemonic.Amo amo.Minu W false false) = (refl, refl)
back (mnemonic.Amo amo.Minu W false true) = (refl, refl)
back (mnemonic.Amo amo.Minu W true false) = (refl, refl)
back (mnemonic.Amo amo.Minu W true true) = (refl, refl)
back (mnemonic.Amo amo.Minu D false false) = (refl, refl)
back (mnemonic.Amo amo.Minu D false true) = (refl, refl)
back (mnemonic.Amo amo.Minu D true false) = (refl, refl)
back (mnemonic.Amo amo.Minu D true true) = (refl, refl)
back (mnemonic.Amo amo.Maxu W false false) = (refl, refl)
back (mnemonic.Amo amo.Maxu W false true) = (refl, refl)
back (mnemonic.Amo amo.Maxu W true false) = (refl, refl)
back (mnemonic.Amo amo.Maxu W true true) = (refl, refl)
back (mnemonic.Amo amo.Maxu D false false) = (refl, refl)
back (mnemonic.Amo amo.Maxu D false true) = (refl, refl)
back (mnemonic.Amo amo.Maxu D true false) = (refl, refl)
back (mnemonic.Amo amo.Maxu D true true) = (refl, refl)
back (mnemonic.Lr W false false) = (refl, refl)
back (mnemonic.Lr W false true) = (refl, refl)
back (mnemonic.Lr W true false) = (refl, refl)
back (mnemonic.Lr W true true) = (refl, refl)
back (mnemonic.Lr D false false) = (refl, refl)
back (mnemonic.Lr D false true) = (refl, refl)
back (mnemonic.Lr D true false) = (refl, refl)
back (mnemonic.Lr D true true) = (refl, refl)
back (mnemonic.Sc W false false) = (refl, refl)
back (mnemonic.Sc W false true) = (refl, refl)
back (mnemonic.Sc W true false) = (refl, refl)
back (mnemonic.Sc W true true) = (refl, refl)
back (mnemonic.Sc D false false) = (refl, refl)
back (mnemonic.Sc D false true) = (refl, refl)
back (mnemonic.Sc D true false) = (refl, refl)
back (mnemonic.Sc D true true) = (refl, refl)

pub from_some : {A : Type 0} {x y : A} → Some x ≡ Some y → x ≡ y
from_some {A} {x} {y} e = search e

pub one_name : (m n : Mnemonic) → name_of m ≡ name_of n → m ≡ n
one_name m n same = from_some (sym (back m).0 ∙ (ap named same ∙ (back n).0))

pub no_space : (m : Mnemonic) → lacks 32 (name_of m) ≡ true
no_space m = (back m).1
