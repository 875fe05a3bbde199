-- A name that is the name of no operation, of no single instruction and of no atomic access is none.
use Rattle.std.proofs.Common.{◌≡◌, ◌≢◌, ℕ, Bool, true, List, ◌++◌, Option, None, Some, IfSome, IsNone, refl, ◌∙◌, append_assoc, codes}
use Rattle.osc_text.specs.declared.spelling.Mnemonic.{Mnemonic}
use Rattle.osc_text.specs.declared.spelling.Mnemonic.TheVariants.{Upper, Jal, Jalr, Branch, Load, Store, Imm, Shift, ShiftW, Op, Mul, Fence, FenceI, Ecall, Ebreak, Amo, Lr, Sc}
use Rattle.osc_text.specs.Names.{name_of, upper_name, branch_name, load_name, store_name, imm_name, shift_name, shift_w_name, reg_name, mul_name, amo_name, width_name, order_name}
use Rattle.osc_line.specs.declared.mnemonic.Ending.{Ending}
use Rattle.osc_line.specs.declared.mnemonic.Stem.{Stem}
use Rattle.osc_line.specs.declared.mnemonic.Stem.TheVariants as stem
use Rattle.osc_line.specs.Named.{Named}
use Rattle.osc_line.specs.Parts.{is_single, stem_name, ending_name}

pub record NoOperation (name : List ℕ) : Type 0 where
  pub upper : Named upper_name name None
  pub branch : Named branch_name name None
  pub load : Named load_name name None
  pub store : Named store_name name None
  pub imm : Named imm_name name None
  pub shift : Named shift_name name None
  pub shift_w : Named shift_w_name name None
  pub reg : Named reg_name name None
  pub mul : Named mul_name name None

unnamed : (name : List ℕ) → NoOperation name → ((m : Mnemonic) → is_single m ≡ true → name ≢ name_of m)
    → ((stem : Stem) (ending : Ending) → name ≢ stem_name stem ++ ending_name ending) → (m : Mnemonic) → name ≢ name_of m
unnamed name none single atomic (Upper op) = none.upper op
unnamed name none single atomic (Branch kind) = none.branch kind
unnamed name none single atomic (Load kind) = none.load kind
unnamed name none single atomic (Store kind) = none.store kind
unnamed name none single atomic (Imm op) = none.imm op
unnamed name none single atomic (Shift op) = none.shift op
unnamed name none single atomic (ShiftW op) = none.shift_w op
unnamed name none single atomic (Op op) = none.reg op
unnamed name none single atomic (Mul op) = none.mul op
unnamed name none single atomic Jal = single Jal refl
unnamed name none single atomic Jalr = single Jalr refl
unnamed name none single atomic Fence = single Fence refl
unnamed name none single atomic FenceI = single FenceI refl
unnamed name none single atomic Ecall = single Ecall refl
unnamed name none single atomic Ebreak = single Ebreak refl
unnamed name none single atomic (Amo op width aq rl) =
    λ is. atomic (stem.Amo op) (record { width = width; aq = aq; rl = rl }) (is ∙ append_assoc (amo_name op) (width_name width) (order_name aq rl))
unnamed name none single atomic (Lr width aq rl) =
    λ is. atomic stem.Lr (record { width = width; aq = aq; rl = rl }) (is ∙ append_assoc (codes "lr") (width_name width) (order_name aq rl))
unnamed name none single atomic (Sc width aq rl) =
    λ is. atomic stem.Sc (record { width = width; aq = aq; rl = rl }) (is ∙ append_assoc (codes "sc") (width_name width) (order_name aq rl))

pub named_by_kind : (name : List ℕ) (found : Option Mnemonic) → NoOperation name
    → ((m : Mnemonic) → is_single m ≡ true → name ≢ name_of m)
    → IfSome found (λ m. name ≡ name_of m)
    → (IsNone found → (stem : Stem) (ending : Ending) → name ≢ stem_name stem ++ ending_name ending)
    → Named name_of name found
named_by_kind name (Some m) none single is atomic = is
named_by_kind name None none single is atomic = unnamed name none single (atomic refl)
