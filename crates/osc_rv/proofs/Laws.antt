-- The round trips between words and instructions, kind by kind and then whole.
use Rattle.std.proofs.Common.{◌≡◌, ℕ, ◌+◌, ◌*◌, ◌^◌, ◌<◌, ◌==◌, ◌∙◌, Bool, true, cond, Option, None, Some, IfSome, List, [], ◌∷◌, refl, sym, arith}
use Rattle.std.specs.List.{find}
use Rattle.std.specs.Option.{option_map, option_and_then, option_or}
use Rattle.std.proofs.lemmas.Bool.{cond_both, eqb-true, and_parts}
use Rattle.osc_rv.specs.Bits.{bits}
use Rattle.osc_rv.specs.Codes.{upper_opcode, branch_funct3, branch_kinds, load_funct3, load_kinds, store_funct3, store_kinds, imm_opcode, imm_funct3, imm_ops, shift_funct3, shift_funct6, shift_ops, reg_opcode, reg_funct3, reg_funct7, reg_ops, muldiv_funct7, mul_opcode, mul_funct3, mul_ops, amo_funct5, amo_ops, width_funct3, widths}
use Rattle.osc_rv.specs.Formats.{s_imm, b_half}
use Rattle.osc_rv.specs.Instr.{instr_of, word_of, FieldsFit, branch_of, load_of, store_of, imm_of, shift_of, shift_w_of, reg_of, mul_of, fence_of, atomic_of, aq_of, rl_of}
use Rattle.osc_rv.specs.declared.instr.UpperOp.{UpperOp}
use Rattle.osc_rv.specs.declared.instr.BranchKind.{BranchKind}
use Rattle.osc_rv.specs.declared.instr.LoadKind.{LoadKind}
use Rattle.osc_rv.specs.declared.instr.StoreKind.{StoreKind}
use Rattle.osc_rv.specs.declared.instr.ImmOp.{ImmOp}
use Rattle.osc_rv.specs.declared.instr.ShiftOp.{ShiftOp}
use Rattle.osc_rv.specs.declared.instr.RegOp.{RegOp}
use Rattle.osc_rv.specs.declared.instr.MulOp.{MulOp}
use Rattle.osc_rv.specs.declared.instr.AmoOp.{AmoOp}
use Rattle.osc_rv.specs.declared.instr.Width.{Width}
use Rattle.osc_rv.specs.declared.instr.Instr.{Instr}
use Rattle.osc_rv.specs.declared.instr.Instr.TheVariants.{Upper, Jal, Jalr, Branch, Load, Store, Imm, Shift, ShiftW, Op, Mul, Fence, FenceI, Ecall, Ebreak, Amo, Lr, Sc}
use Rattle.osc_rv.proofs.Runs.{bits-split, bits-join}
use Rattle.osc_rv.proofs.Layouts.{RFields, IFields, SFields, BFields, UFields, AtomicFields, r_fields, i_fields, s_fields, b_fields, u_fields, j_fields, fence_fields, atomic_fields, r_whole, i_whole, s_whole, b_whole, u_whole, j_whole, fence_whole, atomic_whole}

-- ---- from an instruction to its word and back

-- every code fits its field
upper_fits : (op : UpperOp) → upper_opcode op < 2 ^ 7
upper_fits op = grind arith

branch_fits : (kind : BranchKind) → branch_funct3 kind < 2 ^ 3
branch_fits kind = grind arith

load_fits : (kind : LoadKind) → load_funct3 kind < 2 ^ 3
load_fits kind = grind arith

store_fits : (kind : StoreKind) → store_funct3 kind < 2 ^ 3
store_fits kind = grind arith

imm_fits : (op : ImmOp) → (imm_opcode op < 2 ^ 7) × (imm_funct3 op < 2 ^ 3)
imm_fits op = grind arith

shift_fits : (op : ShiftOp) → (shift_funct3 op < 2 ^ 3) × (shift_funct6 op < 2 ^ 6)
shift_fits op = grind arith

reg_fits : (op : RegOp) → (reg_opcode op < 2 ^ 7) × (reg_funct3 op < 2 ^ 3) × (reg_funct7 op < 2 ^ 7)
reg_fits op = grind arith

mul_fits : (op : MulOp) → (mul_opcode op < 2 ^ 7) × (mul_funct3 op < 2 ^ 3)
mul_fits op = grind arith

amo_fits : (op : AmoOp) → amo_funct5 op < 2 ^ 5
amo_fits op = grind arith

width_fits : (width : Width) → width_funct3 width < 2 ^ 3
width_fits width = grind arith

-- the fields of a word decide its instruction
upper_read : (op : UpperOp) (word rd imm : ℕ) → UFields word (upper_opcode op) rd imm
    → instr_of word ≡ Some (Upper op rd imm)
unfolding instr_of
upper_read op word rd imm r = grind (arith, r.opcode_is, r.rd_is, r.imm_is)

branch_read : (kind : BranchKind) (word rs1 rs2 half : ℕ) → BFields word 0x63 (branch_funct3 kind) rs1 rs2 half
    → instr_of word ≡ Some (Branch kind rs1 rs2 half)
unfolding instr_of
branch_read kind word rs1 rs2 half r =
    grind (arith, r.opcode_is, r.funct3_is, r.rs1_is, r.rs2_is, r.half_is)

load_read : (kind : LoadKind) (word rd rs1 imm : ℕ) → IFields word 0x03 rd (load_funct3 kind) rs1 imm
    → instr_of word ≡ Some (Load kind rd rs1 imm)
unfolding instr_of
load_read kind word rd rs1 imm r = grind (arith, r.opcode_is, r.funct3_is, r.rd_is, r.rs1_is, r.imm_is)

store_read : (kind : StoreKind) (word rs1 rs2 imm : ℕ) → SFields word 0x23 (store_funct3 kind) rs1 rs2 imm
    → instr_of word ≡ Some (Store kind rs1 rs2 imm)
unfolding instr_of
store_read kind word rs1 rs2 imm r = grind (arith, r.opcode_is, r.funct3_is, r.rs1_is, r.rs2_is, r.imm_is)

imm_read : (op : ImmOp) (word rd rs1 imm : ℕ) → IFields word (imm_opcode op) rd (imm_funct3 op) rs1 imm
    → instr_of word ≡ Some (Imm op rd rs1 imm)
unfolding instr_of
imm_read op word rd rs1 imm r = grind (arith, r.opcode_is, r.funct3_is, r.rd_is, r.rs1_is, r.imm_is)

shift_read : (op : ShiftOp) (word rd rs1 amount : ℕ) → amount < 2 ^ 6
    → IFields word 0x13 rd (shift_funct3 op) rs1 (amount + shift_funct6 op * 2 ^ 6)
    → instr_of word ≡ Some (Shift op rd rs1 amount)
unfolding instr_of
shift_read op word rd rs1 amount a r =
    let parts = bits-split 20 6 6 word amount (shift_funct6 op) a r.imm_is in
    grind (arith, r.opcode_is, r.funct3_is, r.rd_is, r.rs1_is, parts.0, parts.1)

shift_w_read : (op : ShiftOp) (word rd rs1 amount : ℕ) → amount < 2 ^ 5
    → IFields word 0x1B rd (shift_funct3 op) rs1 (amount + shift_funct6 op * 2 ^ 6)
    → instr_of word ≡ Some (ShiftW op rd rs1 amount)
unfolding instr_of
shift_w_read op word rd rs1 amount a r =
    let parts = bits-split 20 6 6 word amount (shift_funct6 op) (omega arith) r.imm_is in
    let low = bits-split 20 5 1 word amount 0 a (omega (arith, parts.0)) in
    grind (arith, r.opcode_is, r.funct3_is, r.rd_is, r.rs1_is, parts.1, low.0, low.1)

reg_read : (op : RegOp) (word rd rs1 rs2 : ℕ)
    → RFields word (reg_opcode op) rd (reg_funct3 op) rs1 rs2 (reg_funct7 op)
    → instr_of word ≡ Some (Op op rd rs1 rs2)
unfolding instr_of
reg_read op word rd rs1 rs2 r =
    grind (arith, r.opcode_is, r.funct3_is, r.funct7_is, r.rd_is, r.rs1_is, r.rs2_is)

mul_read : (op : MulOp) (word rd rs1 rs2 : ℕ)
    → RFields word (mul_opcode op) rd (mul_funct3 op) rs1 rs2 muldiv_funct7
    → instr_of word ≡ Some (Mul op rd rs1 rs2)
unfolding instr_of
mul_read op word rd rs1 rs2 r =
    grind (arith, r.opcode_is, r.funct3_is, r.funct7_is, r.rd_is, r.rs1_is, r.rs2_is)

amo_read : (op : AmoOp) (width : Width) (word rd rs1 rs2 : ℕ) (aq rl : Bool)
    → AtomicFields word (amo_funct5 op) rd (width_funct3 width) rs1 rs2 aq rl
    → instr_of word ≡ Some (Amo op width rd rs1 rs2 aq rl)
unfolding instr_of
amo_read op width word rd rs1 rs2 aq rl r =
    grind (arith, r.opcode_is, r.funct3_is, r.funct5_is, r.rd_is, r.rs1_is, r.rs2_is, r.aq_is, r.rl_is)

lr_read : (width : Width) (word rd rs1 : ℕ) (aq rl : Bool)
    → AtomicFields word 0b00010 rd (width_funct3 width) rs1 0 aq rl
    → instr_of word ≡ Some (Lr width rd rs1 aq rl)
unfolding instr_of
lr_read width word rd rs1 aq rl r =
    grind (arith, r.opcode_is, r.funct3_is, r.funct5_is, r.rd_is, r.rs1_is, r.rs2_is, r.aq_is, r.rl_is)

sc_read : (width : Width) (word rd rs1 rs2 : ℕ) (aq rl : Bool)
    → AtomicFields word 0b00011 rd (width_funct3 width) rs1 rs2 aq rl
    → instr_of word ≡ Some (Sc width rd rs1 rs2 aq rl)
unfolding instr_of
sc_read width word rd rs1 rs2 aq rl r =
    grind (arith, r.opcode_is, r.funct3_is, r.funct5_is, r.rd_is, r.rs1_is, r.rs2_is, r.aq_is, r.rl_is)

pub read_back : (instr : Instr) → FieldsFit instr → instr_of (word_of instr) ≡ Some instr
unfolding instr_of word_of
read_back (Upper op rd imm) fit =
    upper_read op _ rd imm (u_fields (upper_opcode op) rd imm (upper_fits op) fit.0 fit.1)
read_back (Jal rd half) fit =
    let r = j_fields 0x6F rd half (omega arith) fit.0 fit.1 in rw (r.opcode_is, r.rd_is, r.half_is) refl
read_back (Jalr rd rs1 imm) fit =
    let r = i_fields 0x67 rd 0 rs1 imm (omega arith) fit.0 (omega arith) fit.1 fit.2 in
    rw (r.opcode_is, r.funct3_is, r.rd_is, r.rs1_is, r.imm_is) refl
read_back (Branch kind rs1 rs2 half) fit =
    branch_read kind _ rs1 rs2 half
    (b_fields 0x63 (branch_funct3 kind) rs1 rs2 half (omega arith) (branch_fits kind) fit.0 fit.1 fit.2)
read_back (Load kind rd rs1 imm) fit =
    load_read kind _ rd rs1 imm
    (i_fields 0x03 rd (load_funct3 kind) rs1 imm (omega arith) fit.0 (load_fits kind) fit.1 fit.2)
read_back (Store kind rs1 rs2 imm) fit =
    store_read kind _ rs1 rs2 imm
    (s_fields 0x23 (store_funct3 kind) rs1 rs2 imm (omega arith) (store_fits kind) fit.0 fit.1 fit.2)
read_back (Imm op rd rs1 imm) fit =
    imm_read op _ rd rs1 imm
    (i_fields (imm_opcode op) rd (imm_funct3 op) rs1 imm (imm_fits op).0 fit.0 (imm_fits op).1 fit.1 fit.2)
read_back (Shift op rd rs1 amount) fit =
    let a : amount < 2 ^ 6 = fit.2 in
    let s = shift_fits op in
    shift_read op _ rd rs1 amount a
    (i_fields 0x13 rd (shift_funct3 op) rs1 (amount + shift_funct6 op * 2 ^ 6) (omega arith) fit.0 s.0 fit.1 (omega arith))
read_back (ShiftW op rd rs1 amount) fit =
    let a : amount < 2 ^ 5 = fit.2 in
    let s = shift_fits op in
    shift_w_read op _ rd rs1 amount a
    (i_fields 0x1B rd (shift_funct3 op) rs1 (amount + shift_funct6 op * 2 ^ 6) (omega arith) fit.0 s.0 fit.1 (omega arith))
read_back (Op op rd rs1 rs2) fit =
    let s = reg_fits op in
    reg_read op _ rd rs1 rs2
    (r_fields (reg_opcode op) rd (reg_funct3 op) rs1 rs2 (reg_funct7 op) s.0 fit.0 s.1 fit.1 fit.2 s.2)
read_back (Mul op rd rs1 rs2) fit =
    let s = mul_fits op in
    mul_read op _ rd rs1 rs2
    (r_fields (mul_opcode op) rd (mul_funct3 op) rs1 rs2 muldiv_funct7 s.0 fit.0 s.1 fit.1 fit.2 (omega arith))
read_back (Fence free) fit =
    let r = fence_fields 0x0F 0 free (omega arith) (omega arith) fit in rw (r.opcode_is, r.funct3_is, r.free_is) refl
read_back (FenceI free) fit =
    let r = fence_fields 0x0F 1 free (omega arith) (omega arith) fit in rw (r.opcode_is, r.funct3_is, r.free_is) refl
read_back Ecall fit = refl
read_back Ebreak fit = refl
read_back (Amo op width rd rs1 rs2 aq rl) fit =
    amo_read op width _ rd rs1 rs2 aq rl
    (atomic_fields (amo_funct5 op) width rd rs1 rs2 aq rl (amo_fits op) (width_fits width) fit.0 fit.1 fit.2)
read_back (Lr width rd rs1 aq rl) fit =
    lr_read width _ rd rs1 aq rl
    (atomic_fields 0b00010 width rd rs1 0 aq rl (omega arith) (width_fits width) fit.0 fit.1 (omega arith))
read_back (Sc width rd rs1 rs2 aq rl) fit =
    sc_read width _ rd rs1 rs2 aq rl
    (atomic_fields 0b00011 width rd rs1 rs2 aq rl (omega arith) (width_fits width) fit.0 fit.1 fit.2)

-- ---- from a word to its instruction and back

Back : ℕ → Option Instr → Type 0
Back word read = IfSome read (λ instr. word_of instr ≡ word)

-- an operation that a table gives for the word's codes
found : {X : Type 0} (word : ℕ) (f : X → Instr) (test : X → Bool) (xs : List X)
    → ((x : X) → test x ≡ true → word_of (f x) ≡ word) → Back word (option_map f (find test xs))
unfolding Back
found word f test [] h = tt
found word f test (x ∷ xs) h =
    cond_both (test x) (Some x) (find test xs) (λ o. Back word (option_map f o)) (λ e. h x e) (λ e. found word f test xs h)

or_back : (word : ℕ) (first second : Option Instr) → Back word first → Back word second
    → Back word (option_or first second)
or_back word None second a b = b
or_back word (Some instr) second a b = a

cases : (word : ℕ) (test : Bool) (first second : Option Instr) → (test ≡ true → Back word first) → Back word second
    → Back word (cond test first second)
cases word test first second a b = cond_both test first second (Back word) a (λ e. b)

-- a word of this opcode that the rows of the opcode read
branch_back : (word : ℕ) → word < 2 ^ 32 → bits 0 7 word ≡ 0x63 → Back word (branch_of word)
unfolding word_of
branch_back word h o =
    found word (λ kind. Branch kind (bits 15 5 word) (bits 20 5 word) (b_half word)) _ branch_kinds
    (λ kind e. b_whole word 0x63 (branch_funct3 kind) h o (eqb-true _ _ e))

load_back : (word : ℕ) → word < 2 ^ 32 → bits 0 7 word ≡ 0x03 → Back word (load_of word)
unfolding word_of
load_back word h o =
    found word (λ kind. Load kind (bits 7 5 word) (bits 15 5 word) (bits 20 12 word)) _ load_kinds
    (λ kind e. i_whole word 0x03 (load_funct3 kind) (bits 20 12 word) h o (eqb-true _ _ e) refl)

store_back : (word : ℕ) → word < 2 ^ 32 → bits 0 7 word ≡ 0x23 → Back word (store_of word)
unfolding word_of
store_back word h o =
    found word (λ kind. Store kind (bits 15 5 word) (bits 20 5 word) (s_imm word)) _ store_kinds
    (λ kind e. s_whole word 0x23 (store_funct3 kind) h o (eqb-true _ _ e))

imm_back : (word opcode : ℕ) → word < 2 ^ 32 → bits 0 7 word ≡ opcode → Back word (imm_of opcode word)
unfolding word_of
imm_back word opcode h o =
    found word (λ op. Imm op (bits 7 5 word) (bits 15 5 word) (bits 20 12 word)) _ imm_ops (λ op e.
    let both = and_parts _ _ e in
    i_whole word (imm_opcode op) (imm_funct3 op) (bits 20 12 word) h (o ∙ sym (eqb-true _ _ both.0))
    (eqb-true _ _ both.1) refl)

shift_back : (word : ℕ) → word < 2 ^ 32 → bits 0 7 word ≡ 0x13 → Back word (shift_of word)
unfolding word_of
shift_back word h o =
    found word (λ op. Shift op (bits 7 5 word) (bits 15 5 word) (bits 20 6 word)) _ shift_ops (λ op e.
    let both = and_parts _ _ e in
    let imm : bits 20 6 word + shift_funct6 op * 2 ^ 6 ≡ bits 20 12 word =
    rw (eqb-true (shift_funct6 op) (bits 26 6 word) both.1) (bits-join 20 6 6 word) in
    i_whole word 0x13 (shift_funct3 op) (bits 20 6 word + shift_funct6 op * 2 ^ 6) h o (eqb-true _ _ both.0) imm)

shift_w_back : (word : ℕ) → word < 2 ^ 32 → bits 0 7 word ≡ 0x1B → Back word (shift_w_of word)
unfolding Back word_of
shift_w_back word h o =
    cases word (bits 25 1 word == 0) _ None
    (λ z. found word (λ op. ShiftW op (bits 7 5 word) (bits 15 5 word) (bits 20 5 word)) _ shift_ops (λ op e.
    let both = and_parts _ _ e in
    let amount : bits 20 5 word ≡ bits 20 6 word =
    omega (arith, bits-join 20 5 1 word, eqb-true (bits 25 1 word) 0 z) in
    let imm : bits 20 5 word + shift_funct6 op * 2 ^ 6 ≡ bits 20 12 word =
    rw (amount, eqb-true (shift_funct6 op) (bits 26 6 word) both.1) (bits-join 20 6 6 word) in
    i_whole word 0x1B (shift_funct3 op) (bits 20 5 word + shift_funct6 op * 2 ^ 6) h o
    (eqb-true _ _ both.0) imm))
    tt

reg_back : (word opcode : ℕ) → word < 2 ^ 32 → bits 0 7 word ≡ opcode → Back word (reg_of opcode word)
unfolding word_of
reg_back word opcode h o =
    found word (λ op. Op op (bits 7 5 word) (bits 15 5 word) (bits 20 5 word)) _ reg_ops (λ op e.
    let outer = and_parts _ _ e in
    let inner = and_parts _ _ outer.0 in
    r_whole word (reg_opcode op) (reg_funct3 op) (reg_funct7 op) h (o ∙ sym (eqb-true _ _ inner.0))
    (eqb-true _ _ inner.1) (eqb-true _ _ outer.1))

mul_back : (word opcode : ℕ) → word < 2 ^ 32 → bits 0 7 word ≡ opcode → Back word (mul_of opcode word)
unfolding Back word_of
mul_back word opcode h o =
    cases word (bits 25 7 word == muldiv_funct7) _ None
    (λ g. found word (λ op. Mul op (bits 7 5 word) (bits 15 5 word) (bits 20 5 word)) _ mul_ops (λ op e.
    let both = and_parts _ _ e in
    r_whole word (mul_opcode op) (mul_funct3 op) muldiv_funct7 h (o ∙ sym (eqb-true _ _ both.0))
    (eqb-true _ _ both.1) (sym (eqb-true _ _ g))))
    tt

fence_back : (word : ℕ) → word < 2 ^ 32 → bits 0 7 word ≡ 0x0F → Back word (fence_of word)
unfolding Back word_of
fence_back word h o =
    cases word (bits 12 3 word == 0) _ _ (λ f. fence_whole word 0x0F 0 h o (sym (eqb-true _ _ f)))
    (cases word (bits 12 3 word == 1) _ _ (λ f. fence_whole word 0x0F 1 h o (sym (eqb-true _ _ f))) tt)

atomic_back : (word : ℕ) (width : Width) → word < 2 ^ 32 → bits 0 7 word ≡ 0x2F → width_funct3 width ≡ bits 12 3 word
    → Back word (atomic_of word width)
unfolding Back word_of
atomic_back word width h o f =
    cases word (bits 27 5 word == 0b00010) _ _
    (λ g. cases word (bits 20 5 word == 0) _ _
    (λ z. atomic_whole word 0b00010 width 0 h o f (sym (eqb-true _ _ g)) (sym (eqb-true _ _ z)))
    tt)
    (cases word (bits 27 5 word == 0b00011) _ _
    (λ g. atomic_whole word 0b00011 width (bits 20 5 word) h o f (sym (eqb-true _ _ g)) refl)
    (found word (λ op. Amo op width (bits 7 5 word) (bits 15 5 word) (bits 20 5 word) (aq_of word) (rl_of word)) _ amo_ops
    (λ op e. atomic_whole word (amo_funct5 op) width (bits 20 5 word) h o f (eqb-true _ _ e) refl)))

width_back : (word : ℕ) → word < 2 ^ 32 → bits 0 7 word ≡ 0x2F → (xs : List Width)
    → Back word (option_and_then (atomic_of word) (find (λ width. width_funct3 width == bits 12 3 word) xs))
unfolding Back
width_back word h o [] = tt
width_back word h o (width ∷ xs) =
    cond_both (width_funct3 width == bits 12 3 word) (Some width)
    (find (λ width. width_funct3 width == bits 12 3 word) xs) (λ found. Back word (option_and_then (atomic_of word) found))
    (λ e. atomic_back word width h o (eqb-true _ _ e)) (λ e. width_back word h o xs)

pub written_back : (word : ℕ) → word < 2 ^ 32 → IfSome (instr_of word) (λ instr. word_of instr ≡ word)
unfolding Back instr_of word_of
written_back word h =
    let opcode : ℕ = bits 0 7 word in
    cases word (opcode == 0x37) _ _ (λ e. u_whole word 0x37 h (eqb-true _ _ e))
    (cases word (opcode == 0x17) _ _ (λ e. u_whole word 0x17 h (eqb-true _ _ e))
    (cases word (opcode == 0x6F) _ _ (λ e. j_whole word 0x6F h (eqb-true _ _ e))
    (cases word (opcode == 0x67) _ _
    (λ e. cases word (bits 12 3 word == 0) _ _
    (λ f. i_whole word 0x67 0 (bits 20 12 word) h (eqb-true _ _ e) (sym (eqb-true _ _ f)) refl)
    tt)
    (cases word (opcode == 0x63) _ _ (λ e. branch_back word h (eqb-true _ _ e))
    (cases word (opcode == 0x03) _ _ (λ e. load_back word h (eqb-true _ _ e))
    (cases word (opcode == 0x23) _ _ (λ e. store_back word h (eqb-true _ _ e))
    (cases word (opcode == 0x13) _ _
    (λ e. or_back word _ _ (imm_back word 0x13 h (eqb-true _ _ e)) (shift_back word h (eqb-true _ _ e)))
    (cases word (opcode == 0x1B) _ _
    (λ e. or_back word _ _ (imm_back word 0x1B h (eqb-true _ _ e)) (shift_w_back word h (eqb-true _ _ e)))
    (cases word (opcode == 0x33) _ _
    (λ e. or_back word _ _ (reg_back word 0x33 h (eqb-true _ _ e)) (mul_back word 0x33 h (eqb-true _ _ e)))
    (cases word (opcode == 0x3B) _ _
    (λ e. or_back word _ _ (reg_back word 0x3B h (eqb-true _ _ e)) (mul_back word 0x3B h (eqb-true _ _ e)))
    (cases word (opcode == 0x0F) _ _ (λ e. fence_back word h (eqb-true _ _ e))
    (cases word (opcode == 0x73) _ _
    (λ e. cases word (word == 0x73) _ _ (λ f. sym (eqb-true _ _ f))
    (cases word (word == 0x100073) _ _ (λ f. sym (eqb-true _ _ f)) tt))
    (cases word (opcode == 0x2F) _ _ (λ e. width_back word h (eqb-true _ _ e) widths) tt)))))))))))))
