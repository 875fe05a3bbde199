-- What is left of the code, of its uses of labels and of fields, as the loops go on.
use Rattle.std.proofs.Common.{ℕ, suc, ◌≡◌, ◌+◌, ◌<◌, ◌≤◌, refl, sym, ◌∙◌, ap, subst, Bool, true, false, cond, Option, Some, None, List, [], ◌++◌, length, get_or, drop, add-one, append_assoc, arith}
use Rattle.std.specs.List.{find}
use Rattle.std.proofs.Math.Seq.{drop-cons}
use Rattle.std.proofs.Math.ListN.{drop_of_length-le}
use Rattle.std.proofs.lemmas.List.{append-nil}
use Rattle.byteorder.specs.Endian.{little_bytes}
use Rattle.osc_rv.specs.Instr.{word_of}
use Rattle.osc_asm.specs.declared.item.Item.{Item}
use Rattle.osc_asm.specs.declared.item.Item.TheVariants.{Plain, Branch, Jump, LabelHigh, LabelLow, BytesHigh, BytesLow}
use Rattle.osc_asm.specs.declared.item.LabelUse.{LabelUse}
use Rattle.osc_asm.specs.declared.header.ElfField.{ElfField}
use Rattle.osc_asm.specs.Program.{Program}
use Rattle.osc_asm.specs.Layout.{instr_at, instrs_from, use_of, before_uses, uses_from}
use Rattle.osc_asm.specs.File.{words, field_bytes, fields_bytes}

-- ---- uses of labels

uses_from-drop : (i : ℕ) (items : List Item) (item : Item) → i < length items → item ≡ get_or items i item
    → uses_from i (drop i items) ≡ before_uses (use_of i item) (uses_from (i + 1) (drop (i + 1) items))
unfolding uses_from
uses_from-drop i items item h is =
    ap (uses_from i) (drop-cons items i item h)
    ∙ (ap (λ x. before_uses (use_of i x) (uses_from (i + 1) (drop (suc i) items))) (sym is)
    ∙ ap (λ k. before_uses (use_of i item) (uses_from (i + 1) (drop k items))) (sym (add-one i)))

skip-none : (p : LabelUse → Bool) (i : ℕ) (items : List Item) (item : Item) (target : Option LabelUse) → i < length items
    → item ≡ get_or items i item → None ≡ use_of i item → find p (uses_from i (drop i items)) ≡ target
    → find p (uses_from (i + 1) (drop (i + 1) items)) ≡ target
skip-none p i items item target h is none before =
    ap (λ o. find p (before_uses o (uses_from (i + 1) (drop (i + 1) items)))) none
    ∙ (sym (ap (find p) (uses_from-drop i items item h is)) ∙ before)

skip-some : (p : LabelUse → Bool) (i : ℕ) (items : List Item) (item : Item) (used : LabelUse) (target : Option LabelUse)
    → i < length items → item ≡ get_or items i item → Some used ≡ use_of i item → p used ≡ false
    → find p (uses_from i (drop i items)) ≡ target → find p (uses_from (i + 1) (drop (i + 1) items)) ≡ target
skip-some p i items item used target h is some fails before =
    sym (ap (λ b. cond b (Some used) (find p (uses_from (i + 1) (drop (i + 1) items)))) fails)
    ∙ (ap (λ o. find p (before_uses o (uses_from (i + 1) (drop (i + 1) items)))) some
    ∙ (sym (ap (find p) (uses_from-drop i items item h is)) ∙ before))

hit : (p : LabelUse → Bool) (i : ℕ) (items : List Item) (item : Item) (used : LabelUse) (target : Option LabelUse)
    → i < length items → item ≡ get_or items i item → Some used ≡ use_of i item → p used ≡ true
    → find p (uses_from i (drop i items)) ≡ target → target ≡ Some used
hit p i items item used target h is some passes before =
    sym before
    ∙ (ap (find p) (uses_from-drop i items item h is)
    ∙ (sym (ap (λ o. find p (before_uses o (uses_from (i + 1) (drop (i + 1) items)))) some)
    ∙ ap (λ b. cond b (Some used) (find p (uses_from (i + 1) (drop (i + 1) items)))) passes))

-- the same for a list that the code is
pub skip-none_of : (p : LabelUse → Bool) (i : ℕ) (items code : List Item) (item : Item) (target : Option LabelUse) → items ≡ code
    → i < length items → item ≡ get_or items i item → None ≡ use_of i item → find p (uses_from i (drop i code)) ≡ target
    → find p (uses_from (i + 1) (drop (i + 1) code)) ≡ target
skip-none_of p i items code item target same h is none =
    subst (λ xs. find p (uses_from i (drop i xs)) ≡ target → find p (uses_from (i + 1) (drop (i + 1) xs)) ≡ target) same
    (skip-none p i items item target h is none)

pub skip-some_of : (p : LabelUse → Bool) (i : ℕ) (items code : List Item) (item : Item) (used : LabelUse) (target : Option LabelUse)
    → items ≡ code → i < length items → item ≡ get_or items i item → Some used ≡ use_of i item → p used ≡ false
    → find p (uses_from i (drop i code)) ≡ target → find p (uses_from (i + 1) (drop (i + 1) code)) ≡ target
skip-some_of p i items code item used target same h is some fails =
    subst (λ xs. find p (uses_from i (drop i xs)) ≡ target → find p (uses_from (i + 1) (drop (i + 1) xs)) ≡ target) same
    (skip-some p i items item used target h is some fails)

pub hit_of : (p : LabelUse → Bool) (i : ℕ) (items code : List Item) (item : Item) (used : LabelUse) (target : Option LabelUse)
    → items ≡ code → i < length items → item ≡ get_or items i item → Some used ≡ use_of i item → p used ≡ true
    → find p (uses_from i (drop i code)) ≡ target → target ≡ Some used
hit_of p i items code item used target same h is some passes =
    subst (λ xs. find p (uses_from i (drop i xs)) ≡ target → target ≡ Some used) same (hit p i items item used target h is some passes)

pub uses_from-end : (i : ℕ) (items : List Item) → length items ≤ i → uses_from i (drop i items) ≡ []
unfolding uses_from
uses_from-end i items h = rw (drop_of_length-le items h) refl

-- a use has the index of its instruction
pub index-use_of : (i : ℕ) (item : Item) (used : LabelUse) → Some used ≡ use_of i item → used.index ≡ i
index-use_of i (Plain instr) used is = grind arith
index-use_of i (Branch kind rs1 rs2 to) used is = grind arith
index-use_of i (Jump rd to) used is = grind arith
index-use_of i (LabelHigh rd to) used is = grind arith
index-use_of i (LabelLow rd to) used is = grind arith
index-use_of i (BytesHigh rd offset) used is = grind arith
index-use_of i (BytesLow rd offset) used is = grind arith

pub ruleset uses_steps = (uses_from-end)

-- ---- code

code-next : (program : Program) (i : ℕ) (items : List Item) (item : Item) (file more target : List ℕ) → i < length items
    → item ≡ get_or items i item → more ≡ file ++ little_bytes 4 (word_of (instr_at program i item))
    → file ++ words (instrs_from program i (drop i items)) ≡ target
    → more ++ words (instrs_from program (i + 1) (drop (i + 1) items)) ≡ target
unfolding words instrs_from
code-next program i items item file more target h is appended before =
    ap (λ f. f ++ words (instrs_from program (i + 1) (drop (i + 1) items))) appended
    ∙ (append_assoc file (little_bytes 4 (word_of (instr_at program i item))) (words (instrs_from program (i + 1) (drop (i + 1) items)))
    ∙ (ap (λ rest. file ++ rest) (sym here) ∙ before))
  where
    here : words (instrs_from program i (drop i items))
        ≡ little_bytes 4 (word_of (instr_at program i item)) ++ words (instrs_from program (i + 1) (drop (i + 1) items))
    here =
        ap (λ xs. words (instrs_from program i xs)) (drop-cons items i item h)
        ∙ (ap (λ x. little_bytes 4 (word_of (instr_at program i x)) ++ words (instrs_from program (i + 1) (drop (suc i) items))) (sym is)
        ∙ ap (λ k. little_bytes 4 (word_of (instr_at program i item)) ++ words (instrs_from program (i + 1) (drop k items))) (sym (add-one i)))

-- the same for a list that the code is
pub code-next_of : (program : Program) (i : ℕ) (items code : List Item) (item : Item) (file more target : List ℕ) → items ≡ code
    → i < length items → item ≡ get_or items i item → more ≡ file ++ little_bytes 4 (word_of (instr_at program i item))
    → file ++ words (instrs_from program i (drop i code)) ≡ target
    → more ++ words (instrs_from program (i + 1) (drop (i + 1) code)) ≡ target
code-next_of program i items code item file more target same h is appended =
    subst (λ xs. file ++ words (instrs_from program i (drop i xs)) ≡ target
    → more ++ words (instrs_from program (i + 1) (drop (i + 1) xs)) ≡ target) same
    (code-next program i items item file more target h is appended)

pub code-end : (program : Program) (i : ℕ) (items : List Item) (file target : List ℕ) → length items ≤ i
    → file ++ words (instrs_from program i (drop i items)) ≡ target → file ≡ target
unfolding words instrs_from
code-end program i items file target h before =
    sym (append-nil file) ∙ (ap (λ xs. file ++ words (instrs_from program i xs)) (sym (drop_of_length-le items h)) ∙ before)

-- ---- fields

pub fields-next : (i : ℕ) (fields : List ElfField) (d : ElfField) (file more target : List ℕ) → i < length fields
    → more ≡ file ++ field_bytes (get_or fields i d) → file ++ fields_bytes (drop i fields) ≡ target
    → more ++ fields_bytes (drop (i + 1) fields) ≡ target
unfolding fields_bytes
fields-next i fields d file more target h appended before =
    ap (λ f. f ++ fields_bytes (drop (i + 1) fields)) appended
    ∙ (append_assoc file (field_bytes (get_or fields i d)) (fields_bytes (drop (i + 1) fields))
    ∙ (ap (λ rest. file ++ rest) (sym here) ∙ before))
  where
    here : fields_bytes (drop i fields) ≡ field_bytes (get_or fields i d) ++ fields_bytes (drop (i + 1) fields)
    here = rw (add-one, drop-cons fields i d h) refl

pub fields-end : (i : ℕ) (fields : List ElfField) (file target : List ℕ) → length fields ≤ i
    → file ++ fields_bytes (drop i fields) ≡ target → file ≡ target
unfolding fields_bytes
fields-end i fields file target h before =
    sym (append-nil file) ∙ (ap (λ xs. file ++ fields_bytes xs) (sym (drop_of_length-le fields h)) ∙ before)
