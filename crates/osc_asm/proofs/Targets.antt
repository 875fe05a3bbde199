-- In a program that nothing stands in the way of, each instruction does what was asked.
use Rattle.std.proofs.Common.{ℕ, zero, suc, ◌≡◌, ◌+◌, ◌*◌, ◌<◌, ◌≤◌, arith, refl, sym, ◌∙◌, ap, subst, Bool, true, false, Option, Some, None, List, [], ◌∷◌, length, cond, add-zero, zero-add}
use Rattle.std.specs.Prelude.{not, is_none, find, slice_get, option_map}
use Rattle.std.specs.Option.{option_or, option_map_or}
use Rattle.std.proofs.lemmas.Bool.Decides.{nat_tests}
use Rattle.std.proofs.lemmas.Option.{slice_get_within}
use Rattle.osc_word.specs.Registers.{register}
use Rattle.osc_isa.specs.Numbers.{wrapped, extended}
use Rattle.osc_isa.specs.Integer.{is_taken, branched, jumped}
use Rattle.osc_asm.specs.declared.item.Item.{Item}
use Rattle.osc_asm.specs.declared.item.Item.TheVariants.{Plain, Branch, Jump, LabelHigh, LabelLow, BytesHigh, BytesLow}
use Rattle.osc_asm.specs.declared.item.LabelUse.{LabelUse}
use Rattle.osc_asm.specs.declared.AsmFault.{AsmFault}
use Rattle.osc_asm.specs.declared.AsmFault.TheVariants as fault
use Rattle.osc_rv.specs.declared.instr.BranchKind.{BranchKind}
use Rattle.osc_asm.specs.Program.{Program, place_of, joined}
use Rattle.osc_asm.specs.Layout.{address, offset_field, use_of, before_uses, uses_from, uses, is_unbound, is_near, is_far, bytes_address, BoundInside}
use Rattle.osc_asm.specs.File.{fault_of, length_fault, file}
use Rattle.osc_asm.specs.Numbers.{Loads}
use Rattle.osc_asm.specs.Loaded.{Does, AtLabel, AllDo}
use Rattle.osc_asm.proofs.Laying.{little-code}
use Rattle.osc_asm.proofs.TwoParts.{loads}

-- ---- offsets

branch-target : (i j : ℕ) → i < 4194304 → j ≤ 4194304 → not (is_near 4096 (address i) (address j)) ≡ false
    → wrapped (address i + extended 13 (offset_field 13 (address i) (address j) * 2)) ≡ address j
branch-target i j low high near = grind (arith, nat_tests)

jal-target : (i j : ℕ) → i < 4194304 → j ≤ 4194304 → not (is_near 1048576 (address i) (address j)) ≡ false
    → wrapped (address i + extended 21 (offset_field 21 (address i) (address j) * 2)) ≡ address j
jal-target i j low high near = grind (arith, nat_tests)

-- ---- every use passes

head-passes : (b : Bool) (used : LabelUse) (rest : Option LabelUse) → cond b (Some used) rest ≡ None → b ≡ false
head-passes true used rest h = absurd (cc)
head-passes false used rest h = refl

rest-passes : (b : Bool) (used : LabelUse) (rest : Option LabelUse) → cond b (Some used) rest ≡ None → rest ≡ None
rest-passes true used rest h = absurd (cc)
rest-passes false used rest h = h

later : (p : LabelUse → Bool) (o : Option LabelUse) (rest : List LabelUse) → find p (before_uses o rest) ≡ None → find p rest ≡ None
later p None rest h = h
later p (Some used) rest h = rest-passes (p used) used (find p rest) h

each-passes : (p : LabelUse → Bool) (i k : ℕ) (items : List Item) (item : Item) (used : LabelUse) → find p (uses_from i items) ≡ None
    → slice_get items k ≡ Some item → use_of (i + k) item ≡ Some used → p used ≡ false
unfolding uses_from
each-passes p i k [] item used none here is = absurd (cc)
each-passes p i zero (x ∷ xs) item used none here is =
    let same : x ≡ item = cc in
    let first : use_of i x ≡ Some used = ap (use_of i) same ∙ (ap (λ n. use_of n item) (sym (add-zero i)) ∙ is) in
    head-passes (p used) used (find p (uses_from (i + 1) xs))
    (subst (λ o. find p (before_uses o (uses_from (i + 1) xs)) ≡ None) first none)
each-passes p i (suc k) (x ∷ xs) item used none here is =
    let at : i + 1 + k ≡ i + suc k = omega arith in
    each-passes p (i + 1) k xs item used (later p (use_of i x) (uses_from (i + 1) xs) none) here (ap (λ n. use_of n item) at ∙ is)

nothing-first : (u v : Option LabelUse) (f g : ℕ → AsmFault) (c : Option AsmFault)
    → option_or (option_map f (option_map (λ used. used.label) u)) (option_or (option_map g (option_map (λ used. used.label) v)) c) ≡ None
    → (u ≡ None) × (v ≡ None)
nothing-first None None f g c h = (refl, refl)
nothing-first None (Some v) f g c h = absurd (cc)
nothing-first (Some u) v f g c h = absurd (cc)

-- ---- one use

joined-some : (o : Option (Option ℕ)) (place : ℕ) → joined o ≡ Some place → o ≡ Some (Some place)
joined-some None place h = absurd (cc)
joined-some (Some None) place h = absurd (cc)
joined-some (Some (Some q)) place h = ap Some h

load-at : (rd count : ℕ) (o : Option ℕ) → count ≤ 4194304 → ((place : ℕ) → o ≡ Some place → place ≤ count) → is_none o ≡ false
    → AtLabel o (Loads rd)
load-at rd count None few inside bound = absurd (cc)
load-at rd count (Some place) few inside bound = let low = inside place refl in loads rd (address place) (omega arith)

branch-at : (kind : BranchKind) (rs1 rs2 index count : ℕ) (o : Option ℕ) → index < 4194304 → count ≤ 4194304
    → ((place : ℕ) → o ≡ Some place → place ≤ count) → is_none o ≡ false
    → not (is_near 4096 (address index) (option_map_or address o 0)) ≡ false
    → AtLabel o (λ target. (regs : List ℕ)
    → branched (is_taken kind (register regs rs1) (register regs rs2)) (address index)
    (wrapped (address index + extended 13 (offset_field 13 (address index) (option_map_or address o 0) * 2)))
    ≡ branched (is_taken kind (register regs rs1) (register regs rs2)) (address index) target)
branch-at kind rs1 rs2 index count None low few inside bound near = absurd (cc)
branch-at kind rs1 rs2 index count (Some place) low few inside bound near =
    let below = inside place refl in
    λ regs. ap (branched (is_taken kind (register regs rs1) (register regs rs2)) (address index)) (branch-target index place low (omega arith) near)

jal-at : (rd index count : ℕ) (o : Option ℕ) → index < 4194304 → count ≤ 4194304
    → ((place : ℕ) → o ≡ Some place → place ≤ count) → is_none o ≡ false
    → not (is_near 1048576 (address index) (option_map_or address o 0)) ≡ false
    → AtLabel o (λ target. (regs : List ℕ)
    → jumped rd (address index)
    (wrapped (address index + extended 21 (offset_field 21 (address index) (option_map_or address o 0) * 2)))
    ≡ jumped rd (address index) target)
jal-at rd index count None low few inside bound near = absurd (cc)
jal-at rd index count (Some place) low few inside bound near =
    let below = inside place refl in λ regs. ap (jumped rd (address index)) (jal-target index place low (omega arith) near)

-- ---- all

record Stands (program : Program) : Type 0 where
  bound : find (is_unbound program) (uses program) ≡ None
  near : find (is_far program) (uses program) ≡ None
  few : length program.code ≤ 4194304
  inside : (label place : ℕ) → place_of program label ≡ Some place → place ≤ length program.code

does : (program : Program) (index : ℕ) (item : Item) → Stands program → slice_get program.code index ≡ Some item
    → index < length program.code → Does program index item
does program index (Plain instr) stands here below = tt
does program index (Branch kind rs1 rs2 to) stands here below =
    let first = zero-add index in
    branch-at kind rs1 rs2 index (length program.code) (place_of program to) (omega arith) stands.few (stands.inside to)
    (each-passes (is_unbound program) 0 index program.code (Branch kind rs1 rs2 to) (record { index = index; label = to; reach = Some 4096 }) stands.bound here
    (ap (λ n. use_of n (Branch kind rs1 rs2 to)) first))
    (each-passes (is_far program) 0 index program.code (Branch kind rs1 rs2 to) (record { index = index; label = to; reach = Some 4096 }) stands.near here
    (ap (λ n. use_of n (Branch kind rs1 rs2 to)) first))
does program index (Jump rd to) stands here below =
    let first = zero-add index in
    jal-at rd index (length program.code) (place_of program to) (omega arith) stands.few (stands.inside to)
    (each-passes (is_unbound program) 0 index program.code (Jump rd to) (record { index = index; label = to; reach = Some 1048576 }) stands.bound here
    (ap (λ n. use_of n (Jump rd to)) first))
    (each-passes (is_far program) 0 index program.code (Jump rd to) (record { index = index; label = to; reach = Some 1048576 }) stands.near here
    (ap (λ n. use_of n (Jump rd to)) first))
does program index (LabelHigh rd to) stands here below =
    load-at rd (length program.code) (place_of program to) stands.few (stands.inside to)
    (each-passes (is_unbound program) 0 index program.code (LabelHigh rd to) (record { index = index; label = to; reach = None }) stands.bound here
    (ap (λ n. use_of n (LabelHigh rd to)) (zero-add index)))
does program index (LabelLow rd to) stands here below =
    load-at rd (length program.code) (place_of program to) stands.few (stands.inside to)
    (each-passes (is_unbound program) 0 index program.code (LabelLow rd to) (record { index = index; label = to; reach = None }) stands.bound here
    (ap (λ n. use_of n (LabelLow rd to)) (zero-add index)))
does program index (BytesHigh rd offset) stands here below =
    λ small. let few = stands.few in loads rd (bytes_address program + offset) (omega arith)
does program index (BytesLow rd offset) stands here below =
    λ small. let few = stands.few in loads rd (bytes_address program + offset) (omega arith)

pub all-do : (program : Program) → fault_of program ≡ None → length (file program) ≤ 16777216
    → BoundInside program.labels (length program.code) → AllDo program
all-do program none short inside index item here =
    let nothing = nothing-first (find (is_unbound program) (uses program)) (find (is_far program) (uses program)) (λ label. fault.Label label)
    (λ label. fault.Far label) (length_fault (length (file program))) none in
    does program index item
    (record {
      bound = nothing.0;
      near = nothing.1;
      few = little-code program short;
      inside = (λ label place is. inside label place (joined-some (slice_get program.labels label) place is));
    }) here (slice_get_within program.code index item here)
