-- Nothing keeps the file of a number's guest back: its labels are bound, its branch is near, and it is short.
use Rattle.std.proofs.Common.{ℕ, zero, suc, ◌≡◌, ◌+◌, ◌*◌, ◌≤◌, arith, refl, ◌∙◌, ap, Bool, true, false, cond, List, [], ◌∷◌, ◌++◌, length, length-append, append-nil, Option, Some, None, Ok}
use Rattle.std.specs.Prelude.{nat_lt, ◌==◌, not, if◌then◌else◌, find, option_map}
use Rattle.std.specs.Option.{option_or}
use Rattle.std.proofs.lemmas.List.{length-replicate}
use Rattle.std.proofs.lemmas.Bool.Decides.{nat_tests}
use Rattle.osc_asm.specs.declared.item.Item.{Item}
use Rattle.osc_asm.specs.declared.item.LabelUse.{LabelUse}
use Rattle.osc_asm.specs.declared.AsmFault.TheVariants as fault
use Rattle.osc_asm.specs.Program.{Program}
use Rattle.osc_asm.specs.Layout.{address, use_of, before_uses, uses_from, uses, is_unbound, is_near, is_far, unbound_label, far_label}
use Rattle.osc_asm.specs.File.{file, file_of, refused_or, fault_of, length_fault}
use Rattle.osc_asm.proofs.Laying.{size-bytes}
use Rattle.osc_gen.specs.declared.draw.Draw.{Draw}
use Rattle.osc_gen.specs.Draws.{next, chain}
use Rattle.osc_gen.specs.Code.{add, ld, sd, li, call}
use Rattle.osc_gen.specs.Guest.{Sizes, fresh, size_of, read, freed, moved, round_code, sizes_after, rounds, start_code, end_code, worker_start, worker_loop, main_code, guest, guest_file}

-- ---- labels that are used

before-append : (used : Option LabelUse) (xs ys : List LabelUse) → before_uses used (xs ++ ys) ≡ before_uses used xs ++ ys
before-append None xs ys = refl
before-append (Some used) xs ys = refl

uses-append : (i : ℕ) (a b : List Item) → uses_from i (a ++ b) ≡ uses_from i a ++ uses_from (i + length a) b
unfolding uses_from
uses-append i [] b = ap (λ k. uses_from k b) (omega arith)
uses-append i (item ∷ a) b =
    ap (before_uses (use_of i item)) (uses-append (i + 1) a b)
    ∙ (before-append (use_of i item) (uses_from (i + 1) a) (uses_from (i + 1 + length a) b)
    ∙ ap (λ k. before_uses (use_of i item) (uses_from (i + 1) a) ++ uses_from k b) (omega arith))

-- items that use no label, and at most so many
record Plainly (most : ℕ) (items : List Item) : Type 0 where
  quiet : (i : ℕ) → uses_from i items ≡ []
  few : length items ≤ most

grants : (full : Bool) (round : ℕ) (d : Draw)
    → Plainly 8 (li 10 d.size ++ call 3 ++ sd 10 (8 * d.pointer) 8 ∷ (if full then [] else li 5 round ++ sd 5 0 10 ∷ []))
unfolding uses_from
grants true round d = record { quiet = λ i. refl; few = omega arith }
grants false round d = record { quiet = λ i. refl; few = omega arith }

reads : (short : Bool) (d : Draw) → Plainly 8 (if short then [] else ld 5 (8 * d.pointer) 8 ∷ ld 5 0 5 ∷ add 9 9 5 ∷ [])
unfolding uses_from
reads true d = record { quiet = λ i. refl; few = omega arith }
reads false d = record { quiet = λ i. refl; few = omega arith }

frees : (d : Draw) → Plainly 8 (freed d)
unfolding uses_from
frees d = record { quiet = λ i. refl; few = omega arith }

moves : (d : Draw) → Plainly 8 (moved d)
unfolding uses_from
moves d = record { quiet = λ i. refl; few = omega arith }

deeds : (low frees_it : Bool) (d : Draw) (size : ℕ) → Plainly 8 (if low then read d size else (if frees_it then freed d else moved d))
deeds true frees_it d size = reads (nat_lt size 8) d
deeds false true d size = frees d
deeds false false d size = moves d

a-round : (round : ℕ) (d : Draw) (size : Option ℕ) → Plainly 8 (round_code round d size)
a-round round d None = grants (nat_lt d.size 8) round d
a-round round d (Some size) = deeds (nat_lt d.deed 2) (d.deed == 2) d size

all-rounds : (round : ℕ) (sizes : Sizes) (ds : List Draw) → Plainly (8 * length ds) (rounds round sizes ds)
unfolding rounds uses_from
all-rounds round sizes [] = record { quiet = λ i. refl; few = omega arith }
all-rounds round sizes (d ∷ ds) =
    let code = round_code round d (size_of sizes d.pointer) in
    let after = rounds (round + 1) (sizes_after d sizes) ds in
    let first : Plainly 8 code = a-round round d (size_of sizes d.pointer) in
    let rest : Plainly (8 * length ds) after = all-rounds (round + 1) (sizes_after d sizes) ds in
    let both : length (rounds round sizes (d ∷ ds)) ≡ length code + length after = length-append code after in
    let one : length code ≤ 8 = first.few in
    let more : length after ≤ 8 * length ds = rest.few in
    record {
      quiet = λ i. uses-append i code after ∙ rw (first.quiet i) (rest.quiet (i + length code));
      few = omega arith;
    }

length-chain : (count number : ℕ) → length (chain count number) ≡ count
unfolding chain
length-chain zero number = refl
length-chain (suc count) number = let rest = length-chain count (next number) in omega arith

-- ---- the whole

thousand : (number : ℕ) → Plainly 8000 (rounds 0 fresh (chain 1000 number))
thousand number =
    let all = all-rounds 0 fresh (chain 1000 number) in
    let few = all.few in
    let count = length-chain 1000 number in
    record { quiet = all.quiet; few = omega arith }

abbrev before_loop : List Item → List Item
before_loop code = start_code ++ code ++ end_code ++ worker_start

abbrev high_use : LabelUse
high_use = record { index = 3; label = 0; reach = None }

abbrev low_use : LabelUse
low_use = record { index = 4; label = 0; reach = None }

abbrev in_loop : ℕ → LabelUse
in_loop before = record { index = before + 1 + 1; label = 1; reach = Some 4096 }

three-uses : (code : List Item) → ((i : ℕ) → uses_from i code ≡ [])
    → uses_from 0 (before_loop code ++ worker_loop)
    ≡ high_use ∷ low_use
    ∷ in_loop (0 + length (before_loop code)) ∷ []
unfolding uses_from
three-uses code quiet =
    uses-append 0 (before_loop code) worker_loop
    ∙ ap (λ used. used ++ uses_from (0 + length (before_loop code)) worker_loop)
    (uses-append 0 (start_code ++ code ++ end_code) worker_start
    ∙ (append-nil (uses_from 0 (start_code ++ code ++ end_code))
    ∙ (uses-append 0 (start_code ++ code) end_code
    ∙ (append-nil (uses_from 0 (start_code ++ code))
    ∙ (uses-append 0 start_code code ∙ ap (λ used. uses_from 0 start_code ++ used) (quiet (0 + length start_code)))))))

uses-of : (number : ℕ) → uses (guest number)
    ≡ high_use ∷ low_use
    ∷ in_loop (0 + length (main_code number ++ worker_start)) ∷ []
unfolding guest
uses-of number = three-uses (rounds 0 fresh (chain 1000 number)) (thousand number).quiet

all-bound : (number : ℕ) → unbound_label (guest number) ≡ None
unfolding guest
all-bound number = ap (λ used. option_map (λ one. one.label) (find (is_unbound (guest number)) used)) (uses-of number)

near-loop : (main before : ℕ) → before ≡ main + 2 → is_near 4096 (address (0 + before + 1 + 1)) (address (main + 2)) ≡ true
near-loop main before is = grind (arith, nat_tests)

all-near : (number : ℕ) → far_label (guest number) ≡ None
unfolding guest
all-near number =
    ap (λ used. option_map (λ one. one.label) (find (is_far (guest number)) used)) (uses-of number)
    ∙ ap (λ near. option_map (λ one. one.label) (cond (not near) (Some (in_loop (0 + length (main_code number ++ worker_start)))) None))
    (near-loop (length (main_code number)) (length (main_code number ++ worker_start)) (length-append (main_code number) worker_start))

little-code : (number : ℕ) → length (main_code number ++ worker_start ++ worker_loop) ≤ 8100
little-code number =
    let code = rounds 0 fresh (chain 1000 number) in
    let few = (thousand number).few in
    let whole = length-append (main_code number ++ worker_start) worker_loop in
    let first = length-append (main_code number) worker_start in
    let main = length-append (start_code ++ code) end_code in
    let start = length-append start_code code in
    omega arith

within : (size : ℕ) → size ≤ 16777216 → length_fault size ≡ None
within size h = grind (arith, nat_tests)

short : (number : ℕ) → length (file (guest number)) ≤ 16777216
unfolding guest
short number =
    let few : length (guest number).code ≤ 8100 = little-code number in
    let bytes : length (guest number).bytes ≡ 144 = length-replicate {A = ℕ} 144 0 in
    let size = size-bytes (guest number) (omega arith) in
    omega arith

no-fault : (p : Program) → unbound_label p ≡ None → far_label p ≡ None → length_fault (length (file p)) ≡ None → fault_of p ≡ None
no-fault p bound near fits =
    ap (λ o. option_or (option_map (λ label. fault.Label label) o)
    (option_or (option_map (λ label. fault.Far label) (far_label p)) (length_fault (length (file p))))) bound
    ∙ (ap (λ o. option_or (option_map (λ label. fault.Far label) o) (length_fault (length (file p)))) near ∙ fits)

pub made : (number : ℕ) → file_of (guest number) ≡ Ok (guest_file number)
unfolding file_of
made number =
    ap (λ fault. refused_or fault (file (guest number)))
    (no-fault (guest number) (all-bound number) (all-near number) (within (length (file (guest number))) (short number)))
