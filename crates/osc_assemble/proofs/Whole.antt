-- Each label keeps its name, and each instruction its line.
use Rattle.std.proofs.Common.{◌≡◌, ℕ, zero, suc, ◌+◌, ◌<◌, Bool, true, false, Option, None, Some, List, [], ◌∷◌, ◌++◌, length, replicate, slice_get, refl, sym, ◌∙◌, ap, arith, length-append, length-set}
use Rattle.std.specs.Prelude.{if◌then◌else◌, is_some}
use Rattle.osc_asm.specs.declared.item.Item.{Item}
use Rattle.osc_asm.specs.Program.{Program, with_label, place_of, joined}
use Rattle.osc_line.specs.declared.line.Line.{Line}
use Rattle.osc_line.specs.declared.line.Line.TheVariants.{Blank, Bind, Plain, Branch, Jump, Li, La, Lab, Bytes}
use Rattle.osc_assemble.specs.Put.{Put, IsWhole, nothing, is_in, with_label_of, with_items, with_bound_at, with_bind, with_said, label_of, word}

pub free-label : (labels : List (Option ℕ)) (label : ℕ) → label < length labels → joined (slice_get labels label) ≡ None
    → slice_get labels label ≡ Some None
free-label [] label h free = absurd (omega (arith, h))
free-label (place ∷ labels) zero h free = ap Some free
free-label (place ∷ labels) (suc label) h free = free-label labels label (omega (arith, h)) free

pub whole-nothing : IsWhole nothing
whole-nothing = record { names = refl; lines = refl }

length-labels : (b : Bool) (program : Program)
    → length (if b then program else with_label program).labels ≡ length program.labels + (if b then 0 else 1)
length-labels true program = omega arith
length-labels false program = length-append program.labels (None ∷ [])

length-names : (b : Bool) (names : List (List ℕ)) (name : List ℕ)
    → length (if b then names else names ++ name ∷ []) ≡ length names + (if b then 0 else 1)
length-names true names name = omega arith
length-names false names name = length-append names (name ∷ [])

code-labelled : (b : Bool) (program : Program) → (if b then program else with_label program).code ≡ program.code
code-labelled true program = refl
code-labelled false program = refl

pub whole-label : (put : Put) (name : List ℕ) → IsWhole put → IsWhole (with_label_of put name)
whole-label put name whole =
    record {
      names =
          length-names (is_in put.names name) put.names name
          ∙ (ap (λ n. n + (if is_in put.names name then 0 else 1)) whole.names
          ∙ sym (length-labels (is_in put.names name) put.program));
      lines = whole.lines ∙ sym (ap length (code-labelled (is_in put.names name) put.program));
    }

length-replicate : (count number : ℕ) → length (replicate count number) ≡ count
length-replicate zero number = refl
length-replicate (suc count) number = ap suc (length-replicate count number)

whole-items : (number : ℕ) (items : List Item) (put : Put) → IsWhole put → IsWhole (with_items number items put)
whole-items number items put whole =
    record {
      names = whole.names;
      lines =
          length-append put.lines (replicate (length items) number)
          ∙ (ap (λ n. n + length (replicate (length items) number)) whole.lines
          ∙ (ap (λ n. length put.program.code + n) (length-replicate (length items) number)
          ∙ sym (length-append put.program.code items)));
    }

whole-bound : (b : Bool) (number label : ℕ) (put : Put) → is_some (place_of put.program label) ≡ b → IsWhole put
    → IsWhole (with_bound_at number label put)
whole-bound true number label put is whole = rw is (record { names = whole.names; lines = whole.lines })
whole-bound false number label put is whole =
    rw is
    (record {
      names = whole.names ∙ sym (length-set put.program.labels label (Some (length put.program.code)));
      lines = whole.lines;
    })

whole-bind : (number : ℕ) (name : List ℕ) (put : Put) → IsWhole put → IsWhole (with_bind number name put)
whole-bind number name put whole =
    whole-bound (is_some (place_of (with_label_of put name).program (label_of put name))) number (label_of put name)
    (with_label_of put name) refl (whole-label put name whole)

pub whole-said : (number : ℕ) (line : List ℕ) (said : Line) (put : Put) → IsWhole put → IsWhole (with_said number line said put)
whole-said number line Blank put whole = whole
whole-said number line (Bind name) put whole = whole-bind number (word line name) put whole
whole-said number line (Plain instr) put whole = whole-items number _ put whole
whole-said number line (Branch kind rs1 rs2 to) put whole =
    whole-items number _ (with_label_of put (word line to)) (whole-label put (word line to) whole)
whole-said number line (Jump rd to) put whole =
    whole-items number _ (with_label_of put (word line to)) (whole-label put (word line to) whole)
whole-said number line (Li rd value) put whole = whole-items number _ put whole
whole-said number line (La rd to) put whole =
    whole-items number _ (with_label_of put (word line to)) (whole-label put (word line to) whole)
whole-said number line (Lab rd offset) put whole = whole-items number _ put whole
whole-said number line (Bytes start digits) put whole = record { names = whole.names; lines = whole.lines }
