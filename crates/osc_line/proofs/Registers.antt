-- The text of a register and what follows it.
use Rattle.std.proofs.Common.{◌≡◌, ℕ, ◌≤◌, List, [], ◌++◌, length, codes, refl, sym, ap, ◌∙◌, arith, append_assoc}
use Rattle.std.proofs.lemmas.List.{length-append}
use Rattle.std.specs.Fmt.{decimal}
use Rattle.osc_text.specs.Text.{register_text}
use Rattle.osc_line.specs.Line.{first_register}

-- one piece after another
pub front_text : (none x number whole bytes : List ℕ) (value found : ℕ) → none ≡ [] → x ≡ none ++ codes "x" → number ≡ x ++ decimal value
    → whole ≡ number ++ codes ", " → bytes ≡ whole → value ≡ found → bytes ≡ register_text found ++ codes ", "
front_text none x number whole bytes value found empty first second third same is =
    let middle : number ≡ codes "x" ++ decimal found = second ∙ rw (first, empty, is) refl in
    same ∙ (third ∙ ap (λ t. t ++ codes ", ") middle)

pub end_shorter : (front word line : List ℕ) → line ≡ front ++ word → length word ≤ length line
end_shorter front word line is = omega (arith, ap length is ∙ length-append front word)

pub word_shorter : (front : List ℕ) (register : ℕ) (word line : List ℕ) → line ≡ front ++ first_register register word → length word ≤ length line
word_shorter front register word line is =
    end_shorter (front ++ (register_text register ++ codes ", ")) word line
    (is ∙ sym (append_assoc front (register_text register ++ codes ", ") word))
