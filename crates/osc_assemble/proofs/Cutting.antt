-- The first line of a text, and what lines put in.
use Rattle.std.proofs.Common.{◌≡◌, ℕ, zero, suc, ◌+◌, ◌<◌, ◌≤◌, ◌==◌, true, false, List, [], ◌∷◌, length, take, drop, refl, sym, ◌∙◌, ap, arith, add-one, inl, inr}
use Rattle.memchr.specs.Find.{Passes, Nowhere, is_byte}
use Rattle.osc_line.specs.declared.line.Line.{Line}
use Rattle.osc_line.specs.Line.{Says}
use Rattle.osc_assemble.specs.Lines.{lines_of}
use Rattle.osc_assemble.specs.Put.{Put, Puts, IsWhole, nothing, with_said}
use Rattle.osc_assemble.specs.Answer.{IsSilent}
use Rattle.osc_assemble.proofs.Whole.{whole-nothing, whole-said}

-- ---- lines

not_newline : (byte : ℕ) → ((byte == 10) ≡ true → ⊥) → (byte == 10) ≡ false
not_newline byte other = grind (arith, other)

none-after : (byte : ℕ) (rest : List ℕ) (end : ℕ) → Nowhere (Passes (is_byte 10) (byte ∷ rest)) 0 (suc end)
    → Nowhere (Passes (is_byte 10) rest) 0 end
none-after byte rest end none k low below passes = none (suc k) (omega arith) (omega (arith, below)) passes

pub lines-whole : (text : List ℕ) → 0 < length text → Nowhere (Passes (is_byte 10) text) 0 (length text)
    → lines_of text ≡ text ∷ lines_of []
unfolding lines_of
lines-whole [] some none = absurd (omega (arith, some))
lines-whole (byte ∷ []) some none = rw (not_newline byte (none 0 (omega arith) (omega arith))) refl
lines-whole (byte ∷ next ∷ rest) some none =
    rw (
      not_newline byte (none 0 (omega arith) (omega arith)),
      lines-whole (next ∷ rest) (omega arith) (none-after byte (next ∷ rest) (length (next ∷ rest)) none),
    ) refl

cut : (text : List ℕ) (end : ℕ) → end < length text → Nowhere (Passes (is_byte 10) text) 0 end
    → Passes (is_byte 10) text end → lines_of text ≡ take end text ∷ lines_of (drop (suc end) text)
unfolding lines_of
cut [] end h none newline = absurd (omega (arith, h))
cut (byte ∷ rest) zero h none newline = rw newline refl
cut (byte ∷ rest) (suc end) h none newline =
    rw (
      not_newline byte (none 0 (omega arith) (omega arith)),
      cut rest end (omega (arith, h)) (none-after byte rest end none) newline,
    ) refl

pub lines-cut : (text : List ℕ) (end : ℕ) → end < length text → Nowhere (Passes (is_byte 10) text) 0 end
    → Passes (is_byte 10) text end → lines_of text ≡ take end text ∷ lines_of (drop (end + 1) text)
lines-cut text end h none newline =
    cut text end h none newline ∙ ap (λ next. take end text ∷ lines_of (drop next text)) (sym (add-one end))

-- ---- what they put in

pub puts-none : (number : ℕ) (put : Put) → Puts number (lines_of []) put put
unfolding lines_of Puts
puts-none number put = refl

pub puts-line : (number : ℕ) (line : List ℕ) (lines : List (List ℕ)) (said : Line) (before after : Put) → Says line said
    → Puts (number + 1) lines (with_said number line said before) after → Puts number (line ∷ lines) before after
unfolding Puts
puts-line number line lines said before after says later = (said, says, later)

pub silent-line : (number : ℕ) (line : List ℕ) (lines : List (List ℕ)) (silent : ℕ) (said : Line) → Says line said
    → IsSilent (number + 1) lines silent → IsSilent number (line ∷ lines) silent
unfolding IsSilent
silent-line number line lines silent said says later = inr ((said, says), later)

pub silent-here : (number : ℕ) (line : List ℕ) (lines : List (List ℕ)) → ((said : Line) → Says line said → ⊥)
    → IsSilent number (line ∷ lines) number
unfolding IsSilent
silent-here number line lines nothing = inl (nothing, refl)

-- ---- a text that is being read

-- of a text the rest is left, after so many lines, which put in what was made
pub record Reading (text rest : List ℕ) (number : ℕ) (made : Put) : Type 0 where
  pub read : (after : Put) → Puts (number + 1) (lines_of rest) made after → Puts 1 (lines_of text) nothing after
  pub silent : (line : ℕ) → IsSilent (number + 1) (lines_of rest) line → IsSilent 1 (lines_of text) line
  pub whole : IsWhole made
  pub short : number + length rest ≤ length text

pub reading-start : (text : List ℕ) (made : Put) → made ≡ nothing → Reading text text 0 made
reading-start text made is =
    rw is (record { read = λ after puts. puts; silent = λ line later. later; whole = whole-nothing; short = omega arith })

pub reading-line : (text rest line after : List ℕ) (number : ℕ) (made more : Put) (said : Line) → Reading text rest number made
    → lines_of rest ≡ line ∷ lines_of after → length after < length rest → Says line said
    → more ≡ with_said (number + 1) line said made → Reading text after (number + 1) more
reading-line text rest line after number made more said before lines shorter says is =
    rw is
    (record {
      read = λ end puts. before.read end (rw lines (puts-line (number + 1) line (lines_of after) said made end says puts));
      silent = λ at later. before.silent at (rw lines (silent-line (number + 1) line (lines_of after) at said says later));
      whole = whole-said (number + 1) line said made before.whole;
      short = omega (arith, before.short, shorter);
    })

pub reading-silent : (text rest line after : List ℕ) (number : ℕ) (made : Put) → Reading text rest number made
    → lines_of rest ≡ line ∷ lines_of after → ((said : Line) → Says line said → ⊥) → IsSilent 1 (lines_of text) (number + 1)
reading-silent text rest line after number made before lines says_nothing =
    before.silent (number + 1) (rw lines (silent-here (number + 1) line (lines_of after) says_nothing))

pub reading-end : (text rest : List ℕ) (number : ℕ) (made : Put) → Reading text rest number made → length rest ≤ 0
    → Puts 1 (lines_of text) nothing made
reading-end text [] number made before none = before.read made (puts-none (number + 1) made)
reading-end text (byte ∷ rest) number made before none = absurd (omega (arith, none))
