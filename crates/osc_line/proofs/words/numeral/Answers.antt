use Rattle.std.proofs.Common.{◌≡◌, ◌∙◌, true, Some, Result, Ok, Err, sym, ap, arith}
use Rattle.std.proofs.lemmas.Bool.{false≢true}
use Rattle.std.proofs.lemmas.Bool.Decides.{Decides-eqb}
use Rattle.std.proofs.lemmas.Fmt.{parse-decimal, IsAscii-decimal}
use Rattle.std.proofs.lemmas.Slice.Eq.{slice_eq-Decides}
use Rattle.std.proofs.lemmas.Str.{IsUtf8-from_ascii}
use Rattle.std.specs.Fmt.{decimal}
use Rattle.osc_line.proofs.words.numeral.Goals as goal

from_ok : {A E : Type 0} (r : Result A E) (x y : A) → r ≡ Ok x → r ≡ Ok y → x ≡ y
from_ok {A} {E} r x y first second = search (sym first ∙ second)

pub returns-in_default-clause-reads : goal.returns-in_default-clause-reads
returns-in_default-clause-reads c number small is =
    absurd (c.in_default.ensures.cases.0 (rw is (IsUtf8-from_ascii (decimal number) (IsAscii-decimal number (omega (arith, small))))))

pub returns-in_default-parse-clause-reads : goal.returns-in_default-parse-clause-reads
returns-in_default-parse-clause-reads c number small is =
    let contrary : Err c.in_default-parse.field-0 ≡ Ok number
    = parse-decimal 32 number c.in-Ok.text.now (Err c.in_default-parse.field-0) small (omega (arith, small))
    (c.in-Ok.ensures.cases.0 ∙ is) c.in_default-parse.ensures.value.0 in
    search contrary

pub returns-then-eq-clause-reads : goal.returns-then-eq-clause-reads
returns-then-eq-clause-reads c number small is =
    let number_is : c.in-Ok-parse.number ≡ number
    = from_ok c.parse.result c.in-Ok-parse.number number c.in-Ok-parse.is
    (parse-decimal 32 number c.in-Ok.text.now c.parse.result small (omega (arith, small)) (c.in-Ok.ensures.cases.0 ∙ is)
    c.parse.ensures.value.0) in ap (λ n. Some n) number_is

pub returns-else-eq-clause-reads : goal.returns-else-eq-clause-reads
returns-else-eq-clause-reads c number small is =
    let number_is : c.in-Ok-parse.number ≡ number
    = from_ok c.parse.result c.in-Ok-parse.number number c.in-Ok-parse.is
    (parse-decimal 32 number c.in-Ok.text.now c.parse.result small (omega (arith, small)) (c.in-Ok.ensures.cases.0 ∙ is)
    c.parse.ensures.value.0) in
    let yes : c.eq.result ≡ true
    = (slice_eq-Decides Decides-eqb _ _ _ c.eq.ensures).1
    (c.as_bytes.ensures.value ∙ (c.format.ensures.text ∙ (ap decimal number_is ∙ sym is))) in
    absurd (false≢true (sym c.if-eq.false ∙ yes))
