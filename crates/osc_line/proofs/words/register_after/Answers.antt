use Rattle.std.proofs.Common.{◌≡◌, ◌++◌, ◌∙◌, [], length, codes, refl, sym, ap, arith, append_assoc}
use Rattle.std.proofs.lemmas.Fmt.{length-decimal-le}
use Rattle.std.proofs.lemmas.List.{append_cancel_left}
use Rattle.osc_text.specs.Text.{register_text}
use Rattle.osc_line.specs.Line.{first_register}
use Rattle.osc_line.proofs.Registers.{front_text}
use Rattle.osc_line.proofs.words.register_after.Goals as goal

pub decimal-requires : goal.decimal-requires
decimal-requires c =
    let digits = length-decimal-le 2 c.number_of-number.result (omega arith) (omega (arith, c.number_of-number.ensures.range)) (omega (arith, c.number_of-number.ensures.range)) in
    omega (arith, digits, c.text.ensures.length, ap length c.new-printed.ensures)

pub text-requires-2 : goal.text-requires-2
text-requires-2 c =
    let digits = length-decimal-le 2 c.number_of-number.result (omega arith) (omega (arith, c.number_of-number.ensures.range)) (omega (arith, c.number_of-number.ensures.range)) in
    omega (arith, digits, c.decimal.ensures.length, c.text.ensures.length, ap length c.new-printed.ensures)

pub returns-in_default-clause-reads : goal.returns-in_default-clause-reads
returns-in_default-clause-reads c found rest small is =
    let after : c.in_ok-after.after.now ≡ first_register found rest = append_cancel_left c.args.front.now _ _ (sym c.in_ok-after.ensures ∙ is) in
    c.in_default.ensures.reads found (codes ", " ++ rest) small refl (after ∙ append_assoc (register_text found) (codes ", ") rest)

pub returns-in-Some-after_front-clause-reads : goal.returns-in-Some-after_front-clause-reads
returns-in-Some-after_front-clause-reads c found rest small is =
    let after : c.in_ok-after.after.now ≡ first_register found rest = append_cancel_left c.args.front.now _ _ (sym c.in_ok-after.ensures ∙ is) in
    let same = c.in-Some.ensures.reads found (codes ", " ++ rest) small refl (after ∙ append_assoc (register_text found) (codes ", ") rest) in
    let value : c.number_of-number.result ≡ found = grind (arith, c.number_of-number.ensures.value, c.in-Some.found-is, same.0) in
    let printed : c.as_bytes.result.now ≡ register_text found ++ codes ", "
    = front_text c.new-printed.result c.text.new.self c.decimal.new.self c.text-2.new.self c.as_bytes.result.now c.number_of-number.result found
    c.new-printed.ensures c.text.ensures.after c.decimal.ensures.after c.text-2.ensures.after c.as_bytes.ensures
    value in (
      value,
      append_cancel_left (register_text found ++ codes ", ") c.in-Some-after_front.rest.now rest
          (ap (λ t. t ++ c.in-Some-after_front.rest.now) (sym printed) ∙ (sym c.in-Some-after_front.ensures ∙ after)),
    )

pub returns-in-None-clause-reads : goal.returns-in-None-clause-reads
returns-in-None-clause-reads c found rest small is =
    let after : c.in_ok-after.after.now ≡ first_register found rest = append_cancel_left c.args.front.now _ _ (sym c.in_ok-after.ensures ∙ is) in
    let same = c.in-Some.ensures.reads found (codes ", " ++ rest) small refl (after ∙ append_assoc (register_text found) (codes ", ") rest) in
    let value : c.number_of-number.result ≡ found = grind (arith, c.number_of-number.ensures.value, c.in-Some.found-is, same.0) in
    let printed : c.as_bytes.result.now ≡ register_text found ++ codes ", "
    = front_text c.new-printed.result c.text.new.self c.decimal.new.self c.text-2.new.self c.as_bytes.result.now c.number_of-number.result found
    c.new-printed.ensures c.text.ensures.after c.decimal.ensures.after c.text-2.ensures.after c.as_bytes.ensures
    value in
    c.in-None.ensures rest (after ∙ ap (λ t. t ++ rest) (sym printed))
