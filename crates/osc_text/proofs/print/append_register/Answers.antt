use Rattle.std.proofs.Common.{arith}
use Rattle.std.proofs.lemmas.Fmt.{length-decimal-le}
use Rattle.osc_text.proofs.print.append_register.Goals as goal

pub decimal-requires : goal.decimal-requires
decimal-requires c =
    let digits = length-decimal-le 2 c.value.result (omega arith) (omega (arith, c.value.ensures.range)) (omega (arith, c.value.ensures.range)) in
    omega (arith, digits, c.text.ensures.length, c.requires.room)

pub returns-clause-length : goal.returns-clause-length
returns-clause-length c =
    let digits = length-decimal-le 2 c.value.result (omega arith) (omega (arith, c.value.ensures.range)) (omega (arith, c.value.ensures.range)) in
    omega (arith, digits, c.decimal.ensures.length, c.text.ensures.length)
