use Rattle.std.proofs.Common.{refl, arith}
use Rattle.std.proofs.lemmas.Bool.Decides.{nat_tests}
use Rattle.osc_assemble.proofs.Cutting.{reading-line, reading-silent, reading-end}
use Rattle.osc_assemble.proofs.lines.read.Goals as goal

pub returns-in_default-clause-fault : goal.returns-in_default-clause-fault
returns-in_default-clause-fault c =
    reading-silent c.args.text.now c.loop-rest.rest.now c.first_line.result.0.now c.first_line.result.1.now c.loop-rest.number
    c.loop-rest.made c.loop-rest.invariant c.first_line.ensures.lines (c.in_default.ensures.missing refl)

pub loop-rest-preserved : goal.loop-rest-preserved
loop-rest-preserved c =
    reading-line c.args.text.now c.loop-rest.rest.now c.first_line.result.0.now c.first_line.result.1.now c.loop-rest.number
    c.loop-rest.made c.put.new.self c.in-Some.said c.loop-rest.invariant c.first_line.ensures.lines
    c.first_line.ensures.shorter c.in-Some.ensures.found c.in_ok-put.ensures

pub returns-clause-read : goal.returns-clause-read
returns-clause-read c =
    reading-end c.args.text.now c.loop-rest.rest.now c.loop-rest.number c.loop-rest.made c.loop-rest.invariant
    (grind (arith, nat_tests, c.is_empty.ensures, c.loop-rest-test.false))
