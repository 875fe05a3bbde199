use Rattle.std.proofs.lemmas.List.{take_rest}
use Rattle.osc_assemble.proofs.Cutting.{lines-cut, lines-whole}
use Rattle.osc_assemble.proofs.lines.first_line.Goals as goal

pub returns-in-Some-clause-lines : goal.returns-in-Some-clause-lines
returns-in-Some-clause-lines c =
    let found = c.in-Some.ensures in
    rw take_rest (lines-cut c.args.text.now c.in-Some.end found.0.high found.0.before found.1)

pub returns-in-None-clause-lines : goal.returns-in-None-clause-lines
returns-in-None-clause-lines c = lines-whole c.args.text.now c.requires c.in-None.ensures
