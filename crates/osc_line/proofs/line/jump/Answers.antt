use Rattle.std.proofs.Common.{◌∙◌, codes, refl, sym, ap}
use Rattle.std.proofs.lemmas.Bool.{false≢true}
use Rattle.osc_line.specs.Line.{is_name}
use Rattle.osc_line.proofs.Registers.{word_shorter}
use Rattle.osc_line.proofs.line.jump.Goals as goal

pub name_at_end-requires : goal.name_at_end-requires
name_at_end-requires c = (c.requires, word_shorter (codes "jal ") c.in-Some.rd c.in-Some.word.now c.args.line.now c.in-Some.ensures.found.1)

pub returns-in_default-clause-missing : goal.returns-in_default-clause-missing
returns-in_default-clause-missing c none rd to said = c.in_default.ensures.reads rd said.1 said.0 said.3

pub returns-in_err-to-clause-missing : goal.returns-in_err-to-clause-missing
returns-in_err-to-clause-missing c none rd to said =
    let same = c.in-Some.ensures.reads rd said.1 said.0 said.3 in
    false≢true (sym (c.in_err-to.ensures.missing refl) ∙ (ap is_name same.1 ∙ said.2.form))

pub returns-clause-found : goal.returns-clause-found
returns-clause-found c = (c.in-Some.ensures.found.0, c.in-Some.word.now, c.in_ok-to.ensures.found, c.in-Some.ensures.found.1)
