use Rattle.std.proofs.Common.{◌∙◌, refl, sym, ap}
use Rattle.std.proofs.lemmas.Bool.{false≢true}
use Rattle.osc_line.specs.Line.{first_register, is_name}
use Rattle.osc_line.proofs.Branches.{branch_parts}
use Rattle.osc_line.proofs.line.branch.Goals as goal

pub returns-in_err-kind-clause-missing : goal.returns-in_err-kind-clause-missing
returns-in_err-kind-clause-missing c none kind rs1 rs2 to said =
    let parts = branch_parts c.args.line.now c.split.result.0.now c.split.result.1.now said.2 kind rs1 rs2
    c.split.ensures.whole c.split.ensures.rest said.4 in
    c.in_err-kind.ensures kind parts.0

pub returns-in_default-clause-missing : goal.returns-in_default-clause-missing
returns-in_default-clause-missing c none kind rs1 rs2 to said =
    let parts = branch_parts c.args.line.now c.split.result.0.now c.split.result.1.now said.2 kind rs1 rs2
    c.split.ensures.whole c.split.ensures.rest said.4 in
    c.in_default.ensures.reads rs1 (first_register rs2 said.2) said.0 parts.1

pub returns-in_err-to-clause-missing : goal.returns-in_err-to-clause-missing
returns-in_err-to-clause-missing c none kind rs1 rs2 to said =
    let parts = branch_parts c.args.line.now c.split.result.0.now c.split.result.1.now said.2 kind rs1 rs2
    c.split.ensures.whole c.split.ensures.rest said.4 in
    let first = c.in-Some.ensures.reads rs1 (first_register rs2 said.2) said.0 parts.1 in
    let second = c.in-Some-register_after.ensures.reads rs2 said.2 said.1 first.1 in
    false≢true (sym (c.in_err-to.ensures.missing refl) ∙ (ap is_name second.1 ∙ said.3.form))
