use Rattle.std.proofs.Common.{◌≡◌, ◌∙◌, refl, sym, ap}
use Rattle.std.proofs.lemmas.Bool.{false≢true}
use Rattle.std.specs.Prelude.{is_none}
use Rattle.osc_line.proofs.NothingSaid.{nothing_said}
use Rattle.osc_line.proofs.line.read_line.Goals as goal

pub returns-clause-missing : goal.returns-clause-missing
returns-clause-missing c none said is =
    nothing_said c.args.line.now (record {
      plain = λ instr fits same. false≢true (sym (ap is_none (c.in_default.ensures.all instr fits same)));
      blank = sym c.is_blank.ensures ∙ c.if-is_blank.false;
      bind = c.in_default-bind.ensures.missing refl;
      branch = c.in_default-said.ensures.missing refl;
      jump = c.in_default-jump.ensures.missing refl;
      li = c.in_default-li.ensures.missing refl;
      la = c.in_default-la.ensures.missing refl;
      lab = c.in_default-lab.ensures.missing refl;
      bytes = c.bytes.ensures.missing none;
    }) said is
