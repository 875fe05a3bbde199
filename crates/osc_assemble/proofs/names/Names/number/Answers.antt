use Rattle.std.proofs.Common.{◌∙◌, ap, not, arith}
use Rattle.osc_assemble.specs.Put.{is_in, place_in, with_name}
use Rattle.osc_assemble.proofs.Named.{shown, is_in-shown, place_in-shown, with_name-shown}
use Rattle.osc_assemble.proofs.names.Names.number.Goals as goal

pub returns-clause-number : goal.returns-clause-number
returns-clause-number c =
    grind (
      arith,
      c.in_ok-number.ensures,
      c.in-Ok.place-is,
      c.in-Ok.ensures.index
          ∙ (place_in-shown c.self.inside.set.keys c.args.name.now ∙ ap (λ names. place_in names c.args.name.now) c.self.view_is),
    )

pub returns-clause-added : goal.returns-clause-added
returns-clause-added c =
    grind (
      arith,
      c.in-Ok.added-is,
      c.in-Ok.ensures.added
          ∙ ap not
          (is_in-shown c.self.inside.set.keys c.args.name.now ∙ ap (λ names. is_in names c.args.name.now) c.self.view_is),
    )

pub returns-clause-names : goal.returns-clause-names
returns-clause-names c =
    ap shown c.in-Ok.ensures.keys
    ∙ (with_name-shown c.self.inside.set.keys c.args.name ∙ ap (λ names. with_name names c.args.name.now) c.self.view_is)
