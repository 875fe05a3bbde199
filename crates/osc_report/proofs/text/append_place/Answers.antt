use Rattle.std.proofs.Common.{◌≡◌, to_z, of_z, w64, arith}
use Rattle.std.proofs.lemmas.Int.{ints, to_z-of_z}
use Rattle.osc_report.proofs.Pieces.{six}
use Rattle.osc_report.proofs.text.append_place.Goals as goal

pub returns-in-Dead-clause-after : goal.returns-in-Dead-clause-after
returns-in-Dead-clause-after c =
    let same : to_z w64 (of_z w64 c.in-Dead.offset) ≡ c.in-Dead.offset = search (arith, ints, to_z-of_z) in
    rw (c.decimal-in-Dead.ensures.after, c.signed_decimal.ensures.after, c.decimal.ensures.after, c.in-Dead.is, c.from.ensures, c.from-in-Dead.ensures, same)
    (six c.args.into.now _ _ _ _ _ _)
