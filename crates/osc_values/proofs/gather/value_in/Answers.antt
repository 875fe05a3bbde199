use Rattle.std.proofs.Common.{◌≤◌, ◌-◌, arith, length, take, drop}
use Rattle.std.proofs.lemmas.List.{length-take}
use Rattle.osc_values.proofs.Numbers.{fits-wider}
use Rattle.osc_values.proofs.gather.value_in.Goals as goal

pub returns-clause-fits : goal.returns-clause-fits
returns-clause-fits c =
    let count = length-take (c.min-to.result - c.min-from.result) (drop c.min-from.result c.args.bytes.now) in
    let few : length (take (c.min-to.result - c.min-from.result) (drop c.min-from.result c.args.bytes.now)) ≤ c.args.width = omega (arith, count) in
    fits-wider c.gather.result _ c.args.width few c.gather.ensures.fits
