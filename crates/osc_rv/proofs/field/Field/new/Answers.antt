use Rattle.std.proofs.Common.{arith, ◌<◌, ◌^◌}
use Rattle.osc_rv.proofs.Runs.{wide_enough}
use Rattle.osc_rv.proofs.field.Field.new.Goals as goal

pub invariant_of-result : goal.invariant_of-result
invariant_of-result g c = wide_enough c.args.value g.row.N (omega arith) c.if-this-ge-BITS.true

pub returns-then-this-ge-BITS-clause-refused : goal.returns-then-this-ge-BITS-clause-refused
returns-then-this-ge-BITS-clause-refused g c =
    let below : c.args.value < 2 ^ g.row.N = wide_enough c.args.value g.row.N (omega arith) c.if-this-ge-BITS.true in
    ((λ some. absurd (cc)), (λ past. absurd (omega arith)))
