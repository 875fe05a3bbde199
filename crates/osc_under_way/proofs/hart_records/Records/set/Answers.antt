-- The hart is one of the first.
use Rattle.std.proofs.Common.{◌<◌, length, take}
use Rattle.osc_under_way.proofs.EightRecords.{set_of_first}
use Rattle.osc_under_way.proofs.hart_records.Records.set.Goals as goal

pub returns : goal.returns
returns c =
    let there : c.args.hart < length (take c.self.inside.harts c.self.inside.records) = rw c.self.view_is c.requires in
    rw (← c.self.view_is) (set_of_first c.self.inside.harts c.args.hart c.args.new c.self.inside.records there)
