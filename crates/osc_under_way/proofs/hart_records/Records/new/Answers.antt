-- The first of eight records.
use Rattle.osc_under_way.proofs.EightRecords.{first_of_eight}
use Rattle.osc_under_way.proofs.hart_records.Records.new.Goals as goal

pub returns : goal.returns
returns c = first_of_eight c.args.harts c.requires
