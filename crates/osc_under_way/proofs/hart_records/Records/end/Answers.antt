-- The first records are those of the machine's harts.
use Rattle.std.proofs.Common.{◌≡◌, ◌∙◌, ap, map, set, take}
use Rattle.std.proofs.lemmas.List.{take-map}
use Rattle.osc_calls.specs.declared.HartRecord.TheVariants.{Idle}
use Rattle.osc_calls.specs.ProcessPlans.{record_stopped}
use Rattle.osc_under_way.proofs.hart_records.Records.end.Goals as goal

pub returns : goal.returns
returns c =
    let stopped : take c.self.inside.harts c.stop_all.new.records ≡ map (record_stopped c.args.pid) c.args.self.now =
    ap (take c.self.inside.harts) c.stop_all.ensures
    ∙ take-map (record_stopped c.args.pid) c.self.inside.harts c.self.inside.records
    ∙ ap (map (record_stopped c.args.pid)) c.self.view_is in
    c.set.ensures ∙ ap (λ rs. set rs c.args.hart Idle) stopped
