use Rattle.osc_top.proofs.Sinks.{Broken-text}
use Rattle.osc_top.proofs.delivery.write_both.Goals as goal

pub returns-clause-broken : goal.returns-clause-broken
returns-clause-broken g c =
    Broken-text _ _ _ _ _ _ _ _ _ (rw c.output.ensures at c.in_ok-write_all.ensures.all) c.write_text.ensures.cause c.write_text.ensures.part
