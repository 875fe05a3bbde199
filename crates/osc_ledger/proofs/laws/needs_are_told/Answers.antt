-- The law, proved of the definitions.
use Rattle.osc_ledger.proofs.NeedTold.{shadow_need_is_told, region_need_is_told}
use Rattle.osc_ledger.proofs.laws.needs_are_told.Goals as goal

pub returns-clause-shadows : goal.returns-clause-shadows
returns-clause-shadows c = shadow_need_is_told

pub returns-clause-regions : goal.returns-clause-regions
returns-clause-regions c = region_need_is_told
