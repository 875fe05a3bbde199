-- The laws, proved of the definitions.
use Rattle.osc_paging.proofs.Others.{mapping_keeps_others, unmapping_keeps_others, reclaiming_keeps_others, giving_keeps_others}
use Rattle.osc_paging.proofs.laws.changes_keep_others.Goals as goal

pub returns-clause-mapping : goal.returns-clause-mapping
returns-clause-mapping c = mapping_keeps_others

pub returns-clause-unmapping : goal.returns-clause-unmapping
returns-clause-unmapping c = unmapping_keeps_others

pub returns-clause-reclaiming : goal.returns-clause-reclaiming
returns-clause-reclaiming c = reclaiming_keeps_others

pub returns-clause-giving : goal.returns-clause-giving
returns-clause-giving c = giving_keeps_others
