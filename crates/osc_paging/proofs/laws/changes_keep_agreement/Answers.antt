-- The law, proved of the definitions.
use Rattle.osc_paging.proofs.TableLawProofs.{opening_agrees, mapping_keeps, unmapping_keeps, reclaiming_keeps, giving_keeps}
use Rattle.osc_paging.proofs.laws.changes_keep_agreement.Goals as goal

pub returns-clause-opening : goal.returns-clause-opening
returns-clause-opening c = opening_agrees

pub returns-clause-mapping : goal.returns-clause-mapping
returns-clause-mapping c = mapping_keeps

pub returns-clause-unmapping : goal.returns-clause-unmapping
returns-clause-unmapping c = unmapping_keeps

pub returns-clause-reclaiming : goal.returns-clause-reclaiming
returns-clause-reclaiming c = reclaiming_keeps

pub returns-clause-giving : goal.returns-clause-giving
returns-clause-giving c = giving_keeps
