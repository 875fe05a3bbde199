-- The law, proved of the definitions.
use Rattle.osc_paging.proofs.TableLawProofs.{mapping_takes_need, mappings_take_need, need_splits, mappings_map_pages}
use Rattle.osc_paging.proofs.laws.mapping_takes_need.Goals as goal

pub returns-clause-one : goal.returns-clause-one
returns-clause-one c = mapping_takes_need

pub returns-clause-many : goal.returns-clause-many
returns-clause-many c = mappings_take_need

pub returns-clause-split : goal.returns-clause-split
returns-clause-split c = need_splits

pub returns-clause-pages : goal.returns-clause-pages
returns-clause-pages c = mappings_map_pages
