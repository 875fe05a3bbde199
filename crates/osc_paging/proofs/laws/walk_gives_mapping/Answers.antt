-- The law, proved of the definitions.
use Rattle.osc_paging.proofs.TableLawProofs.{walk_gives_mapping}
use Rattle.osc_paging.proofs.laws.walk_gives_mapping.Goals as goal

pub returns : goal.returns
returns c = walk_gives_mapping
