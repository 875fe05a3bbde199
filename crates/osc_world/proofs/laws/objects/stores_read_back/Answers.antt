-- The laws are the lemmas.
use Rattle.osc_world.proofs.Lists.{length-overlaid, overlaid-stored, overlaid-below, overlaid-above}
use Rattle.osc_world.proofs.laws.objects.stores_read_back.Goals as goal

pub returns-clause-size : goal.returns-clause-size
returns-clause-size c bytes others offset = length-overlaid bytes offset others

pub returns-clause-stored : goal.returns-clause-stored
returns-clause-stored c bytes others offset = overlaid-stored bytes offset others

pub returns-clause-below : goal.returns-clause-below
returns-clause-below c bytes others offset = overlaid-below bytes offset others

pub returns-clause-above : goal.returns-clause-above
returns-clause-above c bytes others offset = overlaid-above bytes offset others
