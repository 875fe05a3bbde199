-- The law is the lemma.
use Rattle.osc_world.proofs.OnePage.{one-page}
use Rattle.osc_world.proofs.laws.examples.programs_have_one_page.Goals as goal

pub returns : goal.returns
returns c = one-page
