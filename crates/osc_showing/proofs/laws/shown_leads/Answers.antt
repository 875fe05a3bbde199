-- The law, proved of the definitions.
use Rattle.osc_showing.proofs.Leading.{shown_leads}
use Rattle.osc_showing.proofs.laws.shown_leads.Goals as goal

pub returns : goal.returns
returns c = shown_leads
