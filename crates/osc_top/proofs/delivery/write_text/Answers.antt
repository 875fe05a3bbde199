use Rattle.osc_outside.proofs.KnownBytes.{Appends-none}
use Rattle.osc_top.proofs.delivery.write_text.Goals as goal

pub returns-in-Made-clause-all : goal.returns-in-Made-clause-all
returns-in-Made-clause-all g c = rw c.in-Made.is (Appends-none _)
