use Rattle.osc_top.proofs.Files.{TaskDecided-file}
use Rattle.osc_top.proofs.top.decide.Goals as goal

pub returns-in-Ok-clause-decided : goal.returns-in-Ok-clause-decided
returns-in-Ok-clause-decided g c = TaskDecided-file _ _ _ _ c.in-Ok.decision c.in-Ok.ensures.comes
