use Rattle.osc_judge.proofs.Turned.{no-turn-error, no-turn-world}
use Rattle.osc_judge.proofs.events.judge.Goals as goal

pub returns-in-None-clause-error : goal.returns-in-None-clause-error
returns-in-None-clause-error c = no-turn-error c.args.state.now c.args.event c.in-None.ensures.value

pub returns-in-None-clause-world : goal.returns-in-None-clause-world
returns-in-None-clause-world c = no-turn-world c.args.state.now c.args.event c.in-None.ensures.value
