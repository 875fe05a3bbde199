use Rattle.osc_judge.proofs.Turned.{turn-is, goes-error, goes-world, errs-error, errs-world, unfit-error, unfit-world}
use Rattle.osc_judge.proofs.events.judge_thread.Goals as goal

pub returns-in_ok-apply-in-Goes-clause-error : goal.returns-in_ok-apply-in-Goes-clause-error
returns-in_ok-apply-in-Goes-clause-error c =
    let t = turn-is c.args.state.now c.args.event.hart c.args.pid c.requires.turn in
    goes-error c.args.state.now c.args.event c.args.pid t c.in_ok-made.made c.in-Goes.deed
    (c.in_ok-made.ensures t.hart t.process t.at_hart t.at_process) c.in-Goes.is

pub returns-in_ok-apply-in-Goes-clause-world : goal.returns-in_ok-apply-in-Goes-clause-world
returns-in_ok-apply-in-Goes-clause-world c =
    let t = turn-is c.args.state.now c.args.event.hart c.args.pid c.requires.turn in
    goes-world c.args.state.now c.apply.new.self c.args.event c.args.pid t c.in_ok-made.made c.in-Goes.deed
    (c.in_ok-made.ensures t.hart t.process t.at_hart t.at_process) c.in-Goes.is (c.in_ok-apply-in-Goes.ensures t.hart t.process t.at_hart t.at_process)

pub returns-in-Errs-clause-error : goal.returns-in-Errs-clause-error
returns-in-Errs-clause-error c =
    let t = turn-is c.args.state.now c.args.event.hart c.args.pid c.requires.turn in
    errs-error c.args.state.now c.args.event c.args.pid t c.in_ok-made.made c.in-Errs.why
    (c.in_ok-made.ensures t.hart t.process t.at_hart t.at_process) c.in-Errs.is

pub returns-in-Errs-clause-world : goal.returns-in-Errs-clause-world
returns-in-Errs-clause-world c =
    let t = turn-is c.args.state.now c.args.event.hart c.args.pid c.requires.turn in
    errs-world c.args.state.now c.args.event c.args.pid t c.in_ok-made.made c.in-Errs.why
    (c.in_ok-made.ensures t.hart t.process t.at_hart t.at_process) c.in-Errs.is

pub returns-in-Unfit-clause-error : goal.returns-in-Unfit-clause-error
returns-in-Unfit-clause-error c =
    let t = turn-is c.args.state.now c.args.event.hart c.args.pid c.requires.turn in
    unfit-error c.args.state.now c.args.event c.args.pid t c.in_ok-made.made
    (c.in_ok-made.ensures t.hart t.process t.at_hart t.at_process) c.in-Unfit.is

pub returns-in-Unfit-clause-world : goal.returns-in-Unfit-clause-world
returns-in-Unfit-clause-world c =
    let t = turn-is c.args.state.now c.args.event.hart c.args.pid c.requires.turn in
    unfit-world c.args.state.now c.args.event c.args.pid t c.in_ok-made.made
    (c.in_ok-made.ensures t.hart t.process t.at_hart t.at_process) c.in-Unfit.is
