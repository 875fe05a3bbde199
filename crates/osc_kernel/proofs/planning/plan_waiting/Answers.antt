-- The call that waits commits.
use Rattle.std.proofs.Common.{ap, ◌∙◌}
use Rattle.osc_calls.specs.Kernel.{Shown}
use Rattle.osc_calls.specs.Requests.{meant}
use Rattle.osc_release.specs.Outcomes.{found_of}
use Rattle.osc_kernel.specs.Plans.{planned_by}
use Rattle.osc_kernel.proofs.Committing.{MadeFits, can_plan, entered_sound, made_fits, planned_is}
use Rattle.osc_kernel.proofs.planning.plan_waiting.Goals as goal
use Rattle.osc_kernel.proofs.planning.plan_waiting.Goals.{After-plan_call-made}

pub plan_call-made-requires : goal.plan_call-made-requires
plan_call-made-requires c = record { can = can_plan c.args.state.now c.keep.new.self c.args.calling.now c.requires.sound c.requires.waits c.keep.ensures }

facts : (c : After-plan_call-made) → MadeFits c.args.state.now c.plan_call-made.new.state c.args.calling.now (found_of c.args.found) c.plan_call-made.result
facts c =
    let s = c.args.state.now in
    let has = (can_plan s c.keep.new.self c.args.calling.now c.requires.sound c.requires.waits c.keep.ensures).caller.has in
    made_fits s c.plan_call-made.new.state c.args.calling.now has.process (found_of c.args.found) c.plan_call-made.result c.requires.sound c.requires.waits has.at
    (planned_is s c.keep.new.self c.args.calling.now has.process (found_of c.args.found) c.meant.result (planned_by c.plan_call-made.new.state c.plan_call-made.result) c.requires.waits
    (c.meant.ensures ∙ ap meant c.call.ensures) (c.plan_call-made.ensures.made has.process has.at))

pub commit-requires : goal.commit-requires
commit-requires c = let f = facts c.before in record { room = f.room; frames = f.frames; rooms = c.plan_call-made.ensures.rooms; few = f.few }

pub returns-clause-kernel : goal.returns-clause-kernel
returns-clause-kernel c = c.commit.ensures.kernel ∙ ap (λ (x : Shown). x.kernel) (facts c.before.before).is

pub returns-clause-shown : goal.returns-clause-shown
returns-clause-shown c = c.commit.ensures.shown ∙ ap (λ (x : Shown). x.shows) (facts c.before.before).is

pub returns-clause-freed : goal.returns-clause-freed
returns-clause-freed c = c.commit.ensures.freed ∙ c.plan_call-made.ensures.rest.freed

pub returns-clause-sound : goal.returns-clause-sound
returns-clause-sound c =
    entered_sound c.args.state.now c.plan_call-made.new.state c.commit.new.state c.args.calling.now (found_of c.args.found) c.plan_call-made.result c.requires.sound c.requires.waits (facts c.before.before)
    (c.plan_call-made.ensures.rest.done ∙ (can_plan c.args.state.now c.keep.new.self c.args.calling.now c.requires.sound c.requires.waits c.keep.ensures).done)
    c.commit.ensures.kernel c.commit.ensures.rooms c.commit.ensures.pending c.commit.ensures.jobs c.commit.ensures.done
