-- A write.
use Rattle.std.proofs.Common.{◌≡◌, length, arith, ap, sym, ◌∙◌, subst}
use Rattle.std.proofs.lemmas.Option.{slice_get_within}
use Rattle.osc_kernel.specs.declared.state.State.{State}
use Rattle.osc_kernel.specs.Inside.{kernel_of}
use Rattle.osc_kernel.specs.Plans.{planned_by}
use Rattle.osc_under_way.specs.Effects.{effect_of}
use Rattle.osc_kernel.specs.Sound.{HasRooms, ends_one}
use Rattle.osc_calls.specs.Kernel.{process_at}
use Rattle.osc_calls.specs.WritePlan.{write_plan}
use Rattle.osc_kernel.proofs.Rooms.{rooms_jobs}
use Rattle.osc_kernel.proofs.Writes.{last_page, write_made}
use Rattle.osc_kernel.proofs.sharing.plan_write.Goals as goal

pub write-answer-requires-clause-within : goal.write-answer-requires-clause-within
write-answer-requires-clause-within c =
    let l = slice_get_within c.args.state.now.processes.items c.args.calling.now.pid c.requires.can.caller.has.process c.requires.can.caller.has.at in
    let e = c.pid.ensures in
    omega (arith, l, e)

pub write-answer-requires-clause-last : goal.write-answer-requires-clause-last
write-answer-requires-clause-last c = λ p at. last_page c.args.state.now c.args.calling.now p c.requires.can (sym (ap (λ n. process_at (kernel_of c.args.state.now) n) c.pid.ensures) ∙ at)

pub write-answer-requires-clause-spare : goal.write-answer-requires-clause-spare
write-answer-requires-clause-spare c =
    let a = c.requires.can.rooms.for_jobs in
    let b = ap (λ xs. length xs) c.requires.can.pushed in
    omega (arith, a, b)

pub returns-clause-made : goal.returns-clause-made
returns-clause-made c = λ p at.
    let there = ap (λ n. process_at (kernel_of c.args.state.now) n) c.pid.ensures ∙ at in
    subst (λ (x : State). planned_by x c.answered.result ≡ write_plan p c.args.buf c.args.len (kernel_of c.args.state.now)) (sym c.write-answer.ensures.rest)
    (ap (λ m. planned_by (record (c.args.state.now) { jobs = c.write-answer.new.state.jobs }) m) c.answered.ensures
    ∙ write_made c.args.state.now c.args.calling.now p c.args.buf c.args.len c.write-answer.result c.write-answer.new.state.jobs c.requires.can
    (c.write-answer.ensures.answer p there) (c.write-answer.ensures.pushed p there))

pub returns-clause-rooms : goal.returns-clause-rooms
returns-clause-rooms c =
    subst (λ (x : State). HasRooms (ends_one (effect_of c.answered.result.effect)) x) (sym c.write-answer.ensures.rest)
    (rooms_jobs c.args.state.now _ _ _ _ c.write-answer.ensures.room c.requires.can.rooms)
