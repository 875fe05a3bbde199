-- The end of a process by a fault.
use Rattle.std.proofs.Common.{ap, ◌∷◌, [], length, length-append, ◌∙◌}
use Rattle.osc_under_way.specs.Effects.{effect_of}
use Rattle.osc_kernel.specs.Sound.{ends_one}
use Rattle.osc_kernel.proofs.Rooms.{report_room, rooms_reports}
use Rattle.osc_kernel.proofs.ending.plan_end.Goals as goal

pub push_report-requires : goal.push_report-requires
push_report-requires c = report_room c.args.state.now c.args.calling.now.pid c.requires.can.rooms c.requires.can.caller.has

pub returns-clause-rooms : goal.returns-clause-rooms
returns-clause-rooms c =
    rooms_reports c.args.state.now _ _ _ _ c.end_process.ensures.state
    (ap (λ xs. length xs) c.push_report.ensures.items ∙ length-append c.args.state.now.reports.items (c.report_of-report.result ∷ [])) c.push_report.ensures.capacity
    (ap (λ m. ends_one (effect_of m.effect)) c.end_process.ensures.answer ∙ ap ends_one c.of_fault.ensures) c.requires.can.rooms
