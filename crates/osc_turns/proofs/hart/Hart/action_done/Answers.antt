-- A job that is over.
use Rattle.std.proofs.Common.{Some, sym, ◌∙◌, ap}
use Rattle.std.specs.Option.{option_to_list}
use Rattle.osc_word.specs.declared.settings.Config.{Config}
use Rattle.osc_calls.specs.Kernel.{KernelState}
use Rattle.osc_machine.specs.Parts.{HartState}
use Rattle.osc_turns.proofs.Config.{done_kept_too}
use Rattle.osc_calls.specs.JobDone.{job_done, entries}
use Rattle.osc_moves.specs.Standing.{moves_at, left_of}
use Rattle.osc_turns.specs.Seen.{place_seen}
use Rattle.osc_turns.proofs.Begun.{done_commits}
use Rattle.osc_turns.proofs.Labels.{done_labelled}
use Rattle.osc_turns.proofs.Turning.{job_over}
use Rattle.osc_turns.proofs.hart.Hart.action_done.Goals as goal

pub go_on-requires-clause-place : goal.go_on-requires-clause-place
go_on-requires-clause-place c = (c.requires.job ∙ ap Some (sym c.in-Some.ensures.job), c.requires.commits)

pub place_on-place-requires-clause-commits : goal.place_on-place-requires-clause-commits
place_on-place-requires-clause-commits c = rw c.job_done.ensures.kernel (done_commits c.args.word c.args.kernel.kernel c.requires.commits)

pub returns-in-None : goal.returns-in-None
returns-in-None c =
    c.go_on-in-None.ensures (job_done c.args.word c.args.kernel.kernel).shows (done_labelled c.args.word c.args.kernel.kernel c.label-label.result (ap option_to_list c.label-label.ensures ∙ c.job_done.ensures.shown))
    ∙ job_over c.args.self.now c.count_clear.new.self (moves_at (entries c.args.kernel.kernel) c.args.progress.now) c.args.progress.now.read c.args.word c.args.kernel.kernel c.job_done.new.self.kernel (place_seen c.place_on-place.result (Some c.job_done.new.self)) c.boxes.result.now
    (ap (left_of (entries c.args.kernel.kernel)) (sym c.in-None.is) ∙ c.told.ensures.left (entries c.args.kernel.kernel)) c.count_clear.ensures c.job_done.ensures.kernel c.place_on-place.ensures.place c.boxes.ensures.boxes

pub go_on-requires-in-None-clause-counted : goal.go_on-requires-in-None-clause-counted
go_on-requires-in-None-clause-counted c = ap (λ (k : KernelState). k.config.harts) c.job_done.ensures.kernel ∙ ap (λ (f : Config). f.harts) (done_kept_too c.args.word c.args.kernel.kernel) ∙ c.requires.counted ∙ ap (λ (h : HartState). h.count) (sym c.count_clear.ensures)
