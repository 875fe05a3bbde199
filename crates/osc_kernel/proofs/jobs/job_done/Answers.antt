-- A job is done.
use Rattle.std.proofs.Common.{arith, ap, sym, ◌∙◌, subst}
use Rattle.osc_settled.proofs.Silent.{outs}
use Rattle.osc_kernel.specs.Inside.{kernel_of}
use Rattle.osc_kernel.specs.Sound.{Fits}
use Rattle.osc_kernel.proofs.Stepping.{next_is, out_room, done_keeps, kernel_done, dropped_first, shown_done}
use Rattle.osc_kernel.proofs.jobs.job_done.Goals as goal

pub write_out-requires-clause-room : goal.write_out-requires-clause-room
write_out-requires-clause-room c =
    let n = next_is c.args.state.now.jobs.pushed c.args.state.now.done c.unwrap-job.result (sym c.get.ensures ∙ c.unwrap-job.ensures) in
    let a = out_room (kernel_of c.args.state.now) c.requires.sound.fits in
    let b = c.requires.sound.rooms.for_output in
    let d = n.sum in
    omega (arith, a, b, d)

pub write_out-requires-clause-pending : goal.write_out-requires-clause-pending
write_out-requires-clause-pending c =
    let n = next_is c.args.state.now.jobs.pushed c.args.state.now.done c.unwrap-job.result (sym c.get.ensures ∙ c.unwrap-job.ensures) in
    let a = c.requires.sound.pending in
    let d = n.sum in
    omega (arith, a, d)

pub returns-clause-kernel : goal.returns-clause-kernel
returns-clause-kernel c =
    kernel_done (kernel_of c.args.state.now) c.args.word c.unwrap-job.result _ _
    (dropped_first c.args.state.now.jobs.pushed c.args.state.now.done ∙ (sym c.get.ensures ∙ c.unwrap-job.ensures)) c.step.ensures.rest c.write_out.ensures.items

pub returns-clause-sound : goal.returns-clause-sound
returns-clause-sound c =
    let s = c.args.state.now in
    let n = next_is s.jobs.pushed s.done c.unwrap-job.result (sym c.get.ensures ∙ c.unwrap-job.ensures) in
    let h = c.requires.sound.rooms in
    record {
      fits = subst Fits (sym (returns-clause-kernel c)) (done_keeps c.args.word (kernel_of s) c.unwrap-job.result _ c.requires.sound.fits n.is);
      rooms = record {
        valid = h.valid;
        few = h.few;
        room = h.room;
        rest = h.rest;
        sized = h.sized;
        counted = h.counted;
        reported = h.reported;
        for_reports = h.for_reports;
        for_entries = h.for_entries;
        for_output = (let a = h.for_output in let b = c.write_out.ensures.capacity in omega (arith, a, b));
        for_jobs = c.step.ensures.room ∙ h.for_jobs;
        named = h.named;
      };
      few_jobs = (let a = c.requires.sound.few_jobs in let b = c.step.ensures.few in omega (arith, a, b));
      clean = c.step.ensures.clean;
      pending = (let a = c.requires.sound.pending in let b = c.write_out.ensures.pending in let d = n.sum in let e = ap (λ js. outs js) c.step.ensures.rest in omega (arith, a, b, d, e));
    }

pub returns-clause-shown : goal.returns-clause-shown
returns-clause-shown c =
    let s = c.args.state.now in
    let n = next_is s.jobs.pushed s.done c.unwrap-job.result (sym c.get.ensures ∙ c.unwrap-job.ensures) in
    c.label_of-state.ensures _ (c.requires.sound.pending ∙ n.sum) ∙ shown_done c.args.word (kernel_of s) c.unwrap-job.result _ n.is
