-- A process that has its topmost table alone stands in its machine.
use Rattle.std.proofs.Common.{ℕ, ◌+◌, ◌≡◌, ◌∙◌, Some, None, ap, sym}
use Rattle.osc_frames.specs.Free.{all_free, least_free, without_frame}
use Rattle.osc_paging.specs.TableChanges.{opened}
use Rattle.osc_calls.specs.Kernel.{Process}
use Rattle.osc_process.specs.Parts.{unused, with_tables}
use Rattle.osc_process.proofs.Standing.{fresh_stands}
use Rattle.osc_process.proofs.tests.start.Goals as goal

pub returns : goal.returns
returns g c =
    let m = c.args.m.now in
    let n = m.config.frames in
    let root = c.expect-root.result in
    let some : c.take.result ≡ Some root = c.expect-root.ensures in
    let least : Some root ≡ least_free (all_free n) = sym some ∙ (c.take.ensures.least ∙ ap least_free c.requires.frames) in
    let after : c.take.new.self ≡ without_frame (all_free n) (Some root) = c.take.ensures.after ∙ (ap (without_frame m.frames) some ∙ ap (λ free. without_frame free (Some root)) c.requires.frames) in
    let process = c.open_root.ensures ∙ ap (λ (p : Process). with_tables (opened root p.space.tables) p) c.requires.process in
    record {
      stands = fresh_stands m.config c.open_root.new.process m.regions c.take.new.self m.jobs root c.requires.valid process c.requires.regions least after c.requires.jobs;
    }
