-- The journal's length is a number of 32 bits.
use Rattle.std.proofs.Common.{length, option_map, sym, ◌∙◌, ap}
use Rattle.osc_core.specs.Shared.{state_of}
use Rattle.osc_core.proofs.Journals.{journal_fits}
use Rattle.osc_core.proofs.machine.Machine.counts.Goals as goal

pub counted-requires : goal.counted-requires
counted-requires c =
    journal_fits (length c.args.self.now.gates) (length c.args.harts.now) (state_of c.args.self.now c.args.harts.now) c.in-Some.kernel.now.kernel c.requires
    (sym c.kernel_with.ensures ∙ ap (option_map (λ kernel. kernel.now.kernel)) c.in-Some.is)
