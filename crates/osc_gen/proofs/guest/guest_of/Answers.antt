use Rattle.std.proofs.Common.{◌∙◌, ap}
use Rattle.osc_asm.specs.File.{file}
use Rattle.osc_gen.proofs.Steps.{file-given}
use Rattle.osc_gen.proofs.guest.guest_of.Goals as goal

pub returns-in-Ok-clause-file : goal.returns-in-Ok-clause-file
returns-in-Ok-clause-file c =
    file-given c.in_ok-builder.builder c.in-Ok.file.items c.in-Ok.ensures.file ∙ ap file c.in_ok-builder.ensures
