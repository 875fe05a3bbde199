-- The machine of a file's image is sound.
use Rattle.std.proofs.Common.{sym, subst}
use Rattle.osc_core.specs.Sound.{Sound}
use Rattle.osc_core.proofs.tests.boot.Goals as goal

pub boot-requires : goal.boot-requires
boot-requires c = record { image = record { file = c.args.file.now; taken = c.in_ok-image.ensures } }

pub returns : goal.returns
returns c =
    let begins = c.in_ok-booted.ensures.begins in
    subst Sound (sym begins.starts) (c.starts_sound.ensures c.args.file.now c.in_ok-image.image c.args.config.now begins.valid c.in_ok-image.ensures begins.enough)
