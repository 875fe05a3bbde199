-- The image is that of a file.
use Rattle.osc_core.proofs.tests.refusal.Goals as goal

pub boot-requires : goal.boot-requires
boot-requires c = record { image = record { file = c.args.file.now; taken = c.in_ok-image.ensures } }
