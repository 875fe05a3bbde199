use Rattle.osc_judge.proofs.Booted.{pages-apart}
use Rattle.osc_judge.proofs.boot.memory_with.Goals as goal

pub new-requires : goal.new-requires
new-requires c = rw (c.in_ok-add_zeros.ensures, c.in_ok-list.ensures, c.requires.stack) (pages-apart c.args.image.now c.args.count c.requires.few)
