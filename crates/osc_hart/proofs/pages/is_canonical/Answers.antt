-- Six levels reach every page.
use Rattle.osc_hart.proofs.Powers.{canonical_beyond}
use Rattle.osc_hart.proofs.pages.is_canonical.Goals as goal

pub returns-then-levels-ge-ALL_LEVELS : goal.returns-then-levels-ge-ALL_LEVELS
returns-then-levels-ge-ALL_LEVELS c =
    canonical_beyond c.args.levels c.args.page c.if-levels-ge-ALL_LEVELS.true c.requires
