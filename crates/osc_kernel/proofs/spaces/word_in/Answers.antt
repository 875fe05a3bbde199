-- A frame that is no table.
use Rattle.std.proofs.Common.{sym, ◌∙◌}
use Rattle.osc_kernel.proofs.Showing.{no_table}
use Rattle.osc_kernel.proofs.spaces.word_in.Goals as goal

pub returns-in-None : goal.returns-in-None
returns-in-None c = sym (no_table c.args.tables.now c.args.frame c.args.index (sym c.table_at.ensures ∙ c.in-None.is))
