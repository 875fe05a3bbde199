-- They put words of tables.
use Rattle.osc_calls.specs.Open.{all_pages, rooted, lay_all}
use Rattle.osc_core.proofs.Laid.{all_tabled, tables_write}
use Rattle.osc_core.proofs.laying.opening_writes.Goals as goal

pub returns : goal.returns
returns c = λ pages config. tables_write (lay_all (all_pages pages) (rooted config)).tables.tables (lay_all (all_pages pages) (rooted config)).jobs (all_tabled (all_pages pages) (rooted config) tt)
