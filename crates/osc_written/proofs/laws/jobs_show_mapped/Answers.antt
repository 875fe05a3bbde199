-- The law, proved of the definitions.
use Rattle.osc_written.proofs.WrittenShows.{jobs_show_mapped}
use Rattle.osc_written.proofs.laws.jobs_show_mapped.Goals as goal

pub returns : goal.returns
returns c = jobs_show_mapped
