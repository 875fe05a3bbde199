-- The law, proved of the definitions.
use Rattle.osc_showing.proofs.Shown.{same-shows, put-shows, zero-shows, clear-shows, quiet-shows}
use Rattle.osc_showing.proofs.laws.jobs_show.Goals as goal

pub returns : goal.returns
returns c = record {
  same = same-shows;
  put = put-shows;
  zero = zero-shows;
  cleared = clear-shows;
  quiet = quiet-shows;
}
