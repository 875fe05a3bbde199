-- The law, proved of the definitions.
use Rattle.osc_caches.proofs.HeapShows.{heap_plans_show, heap_jobs_show}
use Rattle.osc_caches.proofs.laws.heap_calls_show.Goals as goal

pub returns-clause-plans : goal.returns-clause-plans
returns-clause-plans c = heap_plans_show

pub returns-clause-jobs : goal.returns-clause-jobs
returns-clause-jobs c = heap_jobs_show
