-- The laws, proved of the definitions.
use Rattle.osc_parts.proofs.PlainMalloc.{plain_mallocs_fit}
use Rattle.osc_parts.proofs.PlainFree.{plain_frees_fit}
use Rattle.osc_parts.proofs.PlainRealloc.{plain_reallocs_fit}
use Rattle.osc_parts.proofs.laws.plain_heap_fits.Goals as goal

pub returns-clause-malloc : goal.returns-clause-malloc
returns-clause-malloc c = plain_mallocs_fit

pub returns-clause-free : goal.returns-clause-free
returns-clause-free c = plain_frees_fit

pub returns-clause-realloc : goal.returns-clause-realloc
returns-clause-realloc c = plain_reallocs_fit
