-- The laws, proved of the definitions.
use Rattle.osc_settled.proofs.Taking.{mallocs_take, reallocs_take, plain_mallocs_take, plain_reallocs_take, forks_take, shares_take}
use Rattle.osc_settled.proofs.laws.plans_take_need.Goals as goal

pub returns-clause-malloc : goal.returns-clause-malloc
returns-clause-malloc c = mallocs_take

pub returns-clause-realloc : goal.returns-clause-realloc
returns-clause-realloc c = reallocs_take

pub returns-clause-plain_malloc : goal.returns-clause-plain_malloc
returns-clause-plain_malloc c = plain_mallocs_take

pub returns-clause-plain_realloc : goal.returns-clause-plain_realloc
returns-clause-plain_realloc c = plain_reallocs_take

pub returns-clause-fork : goal.returns-clause-fork
returns-clause-fork c = forks_take

pub returns-clause-share : goal.returns-clause-share
returns-clause-share c = shares_take
