-- The law, proved of the definitions.
use Rattle.osc_caches.proofs.WordSteps.{steps_keep_words}
use Rattle.osc_caches.proofs.laws.words_agree.Goals as goal

pub returns : goal.returns
returns c = steps_keep_words
