use Rattle.osc_rv.proofs.Laws.{read_back}
use Rattle.osc_rv.proofs.encoding.encode.Goals as goal

pub returns-clause-read_back : goal.returns-clause-read_back
returns-clause-read_back c = rw c.word.ensures.word (read_back _ c.word.ensures.fits)
