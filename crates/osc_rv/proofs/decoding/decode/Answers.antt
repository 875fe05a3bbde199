use Rattle.osc_rv.proofs.Laws.{written_back}
use Rattle.osc_rv.proofs.decoding.decode.Goals as goal

pub returns-clause-written_back : goal.returns-clause-written_back
returns-clause-written_back c = rw c.decode_at.ensures (written_back c.args.word c.ranges.word.fits)
