-- A row of moves has its length.
use Rattle.osc_calls.specs.Moves.{Put, Copy, after}
use Rattle.osc_moves.proofs.Moving.{count_row}
use Rattle.osc_moves.proofs.progress.count_of.Goals as goal

pub returns-in-ZeroWords : goal.returns-in-ZeroWords
returns-in-ZeroWords c entries = rw c.in-ZeroWords.is (count_row (λ k. Put (after c.in-ZeroWords.at k) 0) c.in-ZeroWords.count)

pub returns-in-CopyWords : goal.returns-in-CopyWords
returns-in-CopyWords c entries = rw c.in-CopyWords.is (count_row (λ k. Copy (after c.in-CopyWords.from k) (after c.in-CopyWords.to k)) c.in-CopyWords.count)
