-- The jobs of the pieces from here on are still to be pushed.
use Rattle.std.proofs.Common.{◌≡◌, ◌+◌, ◌≤◌, ◌++◌, length}
use Rattle.osc_space.specs.BlockWords.{zero_jobs}
use Rattle.osc_shadow.specs.Pieces.{zero_job}
use Rattle.osc_shadow.proofs.Cuts.{jobs_from}
use Rattle.osc_shadow.proofs.words.zero_words.Given as goal

abbrev pub invariant-loop-piece : goal.invariant-loop-piece
invariant-loop-piece l = record {
  pushed : l.jobs.pushed ++ jobs_from (zero_job l.heap.pages l.block) l.count l.piece l.from l.to
      ≡ l.fn.jobs.pushed ++ zero_jobs l.heap.pages l.block l.from l.to;
  few : length l.jobs.pushed ≤ length l.fn.jobs.pushed + l.piece;
  room : l.jobs.room ≡ l.fn.jobs.room;
}
