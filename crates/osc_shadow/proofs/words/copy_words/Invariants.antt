-- The jobs of the pieces from here on are still to be pushed.
use Rattle.std.proofs.Common.{◌≡◌, ◌+◌, ◌≤◌, ◌++◌, length, map}
use Rattle.osc_space.specs.BlockWords.{stretches}
use Rattle.osc_shadow.specs.Pieces.{copy_job}
use Rattle.osc_shadow.proofs.Cuts.{jobs_from}
use Rattle.osc_shadow.proofs.words.copy_words.Given as goal

abbrev pub invariant-loop-piece : goal.invariant-loop-piece
invariant-loop-piece l = record {
  pushed : l.jobs.pushed ++ jobs_from (copy_job l.heap.pages l.old l.block) l.count l.piece 16 l.to
      ≡ l.fn.jobs.pushed ++ map (copy_job l.heap.pages l.old l.block) (stretches 16 l.to);
  few : length l.jobs.pushed ≤ length l.fn.jobs.pushed + l.piece;
  room : l.jobs.room ≡ l.fn.jobs.room;
}
