-- The law, proved of the definitions.
use Rattle.osc_space.proofs.WordLawProofs.{block_jobs_stay}
use Rattle.osc_space.proofs.laws.no_piece_crosses_a_frame.Goals as goal

pub returns-clause-frames : goal.returns-clause-frames
returns-clause-frames c = block_jobs_stay
