-- No job is left.
use Rattle.std.proofs.Common.{sym, ◌∙◌}
use Rattle.osc_kernel.proofs.Stepping.{no_first}
use Rattle.osc_kernel.proofs.test_world.finish.Goals as goal

pub finish-requires : goal.finish-requires
finish-requires g c = no_first c.give_boxes.new.w.kernel.kernel.jobs (sym c.next_job.ensures.next ∙ c.in-None.is)
