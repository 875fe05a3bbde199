-- The law, proved of the definitions.
use Rattle.osc_safe.proofs.KernelRows.{kernels_step}
use Rattle.osc_safe.proofs.laws.kernel_goes.Goals as goal

pub returns : goal.returns
returns c = kernels_step
