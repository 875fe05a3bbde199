-- The laws, proved of the definitions.
use Rattle.osc_machine.proofs.KernelLaws.{kernel_stays, kernel_seen, start_has_kernel}
use Rattle.osc_machine.proofs.laws.kernel_in_one_place.Goals as goal

pub returns-clause-stays : goal.returns-clause-stays
returns-clause-stays c = kernel_stays

pub returns-clause-seen : goal.returns-clause-seen
returns-clause-seen c = kernel_seen

pub returns-clause-start : goal.returns-clause-start
returns-clause-start c = start_has_kernel
