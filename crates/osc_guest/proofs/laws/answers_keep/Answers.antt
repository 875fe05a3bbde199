-- The laws, proved of the definitions.
use Rattle.osc_guest.proofs.Hands.{choices_counted}
use Rattle.osc_guest.proofs.Quiet.{faults_keep, silence_keeps}
use Rattle.osc_guest.proofs.laws.answers_keep.Goals as goal

pub returns-clause-counted : goal.returns-clause-counted
returns-clause-counted c = choices_counted

pub returns-clause-faults : goal.returns-clause-faults
returns-clause-faults c = faults_keep

pub returns-clause-silence : goal.returns-clause-silence
returns-clause-silence c = silence_keeps
