-- The law, proved of the definitions.
use Rattle.osc_counted.proofs.Privates.{private_are_counted}
use Rattle.osc_counted.proofs.Unused.{unused_are_free, runs_tell_unused}
use Rattle.osc_counted.proofs.laws.frames_are_told.Goals as goal

pub returns-clause-private : goal.returns-clause-private
returns-clause-private c = private_are_counted

pub returns-clause-unused : goal.returns-clause-unused
returns-clause-unused c = unused_are_free

pub returns-clause-runs : goal.returns-clause-runs
returns-clause-runs c = runs_tell_unused
