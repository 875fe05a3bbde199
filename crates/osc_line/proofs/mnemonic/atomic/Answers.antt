use Rattle.osc_line.specs.Parts.{stem_name, ending_name}
use Rattle.osc_line.proofs.Splits.{parts_of, stem_lacks, ending_starts}
use Rattle.osc_line.proofs.mnemonic.atomic.Goals as goal

pub returns-in_err-stem-clause-missing : goal.returns-in_err-stem-clause-missing
returns-in_err-stem-clause-missing c none stem ending is =
    let parts = parts_of 46 c.args.name.now c.split.result.0.now c.split.result.1.now (stem_name stem) (ending_name ending)
    c.split.ensures.whole c.split.ensures.rest (stem_lacks stem) (ending_starts ending) is in
    c.in_err-stem.ensures stem parts.0

pub returns-in_err-named-clause-missing : goal.returns-in_err-named-clause-missing
returns-in_err-named-clause-missing c none stem ending is =
    let parts = parts_of 46 c.args.name.now c.split.result.0.now c.split.result.1.now (stem_name stem) (ending_name ending)
    c.split.ensures.whole c.split.ensures.rest (stem_lacks stem) (ending_starts ending) is in
    c.in_err-named.ensures ending parts.1
