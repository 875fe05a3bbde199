use Rattle.std.proofs.Common.{Ok, ap, ◌∙◌}
use Rattle.osc_object.specs.Rows.{bytes_of}
use Rattle.osc_object.proofs.Rows.{take-one}
use Rattle.osc_object.proofs.writing.loaded_byte.Goals as goal

pub returns : goal.returns
returns c =
    rw (← c.in_ok-at.ensures, ← c.state.view_is, ← c.deref.ensures.value) (ap Ok (ap bytes_of c.byte_at.ensures ∙ take-one _ c.in_ok-at.at.offset))
