use Rattle.std.proofs.lemmas.Result.{IfOk-weaker}
use Rattle.osc_object.proofs.deeds.heap_value.Goals as goal

pub returns-in-Makes : goal.returns-in-Makes
returns-in-Makes c =
    IfOk-weaker c.next_object.result _ _ (λ value is turn p. rw c.in-Makes.is (is turn.process p)) c.next_object.ensures

pub returns-in-Replaces : goal.returns-in-Replaces
returns-in-Replaces c =
    IfOk-weaker c.next_object-in-Replaces.result _ _ (λ value is turn p. rw c.in-Replaces.is (is turn.process p)) c.next_object-in-Replaces.ensures
