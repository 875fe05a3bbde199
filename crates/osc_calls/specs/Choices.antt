-- The choice of a committed call's event: what its instruction left open. This project's own.
use Rattle.osc_word.specs.declared.calls.Call.{Call}
use Rattle.osc_word.specs.declared.calls.Call.TheVariants.{Share}
use Rattle.osc_word.specs.declared.calls.Answer.{Answer}
use Rattle.osc_word.specs.declared.calls.Answer.TheVariants as answers
use Rattle.osc_word.specs.declared.steps.Choice.{Choice}
use Rattle.osc_word.specs.declared.steps.Choice.TheVariants as choices
use Rattle.osc_calls.specs.Kernel.{KernelState, Effect, Starts, UnderWay, Returning}

-- a shared region was given
abbrev pub number_choice : Call → Choice
number_choice (Share count) = choices.Given
number_choice _ = choices.Plain

-- memory, a thread or a process was given, or refused for one of the reasons; what faults leaves nothing open
abbrev pub answer_choice : Call → Answer → Choice
answer_choice call (answers.Number number) = number_choice call
answer_choice call (answers.Given object pointer) = choices.Given
answer_choice call (answers.Placed pointer) = choices.Given
answer_choice call (answers.Moved old object pointer) = choices.Given
answer_choice call answers.NoShadow = choices.Refused
answer_choice call answers.NoFrames = choices.Refused
answer_choice call answers.NoHart = choices.Refused
answer_choice call answers.NoProcess = choices.Refused
answer_choice call answers.NoThread = choices.Refused
answer_choice call answers.Empty = choices.Refused
answer_choice call _ = choices.Plain

abbrev pub effect_choice : Effect → Call → Answer → Choice
effect_choice (Starts hart start) call answer = choices.Started hart
effect_choice _ call answer = answer_choice call answer

abbrev pub choice_by : UnderWay → Choice
choice_by (Returning done) = effect_choice done.effect done.calling.call done.answer
choice_by _ = choices.Plain

-- the choice of the call that is planned and has not returned
unfoldable pub choice : KernelState → Choice
choice kernel = choice_by kernel.under_way
