-- What a plan of this crate answers, as the call's answer. This project's own.
use Rattle.osc_word.specs.declared.calls.Answer.{Answer}
use Rattle.osc_word.specs.declared.calls.Answer.TheVariants as answer
use Rattle.osc_shadow.specs.declared.memory.Lack.{Lack}
use Rattle.osc_shadow.specs.declared.memory.Lack.TheVariants.{Shadow, Frames}

abbrev pub lack_answer : Lack → Answer
lack_answer Shadow = answer.NoShadow
lack_answer Frames = answer.NoFrames
