-- Answers, and what they come to, as the definitions of a hart know them.
use Rattle.std.specs.Prelude.{Option}
use Rattle.osc_word.specs.declared.steps.Choice.{Choice}
use Rattle.osc_hart.specs.declared.answers.Told.{Told}
use Rattle.osc_hart.specs.declared.answers.Told.TheVariants as told
use Rattle.osc_guest.specs.User.{Answered}
use Rattle.osc_hart.specs.Seen.{SeenHart}
use Rattle.osc_guest.specs.Told as guest

-- an answer as the definitions know it
abbrev pub said : Told → guest.Told
said (told.Box hart_box) = guest.Box hart_box
said told.Busy = guest.Busy
said (told.Word word) = guest.Word word
said (told.Gate version) = guest.Gate version
said told.OldVersion = guest.OldVersion
said (told.Resumed resume) = guest.Resumed resume
said told.Done = guest.Done

-- what a hart made of an answer, with the choice that it told
abbrev pub made : SeenHart → Option Choice → Answered
made seen choice = record { hart = seen.hart; choice = choice; touch = seen.touch }
