-- What a free is told, and what it made and answered. This project's own.
use Rattle.std.specs.Prelude.{ℕ, List, slice_index}
use Rattle.osc_word.specs.declared.calls.Answer.TheVariants as answer
use Rattle.osc_space.specs.Header.{Found}
use Rattle.osc_space.specs.Space.{Draft, Terms, Outcome, Keeps}
use Rattle.osc_space.specs.Free.{closing_where}
use Rattle.osc_release.specs.declared.answer.FreePlan.{FreePlan}
use Rattle.osc_release.specs.declared.answer.FreePlan.TheVariants.{Freed, HeaderDamaged}

abbrev pub terms : ℕ → ℕ → ℕ → Terms
terms harts call batch = record { harts = harts; call = call; batch = batch }

abbrev pub found_of : List ℕ → Found
found_of words = record { first = slice_index words 0; second = slice_index words 1 }

-- where it flushes, the blocks of all that wait are to be given back
abbrev pub freed_now : FreePlan → Draft → Outcome
freed_now (Freed object flush) d = record { answer = answer.Freed object; draft = d; closing = closing_where flush d.space }
freed_now (HeaderDamaged object kept found) d = record { answer = answer.HeaderDamaged kept found; draft = d; closing = Keeps }

abbrev pub object_in : FreePlan → ℕ
object_in (Freed object flush) = object
object_in (HeaderDamaged object kept found) = object
