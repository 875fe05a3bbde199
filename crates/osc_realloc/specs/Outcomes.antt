-- What a realloc is told, and what it made and answered. This project's own.
use Rattle.std.specs.Prelude.{ℕ, ◌≡◌, Option, Some, None, List, [], ◌++◌, slice_index}
use Rattle.osc_word.specs.declared.calls.Answer.{Answer}
use Rattle.osc_word.specs.declared.calls.Answer.TheVariants as answer
use Rattle.osc_slot.specs.declared.Block.{Block}
use Rattle.osc_mark.specs.Grants.{number_at}
use Rattle.osc_space.specs.declared.ObjectFact.{ObjectFact}
use Rattle.osc_space.specs.Objects.{fact}
use Rattle.osc_space.specs.Header.{Found}
use Rattle.osc_space.specs.Space.{Space, Draft, Terms, Outcome, Closing, Keeps, GivesBack}
use Rattle.osc_space.specs.Free.{waiting_blocks}
use Rattle.osc_space.specs.Realloc.{stays, left_block}
use Rattle.osc_realloc.specs.declared.answer.Realloced.{Realloced}
use Rattle.osc_realloc.specs.declared.answer.Realloced.TheVariants.{Moved, HeaderDamaged, NoShadow, NoFrames}

abbrev pub terms : ℕ → ℕ → ℕ → Terms
terms harts call batch = record { harts = harts; call = call; batch = batch }

abbrev pub found_of : List ℕ → Found
found_of words = record { first = slice_index words 0; second = slice_index words 1 }

abbrev pub answer_of : Realloced → Answer
answer_of (Moved old object pointer) = answer.Moved old object pointer
answer_of (HeaderDamaged object kept found) = answer.HeaderDamaged kept found
answer_of NoShadow = answer.NoShadow
answer_of NoFrames = answer.NoFrames

-- the block of the old object, where it does not stay
abbrev pub block_left : Option ObjectFact → ℕ → List Block
block_left None n = []
block_left (Some o) n = left_block (stays o n) o

-- of a memory in which n bytes were asked for: the blocks of all that waited are to be given back,
-- and then that of the old object
abbrev pub closing_of : Realloced → ℕ → Space → Closing
closing_of (Moved old object pointer) n s = GivesBack (waiting_blocks s ++ block_left (fact s.objects old) n)
closing_of (HeaderDamaged object kept found) n s = Keeps
closing_of NoShadow n s = Keeps
closing_of NoFrames n s = Keeps

abbrev pub realloced : ℕ → Draft → Realloced → Draft → Outcome
realloced n before result after = record { answer = answer_of result; draft = after; closing = closing_of result n before.space }

-- a damaged header is that of the object at the pointer
abbrev pub IsDamagedAt : List ObjectFact → ℕ → Realloced → Type 0
IsDamagedAt objects pointer (Moved old object user) = Unit {0}
IsDamagedAt objects pointer (HeaderDamaged object kept found) = number_at objects pointer ≡ Some object
IsDamagedAt objects pointer NoShadow = Unit {0}
IsDamagedAt objects pointer NoFrames = Unit {0}
