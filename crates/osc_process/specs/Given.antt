-- What is given back when a call returns, and the objects that are none. This project's own.
use Rattle.std.specs.Prelude.{ℕ, ◌≡◌, Bool, true, false, Option, Some, None, List, [], ◌∷◌, map, if◌then◌else◌}
use Rattle.osc_word.specs.declared.calls.Answer.{Answer}
use Rattle.osc_word.specs.declared.calls.Answer.TheVariants as answers
use Rattle.osc_class.specs.Rooms.{room_of}
use Rattle.osc_slot.specs.declared.Block.{Block}
use Rattle.osc_slot.specs.Slots.{is_room}
use Rattle.osc_space.specs.declared.ObjectFact.{ObjectFact}
use Rattle.osc_space.specs.declared.ObjectState.{ObjectState}
use Rattle.osc_space.specs.declared.ObjectState.TheVariants.{Live, Dead}
use Rattle.osc_space.specs.Objects.{Seen, facts, object_at}
use Rattle.osc_space.specs.Header.{block_of}
use Rattle.osc_space.specs.Space.{Closing, Keeps, GivesBack}
use Rattle.osc_shadow.specs.declared.header.SeenObject.{SeenObject}
use Rattle.osc_shadow.specs.Sight.{seen_of}
use Rattle.osc_realloc.specs.declared.answer.Realloced.{Realloced}
use Rattle.osc_realloc.specs.declared.answer.Realloced.TheVariants.{Moved, HeaderDamaged, NoShadow, NoFrames}

abbrev pub closing_with : Bool → List Block → Closing
closing_with true blocks = GivesBack blocks
closing_with false blocks = Keeps

-- the blocks of these objects
abbrev pub blocks_of : List ObjectFact → List ℕ → List Block
blocks_of objects numbers = map block_of (facts objects numbers)

abbrev pub maybe_one : Option Block → List Block
maybe_one None = []
maybe_one (Some block) = block ∷ []

-- a block that there may be
abbrev pub gives_one : Option Block → Closing
gives_one None = Keeps
gives_one (Some block) = GivesBack (block ∷ [])

-- ---- the object at a pointer
-- there is a live one
pub record IsLiveAt (objects : List ObjectFact) (pointer : ℕ) (o : SeenObject) : Type 0 where
  pub at : object_at objects pointer ≡ Some (seen_of o)
  pub live : o.fact.state ≡ Live

abbrev pub answer_by : ℕ → ObjectState → Option Answer
answer_by object Live = None
answer_by object (Dead call) = Some (answers.DoubleFree object call)

-- what a free or realloc of it answers, where it does not live
abbrev pub gone_answer : Option Seen → Option Answer
gone_answer None = Some answers.NotAnObject
gone_answer (Some s) = answer_by s.number s.fact.state

-- ---- a realloc
-- where the block does not stay it is left
abbrev pub left_of : Block → ℕ → Option Block
left_of block n = if is_room (room_of n) block.room then None else Some block

-- only what was moved gives something back
abbrev pub closing_if_moved : Realloced → Closing → Closing
closing_if_moved (Moved old object pointer) closing = closing
closing_if_moved (HeaderDamaged object kept found) closing = Keeps
closing_if_moved NoShadow closing = Keeps
closing_if_moved NoFrames closing = Keeps
