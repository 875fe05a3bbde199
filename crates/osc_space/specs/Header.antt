-- The look at the header of an object whose pointer a guest gives back, and why the object is not
-- taken. This project's own.
use Rattle.std.specs.Prelude.{ℕ, ◌-◌, ◌/◌, ◌%◌, ◌==◌, not, true, Option, Some, None, List, [], ◌∷◌, ◌++◌, if◌then◌else◌}
use Rattle.osc_word.specs.declared.job_list.WordAt.{WordAt}
use Rattle.osc_word.specs.declared.calls.Answer.TheVariants as answer
use Rattle.osc_sv39.specs.declared.entries.Mapping.{Mapping}
use Rattle.osc_class.specs.Rooms.{room_of}
use Rattle.osc_slot.specs.declared.Block.{Block}
use Rattle.osc_paging.specs.KeptTables.{KeptTables, mapping_at}
use Rattle.osc_space.specs.declared.ObjectFact.{ObjectFact}
use Rattle.osc_space.specs.declared.ObjectState.{ObjectState}
use Rattle.osc_space.specs.declared.ObjectState.TheVariants.{Live, Dead}
use Rattle.osc_space.specs.declared.HeaderLook.{HeaderLook}
use Rattle.osc_space.specs.declared.HeaderLook.TheVariants.{Words, Zero, DoubleFree, NotAnObject}
use Rattle.osc_space.specs.Objects.{Seen, object_at}
use Rattle.osc_space.specs.Space.{Space, Reason, reason}

-- the block of an object
abbrev pub block_of : ObjectFact → Block
block_of o = record { start = o.canon - 16; room = room_of o.size }

-- ---- the words of a header
abbrev pub mapped_frame : Option Mapping → ℕ
mapped_frame None = 0
mapped_frame (Some mapping) = mapping.frame

-- the word at an address of a mapped page
abbrev pub mapped_word : KeptTables → ℕ → WordAt
mapped_word tables address =
    record { frame = mapped_frame (mapping_at tables.pages (address / 4096)); index = address % 4096 / 8 }

abbrev pub look_by_state : KeptTables → ℕ → ℕ → ObjectState → HeaderLook
look_by_state tables pointer object Live = Words (mapped_word tables (pointer - 16)) (mapped_word tables (pointer - 8))
look_by_state tables pointer object (Dead call) = DoubleFree object call

abbrev pub look_at : KeptTables → ℕ → Option Seen → HeaderLook
look_at tables pointer None = NotAnObject
look_at tables pointer (Some s) = look_by_state tables pointer s.number s.fact.state

-- what stands at a pointer
unfoldable pub header_in : KeptTables → List ObjectFact → ℕ → HeaderLook
header_in tables objects pointer =
    if pointer == 0 then Zero else look_at tables pointer (object_at objects pointer)

abbrev pub header_at : Space → ℕ → HeaderLook
header_at space pointer = header_in space.tables space.objects pointer

-- ---- refusals
-- the words of a header as they were found
pub record Found : Type 0 where
  pub first : ℕ
  pub second : ℕ

abbrev pub death_reasons : ℕ → ObjectState → List Reason
death_reasons object Live = []
death_reasons object (Dead call) = reason true (answer.DoubleFree object call) ∷ []

-- a word that differs from what was kept
abbrev pub damage_reason : ℕ → ℕ → Reason
damage_reason kept found = reason (not (kept == found)) (answer.HeaderDamaged kept found)

-- why what stands at a pointer is not taken: it is no object, it is dead, or its header is damaged
abbrev pub object_reasons : Option Seen → Found → List Reason
object_reasons None found = reason true answer.NotAnObject ∷ []
object_reasons (Some s) found =
    death_reasons s.number s.fact.state
    ++ damage_reason s.fact.canon found.first ∷ damage_reason s.fact.size found.second ∷ []
