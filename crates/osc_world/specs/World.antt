-- The world of objects: numbered memory and objects of each process. This project's own. A world has no
-- page table, frame, cache, shadow or heap address.
use Rattle.std.specs.Prelude.{ℕ, List, length}
use Rattle.osc_sv39.specs.declared.flags.PteBits.{PteBits}
use Rattle.osc_world.specs.declared.Value.{Value}
use Rattle.osc_world.specs.declared.Byte.{Byte}
use Rattle.osc_world.specs.declared.Place.{Place}
use Rattle.osc_world.specs.declared.ObjectWhy.{ObjectWhy}
use Rattle.osc_world.specs.States.{State, HartTurn}
use Rattle.osc_world.specs.Deeds.{Put, Step, Deed}
use Rattle.osc_world.specs.Offers.{Offer}

-- an object has a size as long as there are pointers to it, and bytes as long as it lives
pub data Object : Type 0 where
  Live : List Byte → Object
  Dead : ℕ → Object

-- a page of image or stack: its address divided by 4096, what it allows, and its 4096 bytes
pub record Page : Type 0 where
  pub number : ℕ
  pub bits : PteBits
  pub bytes : List Byte

pub record Memory : Type 0 where
  pub pages : List Page
  pub objects : List Object

-- a call of the heap that is done
pub data ObjectDeed : Type 0 where
  Makes : ℕ → ObjectDeed  -- a new object of this size
  Kills : ℕ → ObjectDeed  -- this object
  Replaces : ℕ → ℕ → ObjectDeed  -- an object, by a new one of this size

abbrev pub World : Type 0
World = State Value Byte Memory

abbrev pub WorldTurn : Type 0
WorldTurn = HartTurn Value Byte Memory

abbrev pub WorldPut : Type 0
WorldPut = Put Byte Place

abbrev pub WorldStep : Type 0
WorldStep = Step Value Byte Place

abbrev pub WorldDeed : Type 0
WorldDeed = Deed Value Byte Place ObjectDeed

abbrev pub WorldOffer : Type 0
WorldOffer = Offer WorldDeed ObjectWhy

abbrev pub object_size : Object → ℕ
object_size (Live bytes) = length bytes
object_size (Dead size) = size

-- the object after its end
abbrev pub killed : Object → Object
killed object = Dead (object_size object)

-- the permissions R and W
abbrev pub read_write : PteBits
read_write = record { 0 = 6 }
