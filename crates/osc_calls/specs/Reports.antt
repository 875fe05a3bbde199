-- The report of a process that ends by a fault. A fault at an address names the object whose shadow
-- pages have that address, not the one that died last. This project's own.
use Rattle.std.specs.Prelude.{ℕ, ℤ, pos, ◌-ℤ◌, ◌/◌, List, Option, Some, None}
use Rattle.osc_word.specs.declared.calls.Fault.{Fault}
use Rattle.osc_word.specs.declared.calls.Fault.TheVariants.{Access}
use Rattle.osc_space.specs.declared.ObjectFact.{ObjectFact}
use Rattle.osc_space.specs.declared.ObjectState.{ObjectState}
use Rattle.osc_space.specs.declared.ObjectState.TheVariants as state
use Rattle.osc_space.specs.Objects.{Seen, object_on}
use Rattle.osc_calls.specs.declared.Place.{Place}
use Rattle.osc_calls.specs.declared.Place.TheVariants.{Dead, Live, Nowhere}
use Rattle.osc_calls.specs.declared.Report.{Report}

-- an address less an object's own address
abbrev pub offset_of : ℕ → ObjectFact → ℤ
offset_of address o = pos address -ℤ pos o.user

abbrev pub object_place : ℕ → ℤ → ObjectState → Place
object_place object offset state.Live = Live object offset
object_place object offset (state.Dead call) = Dead object offset call

abbrev pub seen_place : ℕ → Option Seen → Place
seen_place address None = Nowhere
seen_place address (Some seen) = object_place seen.number (offset_of address seen.fact) seen.fact.state

-- whose address this is
abbrev pub place_at : List ObjectFact → ℕ → Place
place_at objects address = seen_place address (object_on objects (address / 4096))

abbrev pub fault_place : List ObjectFact → Fault → Place
fault_place objects (Access cause address) = place_at objects address
fault_place objects _ = Nowhere

-- the report of this process's end by a fault of a thread on this hart
abbrev pub report_of : ℕ → ℕ → List ObjectFact → Fault → Report
report_of pid hart objects fault = record { pid = pid; hart = hart; fault = fault; place = fault_place objects fault }
