-- What is always true of where a hart stands: accesses under way are such as instructions make, and
-- versions of gates are below the last one.
use Rattle.std.specs.Prelude.{ℕ, ◌%◌, ◌^◌, ◌≡◌, ◌<◌, true}
use Rattle.osc_isa.specs.declared.IntDone.{IntDone}
use Rattle.osc_isa.specs.declared.IntDone.TheVariants as done
use Rattle.osc_isa.specs.Integer.{load_width}
use Rattle.osc_isa.specs.Atomic.{width_of}
use Rattle.osc_guest.specs.declared.accesses.MemoryAccess.{MemoryAccess}
use Rattle.osc_guest.specs.declared.accesses.What.{What}
use Rattle.osc_guest.specs.declared.accesses.What.TheVariants as does
use Rattle.osc_guest.specs.declared.places.Place.{Place}
use Rattle.osc_guest.specs.declared.places.Place.TheVariants as at
use Rattle.osc_guest.specs.declared.places.Stage.{Stage}
use Rattle.osc_guest.specs.declared.places.Stage.TheVariants as stage
use Rattle.osc_guest.specs.AccessLaws.{is_access_width}
use Rattle.osc_guest.specs.Fits.{last_version}

-- so many bytes are those of what is done, and hold what is stored
abbrev pub WhatFits : What → ℕ → Type 0
WhatFits does.Fetch width = width ≡ 4
WhatFits (does.Load kind) width = width ≡ load_width kind
WhatFits (does.Store value) width = value < 256 ^ width
WhatFits (does.Amo op kind operand) width = width ≡ width_of kind
WhatFits (does.Lr kind) width = width ≡ width_of kind
WhatFits (does.Sc value) width = value < 256 ^ width

-- an access that an instruction makes
pub record IsFormed (access : MemoryAccess) : Type 0 where
  pub register : access.rd < 32
  pub width : is_access_width access.width ≡ true
  pub what : WhatFits access.what access.width

-- its bytes lie in one word
abbrev pub IsAccess : MemoryAccess → Type 0
IsAccess access = IsFormed access × (access.address % access.width ≡ 0)

abbrev pub StageFits : Stage → ℕ → Type 0
StageFits stage.Fetch width = width ≡ 4
StageFits stage.Load width = Unit {0}
StageFits (stage.TakeGate only) width = Unit {0}
StageFits (stage.GatedLoad version) width = version < last_version
StageFits (stage.GatedStore version found) width = version < last_version

abbrev pub PlaceFits : Place → Type 0
PlaceFits at.Run = Unit {0}
PlaceFits at.Idle = Unit {0}
PlaceFits (at.Walk access level table) = IsAccess access
PlaceFits (at.Access access frame stage) = IsAccess access × StageFits stage access.width
PlaceFits (at.OpenGate frame version) = Unit {0}
PlaceFits (at.GiveBox follows) = Unit {0}
PlaceFits (at.Call request) = Unit {0}
PlaceFits at.Rest = Unit {0}

-- what an instruction does names a register, and a number that its bytes hold
abbrev pub DoneFits : IntDone → Type 0
DoneFits (done.Set rd value pc) = rd < 32
DoneFits (done.Go pc) = Unit {0}
DoneFits (done.Load rd kind address) = rd < 32
DoneFits (done.Store width address value) = (is_access_width width ≡ true) × (value < 256 ^ width)
DoneFits (done.Atomic address operand) = Unit {0}
DoneFits done.Call = Unit {0}
DoneFits done.Break = Unit {0}
DoneFits (done.BadTarget target) = Unit {0}
