-- A hart as its owner sees it, and its answers as the definitions know them.
use Rattle.std.specs.Prelude.{Option}
use Rattle.osc_guest.specs.declared.accesses.Touch.{Touch}
use Rattle.osc_guest.specs.User.{UserHart}

-- the hart, and the access that its last answer showed
pub record SeenHart : Type 0 where
  pub hart : UserHart
  pub touch : Option Touch
