-- The state of the machine: what all harts share, and what each hart has to itself. What a hart has taken
-- is in that hart's own part, and None stands in its place. This project's own.
use Rattle.std.specs.Prelude.{ℕ, Bool, List, Option}
use Rattle.osc_word.specs.declared.calls.Resume.{Resume}
use Rattle.osc_word.specs.declared.job_list.WordAt.{WordAt}
use Rattle.osc_word.specs.declared.steps.Label.{Label}
use Rattle.osc_paging.specs.Boxes.{BoxState}
use Rattle.osc_guest.specs.User.{UserHart}
use Rattle.osc_calls.specs.Kernel.{KernelState}
use Rattle.osc_calls.specs.Moves.{Move}

-- a frame's gate: how many stores were done in the frame, and whether a hart has it
pub record Gate : Type 0 where
  pub version : ℕ
  pub taken : Bool

-- what a hart hears when it gives the kernel back, what the step shows, and whether it found the journal
-- full
pub record Return : Type 0 where
  pub resume : Resume
  pub shows : List Label
  pub full : Bool

-- how far a hart is in a call: not in one; it takes the boxes from one on; it loads the first header
-- word, then the second, with the first in hand; it does the moves that are left of the current job, of
-- which the first may have read its word; it gives the boxes that it holds from one on; it gives the
-- kernel
pub data CallPlace : Type 0 where
  Outside : CallPlace
  TakingBoxes : ℕ → CallPlace
  FirstWord : WordAt → WordAt → CallPlace
  SecondWord : ℕ → WordAt → CallPlace
  Working : List Move → Option ℕ → CallPlace
  GivingBoxes : ℕ → CallPlace
  Returning : Return → CallPlace

-- a hart: its number, how many harts there are, what it does as a guest, and how far it is in a call
-- with the kernel and the boxes that it holds for it; the calls that it committed, and the caches that it
-- emptied
pub record HartState : Type 0 where
  pub number : ℕ
  pub count : ℕ
  pub user : UserHart
  pub place : CallPlace
  pub kernel : Option KernelState
  pub boxes : List (Option BoxState)
  pub calls : ℕ
  pub clears : ℕ

-- the words of memory, frame by frame, 512 of each; for each frame its gate; the kernel; for each hart
-- its box; and the harts
pub record State : Type 0 where
  pub words : List ℕ
  pub gates : List Gate
  pub kernel : Option KernelState
  pub boxes : List (Option BoxState)
  pub harts : List HartState
