-- The machine before its first step: process 0 has the image and its stack, hart 0 runs at the entry, and
-- every other hart is idle. This project's own.
use Rattle.std.specs.Prelude.{ℕ, zero, suc, false, Some, None, map, replicate}
use Rattle.std.specs.List.{range_with_len}
use Rattle.osc_word.specs.declared.settings.Config.{Config}
use Rattle.osc_word.specs.declared.orders.Start.{Start}
use Rattle.osc_paging.specs.Boxes.{new_box}
use Rattle.osc_image.specs.Image.{Image}
use Rattle.osc_guest.specs.User.{UserHart, user_idle, user_begin}
use Rattle.osc_calls.specs.Kernel.{KernelState}
use Rattle.osc_calls.specs.Open.{open_kernel, open_words, open_start}
use Rattle.osc_machine.specs.Parts.{Gate, Outside, HartState, State}

abbrev pub open_gate : Gate
open_gate = record { version = 0; taken = false }

-- the guest part of a hart: the first one runs
abbrev pub first_user : Start → ℕ → UserHart
first_user start zero = user_begin start
first_user start (suc number) = user_idle

abbrev pub first_hart : Config → Start → ℕ → HartState
first_hart config start number = record {
  number = number;
  count = config.harts;
  user = first_user start number;
  place = Outside;
  kernel = None;
  boxes = replicate config.harts None;
  calls = 0;
  clears = 0;
}

abbrev pub started : Image → Config → KernelState → State
started image config kernel = record {
  words = open_words image kernel;
  gates = replicate config.frames open_gate;
  kernel = Some kernel;
  boxes = replicate config.harts (Some new_box);
  harts = map (first_hart config (open_start image kernel)) (range_with_len 0 config.harts);
}

-- the image fits the frames
unfoldable pub start_of : Image → Config → State
start_of image config = started image config (open_kernel image config)
