-- How a machine begins with an image, and why it doesn't.
use Rattle.std.specs.Prelude.{ℕ, ◌≡◌, ◌<◌, ◌≤◌, Some, None, Ok, List}
use Rattle.osc_word.specs.declared.settings.Config.{Config}
use Rattle.osc_word.specs.declared.orders.Start.{Start}
use Rattle.osc_word.specs.AddressMap.{stack_end}
use Rattle.osc_word.specs.Limits.{first_fault}
use Rattle.osc_word.specs.Registers.{with_register}
use Rattle.osc_image.specs.Image.{Image}
use Rattle.osc_image.specs.Frames.{needed_frames}
use Rattle.osc_image.specs.Form.{image_of}
use Rattle.osc_calls.specs.ProcessPlans.{no_registers, thread_start}
use Rattle.osc_machine.specs.Start.{start_of}
use Rattle.osc_core.specs.declared.boot.Booted.{Booted}
use Rattle.osc_core.specs.declared.boot.BootFault.{BootFault}
use Rattle.osc_core.specs.declared.boot.BootFault.TheVariants as fault
use Rattle.osc_core.specs.Shared.{state_of}

-- the image is that of a file that is taken
pub record IsOfFile (image : Image) : Type 0 where
  pub file : List ℕ
  pub taken : image_of file ≡ Ok image

-- the first thread, in a process whose topmost table is in this frame
abbrev pub start_at : Config → ℕ → ℕ → Start
start_at config root entry = thread_start config 0 root (with_register no_registers 2 stack_end) entry

-- the configuration has no fault, the image fits, and the machine with its harts is at its start
pub record Begins (image : Image) (config : Config) (booted : Booted) : Type 0 where
  pub valid : first_fault config ≡ None
  pub enough : needed_frames config.levels image ≤ config.frames
  pub starts : state_of booted.machine booted.harts.items ≡ start_of image config

-- the configuration has this fault, or else the frames are too few, or memory was short
abbrev pub Refuses : Image → Config → BootFault → Type 0
Refuses image config (fault.Config first) = first_fault config ≡ Some first
Refuses image config (fault.NoRoom needed frames) =
    (first_fault config ≡ None) × (needed ≡ needed_frames config.levels image) × (frames ≡ config.frames) × (config.frames < needed)
Refuses image config fault.Memory = Unit {0}
