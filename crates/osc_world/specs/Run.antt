-- The object run: the fold over events from the boot of an image. This project's own.
use Rattle.std.specs.Prelude.{ℕ, ◌+◌, ◌-◌, ◌*◌, Bool, true, ◌&&◌, List, [], ◌∷◌, ◌++◌, map, replicate, Option, Some, None, unwrap_or}
use Rattle.std.specs.List.{range_with_len}
use Rattle.osc_word.specs.AddressMap.{first_stack_page, stack_size}
use Rattle.osc_word.specs.declared.steps.Event.{Event}
use Rattle.osc_word.specs.declared.settings.Config.{Config}
use Rattle.osc_image.specs.Image.{Image, bits_at, laid_byte, pages}
use Rattle.osc_world.specs.declared.Value.TheVariants.{Num}
use Rattle.osc_world.specs.declared.Byte.TheVariants.{Number}
use Rattle.osc_world.specs.declared.ObjectWhy.{ObjectWhy}
use Rattle.osc_world.specs.declared.ObjectWhy.TheVariants.{Trap}
use Rattle.osc_world.specs.States.{first_state}
use Rattle.osc_world.specs.Offers.{Meaning, Goes, Errs, Unfit}
use Rattle.osc_world.specs.World.{World, Memory, Page, read_write}
use Rattle.osc_world.specs.Events.{meaning, fits}

-- ---- the run

-- the world before the first error, the events that led to it, which is that error's number from 0, and
-- the error
pub record ObjectRun : Type 0 where
  pub world : World
  pub events : ℕ
  pub error : Option ObjectWhy

-- an event that does not fit is a trap
abbrev pub judged_as : World → ℕ → Meaning World ObjectWhy → ObjectRun
judged_as world events (Goes now) = record { world = now; events = events + 1; error = None }
judged_as world events (Errs why) = record { world = world; events = events; error = Some why }
judged_as world events Unfit = record { world = world; events = events; error = Some Trap }

abbrev pub judged_on : World → ℕ → Option ObjectWhy → Event → ObjectRun
judged_on world events None event = judged_as world events (meaning world event)
judged_on world events (Some why) event = record { world = world; events = events; error = Some why }

-- one event more; the first error stays
abbrev pub judged : ObjectRun → Event → ObjectRun
judged run event = judged_on run.world run.events run.error event

unfoldable pub object_run : ObjectRun → List Event → ObjectRun
object_run run [] = run
object_run run (event ∷ events) = object_run (judged run event) events

-- whether each event up to the first error fits, that error's event too
abbrev pub fits_after : Option ObjectWhy → World → Event → Bool
fits_after None world event = fits world event
fits_after (Some why) world event = true

unfoldable pub all_fit : ObjectRun → List Event → Bool
all_fit run [] = true
all_fit run (event ∷ events) = fits_after run.error run.world event && all_fit (judged run event) events

-- ---- the boot

-- a page of the image
abbrev pub page_of_image : Image → ℕ → Page
page_of_image image number =
    record {
      number = number;
      bits = unwrap_or (bits_at image number) (record { 0 = 0 });
      bytes = map (λ address. Number (laid_byte image.segments address)) (range_with_len (4096 * number) 4096);
    }

-- a page of zeros that is read and written
abbrev pub zero_page : ℕ → Page
zero_page number = record { number = number; bits = read_write; bytes = replicate 4096 (Number 0) }

-- the memory of an image that has these pages, ascending, with the main stack
abbrev pub memory_with : Image → List ℕ → Memory
memory_with image numbers =
    record {
      pages = map (page_of_image image) numbers ++ map zero_page (range_with_len first_stack_page stack_size);
      objects = [];
    }

abbrev pub begins : World → ObjectRun
begins world = record { world = world; events = 0; error = None }

-- process 0 has the image's pages and the stack, and runs on hart 0 from the entry on
abbrev pub boot_with : Image → List ℕ → ℕ → World
boot_with image numbers harts = first_state Num (memory_with image numbers) image.entry (harts - 1)

abbrev pub boot : Image → Config → World
boot image config = boot_with image (pages image) config.harts

-- the object run of an image over events
abbrev pub object_run_of : Image → Config → List Event → ObjectRun
object_run_of image config events = object_run (begins (boot image config)) events
