-- The memory and the harts at the boot, as the code makes them.
use Rattle.std.specs.Prelude.{ℕ, ◌-◌, List, ◌∷◌, map, replicate}
use Rattle.osc_image.specs.Image.{Image, pages, pages_below}
use Rattle.osc_world.specs.declared.Value.{Value}
use Rattle.osc_world.specs.declared.Value.TheVariants.{Num}
use Rattle.osc_world.specs.States.{Hart, boot_hart, idle}
use Rattle.osc_world.specs.World.{Page}
use Rattle.osc_world.specs.Run.{page_of_image}

-- the pages of an image below one
abbrev pub pages_up_to : Image → ℕ → List Page
pages_up_to image limit = map (page_of_image image) (pages_below image limit)

abbrev pub image_pages : Image → List Page
image_pages image = map (page_of_image image) (pages image)

-- hart 0 at the entry, and all others
abbrev pub first_harts : ℕ → ℕ → List (Hart Value)
first_harts entry harts = boot_hart Num entry ∷ replicate (harts - 1) idle
