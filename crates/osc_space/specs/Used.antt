-- The frames that a process uses, by what was ever mapped: its tables, less the leaf tables that were
-- given up, the pages of its image and of its stack, and those that hold blocks. This project's own.
use Rattle.std.specs.Prelude.{ℕ, ◌+◌, ◌-◌, List}
use Rattle.osc_word.specs.AddressMap.{stack_size}
use Rattle.osc_image.specs.Frames.{table_count}
use Rattle.osc_slot.specs.declared.Block.{Block}
use Rattle.osc_slot.specs.Slots.{block_frames}

-- the tables of a process of so many levels
abbrev pub tables_used : ℕ → List ℕ → ℕ → ℕ
tables_used levels ever given_up = table_count levels ever - given_up

-- the pages ever mapped, how many leaf tables were given up, how many pages the image has, and how
-- many frames the machine has, with the held blocks
unfoldable pub frames_used : ℕ → List ℕ → ℕ → ℕ → ℕ → List Block → ℕ
frames_used levels ever given_up image_pages frames held =
    tables_used levels ever given_up + image_pages + stack_size + block_frames frames held
