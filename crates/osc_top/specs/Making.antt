-- What is due in the modes that run no machine, and for each task and its file. This project's own.
use Rattle.std.specs.Prelude.{◌≡◌, ℕ, nat_lt, if◌then◌else◌, List, [], Result, Ok, Err}
use Rattle.osc_image.specs.declared.ImageFault.{ImageFault}
use Rattle.osc_image.specs.Image.{Image, page_count}
use Rattle.osc_image.specs.Form.{image_of}
use Rattle.osc_assemble.specs.declared.TextFault.{TextFault}
use Rattle.osc_assemble.specs.Answer.{Means}
use Rattle.osc_listing.specs.Listing.{listing}
use Rattle.osc_cli.specs.declared.task.Task.{Task}
use Rattle.osc_cli.specs.declared.task.Mode.{Mode}
use Rattle.osc_cli.specs.declared.task.Mode.TheVariants.{Run, Seed, Object, Gen, Asm, Disasm}
use Rattle.osc_top.specs.declared.outcome.Outcome.TheVariants.{BadImage, BadText, NoRoom, Done}
use Rattle.osc_top.specs.Due.{Due, due_of, refused}

-- the work was done, and this is the output
abbrev pub done : List ℕ → Due
done output = record { outcome = Done; output = output; text = [] }

-- ---- a text

abbrev pub file_due : Result (List ℕ) TextFault → Due
file_due (Ok file) = done file
file_due (Err fault) = refused (BadText fault)

-- due is the file that the text means, or the line of its first fault
abbrev pub IsAssembled : List ℕ → Due → Type 0
IsAssembled text due = (answer : Result (List ℕ) TextFault) × Means text answer × (due ≡ file_due answer)

-- ---- an image

-- an image is listed if its pages fit the frames
abbrev pub listing_due : Task → Result Image ImageFault → Due
listing_due task (Err fault) = refused (BadImage fault)
listing_due task (Ok image) =
    if nat_lt task.config.frames (page_count image)
    then refused (NoRoom (page_count image) task.config.frames)
    else done (listing image)

unfoldable pub listed_due : Task → List ℕ → Due
listed_due task file = listing_due task (image_of file)

-- ---- a task and its file

abbrev pub IsDueIn : Mode → Task → List ℕ → Due → Type 0
IsDueIn Run task file due = due ≡ due_of task file
IsDueIn Seed task file due = due ≡ due_of task file
IsDueIn Object task file due = due ≡ due_of task file
IsDueIn Gen task file due = due ≡ due_of task file
IsDueIn Asm task file due = IsAssembled file due
IsDueIn Disasm task file due = due ≡ listed_due task file

-- what is due for a task and its file, by the mode
abbrev pub IsDue : Task → List ℕ → Due → Type 0
IsDue task file due = IsDueIn task.mode task file due
