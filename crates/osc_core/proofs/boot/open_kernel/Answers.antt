-- The kernel opens with the pages of a file's image.
use Rattle.std.proofs.Common.{◌≤◌, ◌∙◌, List, ap, subst}
use Rattle.osc_kernel.specs.Opens.{Refuses}
use Rattle.osc_kernel.specs.declared.opening.KernelFault.TheVariants.{NoRoom}
use Rattle.osc_kernel.specs.Seen.{SeenKernel}
use Rattle.osc_calls.specs.Open.{OpenPage, opening}
use Rattle.osc_open.specs.Laying.{frames_for, pages_of}
use Rattle.osc_core.proofs.Pages.{are_image_pages, frames_needed}
use Rattle.osc_core.proofs.boot.open_kernel.Goals as goal

pub open-requires-clause-pages : goal.open-requires-clause-pages
open-requires-clause-pages c = rw c.requires.pages (are_image_pages c.args.image.now c.requires.image)

pub returns-in-Ok-clause-opened : goal.returns-in-Ok-clause-opened
returns-in-Ok-clause-opened c =
    let o = c.in-Ok.ensures.opened in
    let config = c.args.config.now in (
      subst (λ n. n ≤ config.frames) (ap (frames_for config.levels) c.requires.pages ∙ frames_needed c.args.image.now config.levels) o.0,
      ap (λ (k : SeenKernel). k.kernel) o.1 ∙ ap (λ (ps : List OpenPage). opening ps config) c.requires.pages,
    )

pub returns-in-Err-NoRoom-clause-refused : goal.returns-in-Err-NoRoom-clause-refused
returns-in-Err-NoRoom-clause-refused c =
    let r : Refuses c.args.config.now (pages_of c.args.pages.now) (NoRoom c.in-Err-NoRoom.needed c.in-Err-NoRoom.frames) =
    subst (λ f. Refuses c.args.config.now (pages_of c.args.pages.now) f) c.in-Err-NoRoom.field-0-is c.in-Err-NoRoom.ensures.refused in
    let config = c.args.config.now in
    (c.requires.valid, r.0 ∙ ap (frames_for config.levels) c.requires.pages ∙ frames_needed c.args.image.now config.levels, r.1, r.2)
