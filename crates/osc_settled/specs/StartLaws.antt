-- The laws of the start: the kernel with which the machine opens fits, with the words of its image.
use Rattle.std.specs.Prelude.{ℕ, ◌≡◌, ◌<◌, ◌≤◌, true, None, Ok, List, [], ◌∷◌}
use Rattle.osc_word.specs.declared.settings.Config.{Config}
use Rattle.osc_word.specs.Limits.{first_fault}
use Rattle.osc_word.specs.AddressMap.{is_image_or_stack}
use Rattle.osc_slot.specs.Heap.{free_count}
use Rattle.osc_paging.specs.KeptTables.{mapping_at, need}
use Rattle.osc_paging.specs.TableChanges.{Changed, link_all}
use Rattle.osc_paging.specs.Agree.{ReadsAsLeaf}
use Rattle.osc_image.specs.Image.{Image}
use Rattle.osc_image.specs.Frames.{needed_frames}
use Rattle.osc_image.specs.Form.{image_of}
use Rattle.osc_space.specs.LeafFlags.{leaf_of_page}
use Rattle.osc_calls.specs.Open.{OpenPage, image_pages, all_pages, lay, rooted, open_kernel, open_words}
use Rattle.osc_settled.specs.KernelFits.{KernelFits}

-- a page can be laid: it is one of the image or the stack, it is not mapped yet, its leaf reads as what
-- it is made of, and there are free frames for it and for the tables that it lacks
pub record CanLay (p : OpenPage) (c : Changed) : Type 0 where
  pub within : is_image_or_stack p.page ≡ true
  pub new : mapping_at c.tables.pages p.page ≡ None
  pub reads : (frame : ℕ) → frame < 4096 → ReadsAsLeaf (record { frame = frame; bits = leaf_of_page p.bits })
  pub room : need c.tables p.page 1 < free_count c.free

abbrev pub AllCanLay : List OpenPage → Changed → Type 0
AllCanLay [] c = Unit {0}
AllCanLay (p ∷ rest) c = CanLay p c × AllCanLay rest (lay p (link_all c.tables.top p.page c))

-- where each page of an image can be laid, the machine that opens with it fits
abbrev pub StartsFit : Type 0
StartsFit =
    (image : Image) (config : Config)
    → first_fault config ≡ None → AllCanLay (all_pages (image_pages image)) (rooted config)
    → KernelFits (open_words image (open_kernel image config)) (open_kernel image config)

-- the machine that opens with the image of a file fits, where the image needs no more frames than the
-- machine has
abbrev pub ImagesStart : Type 0
ImagesStart =
    (file : List ℕ) (image : Image) (config : Config)
    → first_fault config ≡ None → image_of file ≡ Ok image → needed_frames config.levels image ≤ config.frames
    → KernelFits (open_words image (open_kernel image config)) (open_kernel image config)
