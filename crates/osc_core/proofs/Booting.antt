-- A machine is at its start where each of its parts is.
use Rattle.std.proofs.Common.{ℕ, zero, suc, ◌≡◌, Option, Some, List, [], ◌∷◌, map, replicate, refl, ap, sym, ◌∙◌, subst}
use Rattle.std.specs.List.{range_with_len}
use Rattle.osc_word.specs.declared.settings.Config.{Config}
use Rattle.osc_paging.specs.Boxes.{BoxState, new_box}
use Rattle.osc_image.specs.Image.{Image}
use Rattle.osc_calls.specs.Kernel.{KernelState, process_at, root}
use Rattle.osc_calls.specs.Open.{image_pages, open_kernel, open_words, open_start, opening}
use Rattle.osc_machine.specs.Parts.{HartState, State}
use Rattle.osc_machine.specs.Start.{open_gate, first_hart, start_of}
use Rattle.std.specs.Prelude.{◌<◌, ◌≤◌, None, true, unwrap_or}
use Rattle.osc_word.specs.Limits.{first_fault}
use Rattle.osc_image.specs.Frames.{needed_frames}
use Rattle.osc_kernel.specs.Seen as seen
use Rattle.osc_settled.specs.Records.{is_living}
use Rattle.osc_settled.proofs.ImageStart.{images_start}
use Rattle.osc_core.proofs.Serving.{root_in_range}
use Rattle.osc_core.specs.Boot.{IsOfFile, start_at}
use Rattle.osc_core.specs.Shared.{gate_of}

gates_open : (n : ℕ) → map gate_of (replicate n 0) ≡ replicate n open_gate
gates_open zero = refl
gates_open (suc n) = ap (λ gs. open_gate ∷ gs) (gates_open n)

kernel_config : (image : Image) (config : Config) → (open_kernel image config).config ≡ config
unfolding open_kernel
kernel_config image config = refl

pub starts : (image : Image) (config : Config) (k : KernelState) (words gates : List ℕ) (boxes : List (Option BoxState)) (harts : List HartState) (at : ℕ)
    → k ≡ open_kernel image config → words ≡ open_words image (open_kernel image config) → gates ≡ replicate config.frames 0
    → boxes ≡ replicate config.harts (Some new_box) → at ≡ root k 0
    → harts ≡ map (first_hart config (start_at config at image.entry)) (range_with_len 0 config.harts)
    → ◌≡◌ {A = State} (record { words = words; gates = map gate_of gates; kernel = Some k; boxes = boxes; harts = harts }) (start_of image config)
unfolding start_of
starts image config k words gates boxes harts at e w g b r h =
    let start : start_at config at image.entry ≡ open_start image (open_kernel image config) =
    ap (λ n. start_at config n image.entry) (r ∙ ap (λ (x : KernelState). root x 0) e)
    ∙ sym (ap (λ c. start_at c (root (open_kernel image config) 0) image.entry) (kernel_config image config)) in
    rw (w, g, gates_open config.frames, e, b, h, start) refl

pub opened_is : (image : Image) (config : Config) → record (opening (image_pages image) config) { jobs = [] } ≡ open_kernel image config
unfolding open_kernel
opened_is image config = refl

-- ---- the first thread's topmost table
opens_living : (image : Image) (config : Config) → is_living (process_at (open_kernel image config) 0) ≡ true
unfolding open_kernel
opens_living image config = refl

root_told : (image : Image) (config : Config) → unwrap_or (seen.root_in (process_at (open_kernel image config) 0)) 0 ≡ root (open_kernel image config) 0
unfolding open_kernel
root_told image config = refl

pub root_is : (image : Image) (config : Config) (k : KernelState) → k ≡ open_kernel image config → unwrap_or (seen.root_in (process_at k 0)) 0 ≡ root k 0
root_is image config k e = subst (λ (x : KernelState). unwrap_or (seen.root_in (process_at x 0)) 0 ≡ root x 0) (sym e) (root_told image config)

pub root_below : (image : Image) (config : Config) (k : KernelState) → IsOfFile image → first_fault config ≡ None → needed_frames config.levels image ≤ config.frames → k ≡ open_kernel image config → root k 0 < config.frames
root_below image config k file valid enough e =
    subst (λ (x : KernelState). root x 0 < config.frames) (sym e)
    (subst (λ c. root (open_kernel image config) 0 < c.frames) (kernel_config image config)
    (root_in_range (open_words image (open_kernel image config)) (open_kernel image config) 0 (images_start file.file image config valid file.taken enough) (opens_living image config)))
