-- A machine begins sound.
use Rattle.std.proofs.Common.{ℕ, zero, suc, ◌≡◌, ◌<◌, ◌≤◌, true, Some, None, IfSome, length, map, replicate, arith, refl, ap, subst}
use Rattle.std.specs.List.{range_with_len}
use Rattle.std.proofs.lemmas.List.{length-replicate}
use Rattle.std.proofs.lemmas.List.FromFn.{length-map-range_with_len}
use Rattle.osc_word.specs.declared.settings.Config.{Config}
use Rattle.osc_word.specs.declared.orders.Start.{Start}
use Rattle.osc_paging.specs.Boxes.{new_box}
use Rattle.osc_image.specs.Image.{Image}
use Rattle.osc_guest.specs.Fits.{last_version}
use Rattle.osc_guest.specs.Ranges.{StartIn, BoxIn}
use Rattle.osc_guest.proofs.Ranges.{begins_in}
use Rattle.osc_hart.specs.Within.{NewFits}
use Rattle.osc_calls.specs.Kernel.{KernelState, Quiet, process_at}
use Rattle.osc_calls.specs.Open.{open_kernel, open_words, open_start}
use Rattle.osc_settled.specs.KernelFits.{KernelFits}
use Rattle.osc_settled.specs.Records.{is_living}
use Rattle.osc_settled.proofs.ImageStart.{images_start}
use Rattle.osc_machine.specs.Parts.{Gate}
use Rattle.osc_machine.specs.Start.{open_gate, first_hart, started, start_of}
use Rattle.osc_core.specs.Sound.{KernelSound, HartSound, SoundIn, Sound, StartsSound}
use Rattle.osc_core.proofs.Lists.{all_map, all_replicate}
use Rattle.osc_core.proofs.Serving.{root_in_range}

opens_config : (image : Image) (config : Config) → (open_kernel image config).config ≡ config
unfolding open_kernel
opens_config image config = refl

opens_quiet : (image : Image) (config : Config) → (open_kernel image config).under_way ≡ Quiet
unfolding open_kernel
opens_quiet image config = refl

opens_living : (image : Image) (config : Config) → is_living (process_at (open_kernel image config) 0) ≡ true
unfolding open_kernel
opens_living image config = refl

opens_sound : (image : Image) (config : Config) (k : KernelState) → k.config ≡ config → KernelFits (open_words image k) k → KernelSound config.frames config.harts k
opens_sound image config k same fits = record {
  frames_in = ap (λ (c : Config). c.frames) same;
  harts_in = ap (λ (c : Config). c.harts) same;
  words = open_words image k;
  fits = fits;
}

start_in : (image : Image) (config : Config) (k : KernelState) → k.config ≡ config → KernelFits (open_words image k) k → is_living (process_at k 0) ≡ true → StartIn config.frames (open_start image k)
start_in image config k same fits lives =
    let frames = ap (λ (c : Config). c.frames) same in
    (frames, subst (λ n. (open_start image k).root < n) frames (root_in_range (open_words image k) k 0 fits lives))

hart_sound : (config : Config) (start : Start) (number : ℕ) → StartIn config.frames start → HartSound config.frames config.harts (first_hart config start number)
hart_sound config start zero s = record {
  count = refl;
  box_held = refl;
  range = (begins_in config.frames start s).1;
  version = tt;
  kernel_held = refl;
  kernel = tt;
  boxes = all_replicate (λ o. IfSome o (BoxIn config.frames)) config.harts None tt;
  place = tt;
}
hart_sound config start (suc number) s = record {
  count = refl;
  box_held = refl;
  range = (begins_in config.frames start s).0;
  version = tt;
  kernel_held = refl;
  kernel = tt;
  boxes = all_replicate (λ o. IfSome o (BoxIn config.frames)) config.harts None tt;
  place = tt;
}

started_in : NewFits → (image : Image) (config : Config) (k : KernelState) → k.config ≡ config → k.under_way ≡ Quiet → is_living (process_at k 0) ≡ true
    → KernelFits (open_words image k) k → SoundIn config.frames config.harts (started image config k)
started_in new image config k same quiet lives fits =
    let start = start_in image config k same fits lives in record {
      home = (opens_sound image config k same fits, quiet);
      gates = all_replicate (λ (g : Gate). g.version ≤ last_version) config.frames open_gate (let z : 0 ≤ last_version = omega arith in z);
      boxes = all_replicate (λ o. IfSome o (BoxIn config.frames)) config.harts (Some new_box) (new config.frames);
      each = all_map (HartSound config.frames config.harts) (first_hart config (open_start image k)) (range_with_len 0 config.harts) (λ number. hart_sound config (open_start image k) number start);
    }

started_sound : NewFits → (image : Image) (config : Config) (k : KernelState) → k.config ≡ config → k.under_way ≡ Quiet → is_living (process_at k 0) ≡ true
    → KernelFits (open_words image k) k → Sound (started image config k)
started_sound new image config k same quiet lives fits =
    let gates : length (replicate config.frames open_gate) ≡ config.frames = length-replicate config.frames open_gate in
    let harts : length (map (first_hart config (open_start image k)) (range_with_len 0 config.harts)) ≡ config.harts =
    length-map-range_with_len (first_hart config (open_start image k)) 0 config.harts in
    rw (gates, harts) (started_in new image config k same quiet lives fits)

pub starts_sound : NewFits → StartsSound
unfolding start_of
starts_sound new file image config valid taken fits =
    started_sound new image config (open_kernel image config) (opens_config image config) (opens_quiet image config) (opens_living image config)
    (images_start file image config valid taken fits)
