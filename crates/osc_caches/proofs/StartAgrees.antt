-- The machine before its first step.
use Rattle.std.proofs.Common.{ℕ, ◌≡◌, Some, slice_get, arith, subst}
use Rattle.osc_word.specs.declared.orders.Start.{Start}
use Rattle.osc_word.specs.declared.settings.Config.{Config}
use Rattle.osc_paging.specs.JobWords.{words_after}
use Rattle.osc_image.specs.Image.{Image}
use Rattle.osc_calls.specs.Kernel.{KernelState}
use Rattle.osc_calls.specs.JobDone.{entries}
use Rattle.osc_calls.specs.Open.{open_kernel, open_words, open_start}
use Rattle.osc_settled.proofs.ImageStart.{images_start}
use Rattle.osc_machine.specs.Parts.{HartState}
use Rattle.osc_machine.specs.Start.{first_hart, started, start_of}
use Rattle.osc_safe.proofs.HoldingRuns.{each-first}
use Rattle.osc_caches.specs.Words.{AllAgree}
use Rattle.osc_caches.specs.StartAgrees.{WordsStand, StartsStand}
use Rattle.osc_caches.proofs.Refits.{all-agree}

-- no hart has a kernel yet
abbrev HasNone : ℕ → HartState → Type 0
HasNone n h = (k : KernelState) → h.kernel ≡ Some k → ⊥

first-none : (config : Config) (start : Start) (n : ℕ) → HasNone n (first_hart config start n)
first-none config start n k e = let b : ⊥ = grind (arith, e) in b

none-has : (image : Image) (config : Config) (kernel : KernelState) (n : ℕ) (h : HartState) → slice_get (started image config kernel).harts n ≡ Some h → (k : KernelState) → h.kernel ≡ Some k → ⊥
none-has image config kernel n h e = each-first HasNone config (open_start image kernel) (first-none config (open_start image kernel)) 0 config.harts n h e

started-agree : (image : Image) (config : Config) (kernel : KernelState) → AllAgree kernel (words_after (entries kernel) kernel.jobs (open_words image kernel)) → WordsStand (started image config kernel)
started-agree image config kernel a = record {
  agree = record {
    home = λ k e. (let same : kernel ≡ k = grind (arith, e) in subst (λ z. AllAgree z (words_after (entries z) z.jobs (open_words image kernel))) same a);
    hand = λ n h k e f. absurd (none-has image config kernel n h e k f);
  };
  show = λ n h e k done f. absurd (none-has image config kernel n h e k f);
}

pub starts_stand : StartsStand
unfolding start_of
starts_stand file image config fit is_image room = started-agree image config (open_kernel image config) (all-agree (open_words image (open_kernel image config)) (open_kernel image config) (images_start file image config fit is_image room))
