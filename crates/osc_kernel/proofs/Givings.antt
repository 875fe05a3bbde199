-- What returns and ends make of the kernel.
use Rattle.std.proofs.Common.{ℕ, ◌≡◌, Bool, Some, List, drop, slice_get, slice_set, ap, sym, ◌∙◌, subst}
use Rattle.std.specs.Vec.{with_item}
use Rattle.osc_space.specs.Finish.{ended, finished}
use Rattle.osc_calls.specs.Kernel.{Process, process_at}
use Rattle.osc_calls.specs.Finish.{with_ended}
use Rattle.osc_calls.specs.Planned.{with_draft}
use Rattle.osc_calls.specs.Refusals.{draft_of}
use Rattle.osc_process.specs.Parts.{draft_at, with_space}
use Rattle.osc_process.specs.Returns.{over}
use Rattle.osc_settled.proofs.Lists.{some_same}
use Rattle.osc_kernel.specs.declared.state.State.{State}
use Rattle.osc_kernel.specs.Inside.{kernel_of}

pub given_back : (s : State) (pid : ℕ) (x p q : Process) (frames : List Bool) → slice_get s.processes.items pid ≡ Some x → process_at (kernel_of s) pid ≡ Some p
    → q ≡ with_space q.space x → draft_at q frames (drop s.done s.jobs.pushed) ≡ finished s.closing (draft_at x s.frames (drop s.done s.jobs.pushed))
    → kernel_of (record s { frames = frames; processes = with_item s.processes pid q }) ≡ with_draft pid p (finished s.closing (draft_of (kernel_of s) p)) (kernel_of s)
given_back s pid x p q frames there at rest is =
    subst (λ y. kernel_of (record s { frames = frames; processes = with_item s.processes pid q }) ≡ with_draft pid y (finished s.closing (draft_of (kernel_of s) y)) (kernel_of s)) (some_same x p (sym there ∙ at))
    (subst (λ d. kernel_of (record s { frames = frames; processes = with_item s.processes pid q }) ≡ with_draft pid x d (kernel_of s)) is
    (ap (λ y. record (kernel_of s) { free = frames; processes = slice_set s.processes.items pid y }) rest))

pub ended_kernel : (s : State) (pid status : ℕ) (x p q : Process) (frames : List Bool) (regions : List ℕ) (unended : ℕ) → slice_get s.processes.items pid ≡ Some x → process_at (kernel_of s) pid ≡ Some p
    → q ≡ over status (ended s.regions x.space s.frames).space x → regions ≡ (ended s.regions x.space s.frames).regions → frames ≡ (ended s.regions x.space s.frames).free
    → kernel_of (record s { frames = frames; regions = regions; processes = with_item s.processes pid q; unended = unended }) ≡ with_ended pid status p (ended s.regions p.space s.frames) (kernel_of s)
ended_kernel s pid status x p q frames regions unended there at is r f =
    subst (λ y. kernel_of (record s { frames = frames; regions = regions; processes = with_item s.processes pid q; unended = unended }) ≡ with_ended pid status y (ended s.regions y.space s.frames) (kernel_of s)) (some_same x p (sym there ∙ at))
    (ap (λ y. record (kernel_of s) { free = frames; regions = regions; processes = slice_set s.processes.items pid y }) is
    ∙ ap (λ y. record (kernel_of s) { free = frames; regions = y; processes = slice_set s.processes.items pid (over status (ended s.regions x.space s.frames).space x) }) r
    ∙ ap (λ y. record (kernel_of s) { free = y; regions = (ended s.regions x.space s.frames).regions; processes = slice_set s.processes.items pid (over status (ended s.regions x.space s.frames).space x) }) f)
