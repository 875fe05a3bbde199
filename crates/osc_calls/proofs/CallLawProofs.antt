-- The laws of calls that end at once, by cases on what begin answers.
use Rattle.std.proofs.Common.{ℕ, ◌≡◌, true, Option, Some, None, List, [], slice_get, refl}
use Rattle.osc_word.specs.declared.calls.Request.{Request}
use Rattle.osc_word.specs.declared.calls.Request.TheVariants as request
use Rattle.osc_word.specs.declared.calls.Resume.TheVariants as resume
use Rattle.osc_calls.specs.declared.Begun.{Begun}
use Rattle.osc_calls.specs.declared.Begun.TheVariants as begun
use Rattle.osc_calls.specs.declared.HartRecord.TheVariants.{Stopped}
use Rattle.osc_calls.specs.Kernel.{KernelState, Calling, process_at}
use Rattle.osc_calls.specs.Requests.{calling_of}
use Rattle.osc_calls.specs.Begin.{Began, begin, begin_as, begin_call, begun_in}
use Rattle.osc_calls.specs.Finish.{finish}
use Rattle.osc_calls.specs.CallLaws.{IsGone, StoppedAreGone, is_retry, RetriesKeep, nothing_done}

-- ---- a stopped hart
gone : (hart pc pid : ℕ) (regs : List ℕ) (r : Request) (kernel : KernelState) → slice_get kernel.records hart ≡ Some (Stopped pid) → IsGone hart pc regs r kernel
unfolding begin finish
gone hart pc pid regs (request.Call call) kernel e = record { begun = rw e refl; shows = rw e refl; finished = rw (e, e) refl }
gone hart pc pid regs request.Idle kernel e = record { begun = refl; shows = refl; finished = rw e refl }

pub stopped_are_gone : StoppedAreGone
stopped_are_gone hart pc pid regs r kernel e = gone hart pc pid regs r kernel e

-- ---- a hart that asks again
record Again (b : Began) (kernel : KernelState) : Type 0 where
  pub shows : b.shows ≡ []
  pub finished : finish b.kernel ≡ nothing_done resume.Again kernel

again-as : (b : Begun) (c : Calling) (kernel : KernelState) → is_retry (begin_as b c kernel).begun ≡ true → Again (begin_as b c kernel) kernel
unfolding finish
again-as begun.Again c kernel e = record { shows = refl; finished = refl }
again-as begun.JournalFull c kernel e = record { shows = refl; finished = refl }
again-as begun.Planned c kernel e = cc
again-as begun.Boxes c kernel e = cc
again-as (begun.Header first second) c kernel e = cc
again-as begun.Gone c kernel e = cc

again-call : (hart : ℕ) (c : Option Calling) (kernel : KernelState) → is_retry (begin_call hart c kernel).begun ≡ true → Again (begin_call hart c kernel) kernel
again-call hart None kernel e = cc
again-call hart (Some c) kernel e = again-as (begun_in (process_at kernel c.pid) c kernel) c kernel e

pub retries_keep : RetriesKeep
unfolding begin
retries_keep hart pc regs r kernel e =
    let a : Again (begin hart regs pc r kernel) kernel = again-call hart (calling_of hart regs pc r (slice_get kernel.records hart)) kernel e in
    record { shows = a.shows; finished = a.finished }
