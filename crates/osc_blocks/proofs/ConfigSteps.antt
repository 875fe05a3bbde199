-- No step of the kernel changes its configuration.
use Rattle.std.proofs.Common.{ℕ, ◌≡◌, Bool, true, false, Option, Some, None, List, slice_get, refl, ap, ◌∙◌}
use Rattle.osc_word.specs.declared.settings.Config.{Config}
use Rattle.osc_word.specs.declared.calls.Answer.{Answer}
use Rattle.osc_word.specs.declared.calls.Call.{Call}
use Rattle.osc_word.specs.declared.calls.Call.TheVariants as calls
use Rattle.osc_word.specs.declared.calls.Request.{Request}
use Rattle.osc_image.specs.Image.{Image}
use Rattle.osc_paging.specs.KeptTables.{KeptTables}
use Rattle.osc_space.specs.Header.{Found}
use Rattle.osc_calls.specs.declared.Begun.{Begun}
use Rattle.osc_calls.specs.declared.Begun.TheVariants as begun
use Rattle.osc_calls.specs.declared.HartRecord.{HartRecord}
use Rattle.osc_calls.specs.Kernel.{KernelState, Process, Calling, Committed, Effect, Nothing, Clears, Starts, Ends, UnderWay, Quiet, Retrying, Leaving, Waiting, Returning, process_at, is_last}
use Rattle.osc_calls.specs.Requests.{calling_of, meant}
use Rattle.osc_calls.specs.Refusals.{refusal_of}
use Rattle.osc_calls.specs.Planned.{Planned, planned_unless}
use Rattle.osc_calls.specs.WritePlan.{write_by, first_unreadable, write_count}
use Rattle.osc_calls.specs.ProcessPlans.{done_by, value_left, fork_done, spawn_done, share_done}
use Rattle.osc_calls.specs.Plan.{plan_meant, plan_by, plan_waiting, plan}
use Rattle.osc_calls.specs.Begin.{no_words, begun_in, begin_as, begin_call, begin}
use Rattle.osc_calls.specs.JobDone.{job_done}
use Rattle.osc_calls.specs.Finish.{hart_left, settled, returned, finish_by, finish}
use Rattle.osc_calls.specs.Open.{open_kernel}
use Rattle.osc_safe.specs.KernelSteps.{Kept, Begins, Plans, EndsJob, Finishes}
use Rattle.osc_blocks.specs.Configs.{StepsKeepConfig, RunsKeepConfig}
use Rattle.osc_blocks.proofs.Runs.{runs-keep}

-- ---- plans
abbrev Same : KernelState → KernelState → Type 0
Same k next = next.config ≡ k.config

unless-same : (r : Option Answer) (k : KernelState) (made : Planned) → made.kernel.config ≡ k.config → (planned_unless r k made).kernel.config ≡ k.config
unless-same None k made e = e
unless-same (Some answer) k made e = refl

write-same : (bad : Option ℕ) (t : KeptTables) (buf count : ℕ) (k : KernelState) → Same k (write_by bad t buf count k).kernel
write-same None t buf count k = refl
write-same (Some address) t buf count k = refl

done-same : (last : Bool) (thread : Option ℕ) (value : ℕ) (k : KernelState) (c : Calling) → Same k (done_by last c (value_left thread value k)).kernel
done-same true None value k c = refl
done-same true (Some number) value k c = refl
done-same false None value k c = refl
done-same false (Some number) value k c = refl

plan-same : (k : KernelState) (c : Calling) (p : Process) (found : Found) (call : Call) → Same k (plan_meant found c p k call).kernel
plan-same k c p found (calls.Write buf len) = write-same (first_unreadable p.space.tables buf (write_count k.output len)) p.space.tables buf (write_count k.output len) k
plan-same k c p found calls.Fork = unless-same (refusal_of calls.Fork p k) k (fork_done c p k) refl
plan-same k c p found (calls.Spawn pc sp arg) = unless-same (refusal_of (calls.Spawn pc sp arg) p k) k (spawn_done c p pc sp arg k) refl
plan-same k c p found (calls.Done value) = done-same (is_last k.records c.pid) c.thread value k c
plan-same k c p found (calls.Share count) = unless-same (refusal_of (calls.Share count) p k) k (share_done c p count k) refl
plan-same k c p found (calls.Exit status) = refl
plan-same k c p found (calls.Malloc size) = refl
plan-same k c p found (calls.Free pointer) = refl
plan-same k c p found (calls.Realloc pointer size) = refl
plan-same k c p found (calls.Join number) = refl
plan-same k c p found (calls.Wait number) = refl
plan-same k c p found (calls.Unknown number) = refl
plan-same k c p found (calls.End fault) = refl

by-same : (found : Found) (c : Calling) (o : Option Process) (k : KernelState) → Same k (plan_by found c o k).kernel
by-same found c None k = refl
by-same found c (Some p) k = plan-same k c p found (meant c.call)

pub planned-same : (found : Found) (k : KernelState) → Same k (plan found k).kernel
unfolding plan
planned-same found k = go k.under_way
  where
    go : (u : UnderWay) → Same k (plan_waiting found u k).kernel
    go (Waiting c) = by-same found c (process_at k c.pid) k
    go Quiet = refl
    go Retrying = refl
    go (Leaving hart) = refl
    go (Returning done) = refl

begun-same : (b : Begun) (c : Calling) (k : KernelState) → Same k (begin_as b c k).kernel
begun-same begun.Planned c k = planned-same no_words (record k { under_way = Waiting c })
begun-same begun.Again c k = refl
begun-same begun.JournalFull c k = refl
begun-same begun.Gone c k = refl
begun-same begun.Boxes c k = refl
begun-same (begun.Header first second) c k = refl

called-same : (hart : ℕ) (o : Option Calling) (k : KernelState) → Same k (begin_call hart o k).kernel
called-same hart None k = refl
called-same hart (Some c) k = begun-same (begun_in (process_at k c.pid) c k) c k

begin-same : (hart pc : ℕ) (regs : List ℕ) (asked : Request) (k : KernelState) → Same k (begin hart regs pc asked k).kernel
unfolding begin
begin-same hart pc regs asked k = called-same hart (calling_of hart regs pc asked (slice_get k.records hart)) k

job-same : (word : ℕ) (k : KernelState) → Same k (job_done word k).kernel
unfolding job_done
job-same word k = refl

settled-same : (done : Committed) (p : Process) (effect : Effect) (k : KernelState) → Same k (settled done p effect k)
settled-same done p (Ends status) k = refl
settled-same done p Nothing k = refl
settled-same done p Clears k = refl
settled-same done p (Starts hart start) k = refl

returned-same : (done : Committed) (o : Option Process) (k : KernelState) → Same k (returned done o k).kernel
returned-same done None k = refl
returned-same done (Some p) k = settled-same done p done.effect k

left-same : (hart : ℕ) (o : Option HartRecord) (k : KernelState) → Same k (hart_left hart o k)
left-same hart None k = refl
left-same hart (Some kept) k = refl

pub finish-same : (k : KernelState) → Same k (finish k).kernel
unfolding finish
finish-same k = go k.under_way
  where
    go : (u : UnderWay) → Same k (finish_by u k).kernel
    go (Returning done) = returned-same done (process_at k done.calling.pid) k
    go (Leaving hart) = left-same hart (slice_get k.records hart) k
    go Quiet = refl
    go Retrying = refl
    go (Waiting c) = refl

abbrev config_of : KernelState → Config
config_of k = k.config

pub steps_keep_config : StepsKeepConfig
steps_keep_config old new shows (Kept e q) = ap config_of e
steps_keep_config old new shows (Begins hart regs pc asked u e f) = ap config_of e ∙ begin-same hart pc regs asked old
steps_keep_config old new shows (Plans found c u e f) = ap config_of e ∙ planned-same found old
steps_keep_config old new shows (EndsJob word job n e f) = ap config_of e ∙ job-same word old
steps_keep_config old new shows (Finishes n e f) = ap config_of e ∙ finish-same old

-- ---- runs
opens-same : (image : Image) (config : Config) → (open_kernel image config).config ≡ config
unfolding open_kernel
opens-same image config = refl

pub runs_keep_config : RunsKeepConfig
runs_keep_config file image config picks k fit is_image room has =
    runs-keep (λ z. z.config ≡ config) (λ words old new shows fits step e. steps_keep_config old new shows step ∙ e)
    file image config picks k fit is_image room (opens-same image config) has
