-- How processes can end: each status is a guest's own or that of a fault, and process 0 is never dropped.
use Rattle.std.proofs.Common.{ℕ, zero, suc, ◌≡◌, ◌<◌, ◌%◌, ◌==◌, ◌&&◌, Bool, true, false, Option, Some, None, IfSome, is_some, List, [], ◌∷◌, option_map, slice_get, slice_set, arith, refl, sym, ◌∙◌, subst}
use Rattle.std.proofs.lemmas.Bool.Decides.{nat_tests}
use Rattle.std.specs.List.{list_all}
use Rattle.osc_word.specs.declared.calls.Call.{Call}
use Rattle.osc_word.specs.declared.calls.Call.TheVariants as calls
use Rattle.osc_word.specs.declared.calls.Answer.{Answer}
use Rattle.osc_word.specs.declared.calls.Request.{Request}
use Rattle.osc_word.specs.declared.settings.Config.{Config}
use Rattle.osc_image.specs.Image.{Image}
use Rattle.osc_paging.specs.KeptTables.{KeptTables}
use Rattle.osc_space.specs.declared.ObjectFact.{ObjectFact}
use Rattle.osc_space.specs.Header.{Found}
use Rattle.osc_space.specs.Space.{Space, Closing, Keeps, GivesBack}
use Rattle.osc_calls.specs.declared.Begun.{Begun}
use Rattle.osc_calls.specs.declared.Begun.TheVariants as begun
use Rattle.osc_calls.specs.declared.HartRecord.{HartRecord}
use Rattle.osc_calls.specs.Kernel.{KernelState, Process, Calling, Committed, Effect, Nothing, Clears, Starts, Ends, UnderWay, Quiet, Retrying, Leaving, Waiting, Returning, is_last, process_at, ended}
use Rattle.osc_calls.specs.ObjectLaws.{HasGrown, KeepsObjects}
use Rattle.osc_calls.specs.Open.{all_pages, first_process, image_pages, lay_all, open_kernel, rooted}
use Rattle.osc_calls.specs.Planned.{Planned, closing_effect, planned_unless}
use Rattle.osc_calls.specs.HeapPlans.{malloc_by, free_of, realloc_by, terms_of}
use Rattle.osc_calls.specs.ProcessPlans.{done_by, value_left, fork_done, spawn_done, share_done}
use Rattle.osc_calls.specs.WritePlan.{write_by, write_count, first_unreadable}
use Rattle.osc_calls.specs.Requests.{calling_of, meant}
use Rattle.osc_calls.specs.Refusals.{draft_of, refusal_of}
use Rattle.osc_calls.specs.Plan.{plan, plan_meant, plan_by, plan_waiting}
use Rattle.osc_calls.specs.Begin.{begin, begin_as, begin_call, begun_in, no_words}
use Rattle.osc_calls.specs.JobDone.{job_done}
use Rattle.osc_calls.specs.Finish.{finish, finish_by, settled, returned, hart_left}
use Rattle.osc_machine.specs.Parts.{State}
use Rattle.osc_machine.specs.Step.{step}
use Rattle.osc_machine.specs.Run.{Ran, with_step, run_on, run}
use Rattle.osc_machine.specs.Start.{started, start_of}
use Rattle.osc_machine.specs.Views.{ending_by, kernel_of}
use Rattle.osc_machine.specs.Laws.{HasKernel, Moves, Same, Begins, Plans, EndsJob, Finishes}
use Rattle.osc_machine.proofs.KernelLaws.{kernel_stays, kernel_seen, start_has_kernel}
use Rattle.osc_machine.proofs.GrowthLaws.{grows_from_start}
use Rattle.osc_core.specs.Ends.{IsEnding, EndFits, EndsFit}
use Rattle.osc_core.proofs.Serving.{finish_quiet}
use Rattle.osc_core.proofs.Statuses.{SameStatus, status_at, set_status, begin_same, plan_same, done_keeps_status}

-- ---- statuses
abbrev IsStatus : ℕ → Type 0
IsStatus status = IsEnding (ending_by status)

below : (status : ℕ) → status < 64 → IsStatus status
below status small = let other : (status == 70) ≡ false = grind (arith, nat_tests, small) in rw other small

abbrev StatusesIn : List Process → Type 0
StatusesIn ps = (pid status : ℕ) → status_at ps pid ≡ Some status → IsStatus status

-- a process ends with a status, and one that doesn't keeps its own
ended_set : (ps : List Process) (n : ℕ) (p : Process) (space : Space) (status : ℕ) → StatusesIn ps → IsStatus status → StatusesIn (slice_set ps n (record p { space = space; status = Some status }))
ended_set [] n p space status all good pid other e = all pid other e
ended_set (x ∷ ps) zero p space status all good zero other e = let same : status ≡ other = grind (arith, e) in subst IsStatus same good
ended_set (x ∷ ps) zero p space status all good (suc pid) other e = all (suc pid) other e
ended_set (x ∷ ps) (suc n) p space status all good zero other e = all zero other e
ended_set (x ∷ ps) (suc n) p space status all good (suc pid) other e = ended_set ps n p space status (λ i v f. all (suc i) v f) good pid other e

kept_set : (ps : List Process) (n : ℕ) (p : Process) (space : Space) → slice_get ps n ≡ Some p → StatusesIn ps → StatusesIn (slice_set ps n (record p { space = space }))
kept_set ps n p space here all pid status e = all pid status (sym (set_status ps n p space pid here) ∙ e)

same_statuses : (k next : KernelState) → SameStatus k next → StatusesIn k.processes → StatusesIn next.processes
same_statuses k next same all pid status e = all pid status (sym (same pid) ∙ e)

-- ---- the status with which a call ends its process
abbrev EndsWell : Effect → Type 0
EndsWell (Ends status) = IsStatus status
EndsWell _ = Unit {0}

abbrev IsWell : UnderWay → Type 0
IsWell (Returning done) = EndsWell done.effect
IsWell _ = Unit {0}

closing_well : (closing : Closing) → EndsWell (closing_effect closing)
closing_well Keeps = tt
closing_well (GivesBack blocks) = tt

unless_well : (refusal : Option Answer) (k : KernelState) (made : Planned) → EndsWell made.effect → EndsWell (planned_unless refusal k made).effect
unless_well None k made w = w
unless_well (Some answer) k made w = tt

done_well : (last : Bool) (c : Calling) (k : KernelState) → EndsWell (done_by last c k).effect
done_well true c k = let z : 0 < 64 = omega arith in z
done_well false c k = tt

write_well : (unread : Option ℕ) (tables : KeptTables) (buf count : ℕ) (k : KernelState) → EndsWell (write_by unread tables buf count k).effect
write_well None tables buf count k = tt
write_well (Some address) tables buf count k = tt

meant_well : (found : Found) (c : Calling) (p : Process) (k : KernelState) (call : Call) → EndsWell (plan_meant found c p k call).effect
meant_well found c p k (calls.Exit status) = below (status % 64) (let z : status % 64 < 64 = omega arith in z)
meant_well found c p k (calls.Write buf len) = write_well (first_unreadable p.space.tables buf (write_count k.output len)) p.space.tables buf (write_count k.output len) k
meant_well found c p k (calls.Malloc size) = closing_well (malloc_by k.config.heap size (draft_of k p)).closing
meant_well found c p k (calls.Free pointer) = closing_well (free_of k.config.heap (terms_of k) pointer found (draft_of k p)).closing
meant_well found c p k (calls.Realloc pointer size) = closing_well (realloc_by k.config.heap (terms_of k) pointer size found (draft_of k p)).closing
meant_well found c p k calls.Fork = unless_well (refusal_of calls.Fork p k) k (fork_done c p k) tt
meant_well found c p k (calls.Spawn pc sp arg) = unless_well (refusal_of (calls.Spawn pc sp arg) p k) k (spawn_done c p pc sp arg k) tt
meant_well found c p k (calls.Join number) = tt
meant_well found c p k (calls.Done value) = done_well (is_last k.records c.pid) c (value_left c.thread value k)
meant_well found c p k (calls.Share count) = unless_well (refusal_of (calls.Share count) p k) k (share_done c p count k) tt
meant_well found c p k (calls.Wait number) = tt
meant_well found c p k (calls.Unknown number) = tt
meant_well found c p k (calls.End fault) = tt

by_well : (found : Found) (c : Calling) (p : Option Process) (k : KernelState) → k.under_way ≡ Waiting c → IsWell (plan_by found c p k).kernel.under_way
by_well found c None k e = rw e tt
by_well found c (Some p) k e = meant_well found c p k (meant c.call)

waiting_well : (found : Found) (u : UnderWay) (k : KernelState) → k.under_way ≡ u → IsWell u → IsWell (plan_waiting found u k).kernel.under_way
waiting_well found (Waiting c) k e w = by_well found c (process_at k c.pid) k e
waiting_well found Quiet k e w = rw e w
waiting_well found Retrying k e w = rw e w
waiting_well found (Leaving hart) k e w = rw e w
waiting_well found (Returning done) k e w = rw e w

plan_well : (found : Found) (k : KernelState) → IsWell k.under_way → IsWell (plan found k).kernel.under_way
unfolding plan
plan_well found k w = waiting_well found k.under_way k refl w

as_well : (b : Begun) (c : Calling) (k : KernelState) → IsWell (begin_as b c k).kernel.under_way
as_well begun.Planned c k = plan_well no_words (record k { under_way = Waiting c }) tt
as_well begun.Again c k = tt
as_well begun.JournalFull c k = tt
as_well begun.Gone c k = tt
as_well begun.Boxes c k = tt
as_well (begun.Header first second) c k = tt

call_well : (hart : ℕ) (c : Option Calling) (k : KernelState) → IsWell (begin_call hart c k).kernel.under_way
call_well hart None k = tt
call_well hart (Some c) k = as_well (begun_in (process_at k c.pid) c k) c k

begin_well : (hart : ℕ) (regs : List ℕ) (pc : ℕ) (request : Request) (k : KernelState) → IsWell (begin hart regs pc request k).kernel.under_way
unfolding begin
begin_well hart regs pc request k = call_well hart (calling_of hart regs pc request (slice_get k.records hart)) k

done_stays_well : (word : ℕ) (k : KernelState) → IsWell k.under_way → IsWell (job_done word k).kernel.under_way
unfolding job_done
done_stays_well word k w = w

-- ---- the return
settled_statuses : (done : Committed) (p : Process) (effect : Effect) (k : KernelState) → process_at k done.calling.pid ≡ Some p → StatusesIn k.processes → EndsWell effect
    → StatusesIn (settled done p effect k).processes
settled_statuses done p (Ends status) k here all w = ended_set k.processes done.calling.pid p _ status all w
settled_statuses done p Nothing k here all w = kept_set k.processes done.calling.pid p _ here all
settled_statuses done p Clears k here all w = kept_set k.processes done.calling.pid p _ here all
settled_statuses done p (Starts hart start) k here all w = kept_set k.processes done.calling.pid p _ here all

returned_statuses : (done : Committed) (p : Option Process) (k : KernelState) → process_at k done.calling.pid ≡ p → StatusesIn k.processes → EndsWell done.effect
    → StatusesIn (returned done p k).kernel.processes
returned_statuses done None k here all w = all
returned_statuses done (Some p) k here all w = settled_statuses done p done.effect k here all w

left_statuses : (hart : ℕ) (kept : Option HartRecord) (k : KernelState) → StatusesIn k.processes → StatusesIn (hart_left hart kept k).processes
left_statuses hart None k all = all
left_statuses hart (Some kept) k all = all

finished_by : (u : UnderWay) (k : KernelState) → StatusesIn k.processes → IsWell u → StatusesIn (finish_by u k).kernel.processes
finished_by (Returning done) k all w = returned_statuses done (process_at k done.calling.pid) k refl all w
finished_by (Leaving hart) k all w = left_statuses hart (slice_get k.records hart) k all
finished_by Quiet k all w = all
finished_by Retrying k all w = all
finished_by (Waiting c) k all w = all

finished_statuses : (k : KernelState) → StatusesIn k.processes → IsWell k.under_way → StatusesIn (finish k).kernel.processes
unfolding finish
finished_statuses k all w = finished_by k.under_way k all w

-- ---- each step and each run
record EndsKept (k : KernelState) : Type 0 where
  statuses : StatusesIn k.processes
  under_way : IsWell k.under_way

keeps : (k next : KernelState) → Moves k next → EndsKept k → EndsKept next
keeps k next (Same is) kept = rw is kept
keeps k next (Begins hart regs pc asked is) kept = rw is (record {
  statuses = same_statuses k (begin hart regs pc asked k).kernel (begin_same hart regs pc asked k) kept.statuses;
  under_way = begin_well hart regs pc asked k;
})
keeps k next (Plans found is) kept = rw is (record {
  statuses = same_statuses k (plan found k).kernel (plan_same found k) kept.statuses;
  under_way = plan_well found k kept.under_way;
})
keeps k next (EndsJob word is) kept = rw is (record {
  statuses = same_statuses k (job_done word k).kernel (done_keeps_status word k) kept.statuses;
  under_way = done_stays_well word k kept.under_way;
})
keeps k next (Finishes is) kept = rw is (record {
  statuses = finished_statuses k kept.statuses kept.under_way;
  under_way = rw (finish_quiet k) tt;
})

record Keeping (s : State) : Type 0 where
  kernel : KernelState
  has : HasKernel s kernel
  kept : EndsKept kernel

run_keeps : (picks : List ℕ) (ran : Ran) → Keeping ran.state → Keeping (run_on picks ran).state
unfolding run_on
run_keeps [] ran keeping = keeping
run_keeps (pick ∷ picks) ran keeping =
    let moved = kernel_stays ran.state pick keeping.kernel keeping.has in
    run_keeps picks (with_step ran (step ran.state pick)) (record {
      kernel = moved.next;
      has = moved.has;
      kept = keeps keeping.kernel moved.next moved.moves keeping.kept;
    })

none_ended : (p : Process) → p.status ≡ None → StatusesIn (p ∷ [])
none_ended p none zero status e = absurd (let z : None ≡ Some status = sym none ∙ e in let w : ⊥ = grind (arith, z) in w)
none_ended p none (suc pid) status e = absurd (let w : ⊥ = grind (arith, e) in w)

opens_kept : (image : Image) (config : Config) → EndsKept (open_kernel image config)
unfolding open_kernel
opens_kept image config = record {
  statuses = none_ended (first_process config (lay_all (all_pages (image_pages image)) (rooted config)).tables) refl;
  under_way = tt;
}

-- ---- process 0
is_there : (objects : List ObjectFact) (p : Option Process) → HasGrown objects p → is_some p ≡ true
is_there objects None grown = absurd grown
is_there objects (Some p) grown = refl

opens_first : (image : Image) (config : Config) → is_some (process_at (open_kernel image config) 0) ≡ true
unfolding open_kernel
opens_first image config = refl

stays_first : (k last : KernelState) (p : Option Process) → process_at k 0 ≡ p → is_some p ≡ true → KeepsObjects k last → is_some (process_at last 0) ≡ true
stays_first k last None here there keeps = absurd (let z : ⊥ = grind (arith, there) in z)
stays_first k last (Some p) here there keeps = is_there p.space.objects (process_at last 0) (keeps 0 p here)

only_kernel : (s : State) (k last : KernelState) → HasKernel s k → HasKernel s last → last ≡ k
only_kernel s k last has has_last =
    let both : Some last ≡ Some k = sym (kernel_seen s last has_last) ∙ kernel_seen s k has in
    let same : last ≡ k = grind (arith, both) in same

-- ---- how it ends
ending_in : (status : Option ℕ) → ((n : ℕ) → status ≡ Some n → IsStatus n) → IfSome (option_map ending_by status) IsEnding
ending_in None all = tt
ending_in (Some n) all = all n refl

has_status : (status : Option ℕ) (rest : Bool) → (is_some status && rest) ≡ true → is_some (option_map ending_by status) ≡ true
has_status None rest over = absurd (let z : ⊥ = grind (arith, over) in z)
has_status (Some n) rest over = refl

over_told : (ps : List Process) → is_some (slice_get ps 0) ≡ true → list_all (λ (p : Process). is_some p.status) ps ≡ true → is_some (option_map ending_by (status_at ps 0)) ≡ true
over_told [] there over = absurd (let z : ⊥ = grind (arith, there) in z)
over_told (p ∷ ps) there over = has_status p.status (list_all (λ (p : Process). is_some p.status) ps) over

end_fits : (s : State) (k : KernelState) → kernel_of s ≡ Some k → StatusesIn k.processes → is_some (process_at k 0) ≡ true → EndFits s
end_fits s k seen statuses there = record {
  ending = rw seen (ending_in (ended 0 k) (statuses 0));
  told = λ over. rw seen (over_told k.processes there (rw seen at over));
}

end_from : (image : Image) (config : Config) (picks : List ℕ) → EndFits (run (started image config (open_kernel image config)) picks).state
end_from image config picks =
    let opened = open_kernel image config in
    let s = (run (started image config opened) picks).state in
    let end = run_keeps picks (record { state = started image config opened; commits = []; trace = [] }) (record {
      kernel = opened;
      has = start_has_kernel image config opened;
      kept = opens_kept image config;
    }) in
    let grown = grows_from_start image config opened picks in
    let there = stays_first opened grown.last (process_at opened 0) refl (opens_first image config) grown.objects in
    end_fits s end.kernel (kernel_seen s end.kernel end.has) end.kept.statuses
    (subst (λ (k : KernelState). is_some (process_at k 0) ≡ true) (only_kernel s end.kernel grown.last end.has grown.has) there)

pub ends_fit : EndsFit
unfolding start_of
ends_fit file image config picks valid taken enough = end_from image config picks
