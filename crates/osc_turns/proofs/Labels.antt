-- What a step shows beside the objects that were let go: no step but a return shows such an object.
use Rattle.std.proofs.Common.{ℕ, ◌≡◌, ◌-◌, ◌++◌, map, List, [], ◌∷◌, Option, Some, None, length, slice_get, arith, refl, sym, ◌∙◌, ap, subst}
use Rattle.std.specs.Option.{option_to_list}
use Rattle.osc_word.specs.declared.steps.Label.{Label}
use Rattle.osc_word.specs.declared.steps.Label.TheVariants.{Gave, Freeing, Freed, Moving, Moved, Touched, Forked, Ended}
use Rattle.osc_word.specs.declared.calls.Call.{Call}
use Rattle.osc_word.specs.declared.calls.Call.TheVariants as calls
use Rattle.osc_word.specs.declared.calls.Answer.{Answer}
use Rattle.osc_word.specs.declared.calls.Answer.TheVariants as answers
use Rattle.osc_word.specs.declared.calls.Request.{Request}
use Rattle.osc_word.specs.declared.job_list.Job.{Job}
use Rattle.osc_word.specs.declared.job_list.Job.TheVariants as jobs
use Rattle.osc_space.specs.Header.{Found}
use Rattle.osc_calls.specs.declared.Begun.{Begun}
use Rattle.osc_calls.specs.declared.Begun.TheVariants as begun
use Rattle.osc_calls.specs.Kernel.{KernelState, Process, Calling, Committed, Effect, Nothing, Clears, Starts, Ends, UnderWay, Quiet, Retrying, Leaving, Returning, Waiting, process_at}
use Rattle.osc_calls.specs.Requests.{calling_of}
use Rattle.osc_calls.specs.Labels.{child_shows, effect_shows, plan_shows, buffer_shows, out_shows, gave_shows, moved_shows, answer_shows, freed_label}
use Rattle.osc_calls.specs.Finish.{finish, finish_by, returned, freed_by}
use Rattle.osc_space.specs.declared.ObjectFact.{ObjectFact}
use Rattle.osc_space.specs.Objects.{fact}
use Rattle.osc_kernel.specs.Returns.{shows_in, shows_by, label_shows}
use Rattle.osc_calls.specs.Plan.{plan, plan_by, plan_of, plan_waiting}
use Rattle.osc_calls.specs.Begin.{begin, begin_as, begin_call, begun_in, no_words}
use Rattle.osc_calls.specs.JobDone.{job_done}
use Rattle.osc_machine.specs.Views.{freed_in, label_in}

only_label : (l : Label) → freed_in (l ∷ []) ≡ [] → Some l ≡ label_in (l ∷ [])
only_label (Gave pid object first pages size) e = refl
only_label (Freeing pid object call) e = refl
only_label (Freed pid object call) e = absurd (let z : ⊥ = grind (arith, e) in z)
only_label (Moving pid old call) e = refl
only_label (Moved pid old call object first pages size) e = refl
only_label (Touched pid hart address width kind done) e = refl
only_label (Forked pid child) e = refl
only_label (Ended pid fault status) e = refl

pub labelled : (l : Option Label) (shows : List Label) → option_to_list l ≡ shows → freed_in shows ≡ [] → l ≡ label_in shows
labelled None shows e none = rw (← e) refl
labelled (Some l) shows e none = rw (← e) (only_label l (subst (λ s. freed_in s ≡ []) (sym e) none))

abbrev Silent : List Label → Type 0
Silent shows = freed_in shows ≡ []

-- ---- plans
child : (pid : ℕ) (call : Call) (number : ℕ) → Silent (child_shows pid call number)
child pid calls.Fork number = refl
child pid _ number = refl

effect-silent : (c : Calling) (effect : Effect) → Silent (effect_shows c effect)
effect-silent c Nothing = refl
effect-silent c Clears = refl
effect-silent c (Starts hart start) = child c.pid c.call start.pid
effect-silent c (Ends status) = refl

planned-shows : (c : Calling) (place : ℕ) (answer : Answer) (effect : Effect) → Silent (plan_shows c place answer effect)
planned-shows c place (answers.Freed object) effect = refl
planned-shows c place (answers.Moved old object pointer) effect = refl
planned-shows c place (answers.BadBuffer address) effect = refl
planned-shows c place _ effect = effect-silent c effect

planned-in : (found : Found) (c : Calling) (p : Option Process) (kernel : KernelState) → Silent (plan_by found c p kernel).shows
planned-in found c None kernel = refl
planned-in found c (Some p) kernel =
    let made = plan_of found c p kernel in planned-shows c (length made.kernel.journal) made.answer made.effect

planned : (found : Found) (u : UnderWay) (kernel : KernelState) → Silent (plan_waiting found u kernel).shows
planned found (Waiting c) kernel = planned-in found c (process_at kernel c.pid) kernel
planned found _ kernel = refl

plan-silent : (found : Found) (kernel : KernelState) → Silent (plan found kernel).shows
unfolding plan
plan-silent found kernel = planned found kernel.under_way kernel

begun-as : (b : Begun) (c : Calling) (kernel : KernelState) → Silent (begin_as b c kernel).shows
begun-as begun.Planned c kernel = plan-silent no_words (record kernel { under_way = Waiting c })
begun-as _ c kernel = refl

begun-by : (hart : ℕ) (c : Option Calling) (kernel : KernelState) → Silent (begin_call hart c kernel).shows
begun-by hart None kernel = refl
begun-by hart (Some c) kernel = begun-as (begun_in (process_at kernel c.pid) c kernel) c kernel

-- ---- jobs
buffer : (c : Calling) (call : Call) (answer : Answer) (pending count : ℕ) → Silent (buffer_shows c call answer pending count)
buffer c (calls.Write buf len) (answers.Number total) pending count = refl
buffer c _ _ pending count = refl

out : (u : UnderWay) (list : List Job) → Silent (out_shows u list)
out (Returning done) (jobs.ToOut at first count ∷ list) = buffer done.calling done.calling.call done.answer _ count
out _ _ = refl

-- ---- the labels of these steps
pub begin_labelled : (hart : ℕ) (regs : List ℕ) (pc : ℕ) (request : Request) (k : KernelState) (l : Option Label)
    → option_to_list l ≡ (begin hart regs pc request k).shows → l ≡ label_in (begin hart regs pc request k).shows
unfolding begin
begin_labelled hart regs pc request k l e = labelled l _ e (begun-by hart (calling_of hart regs pc request (slice_get k.records hart)) k)

pub plan_labelled : (found : Found) (k : KernelState) (l : Option Label) → option_to_list l ≡ (plan found k).shows → l ≡ label_in (plan found k).shows
plan_labelled found k l e = labelled l _ e (plan-silent found k)

pub done_labelled : (word : ℕ) (k : KernelState) (l : Option Label) → option_to_list l ≡ (job_done word k).shows → l ≡ label_in (job_done word k).shows
unfolding job_done
done_labelled word k l e = labelled l _ e (out k.under_way k.jobs)

-- ---- the return
gave : (pid object : ℕ) (o : Option ObjectFact) → Silent (gave_shows pid object o)
gave pid object None = refl
gave pid object (Some o) = refl

moved : (pid old place object : ℕ) (o : Option ObjectFact) → Silent (moved_shows pid old place object o)
moved pid old place object None = refl
moved pid old place object (Some o) = refl

answered : (pid place : ℕ) (objects : List ObjectFact) (answer : Answer) → Silent (answer_shows pid place objects answer)
answered pid place objects (answers.Given object pointer) = gave pid object (fact objects object)
answered pid place objects (answers.Moved old object pointer) = moved pid old place object (fact objects object)
answered pid place objects _ = refl

-- what was let go stands first, and is passed over
passed_over : (pid : ℕ) (objects : List ObjectFact) (freed : List ℕ) (shows : List Label) → label_in (map (freed_label pid objects) freed ++ shows) ≡ label_in shows
passed_over pid objects [] shows = refl
passed_over pid objects (x ∷ freed) shows = passed_over pid objects freed shows

let_go : (pid : ℕ) (objects : List ObjectFact) (freed : List ℕ) (shows : List Label) → Silent shows → freed_in (map (freed_label pid objects) freed ++ shows) ≡ freed
let_go pid objects [] shows none = none
let_go pid objects (x ∷ freed) shows none = ap (λ rest. x ∷ rest) (let_go pid objects freed shows none)

returned_label : (done : Committed) (p : Option Process) (k : KernelState) (l : Option Label) → option_to_list l ≡ shows_in done k p → l ≡ label_in (returned done p k).shows
returned_label done None k l e = labelled l [] e refl
returned_label done (Some p) k l e =
    labelled l _ e (answered done.calling.pid (length k.journal - 1) p.space.objects done.answer)
    ∙ sym (passed_over done.calling.pid p.space.objects (freed_by done.closing p.space.waiting) (answer_shows done.calling.pid (length k.journal - 1) p.space.objects done.answer))

finish_label_by : (u : UnderWay) (k : KernelState) (l : Option Label) → option_to_list l ≡ shows_by k u → l ≡ label_in (finish_by u k).shows
finish_label_by (Returning done) k l e = returned_label done (process_at k done.calling.pid) k l e
finish_label_by Quiet k l e = labelled l [] e refl
finish_label_by Retrying k l e = labelled l [] e refl
finish_label_by (Leaving hart) k l e = labelled l [] e refl
finish_label_by (Waiting c) k l e = labelled l [] e refl

pub finish_labelled : (k : KernelState) (l : Option Label) → option_to_list l ≡ label_shows k → l ≡ label_in (finish k).shows
unfolding finish
finish_labelled k l e = finish_label_by k.under_way k l e

returned_freed : (done : Committed) (p : Option Process) (k : KernelState) → freed_in (returned done p k).shows ≡ (returned done p k).freed
returned_freed done None k = refl
returned_freed done (Some p) k =
    let_go done.calling.pid p.space.objects (freed_by done.closing p.space.waiting) _ (answered done.calling.pid (length k.journal - 1) p.space.objects done.answer)

finish_freed_by : (u : UnderWay) (k : KernelState) → freed_in (finish_by u k).shows ≡ (finish_by u k).freed
finish_freed_by (Returning done) k = returned_freed done (process_at k done.calling.pid) k
finish_freed_by Quiet k = refl
finish_freed_by Retrying k = refl
finish_freed_by (Leaving hart) k = refl
finish_freed_by (Waiting c) k = refl

-- what the return shows to be let go is what the kernel let go
pub finish_freed : (k : KernelState) → freed_in (finish k).shows ≡ (finish k).freed
unfolding finish
finish_freed k = finish_freed_by k.under_way k

-- ---- only a return lets objects go
pub begin_silent : (hart : ℕ) (regs : List ℕ) (pc : ℕ) (request : Request) (k : KernelState) → freed_in (begin hart regs pc request k).shows ≡ []
unfolding begin
begin_silent hart regs pc request k = begun-by hart (calling_of hart regs pc request (slice_get k.records hart)) k

pub plan_frees_none : (found : Found) (k : KernelState) → freed_in (plan found k).shows ≡ []
plan_frees_none found k = plan-silent found k

pub done_silent : (word : ℕ) (k : KernelState) → freed_in (job_done word k).shows ≡ []
unfolding job_done
done_silent word k = out k.under_way k.jobs
