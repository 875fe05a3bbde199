-- The laws of what steps show, by cases on the call under way.
use Rattle.std.proofs.Common.{ℕ, zero, suc, ◌+◌, ◌≡◌, ◌≤◌, Option, Some, None, List, [], ◌∷◌, ◌++◌, length, map, take, slice_get, slice_set, refl, arith, ap}
use Rattle.osc_word.specs.declared.calls.Call.{Call}
use Rattle.osc_word.specs.declared.calls.Call.TheVariants as calls
use Rattle.osc_word.specs.declared.calls.Answer.{Answer}
use Rattle.osc_word.specs.declared.calls.Answer.TheVariants as answers
use Rattle.osc_word.specs.declared.job_list.Job.{Job}
use Rattle.osc_word.specs.declared.job_list.Job.TheVariants as jobs
use Rattle.osc_word.specs.declared.steps.Label.{Label}
use Rattle.osc_slot.specs.declared.Block.{Block}
use Rattle.osc_space.specs.declared.ObjectFact.{ObjectFact}
use Rattle.osc_space.specs.Objects.{fact}
use Rattle.osc_space.specs.Space.{Keeps, GivesBack}
use Rattle.osc_space.specs.Header.{Found}
use Rattle.osc_space.specs.Finish.{finished, ended}
use Rattle.osc_calls.specs.declared.Begun.{Begun}
use Rattle.osc_calls.specs.declared.Begun.TheVariants as begun
use Rattle.osc_calls.specs.Kernel.{KernelState, Process, Calling, Committed, Effect, Nothing, Clears, Starts, Ends, UnderWay, Quiet, Retrying, Leaving, Waiting, Returning, process_at}
use Rattle.osc_calls.specs.Requests.{calling_of}
use Rattle.osc_calls.specs.Labels.{child_shows, effect_shows, plan_shows, buffer_shows, out_shows, gave_shows, moved_shows, answer_shows, freed_label, return_shows}
use Rattle.osc_calls.specs.Plan.{plan, plan_by, plan_of, plan_waiting}
use Rattle.osc_calls.specs.Begin.{begin, begin_as, begin_call, begun_in, no_words}
use Rattle.osc_calls.specs.JobDone.{job_done}
use Rattle.osc_calls.specs.Finish.{finish, finish_by, returned, freed_by, settled}
use Rattle.osc_calls.specs.LabelLaws.{LabelsCounted, waiting_in, FlushReturns, ReturnsFree}

abbrev AtMostOne : List Label → Type 0
AtMostOne shows = length shows ≤ 1

-- ---- plans
child : (pid : ℕ) (call : Call) (number : ℕ) → AtMostOne (child_shows pid call number)
child pid calls.Fork number = omega arith
child pid _ number = omega arith

effect-one : (c : Calling) (effect : Effect) → AtMostOne (effect_shows c effect)
effect-one c Nothing = omega arith
effect-one c Clears = omega arith
effect-one c (Starts hart start) = child c.pid c.call start.pid
effect-one c (Ends status) = omega arith

plan-one : (c : Calling) (place : ℕ) (answer : Answer) (effect : Effect) → AtMostOne (plan_shows c place answer effect)
plan-one c place (answers.Freed object) effect = omega arith
plan-one c place (answers.Moved old object pointer) effect = omega arith
plan-one c place (answers.BadBuffer address) effect = omega arith
plan-one c place _ effect = effect-one c effect

planned-in : (found : Found) (c : Calling) (p : Option Process) (kernel : KernelState) → AtMostOne (plan_by found c p kernel).shows
planned-in found c None kernel = omega arith
planned-in found c (Some p) kernel =
    let made = plan_of found c p kernel in plan-one c (length made.kernel.journal) made.answer made.effect

planned : (found : Found) (u : UnderWay) (kernel : KernelState) → AtMostOne (plan_waiting found u kernel).shows
planned found (Waiting c) kernel = planned-in found c (process_at kernel c.pid) kernel
planned found _ kernel = omega arith

plan-shows : (found : Found) (kernel : KernelState) → AtMostOne (plan found kernel).shows
unfolding plan
plan-shows found kernel = planned found kernel.under_way kernel

begun-as : (b : Begun) (c : Calling) (kernel : KernelState) → AtMostOne (begin_as b c kernel).shows
begun-as begun.Planned c kernel = plan-shows no_words (record kernel { under_way = Waiting c })
begun-as _ c kernel = omega arith

begun-by : (hart : ℕ) (c : Option Calling) (kernel : KernelState) → AtMostOne (begin_call hart c kernel).shows
begun-by hart None kernel = omega arith
begun-by hart (Some c) kernel = begun-as (begun_in (process_at kernel c.pid) c kernel) c kernel

-- ---- jobs
buffer : (c : Calling) (call : Call) (answer : Answer) (pending count : ℕ) → AtMostOne (buffer_shows c call answer pending count)
buffer c (calls.Write buf len) (answers.Number total) pending count = omega arith
buffer c _ _ pending count = omega arith

out : (u : UnderWay) (list : List Job) → AtMostOne (out_shows u list)
out (Returning done) (jobs.ToOut at first count ∷ list) = buffer done.calling done.calling.call done.answer _ count
out _ _ = omega arith

-- ---- the return
gave : (pid object : ℕ) (o : Option ObjectFact) → AtMostOne (gave_shows pid object o)
gave pid object None = omega arith
gave pid object (Some o) = omega arith

moved : (pid old place object : ℕ) (o : Option ObjectFact) → AtMostOne (moved_shows pid old place object o)
moved pid old place object None = omega arith
moved pid old place object (Some o) = omega arith

answered : (pid place : ℕ) (objects : List ObjectFact) (answer : Answer) → AtMostOne (answer_shows pid place objects answer)
answered pid place objects (answers.Given object pointer) = gave pid object (fact objects object)
answered pid place objects (answers.Moved old object pointer) = moved pid old place object (fact objects object)
answered pid place objects _ = omega arith

counted : (pid place : ℕ) (objects : List ObjectFact) (freed : List ℕ) (answer : Answer) → length (return_shows pid place objects freed answer) ≤ length freed + 1
counted pid place objects [] answer = answered pid place objects answer
counted pid place objects (x ∷ freed) answer = let l = counted pid place objects freed answer in omega (arith, l)

returned-count : (c : Committed) (p : Option Process) (kernel : KernelState) → length (returned c p kernel).shows ≤ length (returned c p kernel).freed + 1
returned-count c None kernel = omega arith
returned-count c (Some p) kernel = counted c.calling.pid _ p.space.objects (freed_by c.closing p.space.waiting) c.answer

finished-count : (u : UnderWay) (kernel : KernelState) → length (finish_by u kernel).shows ≤ length (finish_by u kernel).freed + 1
finished-count (Returning c) kernel = returned-count c (process_at kernel c.calling.pid) kernel
finished-count Quiet kernel = omega arith
finished-count Retrying kernel = omega arith
finished-count (Leaving hart) kernel = omega arith
finished-count (Waiting c) kernel = omega arith

pub labels_counted : LabelsCounted
unfolding begin job_done finish
labels_counted = record {
  begun = λ hart pc regs r kernel. begun-by hart (calling_of hart regs pc r (slice_get kernel.records hart)) kernel;
  planned = plan-shows;
  job_done = λ word kernel. out kernel.under_way kernel.jobs;
  finished = λ kernel. finished-count kernel.under_way kernel;
}

-- ---- a flush
taken : {X Y : Type 0} (f : X → Y) (xs : List X) (ys : List Y) → take (length xs) (map f xs ++ ys) ≡ map f xs
taken f [] ys = refl
taken f (x ∷ xs) ys = ap (λ zs. f x ∷ zs) (taken f xs ys)

set-got : (ps : List Process) (i : ℕ) (q y : Process) → slice_get ps i ≡ Some q → slice_get (slice_set ps i y) i ≡ Some y
set-got [] i q y e = cc
set-got (x ∷ xs) zero q y e = refl
set-got (x ∷ xs) (suc i) q y e = set-got xs i q y e

empties : (c : Committed) (p : Process) (blocks : List Block) (effect : Effect) (kernel : KernelState) → process_at kernel c.calling.pid ≡ Some p → c.closing ≡ GivesBack blocks
    → waiting_in (process_at (settled c p effect kernel) c.calling.pid) ≡ []
unfolding finished ended
empties c p blocks (Ends status) kernel e f = ap waiting_in (set-got kernel.processes c.calling.pid p _ e)
empties c p blocks Nothing kernel e f = rw f (ap waiting_in (set-got kernel.processes c.calling.pid p _ e))
empties c p blocks Clears kernel e f = rw f (ap waiting_in (set-got kernel.processes c.calling.pid p _ e))
empties c p blocks (Starts hart start) kernel e f = rw f (ap waiting_in (set-got kernel.processes c.calling.pid p _ e))

flush-in : (u : UnderWay) (c : Committed) (p : Process) (blocks : List Block) (kernel : KernelState)
    → u ≡ Returning c → process_at kernel c.calling.pid ≡ Some p → c.closing ≡ GivesBack blocks → waiting_in (process_at (finish_by u kernel).kernel c.calling.pid) ≡ []
flush-in u c p blocks kernel r e f = rw (r, e) (empties c p blocks c.effect kernel e f)

flushes : (c : Committed) (p : Process) (blocks : List Block) (kernel : KernelState)
    → kernel.under_way ≡ Returning c → process_at kernel c.calling.pid ≡ Some p → c.closing ≡ GivesBack blocks → FlushReturns c p kernel
unfolding finish
flushes c p blocks kernel u e f = record {
  freed = rw (u, e, f) refl;
  shown = rw (u, e, f) (taken (freed_label c.calling.pid p.space.objects) p.space.waiting _);
  emptied = flush-in kernel.under_way c p blocks kernel u e f;
}

keeps-by : (c : Committed) (p : Option Process) (kernel : KernelState) → c.closing ≡ Keeps → (returned c p kernel).freed ≡ []
keeps-by c None kernel f = refl
keeps-by c (Some p) kernel f = rw f refl

keeps-in : (u : UnderWay) (c : Committed) (kernel : KernelState) → u ≡ Returning c → c.closing ≡ Keeps → (finish_by u kernel).freed ≡ []
keeps-in u c kernel r f = rw r (keeps-by c (process_at kernel c.calling.pid) kernel f)

keeps : (c : Committed) (kernel : KernelState) → kernel.under_way ≡ Returning c → c.closing ≡ Keeps → (finish kernel).freed ≡ []
unfolding finish
keeps c kernel u f = keeps-in kernel.under_way c kernel u f

pub returns_free : ReturnsFree
returns_free = record { flush = flushes; other = keeps }
