-- Which steps show an access that was not done: of a guest instruction, or of a write that is refused.
use Rattle.std.proofs.Common.{ℕ, zero, suc, ◌-◌, ◌≡◌, ◌<◌, ◌==◌, ◌&&◌, ◌||◌, not, get_or, Bool, true, false, Option, Some, None, List, [], ◌∷◌, map, length, slice_get, option_map, arith, refl, sym, ap, subst, ◌∙◌}
use Rattle.std.specs.List.{Contains, list_any}
use Rattle.std.specs.Option.{option_to_list}
use Rattle.std.proofs.lemmas.List.Folds.{list_any-append}
use Rattle.std.proofs.lemmas.Bool.Decides.{nat_tests}
use Rattle.osc_word.specs.declared.calls.Answer.{Answer}
use Rattle.osc_word.specs.declared.calls.Answer.TheVariants as answer
use Rattle.osc_word.specs.declared.calls.Call.{Call}
use Rattle.osc_word.specs.declared.calls.Call.TheVariants as calls
use Rattle.osc_word.specs.declared.calls.Request.{Request}
use Rattle.osc_word.specs.declared.job_list.Job.{Job}
use Rattle.osc_word.specs.declared.job_list.Job.TheVariants.{ToOut}
use Rattle.osc_word.specs.declared.steps.Access.{Access}
use Rattle.osc_word.specs.declared.steps.Label.{Label}
use Rattle.osc_word.specs.declared.steps.Label.TheVariants.{Touched}
use Rattle.osc_space.specs.declared.ObjectFact.{ObjectFact}
use Rattle.osc_space.specs.Header.{Found}
use Rattle.osc_space.specs.Objects.{fact}
use Rattle.osc_guest.specs.declared.accesses.Touch.{Touch}
use Rattle.osc_calls.specs.declared.Begun.{Begun}
use Rattle.osc_calls.specs.declared.Begun.TheVariants as begun
use Rattle.osc_calls.specs.Kernel.{KernelState, Process, Calling, Committed, Effect, Nothing, Clears, Starts, Ends, UnderWay, Quiet, Retrying, Leaving, Waiting, Returning, process_at}
use Rattle.osc_calls.specs.Labels.{child_shows, effect_shows, plan_shows, buffer_shows, out_shows, freed_label, gave_shows, moved_shows, answer_shows}
use Rattle.osc_calls.specs.Requests.{calling_of}
use Rattle.osc_calls.specs.Begin.{no_words, begun_in, begin_as, begin_call, begin}
use Rattle.osc_calls.specs.Plan.{plan, plan_by, plan_waiting, plan_of}
use Rattle.osc_calls.specs.JobDone.{job_done}
use Rattle.osc_calls.specs.Finish.{freed_by, returned, finish_by, finish}
use Rattle.osc_machine.specs.Turns.{touched}
use Rattle.osc_safe.proofs.CallSteps.{calling-hart}

-- an access of this hart that was not done
abbrev pub is_undone : ℕ → Label → Bool
is_undone n (Touched pid hart address width kind done) = (hart == n) && not done
is_undone n label = false

abbrev pub Shows : ℕ → List Label → Type 0
Shows n labels = list_any (is_undone n) labels ≡ true

any-of : (n : ℕ) (labels : List Label) (label : Label) (k : ℕ) → k < length labels → get_or labels k label ≡ label → is_undone n label ≡ true → Shows n labels
any-of n [] label k l e u = absurd (omega (arith, l))
any-of n (x ∷ labels) label zero l e u = ap (λ b. b || list_any (is_undone n) labels) (ap (is_undone n) e ∙ u)
any-of n (x ∷ labels) label (suc k) l e u = let rest = any-of n labels label k (omega (arith, l)) e u in grind (arith, rest)

pub contains-shows : (labels : List Label) (pid hart address width : ℕ) (kind : Access) → Contains labels (Touched pid hart address width kind false) → Shows hart labels
contains-shows labels pid hart address width kind c = any-of hart labels (Touched pid hart address width kind false) c.0 c.1 c.2 (let q : is_undone hart (Touched pid hart address width kind false) ≡ true = grind (arith, nat_tests) in q)

never : (n : ℕ) (labels : List Label) → list_any (is_undone n) labels ≡ false → Shows n labels → ⊥
never n labels e s = grind (arith, e, s)

-- ---- calls
child-none : (n pid child : ℕ) (call : Call) → list_any (is_undone n) (child_shows pid call child) ≡ false
child-none n pid child calls.Fork = refl
child-none n pid child call = refl

effect-none : (n : ℕ) (c : Calling) (e : Effect) → list_any (is_undone n) (effect_shows c e) ≡ false
effect-none n c (Starts hart start) = child-none n c.pid start.pid c.call
effect-none n c (Ends status) = refl
effect-none n c Nothing = refl
effect-none n c Clears = refl

plan-caller : (n : ℕ) (c : Calling) (place : ℕ) (a : Answer) (e : Effect) → Shows n (plan_shows c place a e) → c.hart ≡ n
plan-caller n c place (answer.Freed object) e s = absurd (let b : ⊥ = grind (arith, s) in b)
plan-caller n c place (answer.Moved old object pointer) e s = absurd (let b : ⊥ = grind (arith, s) in b)
plan-caller n c place (answer.BadBuffer address) e s = grind (arith, nat_tests, s)
plan-caller n c place a e s = absurd (never n (effect_shows c e) (effect-none n c e) s)

plan-by-caller : (n : ℕ) (found : Found) (c : Calling) (o : Option Process) (k : KernelState) → Shows n (plan_by found c o k).shows → c.hart ≡ n
plan-by-caller n found c None k s = absurd (let b : ⊥ = grind (arith, s) in b)
plan-by-caller n found c (Some p) k s = let made = plan_of found c p k in plan-caller n c (length made.kernel.journal) made.answer made.effect s

pub planned-caller : (n : ℕ) (found : Found) (c : Calling) (k : KernelState) → k.under_way ≡ Waiting c → Shows n (plan found k).shows → c.hart ≡ n
unfolding plan
planned-caller n found c k u s = plan-by-caller n found c (process_at k c.pid) k (subst (λ w. Shows n (plan_waiting found w k).shows) u s)

begin-as-caller : (n : ℕ) (b : Begun) (c : Calling) (k : KernelState) → Shows n (begin_as b c k).shows → c.hart ≡ n
begin-as-caller n begun.Planned c k s = planned-caller n no_words c (record k { under_way = Waiting c }) refl s
begin-as-caller n begun.Again c k s = absurd (let b : ⊥ = grind (arith, s) in b)
begin-as-caller n begun.JournalFull c k s = absurd (let b : ⊥ = grind (arith, s) in b)
begin-as-caller n begun.Gone c k s = absurd (let b : ⊥ = grind (arith, s) in b)
begin-as-caller n begun.Boxes c k s = absurd (let b : ⊥ = grind (arith, s) in b)
begin-as-caller n (begun.Header first second) c k s = absurd (let b : ⊥ = grind (arith, s) in b)

begin-call-caller : (n hart : ℕ) (o : Option Calling) (k : KernelState) → ((c : Calling) → o ≡ Some c → c.hart ≡ hart) → Shows n (begin_call hart o k).shows → hart ≡ n
begin-call-caller n hart None k f s = absurd (let b : ⊥ = grind (arith, s) in b)
begin-call-caller n hart (Some c) k f s = sym (f c refl) ∙ begin-as-caller n (begun_in (process_at k c.pid) c k) c k s

pub begun-caller : (n hart : ℕ) (regs : List ℕ) (pc : ℕ) (asked : Request) (k : KernelState) → Shows n (begin hart regs pc asked k).shows → hart ≡ n
unfolding begin
begun-caller n hart regs pc asked k s =
    begin-call-caller n hart (calling_of hart regs pc asked (slice_get k.records hart)) k (calling-hart hart regs pc asked (slice_get k.records hart)) s

buffer-none : (n : ℕ) (c : Calling) (call : Call) (a : Answer) (pending count : ℕ) → list_any (is_undone n) (buffer_shows c call a pending count) ≡ false
buffer-none n c (calls.Write buf len) (answer.Number total) pending count = grind (arith, nat_tests)
buffer-none n c call a pending count = refl

out-none : (n : ℕ) (u : UnderWay) (jobs : List Job) → list_any (is_undone n) (out_shows u jobs) ≡ false
out-none n (Returning done) (ToOut place first count ∷ jobs) = buffer-none n done.calling done.calling.call done.answer _ count
out-none n u jobs = refl

pub job-none : (n word : ℕ) (k : KernelState) → list_any (is_undone n) (job_done word k).shows ≡ false
unfolding job_done
job-none n word k = out-none n k.under_way k.jobs

freed-none : (n pid : ℕ) (objects : List ObjectFact) (freed : List ℕ) → list_any (is_undone n) (map (freed_label pid objects) freed) ≡ false
freed-none n pid objects [] = refl
freed-none n pid objects (object ∷ freed) = freed-none n pid objects freed

gave-none : (n pid object : ℕ) (o : Option ObjectFact) → list_any (is_undone n) (gave_shows pid object o) ≡ false
gave-none n pid object None = refl
gave-none n pid object (Some o) = refl

moved-none : (n pid old place object : ℕ) (o : Option ObjectFact) → list_any (is_undone n) (moved_shows pid old place object o) ≡ false
moved-none n pid old place object None = refl
moved-none n pid old place object (Some o) = refl

answer-none : (n pid place : ℕ) (objects : List ObjectFact) (a : Answer) → list_any (is_undone n) (answer_shows pid place objects a) ≡ false
answer-none n pid place objects (answer.Given object pointer) = gave-none n pid object (fact objects object)
answer-none n pid place objects (answer.Moved old object pointer) = moved-none n pid old place object (fact objects object)
answer-none n pid place objects a = refl

returned-none : (n : ℕ) (done : Committed) (o : Option Process) (k : KernelState) → list_any (is_undone n) (returned done o k).shows ≡ false
returned-none n done None k = refl
returned-none n done (Some p) k =
    list_any-append (is_undone n) (map (freed_label done.calling.pid p.space.objects) (freed_by done.closing p.space.waiting)) (answer_shows done.calling.pid (length k.journal - 1) p.space.objects done.answer)
    ∙ ap (λ b. b || list_any (is_undone n) (answer_shows done.calling.pid (length k.journal - 1) p.space.objects done.answer)) (freed-none n done.calling.pid p.space.objects (freed_by done.closing p.space.waiting))
    ∙ answer-none n done.calling.pid (length k.journal - 1) p.space.objects done.answer

finish-by-none : (n : ℕ) (u : UnderWay) (k : KernelState) → list_any (is_undone n) (finish_by u k).shows ≡ false
finish-by-none n (Returning done) k = returned-none n done (process_at k done.calling.pid) k
finish-by-none n (Leaving hart) k = refl
finish-by-none n Quiet k = refl
finish-by-none n Retrying k = refl
finish-by-none n (Waiting c) k = refl

pub finished-none : (n : ℕ) (k : KernelState) → list_any (is_undone n) (finish k).shows ≡ false
unfolding finish
finished-none n k = finish-by-none n k.under_way k

-- ---- guests
pub guest-undone : (n number : ℕ) (o : Option Touch) → Shows n (option_to_list (option_map (touched number) o)) → (touch : Touch) × (o ≡ Some touch) × (touch.done ≡ false) × (number ≡ n)
guest-undone n number None s = absurd (let b : ⊥ = grind (arith, s) in b)
guest-undone n number (Some touch) s = (touch, refl, (let q : touch.done ≡ false = grind (arith, nat_tests, s) in q), (let q : number ≡ n = grind (arith, nat_tests, s) in q))
