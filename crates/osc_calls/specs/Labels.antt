-- What the steps of a call show: when it commits, when bytes are written out, and when it returns. This
-- project's own.
use Rattle.std.specs.Prelude.{ℕ, ◌+◌, ◌-◌, ◌%◌, ◌^◌, true, false, Bool, List, [], ◌∷◌, ◌++◌, map, sum_by, Option, Some, None}
use Rattle.osc_word.specs.declared.job_list.Job.{Job}
use Rattle.osc_word.specs.declared.job_list.Job.TheVariants.{ToOut}
use Rattle.osc_word.specs.declared.calls.Call.{Call}
use Rattle.osc_word.specs.declared.calls.Call.TheVariants.{Write, Fork, End}
use Rattle.osc_word.specs.declared.calls.Answer.{Answer}
use Rattle.osc_word.specs.declared.calls.Answer.TheVariants as answers
use Rattle.osc_word.specs.declared.steps.Label.{Label}
use Rattle.osc_word.specs.declared.steps.Label.TheVariants.{Gave, Freeing, Freed, Moving, Moved, Touched, Forked, Ended}
use Rattle.osc_word.specs.declared.steps.Access.TheVariants.{Load}
use Rattle.osc_space.specs.declared.ObjectFact.{ObjectFact}
use Rattle.osc_space.specs.declared.ObjectState.{ObjectState}
use Rattle.osc_space.specs.declared.ObjectState.TheVariants.{Live, Dead}
use Rattle.osc_space.specs.Objects.{fact}
use Rattle.osc_calls.specs.Kernel.{Calling, Effect, Starts, Ends, UnderWay, Returning}

-- ---- when a call commits
abbrev pub is_fault : Call → Bool
is_fault (End fault) = true
is_fault _ = false

-- a fork shows its child
abbrev pub child_shows : ℕ → Call → ℕ → List Label
child_shows pid Fork child = Forked pid child ∷ []
child_shows pid _ child = []

abbrev pub effect_shows : Calling → Effect → List Label
effect_shows c (Starts hart start) = child_shows c.pid c.call start.pid
effect_shows c (Ends status) = Ended c.pid (is_fault c.call) status ∷ []
effect_shows c _ = []

-- `place` is the call's place in the journal
abbrev pub plan_shows : Calling → ℕ → Answer → Effect → List Label
plan_shows c place (answers.Freed object) effect = Freeing c.pid object place ∷ []
plan_shows c place (answers.Moved old object pointer) effect = Moving c.pid old place ∷ []
plan_shows c place (answers.BadBuffer address) effect = Touched c.pid c.hart address 1 Load false ∷ []
plan_shows c place _ effect = effect_shows c effect

-- ---- when bytes are written out
abbrev pub out_count : Job → ℕ
out_count (ToOut at first count) = count
out_count _ = 0

-- so many bytes of a buffer, of which so many are still to be written
abbrev pub buffer_shows : Calling → Call → Answer → ℕ → ℕ → List Label
buffer_shows c (Write buf len) (answers.Number total) pending count =
    Touched c.pid c.hart ((buf + (total - pending)) % 2 ^ 64) count Load true ∷ []
buffer_shows c _ _ pending count = []

-- of the first of these jobs, once it is done
abbrev pub out_shows : UnderWay → List Job → List Label
out_shows (Returning done) (ToOut at first count ∷ jobs) =
    buffer_shows done.calling done.calling.call done.answer (count + sum_by out_count jobs) count
out_shows _ _ = []

-- ---- when a call returns
abbrev pub gave_shows : ℕ → ℕ → Option ObjectFact → List Label
gave_shows pid object None = []
gave_shows pid object (Some o) = Gave pid object o.first o.pages o.size ∷ []

abbrev pub moved_shows : ℕ → ℕ → ℕ → ℕ → Option ObjectFact → List Label
moved_shows pid old place object None = []
moved_shows pid old place object (Some o) = Moved pid old place object o.first o.pages o.size ∷ []

abbrev pub answer_shows : ℕ → ℕ → List ObjectFact → Answer → List Label
answer_shows pid place objects (answers.Given object pointer) = gave_shows pid object (fact objects object)
answer_shows pid place objects (answers.Moved old object pointer) = moved_shows pid old place object (fact objects object)
answer_shows pid place objects _ = []

-- the call by which an object died
abbrev pub death_of_state : ObjectState → ℕ
death_of_state Live = 0
death_of_state (Dead call) = call

abbrev pub death_of : Option ObjectFact → ℕ
death_of None = 0
death_of (Some o) = death_of_state o.state

abbrev pub freed_label : ℕ → List ObjectFact → ℕ → Label
freed_label pid objects object = Freed pid object (death_of (fact objects object))

-- first what a flush has freed, in the order of the calls, then what the call gave
abbrev pub return_shows : ℕ → ℕ → List ObjectFact → List ℕ → Answer → List Label
return_shows pid place objects freed answer = map (freed_label pid objects) freed ++ answer_shows pid place objects answer
