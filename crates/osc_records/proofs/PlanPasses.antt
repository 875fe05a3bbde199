-- How the records stay so where a call is planned.
use Rattle.std.proofs.Common.{ℕ, zero, suc, ◌+◌, ◌≡◌, ◌≢◌, ◌<◌, ◌≤◌, ◌==◌, Bool, true, false, not, ◌||◌, if◌then◌else◌, Option, Some, None, is_some, List, [], ◌∷◌, length, map, slice_get, slice_set, arith, refl, sym, ap, subst, ◌∙◌, inl, inr}
use Rattle.std.specs.List.{list_all, range_with_len}
use Rattle.std.specs.Option.{option_and_then}
use Rattle.std.proofs.lemmas.Bool.Decides.{nat_tests}
use Rattle.std.proofs.lemmas.Option.{slice_get_within}
use Rattle.osc_word.specs.declared.orders.Order.{Order}
use Rattle.osc_word.specs.declared.orders.Order.TheVariants.{Empty, Start, Stop, Over}
use Rattle.osc_word.specs.declared.orders.Start as thread
use Rattle.osc_word.specs.declared.calls.Answer.{Answer}
use Rattle.osc_word.specs.declared.calls.Answer.TheVariants as answers
use Rattle.osc_word.specs.declared.calls.Call.{Call}
use Rattle.osc_word.specs.declared.calls.Call.TheVariants as calls
use Rattle.osc_word.specs.declared.job_list.Job.{Job}
use Rattle.osc_word.specs.declared.job_list.Job.TheVariants.{Tell}
use Rattle.osc_guest.specs.Hands.{runs_resumed}
use Rattle.osc_space.specs.declared.ObjectFact.{ObjectFact}
use Rattle.osc_space.specs.Header.{Found}
use Rattle.osc_space.specs.Space.{Closing}
use Rattle.osc_calls.specs.declared.BoxChange.TheVariants.{Keep, Clear, Put}
use Rattle.osc_calls.specs.declared.HartRecord.{HartRecord}
use Rattle.osc_calls.specs.declared.HartRecord.TheVariants.{Idle, Runs, Stopped}
use Rattle.osc_calls.specs.Kernel.{KernelState, Process, Calling, Effect, Nothing, Clears, Starts, Ends, Waiting, process_at, root, ended, none_lives}
use Rattle.osc_calls.specs.Requests.{meant}
use Rattle.osc_calls.specs.Begin.{first_step}
use Rattle.osc_calls.specs.Boxes.{is_stopped, end_change, change_of, box_change}
use Rattle.osc_calls.specs.Planned.{Planned}
use Rattle.osc_calls.specs.Plan.{plan_of, committed, plan_by, plan_waiting, plan}
use Rattle.osc_calls.specs.Finish.{unknown_resume, resume_of, returned, finish}
use Rattle.osc_calls.specs.ProcessPlans.{record_stopped}
use Rattle.osc_settled.specs.KernelFits.{KernelFits}
use Rattle.osc_settled.specs.Records.{is_living}
use Rattle.osc_settled.specs.UnderWay.{is_end, record_by, StartFits, EffectFits, WaitingFits, UnderWayFits}
use Rattle.osc_settled.proofs.Plans.{plans_keep}
use Rattle.osc_settled.proofs.Lists.{get-put_same, get-put_other}
use Rattle.osc_records.specs.Agreeing.{Setting, setting_by, setting_in, is_start, is_due, order_put, order_where, order_then, Agrees, DueBy, takes_boxes}
use Rattle.osc_records.proofs.Taking.{same-fields, agrees-same}
use Rattle.osc_records.proofs.PlanRows.{IsCalm, PlanDoes, Calm, EndsThread, Spawns, Forks, EndsProcess, PlanSays, plan-says}
use Rattle.osc_records.proofs.Passing.{Passes, settings, there}
use Rattle.osc_records.proofs.Tops.{HasTop}

-- ---- how the caller goes on
pub resume-runs : (objects : List ObjectFact) (call : Call) (a : Answer) → runs_resumed (resume_of objects call a) ≡ not (is_end a)
resume-runs objects call answers.Unknown = go call
  where
    go : (call : Call) → runs_resumed (unknown_resume call) ≡ true
    go (calls.Unknown number) = refl
    go _ = refl
resume-runs objects call _ = refl

-- ---- what the boxes get
abbrev ChangedTo : KernelState → ℕ → ℕ → Effect → Bool → Order → Order
ChangedTo k pid m effect due o = order_where due (change_of k pid m effect) o

calm-order : (k : KernelState) (pid m : ℕ) (effect : Effect) (due : Bool) (o : Order) → IsCalm effect → ChangedTo k pid m effect due o ≡ o
calm-order k pid m Nothing true o e = refl
calm-order k pid m Nothing false o e = refl
calm-order k pid m Clears true o e = refl
calm-order k pid m Clears false o e = refl
calm-order k pid m (Starts hart start) due o e = absurd e
calm-order k pid m (Ends status) due o e = absurd e

-- an order to begin is one hart's
started-order : (k : KernelState) (pid m hart : ℕ) (start : thread.Start) (b due : Bool) (o : Order) → (hart == m) ≡ b
    → ChangedTo k pid m (Starts hart start) due o ≡ order_where due (if b then Put (Start start) else Keep) o
started-order k pid m hart start b due o e = ap (λ x. order_where due (if x then Put (Start start) else Keep) o) e

where-keep : (due : Bool) (o : Order) → order_where due Keep o ≡ o
where-keep true o = refl
where-keep false o = refl

other-order : (k : KernelState) (pid m hart : ℕ) (start : thread.Start) (due : Bool) (o : Order) → hart ≢ m → ChangedTo k pid m (Starts hart start) due o ≡ o
other-order k pid m hart start due o apart =
    started-order k pid m hart start false due o (let e : (hart == m) ≡ false = grind (arith, nat_tests, apart) in e) ∙ where-keep due o

-- the caller's box gets no order to begin, and none at all but at an end
ended-quiet : (k : KernelState) (pid m : ℕ) (due lives stopped : Bool) → is_start (order_where due (if lives then Put Over else if stopped then Put Stop else Clear) Empty) ≡ false
ended-quiet k pid m false lives stopped = refl
ended-quiet k pid m true true stopped = refl
ended-quiet k pid m true false true = refl
ended-quiet k pid m true false false = refl

caller-quiet : (k : KernelState) (c : Calling) (closing : Closing) (effect : Effect) (due : Bool) → EffectFits k c closing effect → is_start (ChangedTo k c.pid c.hart effect due Empty) ≡ false
caller-quiet k c closing Nothing due e = ap is_start (calm-order k c.pid c.hart Nothing due Empty tt)
caller-quiet k c closing Clears due e = ap is_start (calm-order k c.pid c.hart Clears due Empty tt)
caller-quiet k c closing (Starts hart start) due e = let f = e.1 in ap is_start (other-order k c.pid c.hart hart start due Empty f.other)
caller-quiet k c closing (Ends status) due e = ended-quiet k c.pid c.hart due (none_lives c.pid k) (is_stopped c.pid (slice_get k.records c.hart))

abbrev NoEnd : Effect → Type 0
NoEnd (Ends status) = ⊥
NoEnd _ = Unit {0}

caller-still : (k : KernelState) (c : Calling) (closing : Closing) (effect : Effect) (due : Bool) (o : Order) → EffectFits k c closing effect → NoEnd effect → ChangedTo k c.pid c.hart effect due o ≡ o
caller-still k c closing Nothing due o e n = calm-order k c.pid c.hart Nothing due o tt
caller-still k c closing Clears due o e n = calm-order k c.pid c.hart Clears due o tt
caller-still k c closing (Starts hart start) due o e n = let f = e.1 in other-order k c.pid c.hart hart start due o f.other
caller-still k c closing (Ends status) due o e n = absurd n

calm-no-end : (effect : Effect) → IsCalm effect → NoEnd effect
calm-no-end Nothing e = tt
calm-no-end Clears e = tt
calm-no-end (Starts hart start) e = absurd e
calm-no-end (Ends status) e = absurd e

-- ---- ends
get-map : {X Y : Type 0} (f : X → Y) (xs : List X) (m : ℕ) (y : Y) → slice_get (map f xs) m ≡ Some y → (x : X) × (slice_get xs m ≡ Some x) × (y ≡ f x)
get-map f [] m y e = absurd (let b : ⊥ = grind (arith, e) in b)
get-map f (x ∷ xs) zero y e = (x, refl, (let q : y ≡ f x = cc in q))
get-map f (x ∷ xs) (suc m) y e = get-map f xs m y e

all-in-range : (f : ℕ → Bool) (from count i : ℕ) → list_all f (range_with_len from count) ≡ true → from ≤ i → i < from + count → f i ≡ true
all-in-range f from zero i e l m = absurd (omega (arith, l, m))
all-in-range f from (suc count) i e l m = go (from == i) refl (all-in-range f (from + 1) count i (let rest : list_all f (range_with_len (from + 1) count) ≡ true = grind (arith, e) in rest))
  where
    first : f from ≡ true
    first = grind (arith, e)

    go : (b : Bool) → (from == i) ≡ b → (from + 1 ≤ i → i < from + 1 + count → f i ≡ true) → f i ≡ true
    go true d later = let same : from ≡ i = grind (arith, nat_tests, d) in subst (λ z. f z ≡ true) same first
    go false d later = let apart : from ≢ i = grind (arith, nat_tests, d) in later (let q : from + 1 ≤ i = grind (arith, l, apart) in q) (omega (arith, m))

-- where a process lives that does not end, not all rest
some-lives : (k : KernelState) (pid other : ℕ) → is_living (process_at k other) ≡ true → other ≢ pid → none_lives pid k ≡ false
some-lives k pid other lives apart = go (none_lives pid k) refl
  where
    go : (b : Bool) → none_lives pid k ≡ b → b ≡ false
    go false e = refl
    go true e =
        let p = there (process_at k other) lives in
        let within = slice_get_within k.processes other p.0 p.1 in
        let test : ((other == pid) || is_some (ended other k)) ≡ true =
        all-in-range (λ q. (q == pid) || is_some (ended q k)) 0 (length k.processes) other e (omega arith) (omega (arith, within)) in
        let status : ended other k ≡ None = ap (λ (o : Option Process). option_and_then (λ (q : Process). q.status) o) p.1 ∙ p.2 in
        absurd (let b : ⊥ = grind (arith, nat_tests, test, status, apart) in b)

-- a record of a hart that did not call, and the order in its box, at an end
ended-agrees : (k next : KernelState) (pid m : ℕ) (old : HartRecord) (running : Bool) (x : Setting) (o : Order)
    → slice_get next.records m ≡ Some (record_stopped pid old)
    → ((q : ℕ) (number : Option ℕ) → old ≡ Runs q number → setting_in next q ≡ setting_in k q)
    → ((q : ℕ) (number : Option ℕ) → old ≡ Runs q number → q ≢ pid → none_lives pid next ≡ false)
    → Agrees k old running x o → Agrees next (record_stopped pid old) running x (order_put (end_change next pid m) o)
ended-agrees k next pid m Idle running x o here same lives a =
    (a.0, quiet (none_lives pid next) (is_stopped pid (slice_get next.records m)) (ap (is_stopped pid) here))
  where
    quiet : (b d : Bool) → d ≡ false → is_start (order_put (if b then Put Over else if d then Put Stop else Clear) o) ≡ false
    quiet true d e = refl
    quiet false true e = refl
    quiet false false e = a.1
ended-agrees k next pid m (Stopped q) running x o here same lives a = go (none_lives pid next) (is_stopped pid (slice_get next.records m)) running a
  where
    go : (b d running : Bool) → Agrees k (Stopped q) running x o → Agrees next (Stopped q) running x (order_put (if b then Put Over else if d then Put Stop else Clear) o)
    go true d true a = refl
    go true d false a = refl
    go false true true a = refl
    go false true false a = refl
    go false false true a = a
    go false false false a = a
ended-agrees k next pid m (Runs q number) running x o here same lives a = go (q == pid) refl here
  where
    halted : (b running : Bool) → Agrees next (Stopped pid) running x (order_put (if b then Put Over else Put Stop) o)
    halted true true = refl
    halted true false = refl
    halted false true = refl
    halted false false = refl

    go : (b : Bool) → (q == pid) ≡ b → slice_get next.records m ≡ Some (if b then Stopped pid else Runs q number)
        → Agrees next (if b then Stopped pid else Runs q number) running x (order_put (end_change next pid m) o)
    go true d here =
        let same_pid : (pid == pid) ≡ true = grind (arith, nat_tests) in
        let stopped : is_stopped pid (slice_get next.records m) ≡ true = ap (is_stopped pid) here ∙ same_pid in
        subst (λ z. Agrees next (Stopped pid) running x (order_put (if none_lives pid next then Put Over else if z then Put Stop else Clear) o)) (sym stopped)
        (halted (none_lives pid next) running)
    go false d here =
        let apart : q ≢ pid = grind (arith, nat_tests, d) in
        let alive = lives q number refl apart in
        let not_stopped : is_stopped pid (slice_get next.records m) ≡ false = ap (is_stopped pid) here in
        let nothing : end_change next pid m ≡ Clear =
        ap (λ b. if b then Put Over else if is_stopped pid (slice_get next.records m) then Put Stop else Clear) alive ∙ ap (λ b. if b then Put Stop else Clear) not_stopped in
        subst (λ z. Agrees next (Runs q number) running x (order_put z o)) (sym nothing) (agrees-same k next (Runs q number) running x o same a)

-- ---- a beginning
started-setting : (k : KernelState) (caller hart : ℕ) (start : thread.Start) → StartFits k caller hart start → setting_by start ≡ setting_in k start.pid
started-setting k caller hart start f =
    same-fields start.pid start.pid start.root (root k start.pid) start.levels k.config.levels start.frames k.config.frames refl f.root f.levels f.frames

idle-starts : (k next : KernelState) (start : thread.Start) (number : Option ℕ) (running : Bool) (x : Setting) (o : Order) → setting_by start ≡ setting_in next start.pid
    → Agrees k Idle running x o → Agrees next (Runs start.pid number) running x (Start start)
idle-starts k next start number true x o e a = absurd (let d = a.0 in let b : ⊥ = grind (arith, d) in b)
idle-starts k next start number false x o e a = ap Some e

-- ---- a call that is committed
record Commit (n : ℕ) (words : List ℕ) (boxes : Bool) (k : KernelState) (c : Calling) (made : Planned) : Type 0 where
  fits : KernelFits words k
  waits : k.under_way ≡ Waiting c
  own : c.hart ≡ n
  says : PlanSays boxes k c made
  now : KernelFits words (committed c made)

changes : (m : ℕ) (c : Calling) (made : Planned) → box_change m (committed c made) ≡ change_of (committed c made) c.pid m made.effect
unfolding box_change
changes m c made = refl

waiting : (words : List ℕ) (k : KernelState) (c : Calling) → KernelFits words k → k.under_way ≡ Waiting c → WaitingFits k c
waiting words k c fits e = subst (λ u. UnderWayFits k u) e fits.under_way

same-settings : (n : ℕ) (words : List ℕ) (boxes : Bool) (k : KernelState) (c : Calling) (made : Planned) → Commit n words boxes k c made
    → (m : ℕ) (old : HartRecord) → slice_get k.records m ≡ Some old → (pid : ℕ) (number : Option ℕ) → old ≡ Runs pid number → setting_in (committed c made) pid ≡ setting_in k pid
same-settings n words boxes k c made a m old e =
    let says = a.says in settings words k (committed c made) a.fits says.config (λ pid q here lives goes. says.tops pid q here) m old e

-- what is due, with what the box gets
then-is : (m : ℕ) (c : Calling) (made : Planned) (called : Bool) (o : Order)
    → order_then called (committed c made) m o ≡ ChangedTo (committed c made) c.pid m made.effect (called || is_due m made.kernel.jobs) o
then-is m c made called o = ap (λ z. order_where (called || is_due m made.kernel.jobs) z o) (changes m c made)

caller-passes : (n : ℕ) (words : List ℕ) (boxes : Bool) (k : KernelState) (c : Calling) (made : Planned) → Commit n words boxes k c made → (due ended : Bool) (x : Setting) (o : Order) → is_end made.answer ≡ ended
    → Agrees k (Runs c.pid c.thread) true x o → Agrees (committed c made) (record_by ended c) (not ended) x (ChangedTo (committed c made) c.pid c.hart made.effect due o)
caller-passes n words boxes k c made a due true x o e old =
    let f = a.now.under_way in
    (refl, subst (λ z. is_start (ChangedTo (committed c made) c.pid c.hart made.effect due z) ≡ false) (sym old.1) (caller-quiet (committed c made) c made.closing made.effect due f.effect))
caller-passes n words boxes k c made a due false x o e old =
    let f = a.now.under_way in
    let w = waiting words k c a.fits a.waits in
    let says = a.says in (
      old.0 ∙ sym (same-settings n words boxes k c made a c.hart (Runs c.pid c.thread) w.caller c.pid c.thread refl),
      caller-still (committed c made) c made.closing made.effect due o f.effect (goes_on says.does) ∙ old.1,
    )
  where
    goes_on : PlanDoes boxes k c made → NoEnd made.effect
    goes_on (Calm q r) = calm-no-end made.effect q
    goes_on (EndsThread q r) = subst NoEnd (sym q) tt
    goes_on (Spawns hart start number q i r j) = subst NoEnd (sym q) tt
    goes_on (Forks hart start number b q i r j) = subst NoEnd (sym q) tt
    goes_on (EndsProcess status b q ans r j) = absurd (let d : is_end made.answer ≡ true = ap is_end ans in let z : ⊥ = grind (arith, d, e) in z)

-- another hart than the caller
other-starts : (words : List ℕ) (k : KernelState) (c : Calling) (made : Planned) (m hart : ℕ) (start : thread.Start) (number : Option ℕ) (r : HartRecord) (running : Bool) (x : Setting) (o : Order) (due : Bool)
    → StartFits (committed c made) c.hart hart start → slice_get k.records hart ≡ Some Idle → made.kernel.records ≡ slice_set k.records hart (Runs start.pid number)
    → slice_get made.kernel.records m ≡ Some r → (hart ≡ m → due ≡ true)
    → ((old : HartRecord) → slice_get k.records m ≡ Some old → (pid : ℕ) (number : Option ℕ) → old ≡ Runs pid number → setting_in (committed c made) pid ≡ setting_in k pid)
    → ((old : HartRecord) → slice_get k.records m ≡ Some old → Agrees k old running x o)
    → Agrees (committed c made) r running x (ChangedTo (committed c made) c.pid m (Starts hart start) due o)
other-starts words k c made m hart start number r running x o due f idle recs here is_told same old = go (hart == m) refl
  where
    go : (b : Bool) → (hart == m) ≡ b → Agrees (committed c made) r running x (ChangedTo (committed c made) c.pid m (Starts hart start) due o)
    go true d =
        let at_m : hart ≡ m = grind (arith, nat_tests, d) in
        let record_is : slice_get made.kernel.records hart ≡ Some (Runs start.pid number) = ap (λ rs. slice_get rs hart) recs ∙ get-put_same k.records hart Idle (Runs start.pid number) idle in
        let is_r : Runs start.pid number ≡ r = (let q : Some (Runs start.pid number) ≡ Some r = sym record_is ∙ subst (λ z. slice_get made.kernel.records z ≡ Some r) (sym at_m) here in cc) in
        let was = old Idle (subst (λ z. slice_get k.records z ≡ Some Idle) at_m idle) in
        let order_is : ChangedTo (committed c made) c.pid m (Starts hart start) due o ≡ Start start =
        started-order (committed c made) c.pid m hart start true due o d ∙ ap (λ z. order_where z (Put (Start start)) o) (is_told at_m) in
        subst (λ z. Agrees (committed c made) z running x (ChangedTo (committed c made) c.pid m (Starts hart start) due o)) is_r
        (subst (Agrees (committed c made) (Runs start.pid number) running x) (sym order_is)
        (idle-starts k (committed c made) start number running x o (started-setting (committed c made) c.hart hart start f) was))
    go false d =
        let apart : hart ≢ m = grind (arith, nat_tests, d) in
        let at_m : slice_get k.records m ≡ Some r = sym (get-put_other k.records hart m (Runs start.pid number) apart) ∙ sym (ap (λ rs. slice_get rs m) recs) ∙ here in
        subst (Agrees (committed c made) r running x) (sym (other-order (committed c made) c.pid m hart start due o apart))
        (agrees-same k (committed c made) r running x o (same r at_m) (old r at_m))

other-passes : (n : ℕ) (words : List ℕ) (boxes : Bool) (k : KernelState) (c : Calling) (made : Planned) → Commit n words boxes k c made → PlanDoes boxes k c made
    → (m : ℕ) (r : HartRecord) (running : Bool) (x : Setting) (o : Order) (called : Bool) → m ≢ n → slice_get made.kernel.records m ≡ Some r → (boxes ≡ true → called ≡ true)
    → ((old : HartRecord) → slice_get k.records m ≡ Some old → Agrees k old running x o)
    → Agrees (committed c made) r running x (ChangedTo (committed c made) c.pid m made.effect (called || is_due m made.kernel.jobs) o)
other-passes n words boxes k c made a (Calm q recs) m r running x o called apart here all old =
    let at_m : slice_get k.records m ≡ Some r = ap (λ rs. slice_get rs m) (sym recs) ∙ here in
    subst (Agrees (committed c made) r running x) (sym (calm-order (committed c made) c.pid m made.effect (called || is_due m made.kernel.jobs) o q))
    (agrees-same k (committed c made) r running x o (same-settings n words boxes k c made a m r at_m) (old r at_m))
other-passes n words boxes k c made a (EndsThread q recs) m r running x o called apart here all old =
    let not_caller : c.hart ≢ m = (λ e. apart (sym e ∙ a.own)) in
    let at_m : slice_get k.records m ≡ Some r = sym (get-put_other k.records c.hart m Idle not_caller) ∙ sym (ap (λ rs. slice_get rs m) recs) ∙ here in
    subst (Agrees (committed c made) r running x) (sym (calm-order (committed c made) c.pid m made.effect (called || is_due m made.kernel.jobs) o (subst IsCalm (sym q) tt)))
    (agrees-same k (committed c made) r running x o (same-settings n words boxes k c made a m r at_m) (old r at_m))
other-passes n words boxes k c made a (Spawns hart start number q idle recs jobs) m r running x o called apart here all old =
    let f = a.now.under_way in
    let e : EffectFits (committed c made) c made.closing (Starts hart start) = subst (EffectFits (committed c made) c made.closing) q f.effect in
    subst (λ z. Agrees (committed c made) r running x (ChangedTo (committed c made) c.pid m z (called || is_due m made.kernel.jobs) o)) (sym q)
    (other-starts words k c made m hart start number r running x o (called || is_due m made.kernel.jobs) e.1 idle recs here
    (λ at_m. (let t : is_due m (Tell hart ∷ []) ≡ true = grind (arith, nat_tests, at_m) in let d : is_due m made.kernel.jobs ≡ true = ap (is_due m) jobs ∙ t in either called (is_due m made.kernel.jobs) d))
    (same-settings n words boxes k c made a m) old)
  where
    either : (u v : Bool) → v ≡ true → (u || v) ≡ true
    either true v e = refl
    either false v e = e
other-passes n words boxes k c made a (Forks hart start number shut q idle recs jobs) m r running x o called apart here all old =
    let f = a.now.under_way in
    let e : EffectFits (committed c made) c made.closing (Starts hart start) = subst (EffectFits (committed c made) c made.closing) q f.effect in
    subst (λ z. Agrees (committed c made) r running x (ChangedTo (committed c made) c.pid m z (called || is_due m made.kernel.jobs) o)) (sym q)
    (other-starts words k c made m hart start number r running x o (called || is_due m made.kernel.jobs) e.1 idle recs here
    (λ at_m. ap (λ z. z || is_due m made.kernel.jobs) (all shut)) (same-settings n words boxes k c made a m) old)
other-passes n words boxes k c made a (EndsProcess status shut q ans recs jobs) m r running x o called apart here all old =
    let not_caller : c.hart ≢ m = (λ e. apart (sym e ∙ a.own)) in
    let mapped : slice_get (map (record_stopped c.pid) k.records) m ≡ Some r = sym (get-put_other (map (record_stopped c.pid) k.records) c.hart m Idle not_caller) ∙ sym (ap (λ rs. slice_get rs m) recs) ∙ here in
    let was = get-map (record_stopped c.pid) k.records m r mapped in
    let order_is : ChangedTo (committed c made) c.pid m made.effect (called || is_due m made.kernel.jobs) o ≡ order_put (end_change (committed c made) c.pid m) o =
    ap (λ z. ChangedTo (committed c made) c.pid m z (called || is_due m made.kernel.jobs) o) q
    ∙ ap (λ z. order_where (z || is_due m made.kernel.jobs) (end_change (committed c made) c.pid m) o) (all shut) in
    subst (Agrees (committed c made) r running x) (sym order_is)
    (subst (λ z. Agrees (committed c made) z running x (order_put (end_change (committed c made) c.pid m) o)) (sym was.2)
    (ended-agrees k (committed c made) c.pid m was.0 running x o (here ∙ ap Some was.2) (same-settings n words boxes k c made a m was.0 was.1)
    (λ p number e not_it. some-lives (committed c made) c.pid p (still-there p number was.0 e not_it was.1 was.2) not_it)
    (old was.0 was.1)))
  where
    still-there : (p : ℕ) (number : Option ℕ) → (y : HartRecord) → y ≡ Runs p number → p ≢ c.pid → slice_get k.records m ≡ Some y → r ≡ record_stopped c.pid y → is_living (process_at (committed c made) p) ≡ true
    still-there p number y e not_it at_m is =
        let other : (p == c.pid) ≡ false = grind (arith, nat_tests, not_it) in
        let stays : record_stopped c.pid y ≡ Runs p number = ap (record_stopped c.pid) e ∙ ap (λ b. if b then Stopped c.pid else Runs p number) other in
        a.now.records.lives m p number (here ∙ ap Some (is ∙ stays))

-- ---- what is due of it
calm-due : (jobs : List Job) (effect : Effect) → IsCalm effect → DueBy jobs effect
calm-due jobs Nothing e = tt
calm-due jobs Clears e = tt
calm-due jobs (Starts hart start) e = absurd e
calm-due jobs (Ends status) e = absurd e

plan-due : (boxes : Bool) (k : KernelState) (c : Calling) (made : Planned) → PlanDoes boxes k c made → DueBy made.kernel.jobs made.effect
plan-due boxes k c made (Calm q recs) = calm-due made.kernel.jobs made.effect q
plan-due boxes k c made (EndsThread q recs) = subst (DueBy made.kernel.jobs) (sym q) tt
plan-due boxes k c made (Spawns hart start number q idle recs jobs) = subst (DueBy made.kernel.jobs) (sym q) (inl jobs)
plan-due boxes k c made (Forks hart start number shut q idle recs none) = subst (DueBy made.kernel.jobs) (sym q) (inr none)
plan-due boxes k c made (EndsProcess status shut q ans recs jobs) = subst (DueBy made.kernel.jobs) (sym q) jobs

calm-put : (k : KernelState) (pid m : ℕ) (effect : Effect) (order : Order) → IsCalm effect → change_of k pid m effect ≡ Put order → ⊥
calm-put k pid m Nothing order e put = grind (arith, put)
calm-put k pid m Clears order e put = grind (arith, put)
calm-put k pid m (Starts hart start) order e put = e
calm-put k pid m (Ends status) order e put = e

plan-told : (k : KernelState) (c : Calling) (made : Planned) (boxes : Bool) → PlanDoes boxes k c made → (m : ℕ) (running : Bool) (x : Setting) (o order : Order)
    → is_due m made.kernel.jobs ≡ true → change_of (committed c made) c.pid m made.effect ≡ Put order
    → ((old : HartRecord) → slice_get k.records m ≡ Some old → Agrees k old running x o) → is_start o ≡ false
plan-told k c made boxes (Calm q recs) m running x o order due put old = absurd (calm-put (committed c made) c.pid m made.effect order q put)
plan-told k c made boxes (EndsThread q recs) m running x o order due put old = absurd (calm-put (committed c made) c.pid m made.effect order (subst IsCalm (sym q) tt) put)
plan-told k c made boxes (Spawns hart start number q idle recs jobs) m running x o order due put old = go (hart == m) refl
  where
    go : (b : Bool) → (hart == m) ≡ b → is_start o ≡ false
    go true d =
        let at_m : hart ≡ m = grind (arith, nat_tests, d) in
        let was = old Idle (subst (λ z. slice_get k.records z ≡ Some Idle) at_m idle) in was.1
    go false d =
        let t : is_due m (Tell hart ∷ []) ≡ false = grind (arith, nat_tests, d) in
        let e : is_due m made.kernel.jobs ≡ false = ap (is_due m) jobs ∙ t in absurd (let b : ⊥ = grind (arith, e, due) in b)
plan-told k c made boxes (Forks hart start number shut q idle recs none) m running x o order due put old =
    absurd (let e = none m in let b : ⊥ = grind (arith, e, due) in b)
plan-told k c made boxes (EndsProcess status shut q ans recs jobs) m running x o order due put old =
    absurd (let e : is_due m made.kernel.jobs ≡ false = ap (is_due m) jobs in let b : ⊥ = grind (arith, e, due) in b)

commit-passes : (n : ℕ) (words : List ℕ) (boxes : Bool) (k : KernelState) (c : Calling) (made : Planned) → Commit n words boxes k c made → Passes n true (not (is_end made.answer)) boxes k (committed c made)
commit-passes n words boxes k c made a =
    let says = a.says in
    let f = a.now.under_way in
    let w = waiting words k c a.fits a.waits in record {
      config = says.config;
      due = plan-due boxes k c made says.does;
      mine = λ r x o called here all old. (let at_n : slice_get made.kernel.records c.hart ≡ Some r = ap (λ z. slice_get made.kernel.records z) a.own ∙ here in
          let is : record_by (is_end made.answer) c ≡ r = (let q : Some (record_by (is_end made.answer) c) ≡ Some r = sym f.caller ∙ at_n in cc) in
          let was : Agrees k (Runs c.pid c.thread) true x o = old (Runs c.pid c.thread) (ap (λ z. slice_get k.records z) (sym a.own) ∙ w.caller) in
          let order_is : order_then called (committed c made) n o ≡ ChangedTo (committed c made) c.pid c.hart made.effect (called || is_due n made.kernel.jobs) o =
          then-is n c made called o ∙ ap (λ z. ChangedTo (committed c made) c.pid z made.effect (called || is_due n made.kernel.jobs) o) (sym a.own) in
          subst (λ z. Agrees (committed c made) z (not (is_end made.answer)) x (order_then called (committed c made) n o)) is
          (subst (Agrees (committed c made) (record_by (is_end made.answer) c) (not (is_end made.answer)) x) (sym order_is)
          (caller-passes n words boxes k c made a (called || is_due n made.kernel.jobs) (is_end made.answer) x o refl was)));
      others = λ m r running x o called apart here all old.
          subst (Agrees (committed c made) r running x) (sym (then-is m c made called o)) (other-passes n words boxes k c made a says.does m r running x o called apart here all old);
      told = λ m running x o start due put old. plan-told k c made boxes says.does m running x o (Start start) due (sym (changes m c made) ∙ put) old;
    }

-- ---- the plan of a call that waits
plan-is : (found : Found) (k : KernelState) (c : Calling) (p : Process) → k.under_way ≡ Waiting c → process_at k c.pid ≡ Some p → (plan found k).kernel ≡ committed c (plan_of found c p k)
unfolding plan
plan-is found k c p e f = ap (λ u. (plan_waiting found u k).kernel) e ∙ ap (λ o. (plan_by found c o k).kernel) f

returns-by : (k : KernelState) (c : Calling) (made : Planned) → is_living (process_at (committed c made) c.pid) ≡ true
    → runs_resumed (finish (committed c made)).resume ≡ not (is_end made.answer)
unfolding finish
returns-by k c made lives =
    let p = there (process_at (committed c made) c.pid) lives in
    ap (λ o. runs_resumed (returned (record { calling = c; answer = made.answer; effect = made.effect; closing = made.closing }) o (committed c made)).resume) p.1
    ∙ resume-runs p.0.space.objects c.call made.answer

pub plan-passes : (n f : ℕ) (words : List ℕ) (found : Found) (k : KernelState) (c : Calling) (p : Process) → KernelFits words k → k.under_way ≡ Waiting c → c.hart ≡ n
    → process_at k c.pid ≡ Some p → HasTop f p.space.tables
    → Passes n true (runs_resumed (finish (plan found k).kernel).resume) (takes_boxes (first_step c p k (meant c.call))) k (plan found k).kernel
plan-passes n f words found k c p fits e own here top =
    let made = plan_of found c p k in
    let is = plan-is found k c p e here in
    let w = waiting words k c fits e in
    let now : KernelFits words (committed c made) = subst (KernelFits words) is (plans_keep words found k c fits e) in
    let a : Commit n words (takes_boxes (first_step c p k (meant c.call))) k c made =
    record { fits = fits; waits = e; own = own; says = plan-says f k c p found (meant c.call) here top w.jobs; now = now } in
    let r = now.under_way in
    subst (λ z. Passes n true (runs_resumed (finish z).resume) (takes_boxes (first_step c p k (meant c.call))) k z) (sym is)
    (subst (λ b. Passes n true b (takes_boxes (first_step c p k (meant c.call))) k (committed c made)) (sym (returns-by k c made r.lives))
    (commit-passes n words (takes_boxes (first_step c p k (meant c.call))) k c made a))
