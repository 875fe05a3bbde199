-- How the records stay so where the kernel takes a step: it begins a call, plans it, or is given back.
use Rattle.std.proofs.Common.{ℕ, ◌≡◌, ◌≢◌, Bool, true, false, ◌||◌, Option, Some, None, is_none, List, [], slice_get, arith, refl, sym, ap, subst, ◌∙◌}
use Rattle.osc_word.specs.declared.settings.Config.{Config}
use Rattle.osc_word.specs.declared.orders.Order.{Order}
use Rattle.osc_word.specs.declared.orders.Order.TheVariants.{Start}
use Rattle.osc_word.specs.declared.orders.Start as thread
use Rattle.osc_calls.specs.declared.BoxChange.TheVariants.{Keep, Put}
use Rattle.osc_calls.specs.declared.HartRecord.{HartRecord}
use Rattle.osc_calls.specs.declared.HartRecord.TheVariants.{Runs}
use Rattle.osc_calls.specs.Kernel.{KernelState, Process, UnderWay, Quiet, Retrying, Leaving, Waiting, Returning, process_at, root}
use Rattle.osc_calls.specs.Boxes.{change_by, box_change}
use Rattle.osc_settled.specs.KernelFits.{KernelFits}
use Rattle.osc_settled.specs.Records.{is_living, ending}
use Rattle.osc_records.specs.Agreeing.{Setting, setting_in, is_start, is_due, order_where, order_then, Agrees, DueFits}
use Rattle.osc_records.proofs.Taking.{same-fields, agrees-same}

-- ---- boxes that no call changes
abbrev pub NoReturn : UnderWay → Type 0
NoReturn (Returning done) = ⊥
NoReturn _ = Unit {0}

kept-by : (n : ℕ) (k : KernelState) (u : UnderWay) → NoReturn u → change_by k n u ≡ Keep
kept-by n k Quiet e = refl
kept-by n k Retrying e = refl
kept-by n k (Leaving hart) e = refl
kept-by n k (Waiting c) e = refl
kept-by n k (Returning done) e = absurd e

pub kept : (n : ℕ) (k : KernelState) (u : UnderWay) → k.under_way ≡ u → NoReturn u → box_change n k ≡ Keep
unfolding box_change
kept n k u e none = ap (change_by k n) e ∙ kept-by n k u none

where-kept : (due : Bool) (o : Order) → order_where due Keep o ≡ o
where-kept true o = refl
where-kept false o = refl

pub then-kept : (called : Bool) (k : KernelState) (n : ℕ) (o : Order) → box_change n k ≡ Keep → order_then called k n o ≡ o
then-kept called k n o e = ap (λ c. order_where (called || is_due n k.jobs) c o) e ∙ where-kept (called || is_due n k.jobs) o

-- nothing is due, and the box is not in a call's hand
pub then-none : (k : KernelState) (n : ℕ) (o : Order) → k.jobs ≡ [] → order_then false k n o ≡ o
then-none k n o e = ap (λ js. order_where (is_due n js) (box_change n k) o) e

-- ---- what is shown of a step of the kernel
-- Hart n has the kernel, which goes on from k. Before, no box is to be changed. `was` and `now` tell whether hart n
-- runs a thread in the end; with `shut` all boxes are in its hand.
pub record Passes (n : ℕ) (was now shut : Bool) (k next : KernelState) : Type 0 where
  pub config : next.config ≡ k.config
  pub due : DueFits next.jobs next.under_way
  pub mine : (r : HartRecord) (x : Setting) (o : Order) (called : Bool) → slice_get next.records n ≡ Some r → (shut ≡ true → called ≡ true)
      → ((old : HartRecord) → slice_get k.records n ≡ Some old → Agrees k old was x o) → Agrees next r now x (order_then called next n o)
  pub others : (m : ℕ) (r : HartRecord) (running : Bool) (x : Setting) (o : Order) (called : Bool) → m ≢ n → slice_get next.records m ≡ Some r → (shut ≡ true → called ≡ true)
      → ((old : HartRecord) → slice_get k.records m ≡ Some old → Agrees k old running x o) → Agrees next r running x (order_then called next m o)
  pub told : (m : ℕ) (running : Bool) (x : Setting) (o : Order) (start : thread.Start) → is_due m next.jobs ≡ true → box_change m next ≡ Put (Start start)
      → ((old : HartRecord) → slice_get k.records m ≡ Some old → Agrees k old running x o) → is_start o ≡ false

-- ---- the settings of the processes that live
pub setting-same : (k next : KernelState) (pid : ℕ) → next.config ≡ k.config → root next pid ≡ root k pid → setting_in next pid ≡ setting_in k pid
setting-same k next pid config top =
    same-fields pid pid (root next pid) (root k pid) next.config.levels k.config.levels next.config.frames k.config.frames refl top (ap (λ (c : Config). c.levels) config) (ap (λ (c : Config). c.frames) config)

pub there : (o : Option Process) → is_living o ≡ true → (p : Process) × (o ≡ Some p) × (p.status ≡ None)
there None e = absurd (let b : ⊥ = grind (arith, e) in b)
there (Some p) e = (p, refl, none p.status e)
  where
    none : (s : Option ℕ) → is_none s ≡ true → s ≡ None
    none None e = refl
    none (Some status) e = absurd (let b : ⊥ = grind (arith, e) in b)

-- each process that a record names keeps its topmost table
pub settings : (words : List ℕ) (k next : KernelState) → KernelFits words k → next.config ≡ k.config
    → ((pid : ℕ) (q : Process) → process_at k pid ≡ Some q → q.status ≡ None → ending k.under_way ≢ Some pid → root next pid ≡ root k pid)
    → (m : ℕ) (old : HartRecord) → slice_get k.records m ≡ Some old → (pid : ℕ) (number : Option ℕ) → old ≡ Runs pid number → setting_in next pid ≡ setting_in k pid
settings words k next fits config tops m old e pid number same =
    let at_m : slice_get k.records m ≡ Some (Runs pid number) = e ∙ ap Some same in
    let p = there (process_at k pid) (fits.records.lives m pid number at_m) in
    setting-same k next pid config (tops pid p.0 p.1 p.2 (fits.records.goes_on m pid number at_m))

-- where the kernel changes none of records, topmost tables and configuration, and no call returns after it
pub still-passes : (n : ℕ) (was now : Bool) (words : List ℕ) (k next : KernelState) (u : UnderWay) → KernelFits words k → next.config ≡ k.config → next.records ≡ k.records
    → ((pid : ℕ) (q : Process) → process_at k pid ≡ Some q → q.status ≡ None → ending k.under_way ≢ Some pid → root next pid ≡ root k pid)
    → next.under_way ≡ u → NoReturn u
    → ((r : HartRecord) (x : Setting) (o : Order) → slice_get k.records n ≡ Some r → Agrees k r was x o → Agrees k r now x o)
    → Passes n was now false k next
still-passes n was now words k next u fits config records tops e none mine = record {
  config = config;
  due = subst (DueFits next.jobs) (sym e) (nothing u none);
  mine = λ r x o called here all old. (let at_n : slice_get k.records n ≡ Some r = ap (λ rs. slice_get rs n) (sym records) ∙ here in
      subst (Agrees next r now x) (sym (then-kept called next n o (kept n next u e none)))
      (agrees-same k next r now x o (same n r at_n) (mine r x o at_n (old r at_n))));
  others = λ m r running x o called apart here all old. (let at_m : slice_get k.records m ≡ Some r = ap (λ rs. slice_get rs m) (sym records) ∙ here in
      subst (Agrees next r running x) (sym (then-kept called next m o (kept m next u e none)))
      (agrees-same k next r running x o (same m r at_m) (old r at_m)));
  told = λ m running x o start due put old. absurd (let q = kept m next u e none in let b : ⊥ = grind (arith, q, put) in b);
}
  where
    nothing : (u : UnderWay) → NoReturn u → DueFits next.jobs u
    nothing Quiet none = tt
    nothing Retrying none = tt
    nothing (Leaving hart) none = tt
    nothing (Waiting c) none = tt
    nothing (Returning done) none = absurd none

    same : (m : ℕ) (r : HartRecord) → slice_get k.records m ≡ Some r → (pid : ℕ) (number : Option ℕ) → r ≡ Runs pid number → setting_in next pid ≡ setting_in k pid
    same m r at_m = settings words k next fits config tops m r at_m
