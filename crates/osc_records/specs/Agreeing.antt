-- The record that the kernel has of a hart, beside what the hart does and what its box says. This project's own.
use Rattle.std.specs.Prelude.{ℕ, ◌≡◌, ◌==◌, ◌⊎◌, Bool, true, false, ◌||◌, if◌then◌else◌, Option, Some, None, List, [], ◌∷◌}
use Rattle.std.specs.List.{list_any}
use Rattle.osc_word.specs.declared.job_list.Job.{Job}
use Rattle.osc_word.specs.declared.job_list.Job.TheVariants.{ClearBox, Tell}
use Rattle.osc_word.specs.declared.orders.Order.{Order}
use Rattle.osc_word.specs.declared.orders.Order.TheVariants.{Empty, Start, Stop, Over}
use Rattle.osc_word.specs.declared.orders.Start as thread
use Rattle.osc_guest.specs.User.{UserHart}
use Rattle.osc_calls.specs.declared.Begun.{Begun}
use Rattle.osc_calls.specs.declared.Begun.TheVariants.{Boxes}
use Rattle.osc_calls.specs.declared.BoxChange.{BoxChange}
use Rattle.osc_calls.specs.declared.BoxChange.TheVariants.{Put}
use Rattle.osc_calls.specs.declared.HartRecord.{HartRecord}
use Rattle.osc_calls.specs.declared.HartRecord.TheVariants.{Idle, Runs, Stopped}
use Rattle.osc_calls.specs.Kernel.{KernelState, Process, Calling, UnderWay, Waiting, Returning, Effect, Nothing, Clears, Starts, Ends, process_at, root}
use Rattle.osc_calls.specs.Requests.{meant}
use Rattle.osc_calls.specs.Begin.{first_step}
use Rattle.osc_calls.specs.Boxes.{box_change}

-- ---- where a thread runs
-- in which process, with which topmost table, and with which sizes
pub record Setting : Type 0 where
  pub pid : ℕ
  pub root : ℕ
  pub levels : ℕ
  pub frames : ℕ

abbrev pub setting_of : UserHart → Setting
setting_of h = record { pid = h.pid; root = h.root; levels = h.levels; frames = h.frames }

abbrev pub setting_by : thread.Start → Setting
setting_by start = record { pid = start.pid; root = start.root; levels = start.levels; frames = start.frames }

-- that of each thread of a process, as the kernel has it
abbrev pub setting_in : KernelState → ℕ → Setting
setting_in k pid = record { pid = pid; root = root k pid; levels = k.config.levels; frames = k.config.frames }

-- ---- orders
abbrev pub start_setting : Order → Option Setting
start_setting (Start start) = Some (setting_by start)
start_setting _ = None

abbrev pub is_start : Order → Bool
is_start (Start start) = true
is_start _ = false

abbrev pub is_halt : Order → Bool
is_halt Stop = true
is_halt Over = true
is_halt _ = false

-- ---- the order in a hart's box, in the end
-- a job changes the box of a hart
abbrev pub changes_box : ℕ → Job → Bool
changes_box hart (ClearBox other) = other == hart
changes_box hart (Tell other) = other == hart
changes_box hart _ = false

abbrev pub is_due : ℕ → List Job → Bool
is_due hart jobs = list_any (changes_box hart) jobs

abbrev pub order_put : BoxChange → Order → Order
order_put (Put order) was = order
order_put _ was = was

abbrev pub order_where : Bool → BoxChange → Order → Order
order_where due change was = if due then order_put change was else was

-- once the call under way has changed the box: by a job that is still to be done, or as its hart gives it
abbrev pub order_then : Bool → KernelState → ℕ → Order → Order
order_then called k n was = order_where (called || is_due n k.jobs) (box_change n k) was

-- ---- the record of a hart
-- with this record a hart runs a thread or does not, in this setting and with this order in its box
abbrev pub Agrees : KernelState → HartRecord → Bool → Setting → Order → Type 0
Agrees k Idle running setting order = (running ≡ false) × (is_start order ≡ false)
Agrees k (Runs pid thread) true setting order = (setting ≡ setting_in k pid) × (order ≡ Empty)
Agrees k (Runs pid thread) false setting order = start_setting order ≡ Some (setting_in k pid)
Agrees k (Stopped pid) true setting order = is_halt order ≡ true
Agrees k (Stopped pid) false setting order = is_start order ≡ false

-- the order in the box that a hart has in its own hand: it was obeyed, or the hart goes to rest
abbrev pub IsObeyed : Bool → Order → Type 0
IsObeyed running Empty = Unit {0}
IsObeyed false Over = Unit {0}
IsObeyed _ _ = ⊥

-- ---- the call under way
-- what is due of a committed call: a thread is told to one hart, or to none by a job; an end has no jobs
abbrev pub DueBy : List Job → Effect → Type 0
DueBy jobs Nothing = Unit {0}
DueBy jobs Clears = Unit {0}
DueBy jobs (Starts hart start) = (jobs ≡ Tell hart ∷ []) ⊎ ((n : ℕ) → is_due n jobs ≡ false)
DueBy jobs (Ends status) = jobs ≡ []

abbrev pub DueFits : List Job → UnderWay → Type 0
DueFits jobs (Returning done) = DueBy jobs done.effect
DueFits jobs _ = Unit {0}

-- a call that reads a header takes no boxes
abbrev pub takes_boxes : Begun → Bool
takes_boxes Boxes = true
takes_boxes _ = false

abbrev pub TakesNone : KernelState → Type 0
TakesNone k =
    (c : Calling) (p : Process) → k.under_way ≡ Waiting c → process_at k c.pid ≡ Some p → takes_boxes (first_step c p k (meant c.call)) ≡ false
