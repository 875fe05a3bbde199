-- The record of a hart stays so where the hart takes its own box, and where the kernel's settings stay.
use Rattle.std.proofs.Common.{ℕ, ◌≡◌, Bool, true, false, Option, Some, arith, refl, sym, ap, ◌∙◌}
use Rattle.osc_word.specs.declared.orders.Order.{Order}
use Rattle.osc_word.specs.declared.orders.Order.TheVariants.{Empty, Start, Stop, Over}
use Rattle.osc_word.specs.declared.orders.Start as thread
use Rattle.osc_guest.specs.Hands.{order_left, runs_by}
use Rattle.osc_calls.specs.declared.BoxChange.{BoxChange}
use Rattle.osc_calls.specs.declared.BoxChange.TheVariants.{Keep, Clear, Put}
use Rattle.osc_calls.specs.declared.HartRecord.{HartRecord}
use Rattle.osc_calls.specs.declared.HartRecord.TheVariants.{Idle, Runs, Stopped}
use Rattle.osc_calls.specs.Kernel.{KernelState}
use Rattle.osc_records.specs.Agreeing.{Setting, setting_by, setting_in, is_start, order_where, Agrees, IsObeyed}

-- ---- settings by their fields
abbrev pub setting_from : ℕ → ℕ → ℕ → ℕ → Setting
setting_from pid top levels frames = record { pid = pid; root = top; levels = levels; frames = frames }

pub same-fields : (p q r t l m f g : ℕ) → p ≡ q → r ≡ t → l ≡ m → f ≡ g → setting_from p r l f ≡ setting_from q t m g
same-fields p q r t l m f g a b c d = rw (a, b, c, d) refl

-- ---- the kernel's settings stay
pub agrees-same : (k next : KernelState) (r : HartRecord) (running : Bool) (x : Setting) (o : Order)
    → ((pid : ℕ) (number : Option ℕ) → r ≡ Runs pid number → setting_in next pid ≡ setting_in k pid) → Agrees k r running x o → Agrees next r running x o
agrees-same k next Idle running x o same a = a
agrees-same k next (Runs pid number) true x o same a = (a.0 ∙ sym (same pid number refl), a.1)
agrees-same k next (Runs pid number) false x o same a = a ∙ ap Some (sym (same pid number refl))
agrees-same k next (Stopped pid) true x o same a = a
agrees-same k next (Stopped pid) false x o same a = a

-- ---- what jobs put in boxes
-- an order to begin, or none
abbrev pub IsMild : BoxChange → Type 0
IsMild Keep = Unit {0}
IsMild Clear = Unit {0}
IsMild (Put (Start start)) = Unit {0}
IsMild (Put _) = ⊥

no-start : (k : KernelState) (r : HartRecord) (x : Setting) (start : thread.Start) → Agrees k r true x (Start start) → ⊥
no-start k Idle x start a = let e = a.0 in grind (arith, e)
no-start k (Runs pid number) x start a = let e = a.1 in grind (arith, e)
no-start k (Stopped pid) x start a = grind (arith, a)

-- a hart that runs a thread is told nothing by a job
pub no-put : (k : KernelState) (r : HartRecord) (x : Setting) (due : Bool) (c : BoxChange) (o z : Order) → (due ≡ true → IsMild c) → Agrees k r true x (order_where due c o)
    → order_where due c z ≡ z
no-put k r x false c o z mild a = refl
no-put k r x true Keep o z mild a = refl
no-put k r x true Clear o z mild a = refl
no-put k r x true (Put Empty) o z mild a = absurd (mild refl)
no-put k r x true (Put (Start start)) o z mild a = absurd (no-start k r x start a)
no-put k r x true (Put Stop) o z mild a = absurd (mild refl)
no-put k r x true (Put Over) o z mild a = absurd (mild refl)

-- ---- a hart that runs a thread takes its box
run-raw : (k : KernelState) (r : HartRecord) (x : Setting) (o : Order) → Agrees k r true x o → Agrees k r (runs_by true o) x (order_left true o)
run-raw k r x Empty a = a
run-raw k r x (Start start) a = absurd (no-start k r x start a)
run-raw k Idle x Stop a = absurd (let e = a.0 in let b : ⊥ = grind (arith, e) in b)
run-raw k (Runs pid number) x Stop a = absurd (let e = a.1 in let b : ⊥ = grind (arith, e) in b)
run-raw k (Stopped pid) x Stop a = refl
run-raw k Idle x Over a = absurd (let e = a.0 in let b : ⊥ = grind (arith, e) in b)
run-raw k (Runs pid number) x Over a = absurd (let e = a.1 in let b : ⊥ = grind (arith, e) in b)
run-raw k (Stopped pid) x Over a = refl

pub run-agrees : (k : KernelState) (r : HartRecord) (x : Setting) (due : Bool) (c : BoxChange) (o : Order) → (due ≡ true → IsMild c) → Agrees k r true x (order_where due c o)
    → Agrees k r (runs_by true o) x (order_where due c (order_left true o))
run-agrees k r x due c o mild a =
    rw (no-put k r x due c o (order_left true o) mild a) (run-raw k r x o (let e = no-put k r x due c o o mild a in rw (sym e) a))

pub run-obeyed : (k : KernelState) (r : HartRecord) (x : Setting) (due : Bool) (c : BoxChange) (o : Order) → (due ≡ true → IsMild c) → Agrees k r true x (order_where due c o)
    → IsObeyed (runs_by true o) (order_left true o)
run-obeyed k r x due c Empty mild a = tt
run-obeyed k r x due c (Start start) mild a = absurd (no-start k r x start (let e = no-put k r x due c (Start start) (Start start) mild a in rw (sym e) a))
run-obeyed k r x due c Stop mild a = tt
run-obeyed k r x due c Over mild a = tt

-- ---- an idle hart takes its box
-- the setting that it has then
abbrev pub settled_by : Order → Setting → Setting
settled_by (Start start) x = setting_by start
settled_by _ x = x

idle-raw : (k : KernelState) (r : HartRecord) (x : Setting) (o : Order) → Agrees k r false x o → Agrees k r (runs_by false o) (settled_by o x) (order_left false o)
idle-raw k r x Empty a = a
idle-raw k Idle x (Start start) a = absurd (let e = a.1 in let b : ⊥ = grind (arith, e) in b)
idle-raw k (Runs pid number) x (Start start) a = ((let e : setting_by start ≡ setting_in k pid = cc in e), refl)
idle-raw k (Stopped pid) x (Start start) a = absurd (let b : ⊥ = grind (arith, a) in b)
idle-raw k Idle x Stop a = (refl, refl)
idle-raw k (Runs pid number) x Stop a = absurd (let b : ⊥ = grind (arith, a) in b)
idle-raw k (Stopped pid) x Stop a = refl
idle-raw k Idle x Over a = a
idle-raw k (Runs pid number) x Over a = a
idle-raw k (Stopped pid) x Over a = a

-- where it is to be told to begin
idle-told : (k : KernelState) (r : HartRecord) (x : Setting) (start : thread.Start) (o : Order) → is_start o ≡ false → Agrees k r false x (Start start)
    → Agrees k r (runs_by false o) (settled_by o x) (Start start)
idle-told k r x start Empty e a = a
idle-told k r x start (Start other) e a = absurd (let b : ⊥ = grind (arith, e) in b)
idle-told k r x start Stop e a = a
idle-told k r x start Over e a = a

pub idle-agrees : (k : KernelState) (r : HartRecord) (x : Setting) (due : Bool) (c : BoxChange) (o : Order) → (due ≡ true → IsMild c)
    → ((start : thread.Start) → due ≡ true → c ≡ Put (Start start) → is_start o ≡ false) → Agrees k r false x (order_where due c o)
    → Agrees k r (runs_by false o) (settled_by o x) (order_where due c (order_left false o))
idle-agrees k r x false c o mild new a = idle-raw k r x o a
idle-agrees k r x true Keep o mild new a = idle-raw k r x o a
idle-agrees k r x true Clear o mild new a = idle-raw k r x o a
idle-agrees k r x true (Put Empty) o mild new a = absurd (mild refl)
idle-agrees k r x true (Put (Start start)) o mild new a = idle-told k r x start o (new start refl refl) a
idle-agrees k r x true (Put Stop) o mild new a = absurd (mild refl)
idle-agrees k r x true (Put Over) o mild new a = absurd (mild refl)

pub idle-obeyed : (o : Order) → IsObeyed (runs_by false o) (order_left false o)
idle-obeyed Empty = tt
idle-obeyed (Start start) = tt
idle-obeyed Stop = tt
idle-obeyed Over = tt
