-- What every row of the table of instructions has, and every call: each deed meets a condition Q that only
-- those of write can break, and an error that a choice brings meets R.
use Rattle.std.proofs.Common.{◌≡◌, ℕ, ◌==◌, Bool, true, false, cond, Option, Some, None, Result, Ok, Err, refl, slice_get}
use Rattle.std.specs.Prelude.{nat_lt, List}
use Rattle.osc_word.specs.declared.steps.Choice.{Choice}
use Rattle.osc_word.specs.declared.steps.Choice.TheVariants as choice
use Rattle.osc_word.specs.declared.calls.Call.{Call}
use Rattle.osc_word.specs.declared.calls.Call.TheVariants as call
use Rattle.osc_word.specs.Environment.{call_numbered}
use Rattle.osc_sv39.specs.declared.entries.Access.TheVariants as access
use Rattle.osc_isa.specs.Atomic.{width_of, sc_failure}
use Rattle.osc_world.specs.declared.Place.{Place}
use Rattle.osc_rv.specs.declared.instr.Instr.{Instr}
use Rattle.osc_rv.specs.declared.instr.Instr.TheVariants as instr
use Rattle.osc_rv.specs.declared.instr.UpperOp.TheVariants.{Lui, Auipc}
use Rattle.osc_rv.specs.declared.instr.Width.{Width}
use Rattle.osc_world.specs.declared.Value.{Value}
use Rattle.osc_world.specs.declared.Value.TheVariants.{Num, Ptr}
use Rattle.osc_world.specs.declared.ObjectWhy.{ObjectWhy}
use Rattle.osc_world.specs.declared.ObjectWhy.TheVariants.{BadFree}
use Rattle.osc_world.specs.States.{Hart}
use Rattle.osc_world.specs.Deeds.{Steps, Heaps, Writes, Shares, Forks, Spawns, Exits, Leaves, answers}
use Rattle.osc_world.specs.Offers.{Meaning, Goes, Errs, Unfit, Only, Grants, Starts, Conditional, Never, is_idle, chosen, answers_if, shares, provided, then_try}
use Rattle.osc_world.specs.World.{World, WorldTurn, WorldStep, WorldDeed, WorldOffer, WorldPut, Makes, Kills, Replaces}
use Rattle.osc_world.specs.Accesses.{aimed, is_storable, puts}
use Rattle.osc_world.specs.Instructions.{register_of, objects_of, conditional, conditional_step, holds_reservation, succeeds}
use Rattle.osc_world.specs.Calls.{with_number, only_deed, malloc_offer, free_deed, realloc_offer, is_live_start, write_deed, serves, calls}
use Rattle.osc_world.specs.Events.{only_step, offered, meaning_of, meaning_by, does, IsNoConditional, LeavesNothingOpen}

-- all instructions but calls and store-conditionals are steps that leave nothing to choose
pub rows : (turn : WorldTurn) (P : Instr → Result WorldOffer ObjectWhy → Type 0)
    → ((i : Instr) (r : Result WorldStep ObjectWhy) → P i (only_step r)) → P instr.Ecall (calls turn)
    → ((width : Width) (rd rs1 rs2 : ℕ) (aq rl : Bool) → P (instr.Sc width rd rs1 rs2 aq rl) (conditional turn width rd (register_of turn rs1) (register_of turn rs2)))
    → (i : Instr) → P i (offered turn i)
unfolding offered
rows turn P all ecall sc (instr.Upper Lui rd imm) = all (instr.Upper Lui rd imm) (Ok _)
rows turn P all ecall sc (instr.Upper Auipc rd imm) = all (instr.Upper Auipc rd imm) (Ok _)
rows turn P all ecall sc (instr.Jal rd half) = all (instr.Jal rd half) _
rows turn P all ecall sc (instr.Jalr rd rs1 imm) = all (instr.Jalr rd rs1 imm) _
rows turn P all ecall sc (instr.Branch kind rs1 rs2 half) = all (instr.Branch kind rs1 rs2 half) _
rows turn P all ecall sc (instr.Load kind rd rs1 imm) = all (instr.Load kind rd rs1 imm) _
rows turn P all ecall sc (instr.Store kind rs1 rs2 imm) = all (instr.Store kind rs1 rs2 imm) _
rows turn P all ecall sc (instr.Imm op rd rs1 imm) = all (instr.Imm op rd rs1 imm) _
rows turn P all ecall sc (instr.Shift op rd rs1 amount) = all (instr.Shift op rd rs1 amount) _
rows turn P all ecall sc (instr.ShiftW op rd rs1 amount) = all (instr.ShiftW op rd rs1 amount) _
rows turn P all ecall sc (instr.Op op rd rs1 rs2) = all (instr.Op op rd rs1 rs2) _
rows turn P all ecall sc (instr.Mul op rd rs1 rs2) = all (instr.Mul op rd rs1 rs2) _
rows turn P all ecall sc (instr.Fence bits) = all (instr.Fence bits) (Ok _)
rows turn P all ecall sc (instr.FenceI bits) = all (instr.FenceI bits) (Ok _)
rows turn P all ecall sc instr.Ecall = ecall
rows turn P all ecall sc instr.Ebreak = all instr.Ebreak (Err _)
rows turn P all ecall sc (instr.Amo op width rd rs1 rs2 aq rl) = all (instr.Amo op width rd rs1 rs2 aq rl) _
rows turn P all ecall sc (instr.Lr width rd rs1 aq rl) = all (instr.Lr width rd rs1 aq rl) _
rows turn P all ecall sc (instr.Sc width rd rs1 rs2 aq rl) = sc width rd rs1 rs2 aq rl

-- ---- choices

unfoldable pub OfMeaning : (Q : WorldDeed → Type 0) (R : Type 0) → Meaning WorldDeed ObjectWhy → Type 0
OfMeaning Q R (Goes deed) = Q deed
OfMeaning Q R (Errs why) = R
OfMeaning Q R Unfit = Unit {0}

unfoldable pub OfOffer : (Q : WorldDeed → Type 0) (R : Type 0) → WorldOffer → Type 0
OfOffer Q R (Only deed) = Q deed
OfOffer Q R (Grants given refused) = OfMeaning Q R given × Q refused
OfOffer Q R (Starts deed refused) = ((hart : ℕ) → Q (deed hart)) × Q refused
OfOffer Q R (Conditional success failure) = OfMeaning Q R success × Q failure
OfOffer Q R Never = Unit {0}

unfoldable pub OfResult : (Q : WorldDeed → Type 0) (R : Type 0) → Result WorldOffer ObjectWhy → Type 0
OfResult Q R (Ok offer) = OfOffer Q R offer
OfResult Q R (Err why) = Unit {0}

unfoldable pub OfDeed : (Q : WorldDeed → Type 0) → Result WorldDeed ObjectWhy → Type 0
OfDeed Q (Ok deed) = Q deed
OfDeed Q (Err why) = Unit {0}

pub chosen-of : (Q : WorldDeed → Type 0) (R : Type 0) (harts : List (Hart Value)) (offer : WorldOffer) (c : Choice) → OfOffer Q R offer → OfMeaning Q R (chosen harts offer c)
unfolding chosen OfOffer OfMeaning
chosen-of Q R harts (Only deed) choice.Plain q = q
chosen-of Q R harts (Only deed) choice.Given q = tt
chosen-of Q R harts (Only deed) choice.Refused q = tt
chosen-of Q R harts (Only deed) (choice.Started h) q = tt
chosen-of Q R harts (Only deed) choice.Success q = tt
chosen-of Q R harts (Only deed) choice.Fail q = tt
chosen-of Q R harts (Grants given refused) choice.Plain q = tt
chosen-of Q R harts (Grants given refused) choice.Given q = q.0
chosen-of Q R harts (Grants given refused) choice.Refused q = q.1
chosen-of Q R harts (Grants given refused) (choice.Started h) q = tt
chosen-of Q R harts (Grants given refused) choice.Success q = tt
chosen-of Q R harts (Grants given refused) choice.Fail q = tt
chosen-of Q R harts (Starts deed refused) choice.Plain q = tt
chosen-of Q R harts (Starts deed refused) choice.Given q = tt
chosen-of Q R harts (Starts deed refused) choice.Refused q = q.1
chosen-of Q R harts (Starts deed refused) (choice.Started h) q = by (is_idle (slice_get harts h))
  where
    by : (b : Bool) → OfMeaning Q R (cond b (Goes (deed h)) Unfit)
    by true = q.0 h
    by false = tt
chosen-of Q R harts (Starts deed refused) choice.Success q = tt
chosen-of Q R harts (Starts deed refused) choice.Fail q = tt
chosen-of Q R harts (Conditional success failure) choice.Plain q = tt
chosen-of Q R harts (Conditional success failure) choice.Given q = tt
chosen-of Q R harts (Conditional success failure) choice.Refused q = tt
chosen-of Q R harts (Conditional success failure) (choice.Started h) q = tt
chosen-of Q R harts (Conditional success failure) choice.Success q = q.0
chosen-of Q R harts (Conditional success failure) choice.Fail q = q.1
chosen-of Q R harts Never choice.Plain q = tt
chosen-of Q R harts Never choice.Given q = tt
chosen-of Q R harts Never choice.Refused q = tt
chosen-of Q R harts Never (choice.Started h) q = tt
chosen-of Q R harts Never choice.Success q = tt
chosen-of Q R harts Never choice.Fail q = tt

-- ---- rows and calls

unfoldable pub IsNoWrite : WorldDeed → Type 0
IsNoWrite (Writes bytes) = ⊥
IsNoWrite (Steps step) = Unit {0}
IsNoWrite (Heaps deed value) = Unit {0}
IsNoWrite (Shares count) = Unit {0}
IsNoWrite (Forks hart) = Unit {0}
IsNoWrite (Spawns hart pc sp arg) = Unit {0}
IsNoWrite (Exits status) = Unit {0}
IsNoWrite (Leaves value) = Unit {0}

pub step-of : (Q : WorldDeed → Type 0) (R : Type 0) → ((d : WorldDeed) → IsNoWrite d → Q d) → (r : Result WorldStep ObjectWhy) → OfResult Q R (only_step r)
unfolding OfResult OfOffer IsNoWrite
step-of Q R free (Ok step) = free (Steps step) tt
step-of Q R free (Err why) = tt

succeeds-of : (Q : WorldDeed → Type 0) (R : Type 0) → ((d : WorldDeed) → IsNoWrite d → Q d) → R → (turn : WorldTurn) (rd : ℕ) (reserved : Bool) (put : Result WorldPut ObjectWhy) → OfMeaning Q R (succeeds turn rd reserved put)
unfolding OfMeaning IsNoWrite
succeeds-of Q R free err turn rd reserved (Err why) = err
succeeds-of Q R free err turn rd true (Ok put) = free _ tt
succeeds-of Q R free err turn rd false (Ok put) = tt

pub conditional-of : (Q : WorldDeed → Type 0) (R : Type 0) → ((d : WorldDeed) → IsNoWrite d → Q d) → R → (turn : WorldTurn) (width : Width) (rd : ℕ) (address value : Value) → OfResult Q R (conditional turn width rd address value)
unfolding OfResult OfOffer IsNoWrite
conditional-of Q R free err turn width rd address value = by (aimed turn access.Store (width_of width) address (is_storable (width_of width) value))
  where
    by : (at : Result Place ObjectWhy) → OfResult Q R (then_try at (λ at. Ok (Conditional (succeeds turn rd (holds_reservation turn.hart.reservation at width) (puts at (width_of width) value)) (Steps (conditional_step turn rd sc_failure)))))
    by (Ok at) = (succeeds-of Q R free err turn rd (holds_reservation turn.hart.reservation at width) (puts at (width_of width) value), free (Steps (conditional_step turn rd sc_failure)) tt)
    by (Err why) = tt

number-of : (Q : WorldDeed → Type 0) (R : Type 0) (v : Value) (f : ℕ → WorldOffer) → ((n : ℕ) → OfOffer Q R (f n)) → OfResult Q R (with_number v f)
unfolding OfResult
number-of Q R (Num n) f all = all n
number-of Q R (Ptr o k) f all = tt

provided-of : (Q : WorldDeed → Type 0) (R : Type 0) (b : Bool) (why : ObjectWhy) (r : Result WorldOffer ObjectWhy) → OfResult Q R r → OfResult Q R (provided b why r)
unfolding OfResult
provided-of Q R true why r h = h
provided-of Q R false why r h = tt

only-of : (Q : WorldDeed → Type 0) (R : Type 0) (r : Result WorldDeed ObjectWhy) → OfDeed Q r → OfResult Q R (only_deed r)
unfolding OfResult OfDeed OfOffer
only-of Q R (Ok deed) h = h
only-of Q R (Err why) h = tt

deed-of : (Q : WorldDeed → Type 0) (b : Bool) (why : ObjectWhy) (deed : WorldDeed) → Q deed → OfDeed Q (provided b why (Ok deed))
unfolding OfDeed
deed-of Q true why deed h = h
deed-of Q false why deed h = tt

frees-of : (Q : WorldDeed → Type 0) → ((d : WorldDeed) → IsNoWrite d → Q d) → (turn : WorldTurn) (p : Value) → OfDeed Q (free_deed turn p)
unfolding IsNoWrite
frees-of Q free turn (Num n) = deed-of Q (n == 0) BadFree (answers turn (Num 0)) (free (answers turn (Num 0)) tt)
frees-of Q free turn (Ptr o k) = deed-of Q (is_live_start k (slice_get (objects_of turn) o)) BadFree (Heaps (Kills o) (Num 0)) (free (Heaps (Kills o) (Num 0)) tt)

mallocs-of : (Q : WorldDeed → Type 0) (R : Type 0) → ((d : WorldDeed) → IsNoWrite d → Q d) → (turn : WorldTurn) (size : Value) → OfResult Q R (malloc_offer turn size)
unfolding OfOffer OfMeaning IsNoWrite
mallocs-of Q R free turn size = number-of Q R size _ (λ n. (free (Heaps (Makes n) _) tt, free (answers turn (Num 0)) tt))

reallocs-of : (Q : WorldDeed → Type 0) (R : Type 0) → ((d : WorldDeed) → IsNoWrite d → Q d) → (turn : WorldTurn) (p size : Value) → OfResult Q R (realloc_offer turn p size)
unfolding OfOffer OfMeaning IsNoWrite
reallocs-of Q R free turn (Num n) size = provided-of Q R (n == 0) BadFree (malloc_offer turn size) (mallocs-of Q R free turn size)
reallocs-of Q R free turn (Ptr o k) size = provided-of Q R (is_live_start k (slice_get (objects_of turn) o)) BadFree _ (number-of Q R size _ (λ n. (free (Heaps (Replaces o n) _) tt, free (answers turn (Num 0)) tt)))

answers-of : (Q : WorldDeed → Type 0) (R : Type 0) → ((d : WorldDeed) → IsNoWrite d → Q d) → (turn : WorldTurn) (value : Option Value) → OfOffer Q R (answers_if turn value)
unfolding OfOffer IsNoWrite
answers-of Q R free turn None = tt
answers-of Q R free turn (Some value) = free _ tt

shares-of : (Q : WorldDeed → Type 0) (R : Type 0) → ((d : WorldDeed) → IsNoWrite d → Q d) → (count : ℕ) → OfMeaning Q R (shares count)
unfolding OfMeaning IsNoWrite
shares-of Q R free count = by (nat_lt 0 count)
  where
    by : (b : Bool) → OfMeaning Q R (cond b (Goes (Shares count)) Unfit)
    by true = free (Shares count) tt
    by false = tt

unfoldable pub WritesMeet : (Q : WorldDeed → Type 0) → WorldTurn → Type 0
WritesMeet Q turn = (buffer : Value) (asked : ℕ) → OfDeed Q (write_deed turn buffer asked)

serves-of : (Q : WorldDeed → Type 0) (R : Type 0) → ((d : WorldDeed) → IsNoWrite d → Q d) → (turn : WorldTurn) → WritesMeet Q turn → (s : Call) → OfResult Q R (serves turn s)
unfolding serves OfResult OfOffer OfMeaning IsNoWrite WritesMeet
serves-of Q R free turn w (call.Exit status) = number-of Q R (register_of turn status) _ (λ n. free (Exits n) tt)
serves-of Q R free turn w (call.Write buffer asked) = by (register_of turn asked)
  where
    by : (v : Value) → OfResult Q R (then_try (with_number v (write_deed turn (register_of turn buffer))) only_deed)
    by (Num n) = only-of Q R (write_deed turn (register_of turn buffer) n) (w (register_of turn buffer) n)
    by (Ptr o k) = tt
serves-of Q R free turn w (call.Malloc size) = mallocs-of Q R free turn (register_of turn size)
serves-of Q R free turn w (call.Free p) = only-of Q R (free_deed turn (register_of turn p)) (frees-of Q free turn (register_of turn p))
serves-of Q R free turn w (call.Realloc p size) = reallocs-of Q R free turn (register_of turn p) (register_of turn size)
serves-of Q R free turn w call.Fork = ((λ h. free (Forks h) tt), free _ tt)
serves-of Q R free turn w (call.Spawn pc sp arg) = number-of Q R (register_of turn pc) _ (λ n. ((λ h. free (Spawns h n _ _) tt), free _ tt))
serves-of Q R free turn w (call.Join thread) = number-of Q R (register_of turn thread) _ (λ n. answers-of Q R free turn _)
serves-of Q R free turn w (call.Done value) = free (Leaves _) tt
serves-of Q R free turn w (call.Share count) = number-of Q R (register_of turn count) _ (λ n. (shares-of Q R free n, free _ tt))
serves-of Q R free turn w (call.Wait child) = number-of Q R (register_of turn child) _ (λ n. answers-of Q R free turn _)
serves-of Q R free turn w (call.Unknown number) = tt
serves-of Q R free turn w (call.End fault) = tt

pub calls-of : (Q : WorldDeed → Type 0) (R : Type 0) → ((d : WorldDeed) → IsNoWrite d → Q d) → (turn : WorldTurn) → WritesMeet Q turn → OfResult Q R (calls turn)
unfolding OfResult
calls-of Q R free turn w = by (register_of turn 17)
  where
    by : (v : Value) → OfResult Q R (then_try (with_number v (λ number. call_numbered number 10 11 12)) (serves turn))
    by (Num n) = serves-of Q R free turn w (call_numbered n 10 11 12)
    by (Ptr o k) = tt

-- ---- errors and choices

any-deed : WorldDeed → Type 0
any-deed deed = Unit {0}

any-writes : (r : Result WorldDeed ObjectWhy) → OfDeed any-deed r
unfolding OfDeed any-deed
any-writes (Ok deed) = tt
any-writes (Err why) = tt

no-error : (turn : WorldTurn) (i : Instr) → IsNoConditional i → OfResult any-deed ⊥ (offered turn i)
unfolding any-deed WritesMeet
no-error turn = rows turn (λ i r. IsNoConditional i → OfResult any-deed ⊥ r) (λ i r h. step-of any-deed ⊥ (λ d n. tt) r) (λ h. calls-of any-deed ⊥ (λ d n. tt) turn (λ b a. any-writes (write_deed turn b a))) (λ width rd rs1 rs2 aq rl h. absurd h)

meant-never : (turn : WorldTurn) (m : Meaning WorldDeed ObjectWhy) (why : ObjectWhy) → OfMeaning any-deed ⊥ m → meaning_of turn m ≡ Errs why → ⊥
unfolding OfMeaning
meant-never turn (Goes deed) why h e = cc
meant-never turn (Errs w) why h e = h
meant-never turn Unfit why h e = cc

by-errs : (turn : WorldTurn) (r : Result WorldOffer ObjectWhy) (c d : Choice) (why : ObjectWhy) → OfResult any-deed ⊥ r → meaning_by turn c r ≡ Errs why → meaning_by turn d r ≡ Errs why
unfolding OfResult
by-errs turn (Err w) c d why h e = e
by-errs turn (Ok offer) c d why h e = absurd (meant-never turn (chosen turn.state.harts offer c) why (chosen-of any-deed ⊥ turn.state.harts offer c h) e)

pub does-errs : (turn : WorldTurn) (i : Instr) (c d : Choice) (why : ObjectWhy) → IsNoConditional i → does turn c i ≡ Errs why → does turn d i ≡ Errs why
does-errs turn i c d why h e = by-errs turn (offered turn i) c d why (no-error turn i h) e

step-goes : (turn : WorldTurn) (c : Choice) (r : Result WorldStep ObjectWhy) (next : World) → meaning_by turn c (only_step r) ≡ Goes next → c ≡ choice.Plain
unfolding chosen
step-goes turn c (Err w) next e = absurd (cc)
step-goes turn choice.Plain (Ok step) next e = refl
step-goes turn choice.Given (Ok step) next e = absurd (cc)
step-goes turn choice.Refused (Ok step) next e = absurd (cc)
step-goes turn (choice.Started h) (Ok step) next e = absurd (cc)
step-goes turn choice.Success (Ok step) next e = absurd (cc)
step-goes turn choice.Fail (Ok step) next e = absurd (cc)

pub goes-plainly : (turn : WorldTurn) (i : Instr) (c : Choice) (next : World) → LeavesNothingOpen i → does turn c i ≡ Goes next → c ≡ choice.Plain
goes-plainly turn i c next = rows turn (λ i r. LeavesNothingOpen i → meaning_by turn c r ≡ Goes next → c ≡ choice.Plain) (λ i r h e. step-goes turn c r next e) (λ h e. absurd h) (λ width rd rs1 rs2 aq rl h e. absurd h) i
