-- The tables of all processes beside what the ledgers tell, and what a commit and its return make of them.
use Rattle.std.proofs.Common.{ℕ, zero, suc, ◌+◌, ◌≡◌, ◌<◌, Bool, true, false, Option, Some, None, List, [], ◌∷◌, ◌++◌, length, slice_get, slice_set, arith, refl, sym, ap, subst, ◌∙◌}
use Rattle.osc_word.specs.declared.calls.Call.{Call}
use Rattle.osc_word.specs.declared.settings.Config.{Config}
use Rattle.osc_paging.specs.KeptTables.{KeptTables}
use Rattle.osc_parts.proofs.Lists.{get_append}
use Rattle.osc_space.specs.Finish.{finished, ended}
use Rattle.osc_calls.specs.Kernel.{KernelState, Process, Calling, Committed, Effect, Nothing, Clears, Starts, Ends, process_at}
use Rattle.osc_calls.specs.Refusals.{draft_of}
use Rattle.osc_calls.specs.Planned.{Planned}
use Rattle.osc_calls.specs.Plan.{journal_entry, committed}
use Rattle.osc_calls.specs.Finish.{settled, returned, finish}
use Rattle.osc_settled.proofs.Lists.{some_same, get-put_same}
use Rattle.osc_machine.specs.Replay.{Ledger, told_by, child_of, ledger_at, replay}
use Rattle.osc_machine.specs.Refusals.{Setting, region_pages}
use Rattle.osc_ledger.specs.Replays.{processes_then, ReplayFits}
use Rattle.osc_ledger.specs.Tables.{TablesTold}
use Rattle.osc_ledger.specs.Wanting.{setting}
use Rattle.osc_ledger.proofs.ForkTables.{returns_keep_tables}
use Rattle.osc_ledger.proofs.Returned.{replay-more}
use Rattle.osc_ledger.proofs.ReplaySteps.{same-length}
use Rattle.osc_tabled.specs.Tabled.{TablesFit}
use Rattle.osc_tabled.proofs.PlainRows.{same-ledger}

-- ---- one by one
abbrev pub Told : Setting → Ledger → Process → Type 0
Told s l p = p.status ≡ None → TablesTold s l p.space.tables

abbrev pub AllTold : Setting → List Ledger → List Process → Type 0
AllTold s [] [] = Unit {0}
AllTold s [] (p ∷ ps) = ⊥
AllTold s (l ∷ ls) [] = ⊥
AllTold s (l ∷ ls) (p ∷ ps) = Told s l p × AllTold s ls ps

set-told : (s : Setting) (ls : List Ledger) (ps : List Process) (pid : ℕ) (l : Ledger) (p : Process) → AllTold s ls ps → Told s l p → AllTold s (slice_set ls pid l) (slice_set ps pid p)
set-told s [] [] pid l p a h = tt
set-told s [] (q ∷ ps) pid l p a h = absurd a
set-told s (m ∷ ls) [] pid l p a h = absurd a
set-told s (m ∷ ls) (q ∷ ps) zero l p a h = (h, a.1)
set-told s (m ∷ ls) (q ∷ ps) (suc pid) l p a h = (a.0, set-told s ls ps pid l p a.1 h)

append-told : (s : Setting) (ls more : List Ledger) (ps others : List Process) → AllTold s ls ps → AllTold s more others → AllTold s (ls ++ more) (ps ++ others)
append-told s [] more [] others a h = h
append-told s [] more (q ∷ ps) others a h = absurd a
append-told s (m ∷ ls) more [] others a h = absurd a
append-told s (m ∷ ls) more (q ∷ ps) others a h = (a.0, append-told s ls more ps others a.1 h)

pub told-at : (s : Setting) (ls : List Ledger) (ps : List Process) (pid : ℕ) (p : Process) → AllTold s ls ps → slice_get ps pid ≡ Some p → Told s (ledger_at ls pid) p
told-at s [] [] pid p a e = absurd (let z : ⊥ = grind (arith, e) in z)
told-at s [] (q ∷ ps) pid p a e = absurd a
told-at s (m ∷ ls) [] pid p a e = absurd a
told-at s (m ∷ ls) (q ∷ ps) zero p a e = subst (λ x. Told s m x) (some_same q p e) a.0
told-at s (m ∷ ls) (q ∷ ps) (suc pid) p a e = told-at s ls ps pid p a.1 e

told-all : (s : Setting) (ls : List Ledger) (ps : List Process) → length ls ≡ length ps → ((pid : ℕ) (p : Process) → slice_get ps pid ≡ Some p → Told s (ledger_at ls pid) p) → AllTold s ls ps
told-all s [] [] e h = tt
told-all s [] (q ∷ ps) e h = absurd (let z : ⊥ = omega (arith, e) in z)
told-all s (m ∷ ls) [] e h = absurd (let z : ⊥ = omega (arith, e) in z)
told-all s (m ∷ ls) (q ∷ ps) e h = (h zero q refl, told-all s ls ps (omega (arith, e)) (λ pid p f. h (suc pid) p f))

pub all-fit : (image : List ℕ) (k : KernelState) → ReplayFits k → TablesFit image k → AllTold (setting k image) (replay k.config k.journal) (processes_then k)
all-fit image k f t = told-all (setting k image) (replay k.config k.journal) (processes_then k) (same-length (replay k.config k.journal) (processes_then k) f.accounts) t

-- ---- ledgers that tell of the same tables
pub same-told : (s : Setting) (l m : Ledger) (t : KeptTables) → m.objects ≡ l.objects → m.waiting ≡ l.waiting → m.regions ≡ l.regions → m.canonical ≡ l.canonical → TablesTold s l t → TablesTold s m t
same-told s l m t objects waiting regions canonical told =
    let has = same-ledger s l m t objects waiting regions canonical (record { below = told.below; above = told.above }) in
    record { levels = told.levels; below = has.below; above = has.above; regions = told.regions ∙ sym (ap region_pages regions) }

-- ---- what a plan makes of the processes
abbrev pub is_ending : Effect → Bool
is_ending (Ends status) = true
is_ending _ = false

-- its own, and a child after the others
pub record TablesRow (s : Setting) (k : KernelState) (pid : ℕ) (call : Call) (l : Ledger) (made : Planned) : Type 0 where
  pub process : Process
  pub children : List Process
  pub processes : made.kernel.processes ≡ slice_set k.processes pid process ++ children
  pub told : is_ending made.effect ≡ false → TablesTold s (told_by k.config (length k.journal) call made.answer l) process.space.tables
  pub child : AllTold s (child_of call made.answer l) children

-- the process once the call has returned
record Returned (s : Setting) (l : Ledger) (done : Committed) (effect : Effect) (p : Process) (k : KernelState) : Type 0 where
  process : Process
  is : (settled done p effect k).processes ≡ slice_set k.processes done.calling.pid process
  told : Told s l process

return-told : (s : Setting) (l : Ledger) (done : Committed) (effect : Effect) (p : Process) (k : KernelState) → (is_ending effect ≡ false → TablesTold s l p.space.tables) → Returned s l done effect p k
return-told s l done (Ends status) p k h = record {
  process = record p { space = (ended k.regions p.space k.free).space; status = Some status };
  is = refl;
  told = λ e. absurd (let z : ⊥ = grind (arith, e) in z);
}
return-told s l done Nothing p k h = record {
  process = record p { space = (finished done.closing (draft_of k p)).space };
  is = refl;
  told = λ e. returns_keep_tables s l done.closing (draft_of k p) (h refl);
}
return-told s l done Clears p k h = record {
  process = record p { space = (finished done.closing (draft_of k p)).space };
  is = refl;
  told = λ e. returns_keep_tables s l done.closing (draft_of k p) (h refl);
}
return-told s l done (Starts hart start) p k h = record {
  process = record p { space = (finished done.closing (draft_of k p)).space };
  is = refl;
  told = λ e. returns_keep_tables s l done.closing (draft_of k p) (h refl);
}

put-both : (ps more : List Process) (i : ℕ) (x p q : Process) → slice_get ps i ≡ Some x → slice_set (slice_set ps i p ++ more) i q ≡ slice_set ps i q ++ more
put-both [] more i x p q e = absurd (let z : ⊥ = grind (arith, e) in z)
put-both (z ∷ ps) more zero x p q e = refl
put-both (z ∷ ps) more (suc i) x p q e = ap (λ zs. z ∷ zs) (put-both ps more i x p q e)

-- the call is committed
pub commit-told : (image : List ℕ) (k : KernelState) (c : Calling) (p : Process) (made : Planned) → process_at k c.pid ≡ Some p → made.kernel.config ≡ k.config → made.kernel.journal ≡ k.journal
    → AllTold (setting k image) (replay k.config k.journal) k.processes
    → TablesRow (setting k image) k c.pid c.call (ledger_at (replay k.config k.journal) c.pid) made → TablesFit image (committed c made)
unfolding finish
commit-told image k c p made here config journal all row =
    let s = setting k image in
    let ls = replay k.config k.journal in
    let l = ledger_at ls c.pid in
    let t = told_by k.config (length k.journal) c.call made.answer l in
    let done : Committed = record { calling = c; answer = made.answer; effect = made.effect; closing = made.closing } in
    let entry = journal_entry c made.answer in
    let new = committed c made in
    let there : process_at new c.pid ≡ Some row.process =
    ap (λ ps. slice_get ps c.pid) row.processes ∙ get_append (slice_set k.processes c.pid row.process) row.children c.pid row.process (get-put_same k.processes c.pid p row.process here) in
    let after = return-told s t done made.effect row.process new row.told in
    let then : processes_then new ≡ slice_set k.processes c.pid after.process ++ row.children =
    ap (λ o. (returned done o new).kernel.processes) there ∙ after.is ∙ ap (λ ps. slice_set ps c.pid after.process) row.processes
    ∙ put-both k.processes row.children c.pid p row.process after.process here in
    let told = append-told s (slice_set ls c.pid t) (child_of c.call made.answer l) (slice_set k.processes c.pid after.process) row.children (set-told s ls k.processes c.pid t after.process all after.told) row.child in
    let first : AllTold s (replay k.config (k.journal ++ entry ∷ [])) (processes_then new) =
    subst (λ ps. AllTold s (replay k.config (k.journal ++ entry ∷ [])) ps) (sym then)
    (subst (λ ms. AllTold s ms (slice_set k.processes c.pid after.process ++ row.children)) (sym (replay-more k.config k.journal entry)) told) in
    let second : AllTold s (replay k.config (made.kernel.journal ++ entry ∷ [])) (processes_then new) =
    subst (λ js. AllTold s (replay k.config (js ++ entry ∷ [])) (processes_then new)) (sym journal) first in
    let third : AllTold (setting new image) (replay new.config new.journal) (processes_then new) =
    subst (λ (x : Config). AllTold (record { config = x; image = image }) (replay x (made.kernel.journal ++ entry ∷ [])) (processes_then new)) (sym config) second in
    λ pid q e. told-at (setting new image) (replay new.config new.journal) (processes_then new) pid q third e
