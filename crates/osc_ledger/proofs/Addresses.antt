-- A malloc gives the address that the journal tells.
use Rattle.std.proofs.Common.{ℕ, ◌≡◌, true, Option, Some, None, map, arith, refl, sym, ap, subst, ◌∙◌}
use Rattle.osc_word.specs.declared.settings.HeapKind.{HeapKind}
use Rattle.osc_word.specs.declared.settings.HeapKind.TheVariants.{Oscar, Plain}
use Rattle.osc_word.specs.declared.settings.Config.{Config}
use Rattle.osc_word.specs.declared.calls.Call.{Call}
use Rattle.osc_word.specs.declared.calls.Call.TheVariants as calls
use Rattle.osc_word.specs.declared.calls.Answer.{Answer}
use Rattle.osc_word.specs.declared.calls.Answer.TheVariants as answers
use Rattle.osc_class.specs.Rooms.{room_of}
use Rattle.osc_slot.specs.declared.Block.{Block}
use Rattle.osc_slot.specs.Heap.{next_block}
use Rattle.osc_space.specs.Header.{Found}
use Rattle.osc_space.specs.Space.{Draft, Outcome, first_reason, unless}
use Rattle.osc_space.specs.Malloc.{malloc_reasons, malloc_in, malloc_plan}
use Rattle.osc_space.specs.PlainHeap.{plain_reasons, plain_malloc_in, plain_malloc_plan}
use Rattle.osc_space.specs.RefusalLaws.{is_refusal}
use Rattle.osc_calls.specs.Kernel.{KernelState, Process, Calling}
use Rattle.osc_calls.specs.Refusals.{draft_of}
use Rattle.osc_calls.specs.HeapPlans.{malloc_by}
use Rattle.osc_calls.specs.Requests.{meant}
use Rattle.osc_calls.specs.Plan.{plan_meant}
use Rattle.osc_settled.proofs.Outcomes.{asks}
use Rattle.osc_settled.proofs.Answering.{settled}
use Rattle.osc_machine.specs.Replay.{Ledger, ledger_at, replay}
use Rattle.osc_machine.specs.Agreements.{account_kept}
use Rattle.osc_safe.proofs.SpacePlans.{Refuses, first_refuses}
use Rattle.osc_ledger.specs.Given.{AddressTold, PlansGiveTold}
use Rattle.osc_ledger.proofs.Accounts.{as_kept}
use Rattle.osc_ledger.proofs.HeapTells.{fresh-is}
use Rattle.osc_ledger.proofs.Returned.{account-at, kept-ledger}
use Rattle.osc_ledger.proofs.ReplaySteps.{IsUncommitted, uncommitted}

refused-told : (config : Config) (l : Ledger) (size : ℕ) (a : Answer) → is_refusal a ≡ true → AddressTold config l (calls.Malloc size) a
refused-told config l size (answers.Given object pointer) e = absurd (let z : ⊥ = grind (arith, e) in z)
refused-told config l size (answers.Placed pointer) e = absurd (let z : ⊥ = grind (arith, e) in z)
refused-told config l size _ e = tt

unless-told : (config : Config) (l : Ledger) (size : ℕ) (r : Option Answer) (d : Draft) (o : Outcome) → Refuses r → AddressTold config l (calls.Malloc size) o.answer
    → AddressTold config l (calls.Malloc size) (unless r d o).answer
unless-told config l size None d o q h = h
unless-told config l size (Some a) d o q h = refused-told config l size a q

malloc-told : (k : KernelState) (p : Process) (size : ℕ) (kind : HeapKind) (l : Ledger) → p.space.heap.frames ≡ k.config.frames
    → AddressTold k.config (as_kept p l) (calls.Malloc size) (malloc_by kind size (draft_of k p)).answer
unfolding malloc_plan plain_malloc_plan
malloc-told k p size Oscar l frames =
    let d = draft_of k p in
    unless-told k.config (as_kept p l) size (first_reason (malloc_reasons size d)) d (malloc_in size (next_block d.space.heap (room_of size)) d) (first_refuses (malloc_reasons size d) (refl, (refl, tt)))
    (subst (λ (b : Block). AddressTold k.config (as_kept p l) (calls.Malloc size) (malloc_in size b d).answer) (fresh-is k p frames (room_of size) l) (refl, refl))
malloc-told k p size Plain l frames =
    let d = draft_of k p in
    unless-told k.config (as_kept p l) size (first_reason (plain_reasons (room_of size) d)) d (plain_malloc_in size (next_block d.space.heap (room_of size)) d) (first_refuses (plain_reasons (room_of size) d) (refl, tt))
    (subst (λ (b : Block). AddressTold k.config (as_kept p l) (calls.Malloc size) (plain_malloc_in size b d).answer) (fresh-is k p frames (room_of size) l) refl)

told-by : (k : KernelState) (c : Calling) (p : Process) (found : Found) (call : Call) (l : Ledger) → p.space.heap.frames ≡ k.config.frames
    → AddressTold k.config (as_kept p l) call (plan_meant found c p k (meant call)).answer
told-by k c p found (calls.Malloc size) l frames = malloc-told k p size k.config.heap l frames
told-by k c p found _ l frames = tt

pub plans_give_told : PlansGiveTold
plans_give_told words found k c p fits u here f =
    let a = asks words k c fits u in
    let all = f.accounts ∙ ap (map account_kept) (uncommitted k (subst IsUncommitted (sym u) tt)) in
    let l = ledger_at (replay k.config k.journal) c.pid in
    subst (λ (m : Ledger). AddressTold k.config m c.call (plan_meant found c p k (meant c.call)).answer) (sym (kept-ledger l p (account-at (replay k.config k.journal) k.processes c.pid p all here)))
    (told-by k c p found c.call l ((settled words k c p (λ frame index. 0) a here).parts.agrees.frames ∙ a.sizes.free))
