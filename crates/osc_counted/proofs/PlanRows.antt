-- What the plan of each call makes of all processes, and what its entry tells of regions.
use Rattle.std.proofs.Common.{ℕ, ◌-◌, ◌≡◌, ◌==◌, nat_le, Bool, true, false, cond, Option, Some, None, is_none, List, [], ◌∷◌, ◌++◌, length, slice_set, arith, refl, sym, ap, subst, ◌∙◌}
use Rattle.std.proofs.lemmas.Bool.Decides.{nat_tests}
use Rattle.osc_word.specs.declared.settings.Config.{Config}
use Rattle.osc_word.specs.declared.calls.Call.{Call}
use Rattle.osc_word.specs.declared.calls.Call.TheVariants as calls
use Rattle.osc_word.specs.declared.calls.Answer.{Answer}
use Rattle.osc_word.specs.declared.calls.Answer.TheVariants as answers
use Rattle.osc_word.specs.WaitingList.{with_waiting}
use Rattle.osc_class.specs.Rooms.{room_of}
use Rattle.osc_slot.specs.Slots.{is_room}
use Rattle.osc_paging.specs.KeptTables.{KeptTables}
use Rattle.osc_space.specs.declared.ObjectFact.{ObjectFact}
use Rattle.osc_space.specs.Objects.{fact}
use Rattle.osc_space.specs.Header.{Found, block_of}
use Rattle.osc_space.specs.Space.{Space}
use Rattle.osc_space.specs.Fork.{fork_plan, fork_reasons}
use Rattle.osc_space.specs.Share.{share_plan, share_address}
use Rattle.osc_calls.specs.Kernel.{KernelState, Process, Calling, process_at, is_last, idle_hart}
use Rattle.osc_calls.specs.Requests.{meant}
use Rattle.osc_calls.specs.Refusals.{draft_of, sharing_of, refusal_of}
use Rattle.osc_calls.specs.HeapPlans.{terms_of, malloc_by, free_of, realloc_by}
use Rattle.osc_calls.specs.Planned.{Planned, planned_unless}
use Rattle.osc_calls.specs.WritePlan.{write_by, first_unreadable, write_count}
use Rattle.osc_calls.specs.ProcessPlans.{child_process, done_by, value_left, fork_done, spawn_done, share_done}
use Rattle.osc_calls.specs.Plan.{plan_meant}
use Rattle.osc_settled.proofs.Outcomes.{Asks}
use Rattle.osc_settled.proofs.Forking.{none_of}
use Rattle.osc_machine.specs.Replay.{Ledger, fresh_block, drops, has_object, gains, loses, lets_go, replaces, places, unplaces, ends, told_by, child_of}
use Rattle.osc_machine.specs.Agreements.{tells_nothing}
use Rattle.osc_ledger.proofs.HeapTells.{told_keeps}
use Rattle.osc_ledger.proofs.CallTells.{Silent, fork-silent, spawn-silent, share-silent, no-child}
use Rattle.osc_counted.proofs.PlanFrames.{SameFrames, SharesFrames, malloc-frames, free-frames, realloc-frames, fork-frames, share-frames}

-- ---- entries that tell of no region, and of no child
abbrev pub is_quiet : Call → Answer → Bool
is_quiet calls.Fork answer = tells_nothing answer
is_quiet (calls.Share pages) answer = tells_nothing answer
is_quiet _ answer = true

abbrev SameRegions : Ledger → Ledger → Type 0
SameRegions l m = m.regions ≡ l.regions

same-if : (b : Bool) (l m n : Ledger) → SameRegions l m → SameRegions l n → SameRegions l (cond b m n)
same-if true l m n x y = x
same-if false l m n x y = y

same-replaces : (config : Config) (old call : ℕ) (o : Option ObjectFact) (size : ℕ) (l : Ledger) → SameRegions l (replaces config old call o size l)
same-replaces config old call None size l = refl
same-replaces config old call (Some o) size l =
    same-if (is_room (room_of size) (room_of o.size)) l (has_object size (block_of o) (lets_go (loses old call l)))
    (drops (block_of o ∷ []) (lets_go (gains size (fresh_block config (room_of size) l) (loses old call l)))) refl refl

pub quiet-regions : (config : Config) (n : ℕ) (call : Call) (a : Answer) (l : Ledger) → is_quiet call a ≡ true → SameRegions l (told_by config n call a l)
quiet-regions config n (calls.Malloc size) (answers.Given object pointer) l e = refl
quiet-regions config n (calls.Malloc size) (answers.Placed pointer) l e = refl
quiet-regions config n (calls.Free pointer) (answers.Freed object) l e =
    let freed : Ledger = record (loses object n l) { waiting = with_waiting l.waiting object } in
    same-if _ l (lets_go freed) freed refl refl
quiet-regions config n (calls.Free pointer) answers.Nothing l e = refl
quiet-regions config n (calls.Realloc pointer size) (answers.Given object new) l e = refl
quiet-regions config n (calls.Realloc pointer size) (answers.Moved old object new) l e = same-replaces config old n (fact l.objects old) size l
quiet-regions config n (calls.Realloc pointer size) (answers.Placed new) l e =
    same-if _ l l (unplaces pointer (places (fresh_block config (room_of size) l) l)) refl refl
quiet-regions config n (calls.Share pages) a l e = ap (λ (m : Ledger). m.regions) (told_keeps config n (calls.Share pages) a l e)
quiet-regions config n (calls.Spawn pc sp arg) (answers.Number thread) l e = refl
quiet-regions config n (calls.Done value) answers.Ended l e = same-if _ l (ends l) (record l { threads = l.threads - 1 }) refl refl
quiet-regions config n (calls.Exit status) answers.Ended l e = refl
quiet-regions config n (calls.End fault) answers.Ended l e = refl
quiet-regions config n _ _ l e = refl

pub quiet-childless : (call : Call) (a : Answer) (l : Ledger) → is_quiet call a ≡ true → child_of call a l ≡ []
quiet-childless calls.Fork a l e = no-child calls.Fork a l e
quiet-childless _ _ l e = refl

-- ---- what a plan does
-- neither the configuration nor the journal is changed before the entry
abbrev pub SameBooks : KernelState → Planned → Type 0
SameBooks k made = (made.kernel.config ≡ k.config) × (made.kernel.journal ≡ k.journal)

pub data Does (k : KernelState) (pid : ℕ) (p : Process) (call : Call) (made : Planned) : Type 0 where
  Leaves : SameBooks k made → made.kernel.processes ≡ k.processes → is_quiet call made.answer ≡ true → Does k pid p call made
  Puts : (new : Space) → SameBooks k made → made.kernel.processes ≡ slice_set k.processes pid (record p { space = new }) → SameFrames p.space new
      → is_quiet call made.answer ≡ true → Does k pid p call made
  Forks : (number : ℕ) (child : Process) → call ≡ calls.Fork → made.answer ≡ answers.Number number → SameBooks k made
      → made.kernel.processes ≡ k.processes ++ child ∷ [] → SameFrames p.space child.space → Does k pid p call made
  Shares : (count address : ℕ) (new : Space) → call ≡ calls.Share count → made.answer ≡ answers.Number address → SameBooks k made
      → made.kernel.processes ≡ slice_set k.processes pid (record p { space = new }) → SharesFrames k p.space count new → Does k pid p call made

module _ (words : List ℕ) (k : KernelState) (c : Calling) (p : Process) (a : Asks words k c) (here : process_at k c.pid ≡ Some p) where
  write-does : (bad : Option ℕ) (t : KeptTables) (buf len count : ℕ) → Does k c.pid p (calls.Write buf len) (write_by bad t buf count k)
  write-does (Some address) t buf len count = Leaves (refl, refl) refl refl
  write-does None t buf len count = Leaves (refl, refl) refl refl

  done-does : (last : Bool) (thread : Option ℕ) (value : ℕ) → Does k c.pid p (calls.Done value) (done_by last c (value_left thread value k))
  done-does true None value = Leaves (refl, refl) refl refl
  done-does true (Some number) value = Leaves (refl, refl) refl refl
  done-does false None value = Leaves (refl, refl) refl refl
  done-does false (Some number) value = Leaves (refl, refl) refl refl

  fork-does : (r : Option Answer) → refusal_of calls.Fork p k ≡ r → Silent r → Does k c.pid p calls.Fork (planned_unless r k (fork_done c p k))
  fork-does (Some answer) e s = Leaves (refl, refl) refl s
  fork-does None e s =
      let n = none_of (is_none (idle_hart k.records)) (nat_le k.config.processes (length k.processes)) answers.NoHart answers.NoProcess (fork_reasons p.space k.free) e in
      Forks _ (child_process c.pid (fork_plan p.space k.free).child) refl refl (refl, refl) refl (fork-frames words k c p a here n.2)

  spawn-does : (r : Option Answer) (pc sp arg : ℕ) → Does k c.pid p (calls.Spawn pc sp arg) (planned_unless r k (spawn_done c p pc sp arg k))
  spawn-does (Some answer) pc sp arg = Leaves (refl, refl) refl refl
  spawn-does None pc sp arg = Leaves (refl, refl) refl refl

  share-does : (r : Option Answer) (count : ℕ) → refusal_of (calls.Share count) p k ≡ r → Silent r → Does k c.pid p (calls.Share count) (planned_unless r k (share_done c p count k))
  share-does (Some answer) count e s = Leaves (refl, refl) refl s
  share-does None count e s =
      Shares count (share_address (sharing_of k p)) (record (p.space) { tables = (share_plan count (sharing_of k p)).tables }) refl refl (refl, refl) refl (share-frames words k c p a here count e)

  realloc-does : (pointer size : ℕ) (found : Found) (b : Bool) → Does k c.pid p (calls.Realloc pointer size) (plan_meant found c p k (cond b (calls.Malloc size) (calls.Realloc pointer size)))
  realloc-does pointer size found true = Puts (malloc_by k.config.heap size (draft_of k p)).draft.space (refl, refl) refl (malloc-frames words k c p a here size) refl
  realloc-does pointer size found false = Puts (realloc_by k.config.heap (terms_of k) pointer size found (draft_of k p)).draft.space (refl, refl) refl (realloc-frames words k c p a here pointer size found) refl

  pub plan-does : (found : Found) (call : Call) → Does k c.pid p call (plan_meant found c p k (meant call))
  plan-does found (calls.Exit status) = Leaves (refl, refl) refl refl
  plan-does found (calls.Write buf len) = write-does (first_unreadable p.space.tables buf (write_count k.output len)) p.space.tables buf len (write_count k.output len)
  plan-does found (calls.Malloc size) = Puts (malloc_by k.config.heap size (draft_of k p)).draft.space (refl, refl) refl (malloc-frames words k c p a here size) refl
  plan-does found (calls.Free pointer) = Puts (free_of k.config.heap (terms_of k) pointer found (draft_of k p)).draft.space (refl, refl) refl (free-frames words k c p a here pointer found) refl
  plan-does found (calls.Realloc pointer size) = realloc-does pointer size found (pointer == 0)
  plan-does found calls.Fork = fork-does (refusal_of calls.Fork p k) refl (fork-silent p k)
  plan-does found (calls.Spawn pc sp arg) = spawn-does (refusal_of (calls.Spawn pc sp arg) p k) pc sp arg
  plan-does found (calls.Join number) = Leaves (refl, refl) refl refl
  plan-does found (calls.Done value) = done-does (is_last k.records c.pid) c.thread value
  plan-does found (calls.Share count) = share-does (refusal_of (calls.Share count) p k) count refl (share-silent count p k)
  plan-does found (calls.Wait number) = Leaves (refl, refl) refl refl
  plan-does found (calls.Unknown number) = Leaves (refl, refl) refl refl
  plan-does found (calls.End fault) = Leaves (refl, refl) refl refl
