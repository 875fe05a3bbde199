-- The plan of each call answers by the rule of refusals.
use Rattle.std.proofs.Common.{ℕ, ◌≡◌, ◌==◌, Bool, true, false, cond, Option, Some, None, is_some, unwrap_or, option_map, find, List, [], ◌∷◌, ◌++◌, map, arith, refl, sym, ap, subst, ◌∙◌}
use Rattle.std.proofs.lemmas.Bool.Decides.{nat_tests}
use Rattle.osc_word.specs.declared.settings.HeapKind.{HeapKind}
use Rattle.osc_word.specs.declared.settings.HeapKind.TheVariants.{Oscar, Plain}
use Rattle.osc_word.specs.declared.calls.Call.{Call}
use Rattle.osc_word.specs.declared.calls.Call.TheVariants as calls
use Rattle.osc_word.specs.declared.calls.Answer.{Answer}
use Rattle.osc_word.specs.declared.calls.Answer.TheVariants as answers
use Rattle.osc_class.specs.Rooms.{room_of}
use Rattle.osc_slot.specs.declared.Block.{Block}
use Rattle.osc_slot.specs.Slots.{is_room}
use Rattle.osc_slot.specs.Heap.{next_block, block_of_user}
use Rattle.osc_paging.specs.KeptTables.{KeptTables}
use Rattle.osc_space.specs.declared.ObjectState.{ObjectState}
use Rattle.osc_space.specs.declared.ObjectState.TheVariants.{Live, Dead}
use Rattle.osc_space.specs.Objects.{Seen, object_at}
use Rattle.osc_space.specs.Agree.{HeapAgrees, ObjectsAgree}
use Rattle.osc_space.specs.Header.{Found, death_reasons, damage_reason, object_reasons, block_of}
use Rattle.osc_space.specs.Space.{Draft, Outcome, Reason, first_reason, unchanged, unless}
use Rattle.osc_space.specs.Malloc.{malloc_reasons, malloc_in, malloc_plan}
use Rattle.osc_space.specs.Free.{let_wait, freed, free_seen, free_plan}
use Rattle.osc_space.specs.Realloc.{stays, realloc_reasons, realloc_made, realloc_seen, realloc_plan}
use Rattle.osc_space.specs.PlainHeap.{plain_reasons, plain_malloc_in, plain_malloc_plan, plain_free_of, plain_free_plan, kept_bytes, plain_resize, plain_realloc_reasons, plain_realloc_of, plain_realloc_plan}
use Rattle.osc_space.proofs.ObjectLawProofs.{looks_find_objects}
use Rattle.osc_space.proofs.RefusalLawProofs.{realloc_refused}
use Rattle.osc_calls.specs.declared.JoinLook.{JoinLook}
use Rattle.osc_calls.specs.declared.JoinLook.TheVariants as joined
use Rattle.osc_calls.specs.declared.WaitLook.{WaitLook}
use Rattle.osc_calls.specs.declared.WaitLook.TheVariants as waits
use Rattle.osc_calls.specs.CallLaws.{is_want, is_heap_fault}
use Rattle.osc_calls.specs.Kernel.{KernelState, Process, Calling, process_at, idle_hart, is_last}
use Rattle.osc_calls.specs.Threads.{join_look}
use Rattle.osc_calls.specs.Requests.{meant, wait_look, join_answer, wait_answer}
use Rattle.osc_calls.specs.Refusals.{draft_of, refusal_of}
use Rattle.osc_calls.specs.HeapPlans.{terms_of, malloc_by, free_by, free_of, realloc_by}
use Rattle.osc_calls.specs.Planned.{Planned, planned_unless}
use Rattle.osc_calls.specs.WritePlan.{write_by, first_unreadable, write_count}
use Rattle.osc_calls.specs.ProcessPlans.{done_by, value_left, fork_done, spawn_done, share_done}
use Rattle.osc_calls.specs.Plan.{plan_meant}
use Rattle.osc_settled.proofs.Commits.{lives_none}
use Rattle.osc_settled.proofs.Outcomes.{Asks, asks, caller_lives}
use Rattle.osc_settled.proofs.Answering.{settled}
use Rattle.osc_machine.specs.Replay.{Ledger, ledger_at, replay}
use Rattle.osc_machine.specs.Agreements.{account_told, account_kept}
use Rattle.osc_machine.specs.Refusals.{Setting, room_reasons, block_frames_from, old_block, reasons, refusal_told, faults, grants_call, IsAnswered}
use Rattle.osc_ledger.specs.Replays.{ReplayFits}
use Rattle.osc_ledger.specs.Wanting.{WantsFit, FramesTold, wants_frames, setting, PlansAnswerByRule}
use Rattle.osc_ledger.proofs.Accounts.{as_kept, none-at-zero}
use Rattle.osc_ledger.proofs.Returned.{account-at, kept-ledger}
use Rattle.osc_ledger.proofs.ReplaySteps.{IsUncommitted, uncommitted, same-length}
use Rattle.osc_ledger.proofs.Wants.{spawn-wants, malloc-oscar-wants, realloc-oscar-wants, malloc-plain-wants, realloc-plain-wants, fork-wants, share-wants}

-- ---- faults of what is given back
abbrev AreFaults : List Reason → Type 0
AreFaults [] = Unit {0}
AreFaults (r ∷ rest) = (is_heap_fault r.answer ≡ true) × AreFaults rest

abbrev IsFault : Option Answer → Type 0
IsFault None = Unit {0}
IsFault (Some a) = is_heap_fault a ≡ true

first-fault : (rs : List Reason) → AreFaults rs → IsFault (first_reason rs)
first-fault [] h = tt
first-fault (x ∷ xs) h = go x.holds (first-fault xs h.1)
  where
    go : (b : Bool) → IsFault (first_reason xs) → IsFault (option_map (λ (r : Reason). r.answer) (cond b (Some x) (find (λ (r : Reason). r.holds) xs)))
    go true later = h.0
    go false later = later

object-faults : (seen : Seen) (found : Found) → IsFault (first_reason (object_reasons (Some seen) found))
object-faults seen found = first-fault (object_reasons (Some seen) found) (go seen.fact.state)
  where
    go : (state : ObjectState) → AreFaults (death_reasons seen.number state ++ damage_reason seen.fact.canon found.first ∷ damage_reason seen.fact.size found.second ∷ [])
    go Live = (refl, (refl, tt))
    go (Dead call) = (refl, (refl, (refl, tt)))

no-want : (a : Answer) → is_heap_fault a ≡ true → is_want a ≡ false
no-want (answers.DoubleFree object call) e = refl
no-want answers.NotAnObject e = refl
no-want (answers.HeaderDamaged kept found) e = refl
no-want _ e = absurd (let z : ⊥ = grind (arith, e) in z)

-- ---- an answer by its first reason
answered-as : (r s : Option Answer) (call : Call) (a : Answer) → r ≡ s → IsAnswered s call a → IsAnswered r call a
answered-as r s call a e h = subst (λ x. IsAnswered x call a) (sym e) h

unless-answers : (r : Option Answer) (call : Call) (d : Draft) (o : Outcome) → is_want o.answer ≡ false → grants_call call o.answer ≡ true → IsAnswered r call (unless r d o).answer
unless-answers None call d o e f = (e, f)
unless-answers (Some a) call d o e f = refl

planned-answers : (r : Option Answer) (call : Call) (k : KernelState) (made : Planned) → is_want made.answer ≡ false → grants_call call made.answer ≡ true → IsAnswered r call (planned_unless r k made).answer
planned-answers None call k made e f = (e, f)
planned-answers (Some a) call k made e f = refl

freed-want : (r : Option Answer) (d : Draft) (o : Outcome) → IsFault r → is_want o.answer ≡ false → is_want (unless r d o).answer ≡ false
freed-want None d o h e = e
freed-want (Some a) d o h e = no-want a h

module _ (words image : List ℕ) (found : Found) (k : KernelState) (c : Calling) (p : Process) (a : Asks words k c) (here : process_at k c.pid ≡ Some p) (f : ReplayFits k)
    (all : map account_told (replay k.config k.journal) ≡ map account_kept k.processes) where
  abbrev s : Setting
  s = setting k image

  abbrev ls : List Ledger
  ls = replay k.config k.journal

  abbrev l : Ledger
  l = ledger_at ls c.pid

  abbrev d : Draft
  d = draft_of k p

  abbrev idle : Bool
  idle = is_some (idle_hart k.records)

  is : l ≡ as_kept p l
  is = kept-ledger l p (account-at ls k.processes c.pid p all here)

  frames : p.space.heap.frames ≡ k.config.frames
  frames = (settled words k c p (λ frame index. 0) a here).parts.agrees.frames ∙ a.sizes.free

  lives : p.status ≡ None
  lives = lives_none p (process_at k c.pid) here (caller_lives words k c a)

  agrees : (kind : HeapKind) → k.config.heap ≡ kind → HeapAgrees kind p.space
  agrees kind e = subst (λ h. HeapAgrees h p.space) e (settled words k c p (λ frame index. 0) a here).parts.agrees.heap

  abbrev Answers : Call → Answer → Type 0
  Answers call answer = IsAnswered (first_reason (reasons s ls idle l call)) call answer

  spawn-answers : (pc sp arg : ℕ) → Answers (calls.Spawn pc sp arg) (plan_meant found c p k (calls.Spawn pc sp arg)).answer
  spawn-answers pc sp arg =
      let call = calls.Spawn pc sp arg in
      answered-as (first_reason (reasons s ls idle l call)) (refusal_of call p k) call (plan_meant found c p k call).answer (spawn-wants image k p ls l frames is pc sp arg f.spawned)
      (planned-answers (refusal_of call p k) call k (spawn_done c p pc sp arg k) refl refl)

  free-want : (pointer : ℕ) → is_want (free_of k.config.heap (terms_of k) pointer found d).answer ≡ false
  unfolding free_plan plain_free_plan
  free-want pointer = null (pointer == 0)
    where
      plain : (o : Option Block) → is_want (plain_free_of o k.config.harts d).answer ≡ false
      plain None = refl
      plain (Some block) = refl

      seen : (o : Option Seen) → is_want (free_seen o (terms_of k) found d).answer ≡ false
      seen None = refl
      seen (Some x) = freed-want (first_reason (object_reasons (Some x) found)) d (freed x.number (terms_of k) (let_wait (terms_of k) x d)) (object-faults x found) refl

      by : (kind : HeapKind) → is_want (free_by kind (terms_of k) pointer found d).answer ≡ false
      by Oscar = seen (object_at d.space.objects pointer)
      by Plain = plain (block_of_user d.space.heap.held pointer)

      null : (b : Bool) → is_want (cond b (unchanged answers.Nothing d) (free_by k.config.heap (terms_of k) pointer found d)).answer ≡ false
      null true = refl
      null false = by k.config.heap

  write-want : (bad : Option ℕ) (t : KeptTables) (buf count : ℕ) → is_want (write_by bad t buf count k).answer ≡ false
  write-want (Some address) t buf count = refl
  write-want None t buf count = refl

  join-want : (look : JoinLook) → is_want (unwrap_or (join_answer look) answers.Unknown) ≡ false
  join-want (joined.Value value) = refl
  join-want joined.NotYet = refl
  join-want joined.Unknown = refl

  wait-want : (look : WaitLook) → is_want (unwrap_or (wait_answer look) answers.Unknown) ≡ false
  wait-want (waits.Status status) = refl
  wait-want waits.NotYet = refl
  wait-want waits.Unknown = refl

  done-want : (last : Bool) (m : KernelState) → is_want (done_by last c m).answer ≡ false
  done-want true m = refl
  done-want false m = refl

  module _ (t : FramesTold (setting k image) k) where
    w : WantsFit s k.free l p
    w = t.each c.pid p here lives

    -- a malloc, or a realloc of nothing
    malloc-by-answers : (call : Call) (size : ℕ) (kind : HeapKind) → k.config.heap ≡ kind → ((object pointer : ℕ) → grants_call call (answers.Given object pointer) ≡ true)
        → ((pointer : ℕ) → grants_call call (answers.Placed pointer) ≡ true)
        → IsAnswered (first_reason (room_reasons kind s ls l (room_of size) (block_frames_from s l (room_of size) None))) call (malloc_by kind size d).answer
    unfolding malloc_plan plain_malloc_plan
    malloc-by-answers call size Oscar e gives places =
        answered-as (first_reason (room_reasons Oscar s ls l (room_of size) (block_frames_from s l (room_of size) None))) (first_reason (malloc_reasons size d)) call (malloc_by Oscar size d).answer
        (malloc-oscar-wants image k p ls l frames is w t.unused size e)
        (unless-answers (first_reason (malloc_reasons size d)) call d (malloc_in size (next_block d.space.heap (room_of size)) d) refl (gives _ _))
    malloc-by-answers call size Plain e gives places =
        answered-as (first_reason (room_reasons Plain s ls l (room_of size) (block_frames_from s l (room_of size) None))) (first_reason (plain_reasons (room_of size) d)) call (malloc_by Plain size d).answer
        (malloc-plain-wants image k p ls l frames is w t.unused size e)
        (unless-answers (first_reason (plain_reasons (room_of size) d)) call d (plain_malloc_in size (next_block d.space.heap (room_of size)) d) refl (places _))

    malloc-answers : (size : ℕ) → Answers (calls.Malloc size) (malloc_by k.config.heap size d).answer
    malloc-answers size = malloc-by-answers (calls.Malloc size) size k.config.heap refl (λ object pointer. refl) (λ pointer. refl)

    -- nothing stands at 0
    none-old : (kind : HeapKind) → k.config.heap ≡ kind → old_block kind l 0 ≡ None
    none-old Oscar e =
        let o : ObjectsAgree p.space = agrees Oscar e in
        ap (option_map (λ (x : Seen). block_of x.fact)) (ap (λ (m : Ledger). object_at m.objects 0) is ∙ (looks_find_objects p.space.objects o.granted).nowhere)
    none-old Plain e = none-at-zero l.held

    null-answers : (size : ℕ) → Answers (calls.Realloc 0 size) (malloc_by k.config.heap size d).answer
    null-answers size =
        answered-as (first_reason (reasons s ls idle l (calls.Realloc 0 size))) (first_reason (room_reasons k.config.heap s ls l (room_of size) (block_frames_from s l (room_of size) None)))
        (calls.Realloc 0 size) (malloc_by k.config.heap size d).answer
        (ap (λ o. first_reason (room_reasons k.config.heap s ls l (room_of size) (block_frames_from s l (room_of size) o))) (none-old k.config.heap refl))
        (malloc-by-answers (calls.Realloc 0 size) size k.config.heap refl (λ object pointer. refl) (λ pointer. refl))

    -- a realloc of an object
    fault-not : {A : Type 0} → true ≡ false → A
    fault-not e = absurd (let z : ⊥ = grind (arith, e) in z)

    seen-answers : (pointer size : ℕ) (o : Option Seen) → k.config.heap ≡ Oscar → faults (calls.Realloc pointer size) (realloc_seen o (terms_of k) size found d).answer ≡ false
        → IsAnswered (first_reason (room_reasons Oscar s ls l (room_of size) (block_frames_from s l (room_of size) (option_map (λ (x : Seen). block_of x.fact) o)))) (calls.Realloc pointer size) (realloc_seen o (terms_of k) size found d).answer
    seen-answers pointer size None e h = fault-not h
    seen-answers pointer size (Some seen) e h = go (first_reason (object_reasons (Some seen) found)) refl (object-faults seen found)
      where
        go : (x : Option Answer) → first_reason (object_reasons (Some seen) found) ≡ x → IsFault x
            → IsAnswered (first_reason (room_reasons Oscar s ls l (room_of size) (block_frames_from s l (room_of size) (Some (block_of seen.fact))))) (calls.Realloc pointer size) (realloc_seen (Some seen) (terms_of k) size found d).answer
        go (Some x) g fault =
            let is-x = (realloc_refused seen size found d).object x g in
            fault-not (sym (ap (λ r. is_heap_fault (unless r d (realloc_made (stays seen.fact size) (terms_of k) seen size d)).answer) is-x ∙ fault) ∙ h)
        go None g fault =
            let want = (realloc_refused seen size found d).want g in
            answered-as (first_reason (room_reasons Oscar s ls l (room_of size) (block_frames_from s l (room_of size) (Some (block_of seen.fact))))) (first_reason (realloc_reasons (Some seen) size found d))
            (calls.Realloc pointer size) (realloc_seen (Some seen) (terms_of k) size found d).answer
            (realloc-oscar-wants image k p ls l frames is w t.unused size seen e ∙ sym want)
            (unless-answers (first_reason (realloc_reasons (Some seen) size found d)) (calls.Realloc pointer size) d (realloc_made (stays seen.fact size) (terms_of k) seen size d) refl refl)

    resized-answers : (b : Bool) (pointer size bytes : ℕ) (old : Block) (r : Option Answer) → IsAnswered r (calls.Realloc pointer size) (unless r d (plain_resize b k.config.harts old size bytes d)).answer
    resized-answers true pointer size bytes old r = unless-answers r (calls.Realloc pointer size) d (plain_resize true k.config.harts old size bytes d) refl refl
    resized-answers false pointer size bytes old r = unless-answers r (calls.Realloc pointer size) d (plain_resize false k.config.harts old size bytes d) refl refl

    block-answers : (pointer size : ℕ) (o : Option Block) → k.config.heap ≡ Plain → faults (calls.Realloc pointer size) (plain_realloc_of o k.config.harts size found.second d).answer ≡ false
        → IsAnswered (first_reason (room_reasons Plain s ls l (room_of size) (block_frames_from s l (room_of size) o))) (calls.Realloc pointer size) (plain_realloc_of o k.config.harts size found.second d).answer
    block-answers pointer size None e h = fault-not h
    block-answers pointer size (Some old) e h =
        answered-as (first_reason (room_reasons Plain s ls l (room_of size) (block_frames_from s l (room_of size) (Some old)))) (first_reason (plain_realloc_reasons (Some old) size d))
        (calls.Realloc pointer size) (plain_realloc_of (Some old) k.config.harts size found.second d).answer
        (realloc-plain-wants image k p ls l frames is w t.unused size old e)
        (resized-answers (is_room (room_of size) old.room) pointer size (kept_bytes old found.second size) old (first_reason (plain_realloc_reasons (Some old) size d)))

    realloc-by-answers : (pointer size : ℕ) (kind : HeapKind) → k.config.heap ≡ kind → faults (calls.Realloc pointer size) (realloc_by kind (terms_of k) pointer size found d).answer ≡ false
        → IsAnswered (first_reason (room_reasons kind s ls l (room_of size) (block_frames_from s l (room_of size) (old_block kind l pointer)))) (calls.Realloc pointer size) (realloc_by kind (terms_of k) pointer size found d).answer
    unfolding realloc_plan plain_realloc_plan
    realloc-by-answers pointer size Oscar e h =
        answered-as _ (first_reason (room_reasons Oscar s ls l (room_of size) (block_frames_from s l (room_of size) (old_block Oscar (as_kept p l) pointer)))) (calls.Realloc pointer size) (realloc_by Oscar (terms_of k) pointer size found d).answer
        (ap (λ (m : Ledger). first_reason (room_reasons Oscar s ls l (room_of size) (block_frames_from s l (room_of size) (old_block Oscar m pointer)))) is)
        (seen-answers pointer size (object_at p.space.objects pointer) e h)
    realloc-by-answers pointer size Plain e h =
        answered-as _ (first_reason (room_reasons Plain s ls l (room_of size) (block_frames_from s l (room_of size) (old_block Plain (as_kept p l) pointer)))) (calls.Realloc pointer size) (realloc_by Plain (terms_of k) pointer size found d).answer
        (ap (λ (m : Ledger). first_reason (room_reasons Plain s ls l (room_of size) (block_frames_from s l (room_of size) (old_block Plain m pointer)))) is)
        (block-answers pointer size (block_of_user p.space.heap.held pointer) e h)

    realloc-answers : (pointer size : ℕ) → faults (calls.Realloc pointer size) (plan_meant found c p k (meant (calls.Realloc pointer size))).answer ≡ false
        → Answers (calls.Realloc pointer size) (plan_meant found c p k (meant (calls.Realloc pointer size))).answer
    realloc-answers pointer size h = go (pointer == 0) refl h
      where
        go : (b : Bool) → (pointer == 0) ≡ b → faults (calls.Realloc pointer size) (plan_meant found c p k (cond b (calls.Malloc size) (calls.Realloc pointer size))).answer ≡ false
            → Answers (calls.Realloc pointer size) (plan_meant found c p k (cond b (calls.Malloc size) (calls.Realloc pointer size))).answer
        go true e g = subst (λ q. Answers (calls.Realloc q size) (malloc_by k.config.heap size d).answer) (let z : 0 ≡ pointer = grind (arith, nat_tests, e) in z) (null-answers size)
        go false e g = realloc-by-answers pointer size k.config.heap refl g

    fork-answers : Answers calls.Fork (plan_meant found c p k calls.Fork).answer
    fork-answers =
        answered-as (first_reason (reasons s ls idle l calls.Fork)) (refusal_of calls.Fork p k) calls.Fork (plan_meant found c p k calls.Fork).answer
        (fork-wants image k p ls l frames is w t.unused (same-length ls k.processes all))
        (planned-answers (refusal_of calls.Fork p k) calls.Fork k (fork_done c p k) refl refl)

    share-answers : (count : ℕ) → Answers (calls.Share count) (plan_meant found c p k (calls.Share count)).answer
    share-answers count =
        answered-as (first_reason (reasons s ls idle l (calls.Share count))) (refusal_of (calls.Share count) p k) (calls.Share count) (plan_meant found c p k (calls.Share count)).answer
        (share-wants image k p ls l frames is w t.unused count)
        (planned-answers (refusal_of (calls.Share count) p k) (calls.Share count) k (share_done c p count k) refl refl)

  -- ---- all calls
  pub answers-by : (call : Call) → (wants_frames call ≡ true → FramesTold (setting k image) k) → faults call (plan_meant found c p k (meant call)).answer ≡ false
      → Answers call (plan_meant found c p k (meant call)).answer
  answers-by (calls.Exit status) t h = (refl, refl)
  answers-by (calls.Write buf len) t h = (write-want (first_unreadable p.space.tables buf (write_count k.output len)) p.space.tables buf (write_count k.output len), refl)
  answers-by (calls.Malloc size) t h = malloc-answers (t refl) size
  answers-by (calls.Free pointer) t h = (free-want pointer, refl)
  answers-by (calls.Realloc pointer size) t h = realloc-answers (t refl) pointer size h
  answers-by calls.Fork t h = fork-answers (t refl)
  answers-by (calls.Spawn pc sp arg) t h = spawn-answers pc sp arg
  answers-by (calls.Join number) t h = (join-want (join_look k.threads c.pid number), refl)
  answers-by (calls.Done value) t h = (done-want (is_last k.records c.pid) (value_left c.thread value k), refl)
  answers-by (calls.Share count) t h = share-answers (t refl) count
  answers-by (calls.Wait number) t h = (wait-want (wait_look k c.pid number), refl)
  answers-by (calls.Unknown number) t h = (refl, refl)
  answers-by (calls.End fault) t h = (refl, refl)

pub plans_answer_by_rule : PlansAnswerByRule
unfolding refusal_told
plans_answer_by_rule words image found k c p fits u here f t h =
    answers-by words image found k c p (asks words k c fits u) here f (f.accounts ∙ ap (map account_kept) (uncommitted k (subst IsUncommitted (sym u) tt))) c.call t h
