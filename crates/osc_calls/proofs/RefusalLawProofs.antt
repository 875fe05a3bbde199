-- The laws of refusals, by cases on the call and on what it finds.
use Rattle.std.proofs.Common.{ℕ, zero, suc, ◌≡◌, ◌==◌, Bool, true, false, Option, Some, None, List, [], ◌∷◌, slice_set, slice_get, refl, ap, ◌∙◌}
use Rattle.std.specs.Prelude.{if◌then◌else◌}
use Rattle.osc_word.specs.declared.calls.Call.{Call}
use Rattle.osc_word.specs.declared.calls.Call.TheVariants as calls
use Rattle.osc_word.specs.declared.calls.Answer.{Answer}
use Rattle.osc_word.specs.declared.calls.Answer.TheVariants as answer
use Rattle.osc_word.specs.declared.settings.HeapKind.{HeapKind}
use Rattle.osc_word.specs.declared.settings.HeapKind.TheVariants.{Oscar, Plain}
use Rattle.osc_slot.specs.declared.Block.{Block}
use Rattle.osc_slot.specs.Slots.{is_room}
use Rattle.osc_slot.specs.Heap.{block_of_user}
use Rattle.osc_class.specs.Rooms.{room_of}
use Rattle.osc_paging.specs.KeptTables.{KeptTables}
use Rattle.osc_space.specs.Objects.{Seen, object_at}
use Rattle.osc_space.specs.Space.{Draft, Outcome, Terms, first_reason, unless, unchanged}
use Rattle.osc_space.specs.Header.{Found, object_reasons}
use Rattle.osc_space.specs.Malloc.{malloc_plan, malloc_reasons}
use Rattle.osc_space.specs.Free.{free_plan, free_seen}
use Rattle.osc_space.specs.Realloc.{realloc_plan, realloc_seen, realloc_reasons, realloc_made, stays}
use Rattle.osc_space.specs.PlainHeap.{plain_malloc_plan, plain_free_plan, plain_free_of, plain_realloc_plan, plain_realloc_of, plain_realloc_reasons, plain_resize, plain_reasons, kept_bytes}
use Rattle.osc_calls.specs.Kernel.{KernelState, Process, Calling, process_at, is_last}
use Rattle.osc_calls.specs.Requests.{meant}
use Rattle.osc_calls.specs.Refusals.{draft_of, refusal_of}
use Rattle.osc_calls.specs.Planned.{Planned, answered, planned_unless, outcome_planned}
use Rattle.osc_calls.specs.HeapPlans.{terms_of, malloc_by, free_by, free_of, realloc_by}
use Rattle.osc_calls.specs.WritePlan.{write_by, first_unreadable, write_count}
use Rattle.osc_calls.specs.ProcessPlans.{done_by, value_left, fork_done, spawn_done, share_done}
use Rattle.osc_calls.specs.Plan.{plan_meant}
use Rattle.osc_calls.specs.CallLaws.{is_denied, RefusedCallsKeep}

-- ---- an answer alone
-- an element that is put where it stands changes nothing
set-same : {X : Type 0} (xs : List X) (i : ℕ) (x : X) → slice_get xs i ≡ Some x → slice_set xs i x ≡ xs
set-same [] i x e = refl
set-same (y ∷ ys) zero x e = cc
set-same (y ∷ ys) (suc i) x e = ap (λ zs. y ∷ zs) (set-same ys i x e)

outcome-keeps : (pid : ℕ) (p : Process) (kernel : KernelState) (o : Outcome) → process_at kernel pid ≡ Some p → o ≡ unchanged o.answer (draft_of kernel p)
    → outcome_planned pid p kernel o ≡ answered o.answer kernel
outcome-keeps pid p kernel o e f =
    ap (outcome_planned pid p kernel) f
    ∙ ap (λ ps. answered o.answer (record kernel { processes = ps })) (set-same kernel.processes pid p e)

abbrev Keeps : Outcome → Draft → Type 0
Keeps o d = is_denied o.answer ≡ true → o ≡ unchanged o.answer d

unless-keeps : (r : Option Answer) (d : Draft) (made : Outcome) → is_denied made.answer ≡ false → Keeps (unless r d made) d
unless-keeps (Some a) d made e h = refl
unless-keeps None d made e h = cc

malloc-keeps : (kind : HeapKind) (size : ℕ) (d : Draft) → Keeps (malloc_by kind size d) d
unfolding malloc_plan plain_malloc_plan
malloc-keeps Oscar size d h = unless-keeps (first_reason (malloc_reasons size d)) d _ refl h
malloc-keeps Plain size d h = unless-keeps (first_reason (plain_reasons (room_of size) d)) d _ refl h

free-seen-keeps : (s : Option Seen) (terms : Terms) (found : Found) (d : Draft) → Keeps (free_seen s terms found d) d
free-seen-keeps None terms found d h = refl
free-seen-keeps (Some s) terms found d h = unless-keeps (first_reason (object_reasons (Some s) found)) d _ refl h

plain-free-keeps : (b : Option Block) (harts : ℕ) (d : Draft) → Keeps (plain_free_of b harts d) d
plain-free-keeps None harts d h = refl
plain-free-keeps (Some block) harts d h = cc

free-keeps : (kind : HeapKind) (terms : Terms) (pointer : ℕ) (found : Found) (d : Draft) → Keeps (free_by kind terms pointer found d) d
unfolding free_plan plain_free_plan
free-keeps Oscar terms pointer found d h = free-seen-keeps (object_at d.space.objects pointer) terms found d h
free-keeps Plain terms pointer found d h = plain-free-keeps (block_of_user d.space.heap.held pointer) terms.harts d h

if-keeps : (null : Bool) (o : Outcome) (d : Draft) → Keeps o d → Keeps (if null then unchanged answer.Nothing d else o) d
if-keeps true o d k h = refl
if-keeps false o d k h = k h

realloc-seen-keeps : (s : Option Seen) (terms : Terms) (size : ℕ) (found : Found) (d : Draft) → Keeps (realloc_seen s terms size found d) d
realloc-seen-keeps None terms size found d h = refl
realloc-seen-keeps (Some s) terms size found d h =
    unless-keeps (first_reason (realloc_reasons (Some s) size found d)) d (realloc_made (stays s.fact size) terms s size d) refl h

resize-given : (stay : Bool) (harts : ℕ) (block : Block) (n bytes : ℕ) (d : Draft) → is_denied (plain_resize stay harts block n bytes d).answer ≡ false
resize-given true harts block n bytes d = refl
resize-given false harts block n bytes d = refl

plain-realloc-keeps : (b : Option Block) (harts n size : ℕ) (d : Draft) → Keeps (plain_realloc_of b harts n size d) d
plain-realloc-keeps None harts n size d h = refl
plain-realloc-keeps (Some block) harts n size d h =
    unless-keeps (first_reason (plain_realloc_reasons (Some block) n d)) d
    (plain_resize (is_room (room_of n) block.room) harts block n (kept_bytes block size n) d)
    (resize-given (is_room (room_of n) block.room) harts block n (kept_bytes block size n) d) h

realloc-keeps : (kind : HeapKind) (terms : Terms) (pointer size : ℕ) (found : Found) (d : Draft) → Keeps (realloc_by kind terms pointer size found d) d
unfolding realloc_plan plain_realloc_plan
realloc-keeps Oscar terms pointer size found d h = realloc-seen-keeps (object_at d.space.objects pointer) terms size found d h
realloc-keeps Plain terms pointer size found d h = plain-realloc-keeps (block_of_user d.space.heap.held pointer) terms.harts size found.second d h

abbrev Alone : Planned → KernelState → Type 0
Alone made kernel = is_denied made.answer ≡ true → made ≡ answered made.answer kernel

planned-alone : (r : Option Answer) (kernel : KernelState) (made : Planned) → is_denied made.answer ≡ false → Alone (planned_unless r kernel made) kernel
planned-alone (Some a) kernel made e h = refl
planned-alone None kernel made e h = cc

write-alone : (bad : Option ℕ) (t : KeptTables) (buf count : ℕ) (kernel : KernelState) → Alone (write_by bad t buf count kernel) kernel
write-alone None t buf count kernel h = cc
write-alone (Some address) t buf count kernel h = refl

done-alone : (last : Bool) (c : Calling) (kernel k : KernelState) → Alone (done_by last c k) kernel
done-alone true c kernel k h = cc
done-alone false c kernel k h = cc

heap-alone : (pid : ℕ) (p : Process) (kernel : KernelState) (o : Outcome) → process_at kernel pid ≡ Some p → Keeps o (draft_of kernel p) → Alone (outcome_planned pid p kernel o) kernel
heap-alone pid p kernel o e k h = outcome-keeps pid p kernel o e (k h)

alone : (found : Found) (c : Calling) (p : Process) (kernel : KernelState) (call : Call) → process_at kernel c.pid ≡ Some p → Alone (plan_meant found c p kernel call) kernel
alone found c p kernel (calls.Exit status) e h = cc
alone found c p kernel (calls.Write buf len) e h =
    write-alone (first_unreadable p.space.tables buf (write_count kernel.output len)) p.space.tables buf (write_count kernel.output len) kernel h
alone found c p kernel (calls.Malloc size) e h =
    heap-alone c.pid p kernel (malloc_by kernel.config.heap size (draft_of kernel p)) e (malloc-keeps kernel.config.heap size (draft_of kernel p)) h
alone found c p kernel (calls.Free pointer) e h =
    heap-alone c.pid p kernel (free_of kernel.config.heap (terms_of kernel) pointer found (draft_of kernel p)) e
    (if-keeps (pointer == 0) (free_by kernel.config.heap (terms_of kernel) pointer found (draft_of kernel p)) (draft_of kernel p)
    (free-keeps kernel.config.heap (terms_of kernel) pointer found (draft_of kernel p))) h
alone found c p kernel (calls.Realloc pointer size) e h =
    heap-alone c.pid p kernel (realloc_by kernel.config.heap (terms_of kernel) pointer size found (draft_of kernel p)) e
    (realloc-keeps kernel.config.heap (terms_of kernel) pointer size found (draft_of kernel p)) h
alone found c p kernel calls.Fork e h = planned-alone (refusal_of calls.Fork p kernel) kernel (fork_done c p kernel) refl h
alone found c p kernel (calls.Spawn pc sp arg) e h =
    planned-alone (refusal_of (calls.Spawn pc sp arg) p kernel) kernel (spawn_done c p pc sp arg kernel) refl h
alone found c p kernel (calls.Join number) e h = refl
alone found c p kernel (calls.Done value) e h = done-alone (is_last kernel.records c.pid) c kernel (value_left c.thread value kernel) h
alone found c p kernel (calls.Share count) e h = planned-alone (refusal_of (calls.Share count) p kernel) kernel (share_done c p count kernel) refl h
alone found c p kernel (calls.Wait number) e h = refl
alone found c p kernel (calls.Unknown number) e h = refl
alone found c p kernel (calls.End fault) e h = cc

pub refused_calls_keep : RefusedCallsKeep
refused_calls_keep found c p kernel e h = alone found c p kernel (meant c.call) e h
