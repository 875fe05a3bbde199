-- The law of reasons: a want is the first reason that holds, and the first reason that holds is answered,
-- unless the object is at fault.
use Rattle.std.proofs.Common.{ℕ, ◌≡◌, ◌==◌, Bool, true, false, Option, Some, None, List, [], ◌∷◌, ◌++◌, refl, sym, ap, ◌∙◌, unwrap_or}
use Rattle.std.specs.Prelude.{◌+◌, ◌/◌, nat_lt, not, is_none, if◌then◌else◌}
use Rattle.osc_word.specs.declared.calls.Call.{Call}
use Rattle.osc_word.specs.declared.calls.Call.TheVariants as calls
use Rattle.osc_word.specs.declared.calls.Answer.{Answer}
use Rattle.osc_word.specs.declared.calls.Answer.TheVariants as answer
use Rattle.osc_word.specs.declared.settings.HeapKind.{HeapKind}
use Rattle.osc_word.specs.declared.settings.HeapKind.TheVariants.{Oscar, Plain}
use Rattle.osc_slot.specs.declared.Block.{Block}
use Rattle.osc_slot.specs.Slots.{is_room}
use Rattle.osc_slot.specs.Heap.{block_of_user, next_block, free_count}
use Rattle.osc_class.specs.Rooms.{room_of, shadow_pages}
use Rattle.osc_paging.specs.KeptTables.{KeptTables, need}
use Rattle.osc_space.specs.declared.ObjectState.{ObjectState}
use Rattle.osc_space.specs.declared.ObjectState.TheVariants.{Live, Dead}
use Rattle.osc_space.specs.Objects.{Seen, object_at, mark, next_page}
use Rattle.osc_space.specs.Space.{Draft, Outcome, Terms, Reason, reason, first_reason, unless, unchanged}
use Rattle.osc_space.specs.Header.{Found, death_reasons}
use Rattle.osc_space.specs.Malloc.{malloc_plan, malloc_reasons, malloc_in, block_need}
use Rattle.osc_space.specs.Free.{free_plan, free_seen}
use Rattle.osc_space.specs.Realloc.{realloc_plan, realloc_seen}
use Rattle.osc_space.specs.PlainHeap.{plain_malloc_plan, plain_malloc_in, plain_free_plan, plain_free_of, plain_realloc_plan, plain_realloc_of, plain_realloc_reasons, plain_resize, plain_reasons, kept_bytes}
use Rattle.osc_calls.specs.declared.JoinLook.{JoinLook}
use Rattle.osc_calls.specs.declared.JoinLook.TheVariants as joined
use Rattle.osc_calls.specs.declared.WaitLook.{WaitLook}
use Rattle.osc_calls.specs.declared.WaitLook.TheVariants as waited
use Rattle.osc_calls.specs.declared.Begun.TheVariants as begun
use Rattle.osc_calls.specs.Threads.{join_look}
use Rattle.osc_calls.specs.Kernel.{KernelState, Process, Calling, is_last, has_journal_room}
use Rattle.osc_calls.specs.Requests.{meant, join_answer, wait_look, wait_answer}
use Rattle.osc_calls.specs.Refusals.{draft_of, malloc_wants, object_wants, block_wants, realloc_wants, refusal_of}
use Rattle.osc_calls.specs.Planned.{Planned, planned_unless}
use Rattle.osc_calls.specs.HeapPlans.{terms_of, malloc_by, free_by, realloc_by}
use Rattle.osc_calls.specs.WritePlan.{write_by, first_unreadable, write_count}
use Rattle.osc_calls.specs.ProcessPlans.{done_by, value_left, fork_done, spawn_done, share_done}
use Rattle.osc_calls.specs.Begin.{boxes_where}
use Rattle.osc_calls.specs.Plan.{plan_meant}
use Rattle.osc_calls.specs.CallLaws.{is_want, is_heap_fault, is_moved, RefusedByFirstReason, RefusedAtOnce, RefusedBegin, MallocsMoveNothing}

-- ---- a want is the first reason
abbrev Only : Answer → Option Answer → Type 0
Only a r = is_want a ≡ true → r ≡ Some a

unless-only : (r : Option Answer) (d : Draft) (made : Outcome) → is_want made.answer ≡ false → Only (unless r d made).answer r
unless-only (Some a) d made e h = refl
unless-only None d made e h = cc

planned-only : (r : Option Answer) (kernel : KernelState) (made : Planned) → is_want made.answer ≡ false → Only (planned_unless r kernel made).answer r
planned-only (Some a) kernel made e h = refl
planned-only None kernel made e h = cc

malloc-only : (kind : HeapKind) (size : ℕ) (d : Draft) → Only (malloc_by kind size d).answer (first_reason (malloc_wants kind size d))
unfolding malloc_plan plain_malloc_plan
malloc-only Oscar size d h = unless-only (first_reason (malloc_reasons size d)) d _ refl h
malloc-only Plain size d h = unless-only (first_reason (plain_reasons (room_of size) d)) d _ refl h

-- a header's reasons are faults
damage-only : (first second : Bool) (a b x y : ℕ) (rest : List Reason) (d : Draft) (made : Outcome) → is_want made.answer ≡ false
    → Only (unless (first_reason (reason first (answer.HeaderDamaged a b) ∷ reason second (answer.HeaderDamaged x y) ∷ rest)) d made).answer (first_reason rest)
damage-only true second a b x y rest d made e h = cc
damage-only false true a b x y rest d made e h = cc
damage-only false false a b x y rest d made e h = unless-only (first_reason rest) d made e h

object-only : (state : ObjectState) (number : ℕ) (first second : Bool) (a b x y : ℕ) (rest : List Reason) (d : Draft) (made : Outcome) → is_want made.answer ≡ false
    → Only (unless (first_reason ((death_reasons number state ++ reason first (answer.HeaderDamaged a b) ∷ reason second (answer.HeaderDamaged x y) ∷ []) ++ rest)) d made).answer (first_reason rest)
object-only Live number first second a b x y rest d made e h = damage-only first second a b x y rest d made e h
object-only (Dead call) number first second a b x y rest d made e h = cc

none-want : (state : ObjectState) (number : ℕ) (first second : Bool) (a b x y : ℕ) (d : Draft) (made : Outcome) → is_want made.answer ≡ false
    → is_want (unless (first_reason (death_reasons number state ++ reason first (answer.HeaderDamaged a b) ∷ reason second (answer.HeaderDamaged x y) ∷ [])) d made).answer ≡ false
none-want (Dead call) number first second a b x y d made e = refl
none-want Live number true second a b x y d made e = refl
none-want Live number false true a b x y d made e = refl
none-want Live number false false a b x y d made e = e

free-seen-only : (s : Option Seen) (terms : Terms) (found : Found) (d : Draft) → is_want (free_seen s terms found d).answer ≡ false
free-seen-only None terms found d = refl
free-seen-only (Some s) terms found d = none-want s.fact.state s.number _ _ _ _ _ _ d _ refl

plain-free-only : (b : Option Block) (harts : ℕ) (d : Draft) → is_want (plain_free_of b harts d).answer ≡ false
plain-free-only None harts d = refl
plain-free-only (Some block) harts d = refl

free-only : (kind : HeapKind) (terms : Terms) (pointer : ℕ) (found : Found) (d : Draft) → is_want (free_by kind terms pointer found d).answer ≡ false
unfolding free_plan plain_free_plan
free-only Oscar terms pointer found d = free-seen-only (object_at d.space.objects pointer) terms found d
free-only Plain terms pointer found d = plain-free-only (block_of_user d.space.heap.held pointer) terms.harts d

if-only : (null : Bool) (o : Outcome) (d : Draft) → is_want o.answer ≡ false → is_want (if null then unchanged answer.Nothing d else o).answer ≡ false
if-only true o d e = refl
if-only false o d e = e

realloc-seen-only : (s : Option Seen) (terms : Terms) (size : ℕ) (found : Found) (d : Draft) → Only (realloc_seen s terms size found d).answer (first_reason (object_wants s size d))
realloc-seen-only None terms size found d h = cc
realloc-seen-only (Some s) terms size found d h = object-only s.fact.state s.number _ _ _ _ _ _ _ d _ refl h

resize-given : (stay : Bool) (harts : ℕ) (block : Block) (n bytes : ℕ) (d : Draft) → is_want (plain_resize stay harts block n bytes d).answer ≡ false
resize-given true harts block n bytes d = refl
resize-given false harts block n bytes d = refl

plain-realloc-only : (b : Option Block) (harts n size : ℕ) (d : Draft) → Only (plain_realloc_of b harts n size d).answer (first_reason (block_wants b n d))
plain-realloc-only None harts n size d h = cc
plain-realloc-only (Some block) harts n size d h =
    unless-only (first_reason (plain_realloc_reasons (Some block) n d)) d
    (plain_resize (is_room (room_of n) block.room) harts block n (kept_bytes block size n) d)
    (resize-given (is_room (room_of n) block.room) harts block n (kept_bytes block size n) d) h

realloc-only : (kind : HeapKind) (terms : Terms) (pointer size : ℕ) (found : Found) (d : Draft)
    → Only (realloc_by kind terms pointer size found d).answer (first_reason (realloc_wants kind pointer size d))
unfolding realloc_plan plain_realloc_plan
realloc-only Oscar terms pointer size found d h = realloc-seen-only (object_at d.space.objects pointer) terms size found d h
realloc-only Plain terms pointer size found d h = plain-realloc-only (block_of_user d.space.heap.held pointer) terms.harts size found.second d h

write-only : (bad : Option ℕ) (t : KeptTables) (buf count : ℕ) (kernel : KernelState) → is_want (write_by bad t buf count kernel).answer ≡ false
write-only None t buf count kernel = refl
write-only (Some address) t buf count kernel = refl

done-only : (last : Bool) (c : Calling) (k : KernelState) → is_want (done_by last c k).answer ≡ false
done-only true c k = refl
done-only false c k = refl

join-only : (look : JoinLook) → is_want (unwrap_or (join_answer look) answer.Unknown) ≡ false
join-only (joined.Value value) = refl
join-only joined.NotYet = refl
join-only joined.Unknown = refl

wait-only : (look : WaitLook) → is_want (unwrap_or (wait_answer look) answer.Unknown) ≡ false
wait-only (waited.Status status) = refl
wait-only waited.NotYet = refl
wait-only waited.Unknown = refl

only : (found : Found) (c : Calling) (p : Process) (kernel : KernelState) (call : Call) → Only (plan_meant found c p kernel call).answer (refusal_of call p kernel)
only found c p kernel (calls.Exit status) h = cc
only found c p kernel (calls.Write buf len) h =
    let b = write-only (first_unreadable p.space.tables buf (write_count kernel.output len)) p.space.tables buf (write_count kernel.output len) kernel in cc
only found c p kernel (calls.Malloc size) h = malloc-only kernel.config.heap size (draft_of kernel p) h
only found c p kernel (calls.Free pointer) h =
    let b = if-only (pointer == 0) (free_by kernel.config.heap (terms_of kernel) pointer found (draft_of kernel p)) (draft_of kernel p)
    (free-only kernel.config.heap (terms_of kernel) pointer found (draft_of kernel p)) in cc
only found c p kernel (calls.Realloc pointer size) h = realloc-only kernel.config.heap (terms_of kernel) pointer size found (draft_of kernel p) h
only found c p kernel calls.Fork h = planned-only (refusal_of calls.Fork p kernel) kernel (fork_done c p kernel) refl h
only found c p kernel (calls.Spawn pc sp arg) h =
    planned-only (refusal_of (calls.Spawn pc sp arg) p kernel) kernel (spawn_done c p pc sp arg kernel) refl h
only found c p kernel (calls.Join number) h = let b = join-only (join_look kernel.threads c.pid number) in cc
only found c p kernel (calls.Done value) h =
    let b = done-only (is_last kernel.records c.pid) c (value_left c.thread value kernel) in cc
only found c p kernel (calls.Share count) h = planned-only (refusal_of (calls.Share count) p kernel) kernel (share_done c p count kernel) refl h
only found c p kernel (calls.Wait number) h = let b = wait-only (wait_look kernel c.pid number) in cc
only found c p kernel (calls.Unknown number) h = cc
only found c p kernel (calls.End fault) h = cc

-- ---- the first reason is answered
abbrev Each : Answer → Option Answer → Type 0
Each a r = (first : Answer) → r ≡ Some first → is_heap_fault a ≡ false → a ≡ first

unless-each : (r : Option Answer) (d : Draft) (made : Outcome) → Each (unless r d made).answer r
unless-each (Some a) d made first e h = cc
unless-each None d made first e h = cc

planned-each : (r : Option Answer) (kernel : KernelState) (made : Planned) → Each (planned_unless r kernel made).answer r
planned-each (Some a) kernel made first e h = cc
planned-each None kernel made first e h = cc

malloc-each : (kind : HeapKind) (size : ℕ) (d : Draft) → Each (malloc_by kind size d).answer (first_reason (malloc_wants kind size d))
unfolding malloc_plan plain_malloc_plan
malloc-each Oscar size d first e h = unless-each (first_reason (malloc_reasons size d)) d _ first e h
malloc-each Plain size d first e h = unless-each (first_reason (plain_reasons (room_of size) d)) d _ first e h

object-each : (state : ObjectState) (number : ℕ) (one two : Bool) (a b x y : ℕ) (rest : List Reason) (d : Draft) (made : Outcome)
    → Each (unless (first_reason ((death_reasons number state ++ reason one (answer.HeaderDamaged a b) ∷ reason two (answer.HeaderDamaged x y) ∷ []) ++ rest)) d made).answer (first_reason rest)
object-each (Dead call) number one two a b x y rest d made first e h = cc
object-each Live number true two a b x y rest d made first e h = cc
object-each Live number false true a b x y rest d made first e h = cc
object-each Live number false false a b x y rest d made first e h = unless-each (first_reason rest) d made first e h

realloc-seen-each : (s : Option Seen) (terms : Terms) (size : ℕ) (found : Found) (d : Draft) → Each (realloc_seen s terms size found d).answer (first_reason (object_wants s size d))
realloc-seen-each None terms size found d first e h = cc
realloc-seen-each (Some s) terms size found d first e h = object-each s.fact.state s.number _ _ _ _ _ _ _ d _ first e h

plain-realloc-each : (b : Option Block) (harts n size : ℕ) (d : Draft) → Each (plain_realloc_of b harts n size d).answer (first_reason (block_wants b n d))
plain-realloc-each None harts n size d first e h = cc
plain-realloc-each (Some block) harts n size d first e h =
    unless-each (first_reason (plain_realloc_reasons (Some block) n d)) d
    (plain_resize (is_room (room_of n) block.room) harts block n (kept_bytes block size n) d) first e h

realloc-each : (kind : HeapKind) (terms : Terms) (pointer size : ℕ) (found : Found) (d : Draft)
    → Each (realloc_by kind terms pointer size found d).answer (first_reason (realloc_wants kind pointer size d))
unfolding realloc_plan plain_realloc_plan
realloc-each Oscar terms pointer size found d first e h = realloc-seen-each (object_at d.space.objects pointer) terms size found d first e h
realloc-each Plain terms pointer size found d first e h =
    plain-realloc-each (block_of_user d.space.heap.held pointer) terms.harts size found.second d first e h

each : (found : Found) (c : Calling) (p : Process) (kernel : KernelState) (call : Call) → Each (plan_meant found c p kernel call).answer (refusal_of call p kernel)
each found c p kernel (calls.Malloc size) first e h = malloc-each kernel.config.heap size (draft_of kernel p) first e h
each found c p kernel (calls.Realloc pointer size) first e h =
    realloc-each kernel.config.heap (terms_of kernel) pointer size found (draft_of kernel p) first e h
each found c p kernel calls.Fork first e h = planned-each (refusal_of calls.Fork p kernel) kernel (fork_done c p kernel) first e h
each found c p kernel (calls.Spawn pc sp arg) first e h =
    planned-each (refusal_of (calls.Spawn pc sp arg) p kernel) kernel (spawn_done c p pc sp arg kernel) first e h
each found c p kernel (calls.Share count) first e h =
    planned-each (refusal_of (calls.Share count) p kernel) kernel (share_done c p count kernel) first e h
each found c p kernel _ first e h = cc

pub refused_by_first_reason : RefusedByFirstReason
refused_by_first_reason = record {
  only = λ found c p kernel h. only found c p kernel (meant c.call) h;
  each = λ found c p kernel first e h. each found c p kernel (meant c.call) first e h;
}

-- ---- a fork or a share begins
refused-begins : (room : Bool) (r : Option Answer) (first : Answer) → room ≡ true → r ≡ Some first
    → (if not room then begun.JournalFull else boxes_where (is_none r)) ≡ begun.Planned
refused-begins false r first e f = cc
refused-begins true None first e f = cc
refused-begins true (Some a) first e f = refl

granted-begins : (room : Bool) (r : Option Answer) → room ≡ true → r ≡ None
    → (if not room then begun.JournalFull else boxes_where (is_none r)) ≡ begun.Boxes
granted-begins false r e f = cc
granted-begins true None e f = refl
granted-begins true (Some a) e f = cc

fork-begins : (c : Calling) (p : Process) (kernel : KernelState) → c.call ≡ calls.Fork → has_journal_room kernel ≡ true → RefusedAtOnce c p kernel
fork-begins c p kernel e room = record {
  refused = λ first r. let f : refusal_of calls.Fork p kernel ≡ Some first = ap (λ call. refusal_of (meant call) p kernel) (sym e) ∙ r in
      rw e (refused-begins (has_journal_room kernel) (refusal_of calls.Fork p kernel) first room f);
  granted = λ r. let f : refusal_of calls.Fork p kernel ≡ None = ap (λ call. refusal_of (meant call) p kernel) (sym e) ∙ r in
      rw e (granted-begins (has_journal_room kernel) (refusal_of calls.Fork p kernel) room f);
}

share-begins : (c : Calling) (p : Process) (kernel : KernelState) (count : ℕ) → c.call ≡ calls.Share count → has_journal_room kernel ≡ true → RefusedAtOnce c p kernel
share-begins c p kernel count e room = record {
  refused = λ first r. let f : refusal_of (calls.Share count) p kernel ≡ Some first = ap (λ call. refusal_of (meant call) p kernel) (sym e) ∙ r in
      rw e (refused-begins (has_journal_room kernel) (refusal_of (calls.Share count) p kernel) first room f);
  granted = λ r. let f : refusal_of (calls.Share count) p kernel ≡ None = ap (λ call. refusal_of (meant call) p kernel) (sym e) ∙ r in
      rw e (granted-begins (has_journal_room kernel) (refusal_of (calls.Share count) p kernel) room f);
}

pub refused_begin : RefusedBegin
refused_begin = record { fork = fork-begins; share = share-begins }

-- ---- malloc
oscar-moves : (shadow frames : Bool) (d : Draft) (made : Outcome) → is_moved made.answer ≡ false
    → is_moved (unless (first_reason (reason shadow answer.NoShadow ∷ reason frames answer.NoFrames ∷ [])) d made).answer ≡ false
oscar-moves true frames d made e = refl
oscar-moves false true d made e = refl
oscar-moves false false d made e = e

plain-moves : (frames : Bool) (d : Draft) (made : Outcome) → is_moved made.answer ≡ false
    → is_moved (unless (first_reason (reason frames answer.NoFrames ∷ [])) d made).answer ≡ false
plain-moves true d made e = refl
plain-moves false d made e = e

malloc-moves : (kind : HeapKind) (size : ℕ) (d : Draft) → is_moved (malloc_by kind size d).answer ≡ false
unfolding malloc_plan plain_malloc_plan
malloc-moves Oscar size d =
    oscar-moves (nat_lt d.space.shadows (mark d.space.objects + shadow_pages (room_of size)))
    (nat_lt (free_count d.free) (block_need d (room_of size) + need d.space.tables (next_page d.space.objects) (shadow_pages (room_of size)))) d
    (malloc_in size (next_block d.space.heap (room_of size)) d) refl
malloc-moves Plain size d =
    plain-moves (nat_lt (free_count d.free) (block_need d (room_of size)
    + need d.space.tables ((next_block d.space.heap (room_of size)).start / 4096) (block_need d (room_of size)))) d
    (plain_malloc_in size (next_block d.space.heap (room_of size)) d) refl

pub mallocs_move_nothing : MallocsMoveNothing
mallocs_move_nothing found c p kernel size e = rw e (malloc-moves kernel.config.heap size (draft_of kernel p))
