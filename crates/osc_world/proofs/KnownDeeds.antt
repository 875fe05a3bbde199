-- Each pointer names a granted object after a deed whose values do.
use Rattle.std.proofs.Common.{◌≡◌, ℕ, ◌≤◌, ◌+◌, ◌-◌, ◌==◌, ◌%◌, Bool, true, false, cond, List, [], ◌∷◌, ◌++◌, length, Option, Some, None, option_map, refl, arith, slice_get, zero, suc, sym, ap, subst, ◌∙◌, replicate}
use Rattle.std.proofs.lemmas.Bool.Decides.{nat_tests}
use Rattle.std.specs.Prelude.{slice_set}
use Rattle.std.specs.List.{list_all, range_with_len}
use Rattle.osc_word.specs.Environment.{answer_register}
use Rattle.osc_isa.specs.Integer.{next}
use Rattle.osc_world.specs.declared.Value.{Value}
use Rattle.osc_world.specs.declared.Value.TheVariants.{Num}
use Rattle.osc_world.specs.declared.Byte.{Byte}
use Rattle.osc_world.specs.declared.Byte.TheVariants.{Number}
use Rattle.osc_world.specs.declared.Area.{Area}
use Rattle.osc_world.specs.declared.Area.TheVariants as area
use Rattle.osc_world.specs.declared.Place.{Place}
use Rattle.osc_world.specs.declared.Reservation.{Reservation}
use Rattle.osc_world.specs.States.{Hart, Thread, Process, changed_at, with_value, idle}
use Rattle.osc_world.specs.Deeds.{Steps, Heaps, Writes, Shares, Forks, Spawns, Exits, Leaves, goes_on, begins_on, with_process, with_memory, with_child, with_thread, child_hart, thread_hart, stopped, runs, left_by, state_after, status_after, put_if, with_shared, with_answer, shared_next}
use Rattle.osc_world.specs.World.{World, WorldTurn, WorldDeed, WorldPut, Memory}
use Rattle.osc_world.specs.Accesses.{put_in_world, shared_overlaid, memory_overlaid, disturbed, is_reserved_word, is_shared_area, overlaid}
use Rattle.osc_world.specs.Calls.{world_kind, objects_after}
use Rattle.osc_world.specs.Knows.{is_known, is_known_byte, is_plain_byte, knows_memory, objects_in, objects_by, knows_hart, knows_thread, is_spawner, has_spawner, is_spawned, Knows}
use Rattle.osc_world.proofs.Lists.{length-changed_at, slice_get-changed_at}
use Rattle.osc_world.proofs.Growth.{set-get, append-get}
use Rattle.osc_world.proofs.Known.{and-both, and-left, and-right, all-at, all-set, all-map, all-more, all-append, all-replicate, all-changed_at, all-overlaid, known-more, left-more, overlaid-memory}

-- the hart and the process of a turn are those of its state
pub record InTurn (turn : WorldTurn) : Type 0 where
  pub process : slice_get turn.state.processes turn.pid ≡ Some turn.process
  pub hart : slice_get turn.state.harts turn.number ≡ Some turn.hart
  pub runs : turn.hart.process ≡ Some turn.pid

-- no process has fewer objects
unfoldable pub Grows : List (Process Memory) → List (Process Memory) → Type 0
Grows before after = (pid : Option ℕ) → objects_by before pid ≤ objects_by after pid

grows-same : (processes : List (Process Memory)) → Grows processes processes
unfolding Grows
grows-same processes pid = omega arith

grows-set : (processes : List (Process Memory)) (pid : ℕ) (x y : Process Memory) → slice_get processes pid ≡ Some x → length x.memory.objects ≤ length y.memory.objects → Grows processes (slice_set processes pid y)
unfolding Grows
grows-set processes pid x y e l None = omega arith
grows-set processes pid x y e l (Some other) = grind (arith, nat_tests, e, l, set-get processes pid other y)

grows-push : (processes : List (Process Memory)) (y : Process Memory) → Grows processes (processes ++ y ∷ [])
unfolding Grows
grows-push processes y None = omega arith
grows-push processes y (Some other) = by (slice_get processes other) refl
  where
    by : (found : Option (Process Memory)) → slice_get processes other ≡ found → objects_in (slice_get processes other) ≤ objects_in (slice_get (processes ++ y ∷ []) other)
    by None e = rw e (omega arith)
    by (Some x) e = rw (e, append-get processes y x other e) (omega arith)

harts-more : (before after : List (Process Memory)) (harts : List (Hart Value)) → Grows before after → list_all (knows_hart before) harts ≡ true → list_all (knows_hart after) harts ≡ true
unfolding Grows
harts-more before after harts g = all-more (knows_hart before) (knows_hart after) harts (λ h. all-more (is_known (objects_by before h.process)) (is_known (objects_by after h.process)) h.regs (λ v. known-more (objects_by before h.process) (objects_by after h.process) v (g h.process)))

threads-more : (before after : List (Process Memory)) (threads : List (Thread Value)) → Grows before after → list_all (knows_thread before) threads ≡ true → list_all (knows_thread after) threads ≡ true
unfolding Grows
threads-more before after threads g = all-more (knows_thread before) (knows_thread after) threads (λ t. left-more (objects_by before (Some t.spawner)) (objects_by after (Some t.spawner)) t.value (g (Some t.spawner)))

-- ---- harts

with_value-known : (n : ℕ) (regs : List Value) (rd : ℕ) (value : Value) → list_all (is_known n) regs ≡ true → is_known n value ≡ true → list_all (is_known n) (with_value regs rd value) ≡ true
with_value-known n regs rd value r v = by (rd == 0)
  where
    by : (test : Bool) → list_all (is_known n) (cond test regs (slice_set regs rd value)) ≡ true
    by true = r
    by false = all-set (is_known n) regs rd value r v

begins-knows : (world : World) (number : ℕ) (hart : Hart Value) → Knows world → knows_hart world.processes hart ≡ true → is_spawned world.threads hart ≡ true → Knows (begins_on number hart world)
begins-knows world number hart k h s = record {
  shared = k.shared;
  memories = k.memories;
  harts = all-set (knows_hart world.processes) world.harts number hart k.harts h;
  left = k.left;
  spawned = all-set (is_spawned world.threads) world.harts number hart k.spawned s;
}

pub own-count : (turn : WorldTurn) → InTurn turn → objects_by turn.state.processes (Some turn.pid) ≡ length turn.process.memory.objects
own-count turn i = rw i.process refl

pub regs-known : (turn : WorldTurn) → InTurn turn → Knows turn.state → list_all (is_known (length turn.process.memory.objects)) turn.hart.regs ≡ true
regs-known turn i k =
    let all : list_all (is_known (objects_by turn.state.processes turn.hart.process)) turn.hart.regs ≡ true = all-at (knows_hart turn.state.processes) turn.state.harts turn.number turn.hart k.harts i.hart in
    let same : objects_by turn.state.processes turn.hart.process ≡ length turn.process.memory.objects = ap (objects_by turn.state.processes) i.runs ∙ own-count turn i in
    subst (λ n. list_all (is_known n) turn.hart.regs ≡ true) same all

goes-knows : (turn : WorldTurn) (world : World) (rd : ℕ) (value : Value) (pc : ℕ) (reservation : Option Reservation) → InTurn turn → Knows turn.state → Knows world → Grows turn.state.processes world.processes
    → has_spawner world.threads turn.hart.process turn.hart.thread ≡ true → is_known (objects_by world.processes (Some turn.pid)) value ≡ true
    → Knows (goes_on turn world (with_value turn.hart.regs rd value) pc reservation)
unfolding Grows
goes-knows turn world rd value pc reservation i k w g s v =
    let less : length turn.process.memory.objects ≤ objects_by world.processes (Some turn.pid) = subst (λ n. n ≤ objects_by world.processes (Some turn.pid)) (own-count turn i) (g (Some turn.pid)) in
    let regs = all-more (is_known (length turn.process.memory.objects)) (is_known (objects_by world.processes (Some turn.pid))) turn.hart.regs (λ x. known-more (length turn.process.memory.objects) (objects_by world.processes (Some turn.pid)) x less) (regs-known turn i k) in
    let known = with_value-known (objects_by world.processes (Some turn.pid)) turn.hart.regs rd value regs v in
    let here : list_all (is_known (objects_by world.processes turn.hart.process)) (with_value turn.hart.regs rd value) ≡ true = subst (λ p. list_all (is_known (objects_by world.processes p)) (with_value turn.hart.regs rd value) ≡ true) (sym i.runs) known in
    begins-knows world turn.number (record (turn.hart) { regs = with_value turn.hart.regs rd value; pc = pc; reservation = reservation }) w here s

own-spawner : (turn : WorldTurn) → InTurn turn → Knows turn.state → has_spawner turn.state.threads turn.hart.process turn.hart.thread ≡ true
own-spawner turn i k = all-at (is_spawned turn.state.threads) turn.state.harts turn.number turn.hart k.spawned i.hart

-- ---- processes

process-knows : (turn : WorldTurn) (process : Process Memory) → InTurn turn → Knows turn.state → knows_memory process.memory ≡ true → length turn.process.memory.objects ≤ length process.memory.objects → Knows (with_process turn process)
process-knows turn process i k m l =
    let g = grows-set turn.state.processes turn.pid turn.process process i.process l in
    record {
      shared = k.shared;
      memories = all-set (λ (x : Process Memory). knows_memory x.memory) turn.state.processes turn.pid process k.memories m;
      harts = harts-more turn.state.processes (slice_set turn.state.processes turn.pid process) turn.state.harts g k.harts;
      left = threads-more turn.state.processes (slice_set turn.state.processes turn.pid process) turn.state.threads g k.left;
      spawned = k.spawned;
    }

pub own-memory : (turn : WorldTurn) → InTurn turn → Knows turn.state → knows_memory turn.process.memory ≡ true
own-memory turn i k = all-at (λ (x : Process Memory). knows_memory x.memory) turn.state.processes turn.pid turn.process k.memories i.process

-- ---- deeds

unfoldable pub KnownPut : ℕ → Option WorldPut → Type 0
KnownPut n None = Unit {0}
KnownPut n (Some put) =
    (list_all (is_known_byte n) put.bytes ≡ true) × (is_shared_area put.at.area ≡ true → list_all is_plain_byte put.bytes ≡ true)

unfoldable pub KnownDeed : WorldTurn → WorldDeed → Type 0
KnownDeed turn (Steps step) =
    KnownPut (length turn.process.memory.objects) step.put × (is_known (length turn.process.memory.objects) step.value ≡ true)
KnownDeed turn (Heaps deed value) =
    (knows_memory (record (turn.process.memory) { objects = objects_after turn.process.memory.objects deed }) ≡ true)
    × (length turn.process.memory.objects ≤ length (objects_after turn.process.memory.objects deed))
    × (is_known (length (objects_after turn.process.memory.objects deed)) value ≡ true)
KnownDeed turn (Writes bytes) = Unit {0}
KnownDeed turn (Shares count) = Unit {0}
KnownDeed turn (Forks hart) = Unit {0}
KnownDeed turn (Spawns hart pc sp arg) =
    (is_known (length turn.process.memory.objects) sp ≡ true) × (is_known (length turn.process.memory.objects) arg ≡ true)
KnownDeed turn (Exits status) = Unit {0}
KnownDeed turn (Leaves value) = is_known (length turn.process.memory.objects) value ≡ true

overlaid-shared : (shared : List (List Byte)) (at : Area) (offset : ℕ) (bytes : List Byte) → (is_shared_area at ≡ true → list_all is_plain_byte bytes ≡ true)
    → list_all (λ bs. list_all is_plain_byte bs) shared ≡ true → list_all (λ bs. list_all is_plain_byte bs) (shared_overlaid shared at offset bytes) ≡ true
overlaid-shared shared (area.Object o) offset bytes p a = a
overlaid-shared shared (area.Page n) offset bytes p a = a
overlaid-shared shared (area.Shared n) offset bytes p a =
    all-changed_at (λ bs. list_all is_plain_byte bs) (λ bs. overlaid bs offset bytes) shared n (λ bs e. all-overlaid is_plain_byte bs offset bytes e (p refl)) a

overlaid-count : (memory : Memory) (at : Area) (offset : ℕ) (bytes : List Byte) → length memory.objects ≤ length (memory_overlaid memory at offset bytes).objects
overlaid-count memory (area.Object o) offset bytes = rw (length-changed_at _ memory.objects o) (omega arith)
overlaid-count memory (area.Page n) offset bytes = omega arith
overlaid-count memory (area.Shared n) offset bytes = omega arith

disturbed-knows : (processes : List (Process Memory)) (pid : ℕ) (at : Place) (hart : Hart Value) → knows_hart processes hart ≡ true → knows_hart processes (disturbed pid at hart) ≡ true
disturbed-knows processes pid at hart e = by (is_reserved_word pid at hart.process hart.reservation)
  where
    by : (test : Bool) → knows_hart processes (cond test (record hart { reservation = None }) hart) ≡ true
    by true = e
    by false = e

disturbed-spawned : (threads : List (Thread Value)) (pid : ℕ) (at : Place) (hart : Hart Value) → is_spawned threads hart ≡ true → is_spawned threads (disturbed pid at hart) ≡ true
disturbed-spawned threads pid at hart e = by (is_reserved_word pid at hart.process hart.reservation)
  where
    by : (test : Bool) → is_spawned threads (cond test (record hart { reservation = None }) hart) ≡ true
    by true = e
    by false = e

put-knows : (turn : WorldTurn) (put : WorldPut) → InTurn turn → Knows turn.state → KnownPut (length turn.process.memory.objects) (Some put) → Knows (put_in_world turn put)
unfolding put_in_world KnownPut
put-knows turn put i k p =
    let memory = overlaid-memory turn.process.memory put.at.area put.at.offset put.bytes p.0 (own-memory turn i k) in
    let base = process-knows turn (record (turn.process) { memory = memory_overlaid turn.process.memory put.at.area put.at.offset put.bytes }) i k memory (overlaid-count turn.process.memory put.at.area put.at.offset put.bytes) in
    record {
      shared = overlaid-shared turn.state.shared put.at.area put.at.offset put.bytes p.1 k.shared;
      memories = base.memories;
      harts = all-map _ _ (disturbed turn.pid put.at) turn.state.harts (disturbed-knows _ turn.pid put.at) base.harts;
      left = base.left;
      spawned = all-map _ _ (disturbed turn.pid put.at) turn.state.harts (disturbed-spawned turn.state.threads turn.pid put.at) k.spawned;
    }

stopped-knows : (processes : List (Process Memory)) (pid : ℕ) (hart : Hart Value) → knows_hart processes hart ≡ true → knows_hart processes (stopped pid hart) ≡ true
stopped-knows processes pid hart e = by (runs pid hart)
  where
    by : (test : Bool) → knows_hart processes (cond test idle hart) ≡ true
    by true = refl
    by false = e

stopped-spawned : (threads : List (Thread Value)) (pid : ℕ) (hart : Hart Value) → is_spawned threads hart ≡ true → is_spawned threads (stopped pid hart) ≡ true
stopped-spawned threads pid hart e = by (runs pid hart)
  where
    by : (test : Bool) → is_spawned threads (cond test idle hart) ≡ true
    by true = refl
    by false = e

-- ---- beginnings and ends

push-last : {X : Type 0} (xs : List X) (y : X) → slice_get (xs ++ y ∷ []) (length xs) ≡ Some y
push-last [] y = refl
push-last (x ∷ xs) y = push-last xs y

child-knows : (turn : WorldTurn) → InTurn turn → Knows turn.state → Knows (with_child turn)
child-knows turn i k = record {
  shared = k.shared;
  memories = all-append (λ (x : Process Memory). knows_memory x.memory) turn.state.processes _ k.memories (rw (own-memory turn i k) refl);
  harts = harts-more turn.state.processes (with_child turn).processes turn.state.harts (grows-push turn.state.processes _) k.harts;
  left = threads-more turn.state.processes (with_child turn).processes turn.state.threads (grows-push turn.state.processes _) k.left;
  spawned = k.spawned;
}

child_hart-knows : (turn : WorldTurn) → InTurn turn → Knows turn.state → knows_hart (with_child turn).processes (child_hart Num turn) ≡ true
child_hart-knows turn i k = rw (push-last turn.state.processes _) (with_value-known (length turn.process.memory.objects) turn.hart.regs answer_register (Num 0) (regs-known turn i k) refl)

spawner-push : (threads : List (Thread Value)) (new : Thread Value) (pid thread : Option ℕ) → has_spawner threads pid thread ≡ true → has_spawner (threads ++ new ∷ []) pid thread ≡ true
spawner-push threads new pid None e = refl
spawner-push threads new pid (Some t) e = by (slice_get threads (t - 1)) refl e
  where
    by : (found : Option (Thread Value)) → slice_get threads (t - 1) ≡ found → is_spawner pid found ≡ true → is_spawner pid (slice_get (threads ++ new ∷ []) (t - 1)) ≡ true
    by None f h = absurd (cc)
    by (Some x) f h = rw (append-get threads new x (t - 1) f) h

thread-knows : (turn : WorldTurn) → InTurn turn → Knows turn.state → Knows (with_thread turn)
thread-knows turn i k = record {
  shared = k.shared;
  memories = k.memories;
  harts = k.harts;
  left = all-append (knows_thread turn.state.processes) turn.state.threads _ k.left refl;
  spawned = all-more (is_spawned turn.state.threads) (is_spawned (with_thread turn).threads) turn.state.harts (λ h. spawner-push turn.state.threads _ h.process h.thread) k.spawned;
}

is-itself : (n : ℕ) → (n == n) ≡ true
is-itself n = grind (arith, nat_tests)

thread_hart-spawned : (turn : WorldTurn) (pc : ℕ) (sp arg : Value) → is_spawned (with_thread turn).threads (thread_hart Num turn pc sp arg) ≡ true
thread_hart-spawned turn pc sp arg =
    let last : length turn.state.threads + 1 - 1 ≡ length turn.state.threads = omega arith in
    rw last (rw (push-last turn.state.threads _) (is-itself turn.pid))

thread_hart-knows : (turn : WorldTurn) (pc : ℕ) (sp arg : Value) → InTurn turn → is_known (length turn.process.memory.objects) sp ≡ true → is_known (length turn.process.memory.objects) arg ≡ true
    → knows_hart (with_thread turn).processes (thread_hart Num turn pc sp arg) ≡ true
thread_hart-knows turn pc sp arg i s a =
    rw (own-count turn i) (all-set (is_known (length turn.process.memory.objects)) (slice_set (replicate 32 (Num 0)) 2 sp) answer_register arg
    (all-set (is_known (length turn.process.memory.objects)) (replicate 32 (Num 0)) 2 sp (all-replicate (is_known (length turn.process.memory.objects)) 32 (Num 0) refl) s) a)

one-changed : {X : Type 0} (p : X → Bool) (f : X → X) (xs : List X) (i : ℕ) → ((x : X) → slice_get xs i ≡ Some x → p (f x) ≡ true) → list_all p xs ≡ true → list_all p (changed_at f xs i) ≡ true
unfolding changed_at
one-changed p f [] i h a = refl
one-changed p f (x ∷ xs) zero h a = and-both (p (f x)) (list_all p xs) (h x refl) (and-right (p x) (list_all p xs) a)
one-changed p f (x ∷ xs) (suc i) h a = and-both (p x) (list_all p (changed_at f xs i)) (and-left (p x) (list_all p xs) a) (one-changed p f xs i h (and-right (p x) (list_all p xs) a))

abbrev keeping : Value → Thread Value → Thread Value
keeping value thread = record thread { value = Some value }

left-known : (processes : List (Process Memory)) (threads : List (Thread Value)) (pid : ℕ) (thread : Option ℕ) (value : Value) → list_all (knows_thread processes) threads ≡ true
    → has_spawner threads (Some pid) thread ≡ true → is_known (objects_by processes (Some pid)) value ≡ true → list_all (knows_thread processes) (left_by threads thread value) ≡ true
left-known processes threads pid None value l s v = l
left-known processes threads pid (Some t) value l s v = one-changed (knows_thread processes) (keeping value) threads (t - 1) one l
  where
    one : (x : Thread Value) → slice_get threads (t - 1) ≡ Some x → is_known (objects_by processes (Some x.spawner)) value ≡ true
    one x e =
        let same : (pid == x.spawner) ≡ true = rw e at s in
        let is : pid ≡ x.spawner = grind (arith, nat_tests, same) in
        subst (λ n. is_known (objects_by processes (Some n)) value ≡ true) is v

spawner-left : (threads : List (Thread Value)) (i : Option ℕ) (value : Value) (pid thread : Option ℕ) → has_spawner threads pid thread ≡ true → has_spawner (left_by threads i value) pid thread ≡ true
spawner-left threads None value pid thread e = e
spawner-left threads (Some i) value pid None e = refl
spawner-left threads (Some i) value pid (Some t) e = rw (slice_get-changed_at (keeping value) threads (i - 1) (t - 1)) (by (slice_get threads (t - 1)) (t - 1 == i - 1) e)
  where
    by : (found : Option (Thread Value)) (test : Bool) → is_spawner pid found ≡ true → is_spawner pid (cond test (option_map (keeping value) found) found) ≡ true
    by None test h = absurd (cc)
    by (Some x) true h = h
    by (Some x) false h = h

-- ---- what the deeds below ask

set-count : (turn : WorldTurn) (process : Process Memory) → InTurn turn → objects_by (with_process turn process).processes (Some turn.pid) ≡ length process.memory.objects
set-count turn process i = rw (set-get turn.state.processes turn.pid turn.pid process) (rw (is-itself turn.pid) (rw i.process refl))

more-known : (turn : WorldTurn) (world : World) (value : Value) → InTurn turn → Grows turn.state.processes world.processes → is_known (length turn.process.memory.objects) value ≡ true → is_known (objects_by world.processes (Some turn.pid)) value ≡ true
unfolding Grows
more-known turn world value i g v = known-more (length turn.process.memory.objects) (objects_by world.processes (Some turn.pid)) value (subst (λ n. n ≤ objects_by world.processes (Some turn.pid)) (own-count turn i) (g (Some turn.pid))) v

put-grows : (turn : WorldTurn) (put : WorldPut) → InTurn turn → Grows turn.state.processes (put_in_world turn put).processes
unfolding put_in_world
put-grows turn put i = grows-set turn.state.processes turn.pid turn.process _ i.process (overlaid-count turn.process.memory put.at.area put.at.offset put.bytes)

put-spawner : (turn : WorldTurn) (put : WorldPut) → InTurn turn → Knows turn.state → has_spawner (put_in_world turn put).threads turn.hart.process turn.hart.thread ≡ true
unfolding put_in_world
put-spawner turn put i k = own-spawner turn i k

shared-grows : (turn : WorldTurn) (count : ℕ) → InTurn turn → Grows turn.state.processes (with_shared (Number 0) turn count).processes
shared-grows turn count i = grows-set turn.state.processes turn.pid turn.process _ i.process (omega arith)

shared-knows : (turn : WorldTurn) (count : ℕ) → InTurn turn → Knows turn.state → Knows (with_shared (Number 0) turn count)
shared-knows turn count i k =
    let base = process-knows turn (record (turn.process) { shared = turn.process.shared ++ range_with_len (length turn.state.shared) count }) i k (own-memory turn i k) (omega arith) in
    record {
      shared = all-append (λ bs. list_all is_plain_byte bs) turn.state.shared (replicate count (replicate 4096 (Number 0))) k.shared (all-replicate (λ bs. list_all is_plain_byte bs) count (replicate 4096 (Number 0)) (all-replicate is_plain_byte 4096 (Number 0) refl));
      memories = base.memories;
      harts = base.harts;
      left = base.left;
      spawned = base.spawned;
    }

-- ---- all deeds

pub after-knows : (turn : WorldTurn) (deed : WorldDeed) → InTurn turn → Knows turn.state → KnownDeed turn deed → Knows (state_after world_kind turn deed)
unfolding state_after KnownDeed
after-knows turn (Steps step) i k d = by step.put d.0
  where
    by : (put : Option WorldPut) → KnownPut (length turn.process.memory.objects) put → Knows (goes_on turn (put_if world_kind turn put) (with_value turn.hart.regs step.rd step.value) step.pc step.reservation)
    by None p = goes-knows turn turn.state step.rd step.value step.pc step.reservation i k k (grows-same turn.state.processes) (own-spawner turn i k) (rw (own-count turn i) d.1)
    by (Some put) p =
        let g = put-grows turn put i in
        goes-knows turn (put_in_world turn put) step.rd step.value step.pc step.reservation i k (put-knows turn put i k p) g (put-spawner turn put i k) (more-known turn (put_in_world turn put) step.value i g d.1)
after-knows turn (Heaps deed value) i k d =
    let memory : Memory = record (turn.process.memory) { objects = objects_after turn.process.memory.objects deed } in
    let g = grows-set turn.state.processes turn.pid turn.process (record (turn.process) { memory = memory }) i.process d.1 in
    goes-knows turn (with_memory turn memory) answer_register value (next turn.hart.pc) None i k (process-knows turn (record (turn.process) { memory = memory }) i k d.0 d.1) g (own-spawner turn i k)
    (rw (set-count turn (record (turn.process) { memory = memory }) i) d.2)
after-knows turn (Writes bytes) i k d =
    let same : Knows (record (turn.state) { output = turn.state.output ++ bytes }) = record { shared = k.shared; memories = k.memories; harts = k.harts; left = k.left; spawned = k.spawned } in
    goes-knows turn (record (turn.state) { output = turn.state.output ++ bytes }) answer_register (Num (length bytes)) (next turn.hart.pc) None i k same (grows-same turn.state.processes) (own-spawner turn i k) refl
after-knows turn (Shares count) i k d = goes-knows turn (with_shared (Number 0) turn count) answer_register (Num (shared_next turn.process)) (next turn.hart.pc) None i k (shared-knows turn count i k) (shared-grows turn count i) (own-spawner turn i k) refl
after-knows turn (Forks hart) i k d =
    let answered = goes-knows turn (with_child turn) answer_register (Num (length turn.state.processes)) (next turn.hart.pc) None i k (child-knows turn i k) (grows-push turn.state.processes _) (own-spawner turn i k) refl in
    begins-knows (with_answer turn (with_child turn) (Num (length turn.state.processes))) hart (child_hart Num turn) answered (child_hart-knows turn i k) refl
after-knows turn (Spawns hart pc sp arg) i k d =
    let answered = goes-knows turn (with_thread turn) answer_register (Num (length turn.state.threads + 1)) (next turn.hart.pc) None i k (thread-knows turn i k) (grows-same turn.state.processes) (spawner-push turn.state.threads _ turn.hart.process turn.hart.thread (own-spawner turn i k)) refl in
    begins-knows (with_answer turn (with_thread turn) (Num (length turn.state.threads + 1))) hart (thread_hart Num turn pc sp arg) answered (thread_hart-knows turn pc sp arg i d.0 d.1) (thread_hart-spawned turn pc sp arg)
after-knows turn (Exits status) i k d =
    let base = process-knows turn (record (turn.process) { status = Some (status % 64) }) i k (own-memory turn i k) (omega arith) in
    record {
      shared = base.shared;
      memories = base.memories;
      harts = all-map _ _ (stopped turn.pid) turn.state.harts (stopped-knows _ turn.pid) base.harts;
      left = base.left;
      spawned = all-map _ _ (stopped turn.pid) turn.state.harts (stopped-spawned turn.state.threads turn.pid) base.spawned;
    }
after-knows turn (Leaves value) i k d =
    let process : Process Memory = record (turn.process) { status = status_after turn.pid turn.process.status (slice_set turn.state.harts turn.number idle) } in
    let base = process-knows turn process i k (own-memory turn i k) (omega arith) in
    let own : has_spawner turn.state.threads (Some turn.pid) turn.hart.thread ≡ true = subst (λ p. has_spawner turn.state.threads p turn.hart.thread ≡ true) i.runs (own-spawner turn i k) in
    record {
      shared = base.shared;
      memories = base.memories;
      harts = all-set (knows_hart (with_process turn process).processes) turn.state.harts turn.number idle base.harts refl;
      left = left-known (with_process turn process).processes turn.state.threads turn.pid turn.hart.thread value base.left own (rw (set-count turn process i) d);
      spawned = all-more (is_spawned turn.state.threads) (is_spawned (left_by turn.state.threads turn.hart.thread value)) (slice_set turn.state.harts turn.number idle) (λ h. spawner-left turn.state.threads turn.hart.thread value h.process h.thread)
          (all-set (is_spawned turn.state.threads) turn.state.harts turn.number idle k.spawned refl);
    }
