-- Deeds that are alike in both runs keep the plain state showing the world.
use Rattle.std.proofs.Common.{ℕ, zero, suc, ◌≡◌, ◌≢◌, ◌<◌, ◌≤◌, ◌==◌, ◌+◌, ◌-◌, ◌*◌, Bool, true, false, cond, List, [], ◌∷◌, ◌++◌, Option, Some, None, option_map, arith, refl, ap, sym, subst, ◌∙◌, ◌⊎◌, inl, inr, slice_get, length, length-append, length-set, map, replicate, unwrap_or}
use Rattle.std.proofs.lemmas.Bool.Decides.{nat_tests}
use Rattle.std.proofs.lemmas.List.{length-map, map-set}
use Rattle.std.proofs.lemmas.Option.{slice_get-map, slice_get_within}
use Rattle.std.specs.Prelude.{slice_set}
use Rattle.std.specs.Option.{option_and_then}
use Rattle.osc_isa.specs.Numbers.{wrapped}
use Rattle.std.specs.List.{list_all, list_any, range_with_len}
use Rattle.osc_word.specs.AddressMap.{first_shared_page, first_shadow_page}
use Rattle.osc_word.specs.Environment.{answer_register}
use Rattle.osc_isa.specs.Integer.{next}
use Rattle.osc_world.specs.declared.Value.{Value}
use Rattle.osc_world.specs.declared.Value.TheVariants.{Num, Ptr}
use Rattle.osc_world.specs.declared.Byte.{Byte}
use Rattle.osc_world.specs.declared.Byte.TheVariants.{Number}
use Rattle.osc_world.specs.States.{State, Process, Hart, Thread, changed_at, with_value, idle}
use Rattle.osc_world.specs.Deeds.{Put, Step, Steps, Heaps, Writes, Shares, Forks, Spawns, Exits, Leaves, state_after, put_if, with_process, with_memory, with_answer, with_shared, with_child, with_thread, child_hart, thread_hart, shared_next, exited, stopped, runs, is_number, done_with, left_by, status_after, begins_on, goes_on}
use Rattle.osc_world.specs.World.{World, WorldTurn, WorldPut, WorldStep, WorldDeed, Memory}
use Rattle.osc_world.specs.Calls.{world_kind, objects_after}
use Rattle.osc_world.specs.PlainWorld.{Flat, Plain, PlainTurn, PlainStep, PlainDeed, BlockDeed, plain_kind, flat_after}
use Rattle.osc_world.specs.Knows.{Knows, is_known, knows_memory, knows_hart, objects_by, is_spawned, is_spawner, has_spawner}
use Rattle.osc_world.proofs.Lists.{set-same}
use Rattle.osc_world.proofs.Growth.{append-get}
use Rattle.osc_world.proofs.Known.{all-at}
use Rattle.osc_world.proofs.KnownDeeds.{own-memory, regs-known}
use Rattle.osc_means.specs.Shown.{shown, shown_byte, shared_byte, Mirrors, Mirrored, Shows, Kept, given_at, shown_hart, shown_thread}
use Rattle.osc_means.proofs.Rows.{map-map, map-same, map-append, map-replicate, pushed, pushed-last, some-same, stands}
use Rattle.osc_means.proofs.Reading.{Paired, plain_turn, mirrored}
use Rattle.osc_means.proofs.Going.{PutAlike, put-shows, process-shows, memory-shows, begins-shows, goes-shows, with_value-shown, set-cases, more-mirrored}
use Rattle.osc_means.proofs.Forking.{Agree, regs-agree, forked}

-- ---- deeds that are alike

abbrev pub PutsAlike : (ℕ → ℕ) → WorldTurn → Option WorldPut → Option (Put ℕ ℕ) → Type 0
PutsAlike place turn None None = Unit {0}
PutsAlike place turn (Some put) (Some other) = PutAlike place turn put other
PutsAlike place turn _ _ = ⊥

pub record StepAlike (place : ℕ → ℕ) (turn : WorldTurn) (step : WorldStep) (other : PlainStep) : Type 0 where
  pub put : PutsAlike place turn step.put other.put
  pub rd : other.rd ≡ step.rd
  pub value : other.value ≡ shown place step.value
  pub pc : other.pc ≡ step.pc
  pub reservation : other.reservation ≡ None

unfoldable pub Alike : (frames : ℕ) (place : ℕ → ℕ → ℕ) (turn : WorldTurn) (plain : Plain) (y : Process Flat) → WorldDeed → PlainDeed → Type 0
Alike frames place turn plain y (Steps step) (Steps other) = StepAlike (place turn.pid) turn step other
Alike frames place turn plain y (Heaps deed value) (Heaps other answer) =
    ((o user : ℕ) → slice_get (flat_after (plain_turn place turn plain y) y.memory other).given o ≡ Some user → place turn.pid o ≡ user)
    → Mirrors frames (place turn.pid) (record (turn.process.memory) { objects = objects_after turn.process.memory.objects deed }) (flat_after (plain_turn place turn plain y) y.memory other)
    × (answer ≡ shown (place turn.pid) value)
Alike frames place turn plain y (Writes bytes) (Writes others) = others ≡ bytes
Alike frames place turn plain y (Shares count) (Shares other) = (other ≡ count) × (first_shared_page + (length turn.process.shared + count) ≤ first_shadow_page)
Alike frames place turn plain y (Forks hart) (Forks other) = other ≡ hart
Alike frames place turn plain y (Spawns hart pc sp arg) (Spawns other target stack given) =
    (other ≡ hart) × (target ≡ pc) × (stack ≡ shown (place turn.pid) sp) × (given ≡ shown (place turn.pid) arg)
Alike frames place turn plain y (Exits status) (Exits other) = other ≡ status
Alike frames place turn plain y (Leaves value) (Leaves other) = other ≡ shown (place turn.pid) value
Alike frames place turn plain y _ _ = ⊥

-- ---- answers

pub answer-shows : (frames : ℕ) (place : ℕ → ℕ → ℕ) (turn : WorldTurn) (plain : Plain) (y : Process Flat) (now : World) (then : Plain) (value : Value) (answer : ℕ) → Paired frames place turn plain y
    → Shows frames place now then → answer ≡ shown (place turn.pid) value → Shows frames place (with_answer turn now value) (with_answer (plain_turn place turn plain y) then answer)
answer-shows frames place turn plain y now then value answer pair s e =
    goes-shows frames place turn plain y now then (with_value turn.hart.regs answer_register value) _ (next turn.hart.pc) None pair s
    (ap (with_value (map (shown (place turn.pid)) turn.hart.regs) answer_register) e ∙ with_value-shown (shown (place turn.pid)) turn.hart.regs answer_register value)

steps-shows : (frames : ℕ) (place : ℕ → ℕ → ℕ) (turn : WorldTurn) (plain : Plain) (y : Process Flat) (step : WorldStep) (other : PlainStep) → Paired frames place turn plain y
    → StepAlike (place turn.pid) turn step other → Shows frames place (state_after world_kind turn (Steps step)) (state_after plain_kind (plain_turn place turn plain y) (Steps other))
unfolding state_after
steps-shows frames place turn plain y step other pair a =
    rw (a.pc, a.reservation) (goes-shows frames place turn plain y (put_if world_kind turn step.put) (put_if plain_kind (plain_turn place turn plain y) other.put) (with_value turn.hart.regs step.rd step.value)
    (with_value (map (shown (place turn.pid)) turn.hart.regs) other.rd other.value) step.pc step.reservation pair (by step.put other.put a.put) regs)
  where
    regs : with_value (map (shown (place turn.pid)) turn.hart.regs) other.rd other.value ≡ map (shown (place turn.pid)) (with_value turn.hart.regs step.rd step.value)
    regs = ap (λ z. with_value (map (shown (place turn.pid)) turn.hart.regs) z other.value) a.rd ∙ ap (with_value (map (shown (place turn.pid)) turn.hart.regs) step.rd) a.value
        ∙ with_value-shown (shown (place turn.pid)) turn.hart.regs step.rd step.value

    by : (put : Option WorldPut) (other : Option (Put ℕ ℕ)) → PutsAlike (place turn.pid) turn put other → Shows frames place (put_if world_kind turn put) (put_if plain_kind (plain_turn place turn plain y) other)
    by None None a = pair.shows
    by (Some put) (Some other) a = put-shows frames place turn plain y put other pair a
    by None (Some other) a = absurd a
    by (Some put) None a = absurd a

-- ---- output and shared pages

output-shows : (frames : ℕ) (place : ℕ → ℕ → ℕ) (world : World) (plain : Plain) (bytes : List ℕ) → Shows frames place world plain
    → Shows frames place (record world { output = world.output ++ bytes }) (record plain { output = plain.output ++ bytes })
output-shows frames place world plain bytes s = record {
  output = ap (λ z. z ++ bytes) s.output;
  shared = s.shared;
  wide = s.wide;
  harts = s.harts;
  threads = s.threads;
  count = s.count;
  processes = s.processes;
}

-- what stands in two lists, one after the other
both-get : {X : Type 0} (xs ys : List X) (i : ℕ) (z : X) → slice_get (xs ++ ys) i ≡ Some z → (slice_get xs i ≡ Some z) ⊎ ((j : ℕ) × (slice_get ys j ≡ Some z))
both-get [] ys i z e = inr (i, e)
both-get (x ∷ xs) ys zero z e = inl e
both-get (x ∷ xs) ys (suc i) z e = both-get xs ys i z e

range-get : (from count i z : ℕ) → slice_get (range_with_len from count) i ≡ Some z → z < from + count
range-get from zero i z e = absurd (cc)
range-get from (suc count) zero z e = let s : from ≡ z = cc in omega arith
range-get from (suc count) (suc i) z e = let f = range-get (from + 1) count i z e in omega arith

range-length : (from count : ℕ) → length (range_with_len from count) ≡ count
range-length from zero = refl
range-length from (suc count) = ap suc (range-length (from + 1) count)

replicate-get : {X : Type 0} (n i : ℕ) (x y : X) → slice_get (replicate n x) i ≡ Some y → x ≡ y
replicate-get zero i x y e = absurd (cc)
replicate-get (suc n) zero x y e = cc
replicate-get (suc n) (suc i) x y e = replicate-get n i x y e

replicate-length : {X : Type 0} (n : ℕ) (x : X) → length (replicate n x) ≡ n
replicate-length zero x = refl
replicate-length (suc n) x = ap suc (replicate-length n x)

shares-shows : (frames : ℕ) (place : ℕ → ℕ → ℕ) (turn : WorldTurn) (plain : Plain) (y : Process Flat) (count : ℕ) → Paired frames place turn plain y
    → first_shared_page + (length turn.process.shared + count) ≤ first_shadow_page
    → Shows frames place (with_shared (Number 0) turn count) (with_shared 0 (plain_turn place turn plain y) count)
shares-shows frames place turn plain y count pair few = record {
  output = base.output;
  shared = ap (λ z. z ++ replicate count (replicate 4096 0)) pair.shows.shared
      ∙ ap (λ z. map (map shared_byte) turn.state.shared ++ z) (sym (map-replicate (map shared_byte) count (replicate 4096 (Number 0)) ∙ ap (replicate count) (map-replicate shared_byte 4096 (Number 0))))
      ∙ sym (map-append (map shared_byte) turn.state.shared (replicate count (replicate 4096 (Number 0))));
  wide = λ page bytes e. elim (both-get turn.state.shared (replicate count (replicate 4096 (Number 0))) page bytes e) as (λ _. length bytes ≡ 4096) [
    | inl f ↦ pair.shows.wide page bytes f
    | inr f ↦ ap length (sym (replicate-get count f.0 (replicate 4096 (Number 0)) bytes f.1)) ∙ replicate-length 4096 (Number 0)
  ];
  harts = base.harts;
  threads = base.threads;
  count = length-set plain.processes turn.pid then ∙ base.count ∙ sym (length-set turn.state.processes turn.pid now);
  processes = λ pid u v e f. elim (set-cases turn.state.processes turn.pid pid now u e) as (λ _. Mirrored frames more (place pid) u v) [
    | inl s ↦ elim (set-cases plain.processes turn.pid pid then v f) as (λ _. Mirrored frames more (place pid) u v) [
      | inl r ↦ rw (s.0, ← s.1, ← r.1) here
      | inr r ↦ absurd (r.0 s.0)
    ]
    | inr s ↦ elim (set-cases plain.processes turn.pid pid then v f) as (λ _. Mirrored frames more (place pid) u v) [
      | inl r ↦ absurd (s.0 r.0)
      | inr r ↦ more-mirrored frames (length turn.state.shared) more (place pid) u v (omega (arith, grown)) (pair.shows.processes pid u v s.1 r.1)
    ]
  ];
}
  where
    base : Shows frames place turn.state plain
    base = pair.shows

    now : Process Memory
    now = record (turn.process) { shared = turn.process.shared ++ range_with_len (length turn.state.shared) count }

    then : Process Flat
    then = record y { shared = y.shared ++ range_with_len (length plain.shared) count }

    more : ℕ
    more = length (turn.state.shared ++ replicate count (replicate 4096 (Number 0)))

    grown : length (turn.state.shared ++ replicate count (replicate 4096 (Number 0))) ≡ length turn.state.shared + count
    grown = length-append turn.state.shared (replicate count (replicate 4096 (Number 0))) ∙ ap (λ z. length turn.state.shared + z) (replicate-length count (replicate 4096 (Number 0)))

    here : Mirrored frames (length (turn.state.shared ++ replicate count (replicate 4096 (Number 0)))) (place turn.pid)
        (record (turn.process) { shared = turn.process.shared ++ range_with_len (length turn.state.shared) count }) (record y { shared = y.shared ++ range_with_len (length plain.shared) count })
    here =
        let m = mirrored pair in
        let same : length plain.shared ≡ length turn.state.shared = ap length pair.shows.shared ∙ length-map turn.state.shared (map shared_byte) in
        record {
          memory = m.memory;
          shared = ap (λ z. z ++ range_with_len (length plain.shared) count) m.shared ∙ ap (λ z. turn.process.shared ++ range_with_len z count) same;
          parent = m.parent;
          status = m.status;
          few = let l = length-append turn.process.shared (range_with_len (length turn.state.shared) count) in let r = range-length (length turn.state.shared) count in omega (arith, l, r, few);
          regions = λ i page e. elim (both-get turn.process.shared (range_with_len (length turn.state.shared) count) i page e) as (λ _. page < length (turn.state.shared ++ replicate count (replicate 4096 (Number 0)))) [
            | inl f ↦ (let b = m.regions i page f in omega (arith, b, grown))
            | inr f ↦ (let b = range-get (length turn.state.shared) count f.0 page f.1 in omega (arith, b, grown))
          ];
        }

-- ---- threads

push-thread : (frames : ℕ) (place : ℕ → ℕ → ℕ) (world : World) (plain : Plain) (pid : ℕ) → Shows frames place world plain
    → Shows frames place (record world { threads = world.threads ++ record { spawner = pid; value = None } ∷ [] }) (record plain { threads = plain.threads ++ record { spawner = pid; value = None } ∷ [] })
push-thread frames place world plain pid s = record {
  output = s.output;
  shared = s.shared;
  wide = s.wide;
  harts = s.harts;
  count = s.count;
  processes = s.processes;
  threads = ap (λ z. z ++ record { spawner = pid; value = None } ∷ []) s.threads ∙ sym (map-append (shown_thread place) world.threads (record { spawner = pid; value = None } ∷ []));
}

fresh-shown : (f : Value → ℕ) (sp arg : Value) → f (Num 0) ≡ 0 → slice_set (slice_set (replicate 32 0) 2 (f sp)) answer_register (f arg) ≡ map f (slice_set (slice_set (replicate 32 (Num 0)) 2 sp) answer_register arg)
fresh-shown f sp arg e = rw e refl

thread-count : (frames : ℕ) (place : ℕ → ℕ → ℕ) (world : World) (plain : Plain) → Shows frames place world plain → length plain.threads ≡ length world.threads
thread-count frames place world plain s = ap length s.threads ∙ length-map world.threads (shown_thread place)

spawns-shows : (frames : ℕ) (place : ℕ → ℕ → ℕ) (turn : WorldTurn) (plain : Plain) (y : Process Flat) (hart pc : ℕ) (sp arg : Value) → Paired frames place turn plain y
    → Shows frames place (state_after world_kind turn (Spawns hart pc sp arg)) (state_after plain_kind (plain_turn place turn plain y) (Spawns hart pc (shown (place turn.pid) sp) (shown (place turn.pid) arg)))
unfolding state_after
spawns-shows frames place turn plain y hart pc sp arg pair =
    let count = thread-count frames place turn.state plain pair.shows in
    begins-shows frames place _ _ hart (thread_hart Num turn pc sp arg) _
    (answer-shows frames place turn plain y (with_thread turn) (with_thread (plain_turn place turn plain y)) (Num (length turn.state.threads + 1)) _ pair (push-thread frames place turn.state plain turn.pid pair.shows) (ap (λ n. n + 1) count))
    (ap (λ z. record { process = Some turn.pid; thread = Some (z + 1); regs = slice_set (slice_set (replicate 32 0) 2 (shown (place turn.pid) sp)) answer_register (shown (place turn.pid) arg); pc = pc; reservation = None }) count
    ∙ ap (λ z. record { process = Some turn.pid; thread = Some (length turn.state.threads + 1); regs = z; pc = pc; reservation = None }) (fresh-shown (shown (place turn.pid)) sp arg refl))

-- ---- ends

stopped-shown : (place : ℕ → ℕ → ℕ) (pid : ℕ) (hart : Hart Value) → stopped pid (shown_hart place hart) ≡ shown_hart place (stopped pid hart)
stopped-shown place pid hart = by (is_number hart.process pid)
  where
    by : (t : Bool) → cond t idle (shown_hart place hart) ≡ shown_hart place (cond t idle hart)
    by true = refl
    by false = refl

all-stopped : (place : ℕ → ℕ → ℕ) (pid : ℕ) (harts : List (Hart Value)) → map (stopped pid) (map (shown_hart place) harts) ≡ map (shown_hart place) (map (stopped pid) harts)
all-stopped place pid [] = refl
all-stopped place pid (hart ∷ harts) = let a = stopped-shown place pid hart in let b = all-stopped place pid harts in cc

exits-shows : (frames : ℕ) (place : ℕ → ℕ → ℕ) (turn : WorldTurn) (plain : Plain) (y : Process Flat) (status : ℕ) → Paired frames place turn plain y
    → Shows frames place (exited turn status) (exited (plain_turn place turn plain y) status)
exits-shows frames place turn plain y status pair =
    let m = mirrored pair in
    let s = process-shows frames place turn plain y (record (turn.process) { status = Some _ }) (record y { status = Some _ }) pair
    (record { memory = m.memory; shared = m.shared; parent = m.parent; status = refl; few = m.few; regions = m.regions }) in
    record {
      output = s.output;
      shared = s.shared;
      wide = s.wide;
      threads = s.threads;
      count = s.count;
      processes = s.processes;
      harts = ap (map (stopped turn.pid)) pair.shows.harts ∙ all-stopped place turn.pid turn.state.harts;
    }

runs-shown : (place : ℕ → ℕ → ℕ) (pid : ℕ) (harts : List (Hart Value)) → list_any (runs pid) (map (shown_hart place) harts) ≡ list_any (runs pid) harts
runs-shown place pid [] = refl
runs-shown place pid (hart ∷ harts) = let a = runs-shown place pid harts in cc

left-shown : (place : ℕ → ℕ → ℕ) (pid : ℕ) (value : Value) (threads : List (Thread Value)) (i : ℕ) → ((t : Thread Value) → slice_get threads i ≡ Some t → t.spawner ≡ pid)
    → changed_at (λ t. record t { value = Some (shown (place pid) value) }) (map (shown_thread place) threads) i ≡ map (shown_thread place) (changed_at (λ t. record t { value = Some value }) threads i)
unfolding changed_at
left-shown place pid value [] i e = refl
left-shown place pid value (t ∷ threads) zero e = ap (λ z. record { spawner = t.spawner; value = Some (shown (place z) value) } ∷ map (shown_thread place) threads) (sym (e t refl))
left-shown place pid value (t ∷ threads) (suc i) e = ap (λ z. shown_thread place t ∷ z) (left-shown place pid value threads i e)

leaves-threads : (frames : ℕ) (place : ℕ → ℕ → ℕ) (turn : WorldTurn) (plain : Plain) (y : Process Flat) (value : Value) → Paired frames place turn plain y
    → left_by plain.threads turn.hart.thread (shown (place turn.pid) value) ≡ map (shown_thread place) (left_by turn.state.threads turn.hart.thread value)
leaves-threads frames place turn plain y value pair = by turn.hart.thread (all-at (is_spawned turn.state.threads) turn.state.harts turn.number turn.hart pair.knows.spawned pair.in_turn.hart)
  where
    spawned : (t : Thread Value) (found : Option (Thread Value)) → is_spawner turn.hart.process found ≡ true → found ≡ Some t → t.spawner ≡ turn.pid
    spawned t None e f = absurd (cc)
    spawned t (Some u) e f =
        let same : u ≡ t = cc in
        let is : is_number (Some turn.pid) u.spawner ≡ true = ap (λ z. is_number z u.spawner) (sym pair.in_turn.runs) ∙ e in
        ap (λ (z : Thread Value). z.spawner) (sym same) ∙ (grind (arith, nat_tests, is))

    by : (thread : Option ℕ) → has_spawner turn.state.threads turn.hart.process thread ≡ true → left_by plain.threads thread (shown (place turn.pid) value) ≡ map (shown_thread place) (left_by turn.state.threads thread value)
    by None e = pair.shows.threads
    by (Some thread) e =
        ap (λ z. changed_at (λ t. record t { value = Some (shown (place turn.pid) value) }) z (thread - 1)) pair.shows.threads
        ∙ left-shown place turn.pid value turn.state.threads (thread - 1) (λ t f. spawned t (slice_get turn.state.threads (thread - 1)) e f)

leaves-shows : (frames : ℕ) (place : ℕ → ℕ → ℕ) (turn : WorldTurn) (plain : Plain) (y : Process Flat) (value : Value) → Paired frames place turn plain y
    → Shows frames place (done_with turn value) (done_with (plain_turn place turn plain y) (shown (place turn.pid) value))
leaves-shows frames place turn plain y value pair =
    let m = mirrored pair in
    let harts : slice_set plain.harts turn.number idle ≡ map (shown_hart place) (slice_set turn.state.harts turn.number idle) = ap (λ z. slice_set z turn.number idle) pair.shows.harts ∙ sym (map-set (shown_hart place) turn.state.harts turn.number idle) in
    let any : list_any (runs turn.pid) (slice_set plain.harts turn.number idle) ≡ list_any (runs turn.pid) (slice_set turn.state.harts turn.number idle) = ap (list_any (runs turn.pid)) harts ∙ runs-shown place turn.pid (slice_set turn.state.harts turn.number idle) in
    let status : status_after turn.pid y.status (slice_set plain.harts turn.number idle) ≡ status_after turn.pid turn.process.status (slice_set turn.state.harts turn.number idle) = ap (λ z. cond z y.status (Some 0)) any ∙ ap (λ z. cond (list_any (runs turn.pid) (slice_set turn.state.harts turn.number idle)) z (Some 0)) m.status in
    let s = process-shows frames place turn plain y (record (turn.process) { status = status_after turn.pid turn.process.status (slice_set turn.state.harts turn.number idle) })
    (record y { status = status_after turn.pid y.status (slice_set plain.harts turn.number idle) }) pair
    (record { memory = m.memory; shared = m.shared; parent = m.parent; status = status; few = m.few; regions = m.regions }) in
    record {
      output = s.output;
      shared = s.shared;
      wide = s.wide;
      count = s.count;
      processes = s.processes;
      harts = harts;
      threads = leaves-threads frames place turn plain y value pair;
    }

-- ---- forks

child-shows : (frames : ℕ) (place : ℕ → ℕ → ℕ) (turn : WorldTurn) (plain : Plain) (y : Process Flat) → Paired frames place turn plain y
    → Agree (length turn.process.memory.objects) (place turn.pid) (place (length turn.state.processes)) → Shows frames place (with_child turn) (with_child (plain_turn place turn plain y))
child-shows frames place turn plain y pair agree = record {
  output = pair.shows.output;
  shared = pair.shows.shared;
  wide = pair.shows.wide;
  harts = pair.shows.harts;
  threads = pair.shows.threads;
  count = length-append plain.processes (other ∷ []) ∙ ap (λ n. n + 1) pair.shows.count ∙ sym (length-append turn.state.processes (child ∷ []));
  processes = λ pid u v e f. by pid u v (pid == length turn.state.processes) refl e f;
}
  where
    child : Process Memory
    child = record { memory = turn.process.memory; shared = turn.process.shared; parent = Some turn.pid; status = None }

    other : Process Flat
    other = record { memory = y.memory; shared = y.shared; parent = Some turn.pid; status = None }

    new : Mirrored frames (length turn.state.shared) (place (length turn.state.processes)) (record { memory = turn.process.memory; shared = turn.process.shared; parent = Some turn.pid; status = None })
        (record { memory = y.memory; shared = y.shared; parent = Some turn.pid; status = None })
    new =
        let m = mirrored pair in
        record {
          memory = forked frames (place turn.pid) (place (length turn.state.processes)) turn.process.memory y.memory (own-memory turn pair.in_turn pair.knows) agree m.memory;
          shared = m.shared;
          parent = refl;
          status = refl;
          few = m.few;
          regions = m.regions;
        }

    by : (pid : ℕ) (u : Process Memory) (v : Process Flat) (t : Bool) → (pid == length turn.state.processes) ≡ t
        → slice_get (turn.state.processes ++ record { memory = turn.process.memory; shared = turn.process.shared; parent = Some turn.pid; status = None } ∷ []) pid ≡ Some u
        → slice_get (plain.processes ++ record { memory = y.memory; shared = y.shared; parent = Some turn.pid; status = None } ∷ []) pid ≡ Some v
        → Mirrored frames (length turn.state.shared) (place pid) u v
    by pid u v true t e f =
        let is : pid ≡ length turn.state.processes = grind (arith, nat_tests, t) in
        let as_plain : pid ≡ length plain.processes = is ∙ sym pair.shows.count in
        let x : record { memory = turn.process.memory; shared = turn.process.shared; parent = Some turn.pid; status = None } ≡ u = some-same _ u (sym (pushed-last turn.state.processes _) ∙ ap (slice_get (turn.state.processes ++ record { memory = turn.process.memory; shared = turn.process.shared; parent = Some turn.pid; status = None } ∷ [])) (sym is) ∙ e) in
        let z : record { memory = y.memory; shared = y.shared; parent = Some turn.pid; status = None } ≡ v = some-same _ v (sym (pushed-last plain.processes _) ∙ ap (slice_get (plain.processes ++ record { memory = y.memory; shared = y.shared; parent = Some turn.pid; status = None } ∷ [])) (sym as_plain) ∙ f) in
        rw (is, ← x, ← z) new
    by pid u v false t e f =
        let n : pid ≢ length turn.state.processes = grind (arith, nat_tests, t) in
        let m : pid ≢ length plain.processes = (λ s. n (s ∙ pair.shows.count)) in
        pair.shows.processes pid u v (pushed turn.state.processes _ u pid e n) (pushed plain.processes _ v pid f m)

forks-shows : (frames : ℕ) (place : ℕ → ℕ → ℕ) (turn : WorldTurn) (plain : Plain) (y : Process Flat) (hart : ℕ) → Paired frames place turn plain y
    → Kept place (state_after plain_kind (plain_turn place turn plain y) (Forks hart))
    → Shows frames place (state_after world_kind turn (Forks hart)) (state_after plain_kind (plain_turn place turn plain y) (Forks hart))
unfolding state_after
forks-shows frames place turn plain y hart pair kept =
    begins-shows frames place _ _ hart (child_hart Num turn) _
    (answer-shows frames place turn plain y (with_child turn) (with_child (plain_turn place turn plain y)) (Num (length turn.state.processes)) _ pair (child-shows frames place turn plain y pair agree) pair.shows.count)
    (ap (λ z. record { process = Some z; thread = None; regs = with_value (map (shown (place turn.pid)) turn.hart.regs) answer_register 0; pc = next turn.hart.pc; reservation = None }) pair.shows.count
    ∙ ap (λ z. record { process = Some (length turn.state.processes); thread = None; regs = z; pc = next turn.hart.pc; reservation = None }) regs)
  where
    m : Mirrored frames (length turn.state.shared) (place turn.pid) turn.process y
    m = mirrored pair

    agree : Agree (length turn.process.memory.objects) (place turn.pid) (place (length turn.state.processes))
    agree o l =
        let count = m.memory.given in
        let user = stands y.memory.given o (omega (arith, count)) in
        let own = kept turn.pid o user.0 (ap (option_and_then (λ (p : Process Flat). slice_get p.memory.given o)) (append-get plain.processes (record { memory = y.memory; shared = y.shared; parent = Some turn.pid; status = None }) y turn.pid pair.there) ∙ user.1) in
        let last : slice_get (plain.processes ++ record { memory = y.memory; shared = y.shared; parent = Some turn.pid; status = None } ∷ []) (length turn.state.processes) ≡ Some (record { memory = y.memory; shared = y.shared; parent = Some turn.pid; status = None })
        = ap (slice_get (plain.processes ++ record { memory = y.memory; shared = y.shared; parent = Some turn.pid; status = None } ∷ [])) (sym pair.shows.count) ∙ pushed-last plain.processes _ in
        let child = kept (length turn.state.processes) o user.0 (ap (option_and_then (λ (p : Process Flat). slice_get p.memory.given o)) last ∙ user.1) in
        own ∙ sym child

    regs : with_value (map (shown (place turn.pid)) turn.hart.regs) answer_register 0 ≡ map (shown (place (length turn.state.processes))) (with_value turn.hart.regs answer_register (Num 0))
    regs = ap (λ z. with_value z answer_register 0) (regs-agree (place turn.pid) (place (length turn.state.processes)) (length turn.process.memory.objects) turn.hart.regs agree (regs-known turn pair.in_turn pair.knows))
        ∙ with_value-shown (shown (place (length turn.state.processes))) turn.hart.regs answer_register (Num 0)

-- ---- all deeds

set-there : {X : Type 0} (xs : List X) (i : ℕ) (x y : X) → slice_get xs i ≡ Some x → slice_get (slice_set xs i y) i ≡ Some y
set-there xs i x y e = set-same xs i y (slice_get_within xs i x e)

pub after-shows : (frames : ℕ) (place : ℕ → ℕ → ℕ) (turn : WorldTurn) (plain : Plain) (y : Process Flat) (deed : WorldDeed) (other : PlainDeed) → Paired frames place turn plain y
    → Alike frames place turn plain y deed other → Kept place (state_after plain_kind (plain_turn place turn plain y) other)
    → Shows frames place (state_after world_kind turn deed) (state_after plain_kind (plain_turn place turn plain y) other)
unfolding Alike state_after
after-shows frames place turn plain y (Steps step) (Steps other) pair a k = steps-shows frames place turn plain y step other pair a
after-shows frames place turn plain y (Heaps deed value) (Heaps other answer) pair a k =
    let there = set-there plain.processes turn.pid y (record y { memory = flat_after (plain_turn place turn plain y) y.memory other }) pair.there in
    let h = a (λ o user e. k turn.pid o user (ap (option_and_then (λ (p : Process Flat). slice_get p.memory.given o)) there ∙ e)) in
    answer-shows frames place turn plain y _ _ value answer pair (memory-shows frames place turn plain y _ _ pair h.0) h.1
after-shows frames place turn plain y (Writes bytes) (Writes others) pair a k =
    rw a (answer-shows frames place turn plain y _ _ (Num (length bytes)) (length bytes) pair (output-shows frames place turn.state plain bytes pair.shows) refl)
after-shows frames place turn plain y (Shares count) (Shares other) pair a k =
    let m = mirrored pair in
    rw a.0 (answer-shows frames place turn plain y _ _ (Num (shared_next turn.process)) (shared_next y) pair (shares-shows frames place turn plain y count pair a.1) (ap (λ z. wrapped (4096 * (first_shared_page + length z))) m.shared))
after-shows frames place turn plain y (Forks hart) (Forks other) pair a k = rw a (forks-shows frames place turn plain y hart pair (subst (λ z. Kept place (state_after plain_kind (plain_turn place turn plain y) (Forks z))) a k))
after-shows frames place turn plain y (Spawns hart pc sp arg) (Spawns other target stack given) pair a k = rw (a.0, a.1, a.2, a.3) (spawns-shows frames place turn plain y hart pc sp arg pair)
after-shows frames place turn plain y (Exits status) (Exits other) pair a k = rw a (exits-shows frames place turn plain y status pair)
after-shows frames place turn plain y (Leaves value) (Leaves other) pair a k = rw a (leaves-shows frames place turn plain y value pair)
after-shows frames place turn plain y _ _ pair a k = absurd a
