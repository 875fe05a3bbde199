-- How a state goes on keeps the plain state showing the world.
use Rattle.std.proofs.Common.{ℕ, zero, suc, ◌≡◌, ◌≢◌, ◌<◌, ◌≤◌, ◌==◌, ◌+◌, ◌-◌, ◌*◌, ◌/◌, ◌%◌, Bool, true, false, cond, List, [], ◌∷◌, ◌++◌, Option, Some, None, option_map, arith, refl, ap, sym, subst, ◌∙◌, ◌⊎◌, inl, inr, slice_get, length, length-set, map, unwrap_or}
use Rattle.std.proofs.lemmas.Bool.Decides.{nat_tests}
use Rattle.std.proofs.lemmas.List.{length-map, map-set}
use Rattle.std.proofs.lemmas.Option.{slice_get-map, slice_get_within}
use Rattle.std.specs.Prelude.{slice_set}
use Rattle.std.specs.List.{list_all}
use Rattle.osc_word.specs.AddressMap.{first_shared_page, first_shadow_page}
use Rattle.osc_world.specs.declared.Value.{Value}
use Rattle.osc_world.specs.declared.Byte.{Byte}
use Rattle.osc_world.specs.declared.Byte.TheVariants.{Number, Part}
use Rattle.osc_world.specs.declared.Area.{Area}
use Rattle.osc_world.specs.declared.Area.TheVariants as area
use Rattle.osc_world.specs.declared.Place.{Place}
use Rattle.osc_world.specs.declared.Reservation.{Reservation}
use Rattle.osc_world.specs.States.{State, Process, Hart, Thread, changed_at, with_value, shared_page_at}
use Rattle.osc_world.specs.Deeds.{Put, begins_on, goes_on, with_process, with_memory}
use Rattle.osc_world.specs.World.{World, WorldTurn, WorldPut, Memory, Live}
use Rattle.osc_world.specs.Accesses.{area_bytes, overlaid, memory_overlaid, shared_overlaid, disturbed, is_reserved_word, is_shared_area, put_in_world}
use Rattle.osc_world.specs.PlainWorld.{Flat, Plain, with_bytes, put_by, plain_put}
use Rattle.osc_world.specs.Knows.{is_plain_byte}
use Rattle.osc_world.proofs.Lists.{slice_get-changed_at, length-changed_at, length-overlaid}
use Rattle.osc_world.proofs.Growth.{set-get}
use Rattle.osc_world.proofs.Known.{all-at}
use Rattle.osc_means.specs.Shown.{shown, shown_byte, shared_byte, Mirrors, Mirrored, Shows, shown_hart}
use Rattle.osc_means.proofs.Rows.{map-map, map-same, stands}
use Rattle.osc_means.proofs.Reading.{Paired, plain_turn, mirrored, Reached, StandsAt, not-shared-low, not-shared-high}
use Rattle.osc_means.proofs.Memory.{overlaid-map, stored-object, stored-page}

-- ---- lists

pub set-cases : {X : Type 0} (xs : List X) (i j : ℕ) (y z : X) → slice_get (slice_set xs i y) j ≡ Some z → ((j ≡ i) × (y ≡ z)) ⊎ ((j ≢ i) × (slice_get xs j ≡ Some z))
set-cases xs i j y z e = grind (arith, nat_tests, e, set-get xs i j y)

pub set-own : {X : Type 0} (xs : List X) (i : ℕ) (x : X) → slice_get xs i ≡ Some x → slice_set xs i x ≡ xs
set-own [] i x e = refl
set-own (y ∷ xs) zero x e = let s : y ≡ x = cc in ap (λ z. z ∷ xs) (sym s)
set-own (y ∷ xs) (suc i) x e = ap (λ z. y ∷ z) (set-own xs i x e)

changed-map : {X Y : Type 0} (f : X → Y) (g : Y → Y) (h : X → X) (xs : List X) (i : ℕ) → ((x : X) → g (f x) ≡ f (h x)) → changed_at g (map f xs) i ≡ map f (changed_at h xs i)
unfolding changed_at
changed-map f g h [] i e = refl
changed-map f g h (x ∷ xs) zero e = ap (λ z. z ∷ map f xs) (e x)
changed-map f g h (x ∷ xs) (suc i) e = ap (λ z. f x ∷ z) (changed-map f g h xs i e)

-- ---- processes

pub process-shows : (frames : ℕ) (place : ℕ → ℕ → ℕ) (turn : WorldTurn) (plain : Plain) (y : Process Flat) (now : Process Memory) (then : Process Flat) → Paired frames place turn plain y
    → Mirrored frames (length turn.state.shared) (place turn.pid) now then → Shows frames place (with_process turn now) (with_process (plain_turn place turn plain y) then)
process-shows frames place turn plain y now then pair m = record {
  output = pair.shows.output;
  shared = pair.shows.shared;
  wide = pair.shows.wide;
  harts = pair.shows.harts;
  threads = pair.shows.threads;
  count = length-set plain.processes turn.pid then ∙ pair.shows.count ∙ sym (length-set turn.state.processes turn.pid now);
  processes = λ pid u v e f. elim (set-cases turn.state.processes turn.pid pid now u e) as (λ _. Mirrored frames (length turn.state.shared) (place pid) u v) [
    | inl s ↦ elim (set-cases plain.processes turn.pid pid then v f) as (λ _. Mirrored frames (length turn.state.shared) (place pid) u v) [
      | inl r ↦ rw (s.0, ← s.1, ← r.1) m
      | inr r ↦ absurd (r.0 s.0)
    ]
    | inr s ↦ elim (set-cases plain.processes turn.pid pid then v f) as (λ _. Mirrored frames (length turn.state.shared) (place pid) u v) [
      | inl r ↦ absurd (s.0 r.0)
      | inr r ↦ pair.shows.processes pid u v s.1 r.1
    ]
  ];
}

pub memory-shows : (frames : ℕ) (place : ℕ → ℕ → ℕ) (turn : WorldTurn) (plain : Plain) (y : Process Flat) (now : Memory) (then : Flat) → Paired frames place turn plain y
    → Mirrors frames (place turn.pid) now then → Shows frames place (with_memory turn now) (with_memory (plain_turn place turn plain y) then)
memory-shows frames place turn plain y now then pair m =
    let old = mirrored pair in
    process-shows frames place turn plain y (record (turn.process) { memory = now }) (record y { memory = then }) pair
    (record { memory = m; shared = old.shared; parent = old.parent; status = old.status; few = old.few; regions = old.regions })

-- ---- harts

pub begins-shows : (frames : ℕ) (place : ℕ → ℕ → ℕ) (now : World) (then : Plain) (number : ℕ) (hart : Hart Value) (other : Hart ℕ) → Shows frames place now then → other ≡ shown_hart place hart
    → Shows frames place (begins_on number hart now) (begins_on number other then)
begins-shows frames place now then number hart other s e = record {
  output = s.output;
  shared = s.shared;
  wide = s.wide;
  harts = ap (λ z. slice_set z number other) s.harts ∙ ap (slice_set (map (shown_hart place) now.harts) number) e ∙ sym (map-set (shown_hart place) now.harts number hart);
  threads = s.threads;
  count = s.count;
  processes = s.processes;
}

pub goes-shows : (frames : ℕ) (place : ℕ → ℕ → ℕ) (turn : WorldTurn) (plain : Plain) (y : Process Flat) (now : World) (then : Plain) (regs : List Value) (others : List ℕ) (pc : ℕ) (reservation : Option Reservation)
    → Paired frames place turn plain y → Shows frames place now then → others ≡ map (shown (place turn.pid)) regs
    → Shows frames place (goes_on turn now regs pc reservation) (goes_on (plain_turn place turn plain y) then others pc None)
goes-shows frames place turn plain y now then regs others pc reservation pair s e =
    begins-shows frames place now then turn.number (record (turn.hart) { regs = regs; pc = pc; reservation = reservation }) _ s
    (ap (λ z. record { process = turn.hart.process; thread = turn.hart.thread; regs = z; pc = pc; reservation = None }) (e ∙ sym (ap (λ z. map (shown (place (unwrap_or z 0))) regs) pair.in_turn.runs)))

pub with_value-shown : (f : Value → ℕ) (regs : List Value) (rd : ℕ) (v : Value) → with_value (map f regs) rd (f v) ≡ map f (with_value regs rd v)
with_value-shown f regs rd v = by (rd == 0)
  where
    by : (t : Bool) → cond t (map f regs) (slice_set (map f regs) rd (f v)) ≡ map f (cond t regs (slice_set regs rd v))
    by true = refl
    by false = sym (map-set f regs rd v)

-- ---- stores

disturbed-shown : (place : ℕ → ℕ → ℕ) (pid : ℕ) (at : Place) (hart : Hart Value) → shown_hart place (disturbed pid at hart) ≡ shown_hart place hart
disturbed-shown place pid at hart = by (is_reserved_word pid at hart.process hart.reservation)
  where
    by : (t : Bool) → shown_hart place (cond t (record hart { reservation = None }) hart) ≡ shown_hart place hart
    by true = refl
    by false = refl

-- a store, and the store of the numbers that show its bytes
pub record PutAlike (place : ℕ → ℕ) (turn : WorldTurn) (put : WorldPut) (other : Put ℕ ℕ) : Type 0 where
  pub wide : 0 < length put.bytes
  pub reached : Reached place turn (length put.bytes) put.at other.at
  pub bytes : other.bytes ≡ map (shown_byte place) put.bytes
  pub bare : is_shared_area put.at.area ≡ true → list_all is_plain_byte put.bytes ≡ true

-- the harts of a world are disturbed
disturbed-shows : (frames : ℕ) (place : ℕ → ℕ → ℕ) (now : World) (then : Plain) (pid : ℕ) (at : Place) → Shows frames place now then → Shows frames place (record now { harts = map (disturbed pid at) now.harts }) then
disturbed-shows frames place now then pid at s = record {
  output = s.output;
  shared = s.shared;
  wide = s.wide;
  harts = s.harts ∙ sym (map-map (disturbed pid at) (shown_hart place) (shown_hart place) now.harts (disturbed-shown place pid at));
  threads = s.threads;
  count = s.count;
  processes = s.processes;
}

-- what is known of other shared pages holds of as many
pub more-mirrored : (frames count more : ℕ) (place : ℕ → ℕ) (x : Process Memory) (y : Process Flat) → count ≤ more → Mirrored frames count place x y → Mirrored frames more place x y
more-mirrored frames count more place x y l m = record {
  memory = m.memory;
  shared = m.shared;
  parent = m.parent;
  status = m.status;
  few = m.few;
  regions = λ i page e. let b = m.regions i page e in omega arith;
}

-- a shared page is stored in
shared-shows : (frames : ℕ) (place : ℕ → ℕ → ℕ) (world : World) (plain : Plain) (f : ℕ → ℕ) (page k : ℕ) (others : List Byte) → Shows frames place world plain → list_all is_plain_byte others ≡ true
    → Shows frames place (record world { shared = changed_at (λ bytes. overlaid bytes k others) world.shared page })
    (record plain { shared = changed_at (λ bytes. overlaid bytes k (map (shown_byte f) others)) plain.shared page })
shared-shows frames place world plain f page k others s bare = record {
  output = s.output;
  shared = ap (λ z. changed_at (λ bytes. overlaid bytes k (map (shown_byte f) others)) z page) s.shared
      ∙ changed-map (map shared_byte) (λ bytes. overlaid bytes k (map (shown_byte f) others)) (λ bytes. overlaid bytes k others) world.shared page
      (λ bytes. ap (overlaid (map shared_byte bytes) k) numbers ∙ overlaid-map shared_byte bytes k others);
  wide = λ n bytes e. wide n bytes (slice_get world.shared n) refl (n == page) (sym (slice_get-changed_at (λ bytes. overlaid bytes k others) world.shared page n) ∙ e);
  harts = s.harts;
  threads = s.threads;
  count = s.count;
  processes = λ pid x y e g. more-mirrored frames (length world.shared) _ (place pid) x y (let l = length-changed_at (λ bytes. overlaid bytes k others) world.shared page in omega arith) (s.processes pid x y e g);
}
  where
    same : (c : Byte) → is_plain_byte c ≡ true → shown_byte f c ≡ shared_byte c
    same (Number n) e = refl
    same (Part o k i) e = absurd (cc)

    numbers : map (shown_byte f) others ≡ map shared_byte others
    numbers = map-same (shown_byte f) shared_byte others (λ i c e. same c (all-at is_plain_byte others i c bare e))

    wide : (n : ℕ) (bytes : List Byte) (found : Option (List Byte)) → slice_get world.shared n ≡ found → (t : Bool)
        → cond t (option_map (λ bytes. overlaid bytes k others) (slice_get world.shared n)) (slice_get world.shared n) ≡ Some bytes → length bytes ≡ 4096
    wide n bytes None e true g = absurd (grind (arith, e, g))
    wide n bytes None e false g = absurd (grind (arith, e, g))
    wide n bytes (Some old) e true g = let h : overlaid old k others ≡ bytes = grind (arith, e, g) in ap length (sym h) ∙ length-overlaid old k others ∙ s.wide n old e
    wide n bytes (Some old) e false g = let h : old ≡ bytes = grind (arith, e, g) in ap length (sym h) ∙ s.wide n old e

pub put-shows : (frames : ℕ) (place : ℕ → ℕ → ℕ) (turn : WorldTurn) (plain : Plain) (y : Process Flat) (put : WorldPut) (other : Put ℕ ℕ) → Paired frames place turn plain y
    → PutAlike (place turn.pid) turn put other → Shows frames place (put_in_world turn put) (plain_put (plain_turn place turn plain y) other)
unfolding put_in_world plain_put
put-shows frames place turn plain y put other pair alike = by put.at.area put.at.offset alike.reached.there alike.reached.fits alike.bare
  where
    m : Mirrored frames (length turn.state.shared) (place turn.pid) turn.process y
    m = mirrored pair

    by : (to : Area) (k : ℕ) → StandsAt (place turn.pid) turn.process to k other.at → k + length put.bytes ≤ length (area_bytes turn.state.shared turn.process.memory to)
        → (is_shared_area to ≡ true → list_all is_plain_byte put.bytes ≡ true)
        → Shows frames place (record (with_memory turn (memory_overlaid turn.process.memory to k put.bytes)) { shared = shared_overlaid turn.state.shared to k put.bytes; harts = map (disturbed turn.pid put.at) turn.state.harts })
        (put_by (plain_turn place turn plain y) other.at other.bytes (shared_page_at y.shared other.at))
    by (area.Object o) k s l bare =
        let above = (m.memory).laid.above o (Live s.1) s.2 in
        let start = s.0 in
        let none : shared_page_at y.shared other.at ≡ None = rw m.shared (not-shared-high turn.process.shared other.at m.few (omega arith)) in
        let fits : k + length put.bytes ≤ length s.1 = rw (s.2) at l in
        let kept = stored-object frames (place turn.pid) turn.process.memory y.memory o k s.1 put.bytes m.memory s.2 fits in
        rw (none, alike.bytes, start) (disturbed-shows frames place _ _ turn.pid put.at (memory-shows frames place turn plain y _ _ pair kept))
    by (area.Page n) k s l bare =
        let low = (m.memory).low n s.1 s.2 in
        let whole = (m.memory).whole n s.1 s.2 in
        let start = s.0 in
        let fits : k + length put.bytes ≤ length s.1.bytes = rw (s.2) at l in
        let some = alike.wide in
        let none : shared_page_at y.shared other.at ≡ None = not-shared-low y.shared other.at (omega arith) in
        let kept = stored-page frames (place turn.pid) turn.process.memory y.memory n k s.1 put.bytes m.memory s.2 (omega arith) in
        rw (none, alike.bytes, start) (disturbed-shows frames place _ _ turn.pid put.at (memory-shows frames place turn plain y _ _ pair kept))
    by (area.Shared page) k s l bare =
        let found : shared_page_at y.shared other.at ≡ Some page = rw m.shared s.0 in
        let here : with_memory turn turn.process.memory ≡ turn.state = ap (λ z. record (turn.state) { processes = z }) (set-own turn.state.processes turn.pid turn.process pair.in_turn.process) in
        let stored = shared-shows frames place turn.state plain (place turn.pid) page k put.bytes pair.shows (bare refl) in
        rw (found, alike.bytes, s.1) (disturbed-shows frames place _ _ turn.pid put.at (subst (λ z. Shows frames place (record z { shared = changed_at (λ bytes. overlaid bytes k put.bytes) turn.state.shared page }) (record plain { shared = changed_at (λ bytes. overlaid bytes k (map (shown_byte (place turn.pid)) put.bytes)) plain.shared page })) (sym here) stored))
