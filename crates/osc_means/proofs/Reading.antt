-- What a load finds in the world is what it finds in the plain run.
use Rattle.std.proofs.Common.{ℕ, zero, suc, ◌≡◌, ◌≢◌, ◌<◌, ◌≤◌, ◌==◌, ◌+◌, ◌-◌, ◌*◌, ◌/◌, ◌%◌, Bool, true, false, cond, List, [], ◌∷◌, Option, Some, None, option_map, Result, Ok, Err, arith, refl, ap, sym, subst, ◌∙◌, ◌⊎◌, inl, inr, slice_get, nat_lt, nat_le, length, map, take, drop, unwrap_or, get_or}
use Rattle.std.proofs.lemmas.Bool.Decides.{nat_tests}
use Rattle.std.proofs.lemmas.Option.{slice_get-map, slice_get_past, slice_get_within, get_or_from_slice_get}
use Rattle.std.specs.List.{list_all}
use Rattle.osc_word.specs.AddressMap.{first_shared_page, first_shadow_page}
use Rattle.osc_sv39.specs.declared.entries.Access.{Access}
use Rattle.osc_isa.specs.Numbers.{wrapped}
use Rattle.osc_world.specs.declared.Value.{Value}
use Rattle.osc_world.specs.declared.Value.TheVariants.{Num, Ptr}
use Rattle.osc_world.specs.declared.Byte.{Byte}
use Rattle.osc_world.specs.declared.Byte.TheVariants.{Number, Part}
use Rattle.std.specs.Prelude.{ok_or}
use Rattle.byteorder.specs.Endian.{little_number}
use Rattle.osc_world.specs.declared.ObjectWhy.{ObjectWhy}
use Rattle.osc_world.specs.declared.ObjectWhy.TheVariants.{Outside, PointerBytes}
use Rattle.osc_world.specs.declared.Area.{Area}
use Rattle.osc_world.specs.declared.Area.TheVariants as area
use Rattle.osc_world.specs.declared.Place.{Place}
use Rattle.osc_world.specs.States.{Process, shared_page_at}
use Rattle.osc_world.specs.Values.{gather}
use Rattle.osc_world.specs.World.{World, WorldTurn, Memory, Object, Live, Dead, Page, read_write}
use Rattle.osc_world.specs.Accesses.{NumberedPlace, memory_page, in_area, numbered_in, numbered_at, allowed_place, lets, place_in_object, reached_place, is_aligned, area_bytes, bytes_at, value_at, object_bytes, page_bytes}
use Rattle.osc_world.specs.PlainWorld.{Flat, Plain, PlainTurn, plain_byte, plain_row, plain_number, shared_or_own_byte}
use Rattle.osc_world.specs.Knows.{is_plain_byte, Knows}
use Rattle.osc_world.proofs.Known.{all-at}
use Rattle.osc_world.proofs.KnownDeeds.{InTurn}
use Rattle.osc_means.specs.Shown.{shown, shown_byte, shared_byte, Laid, Mirrors, Mirrored, Shows}
use Rattle.osc_means.proofs.Bytes.{IsWidth, gather-shown}
use Rattle.osc_means.proofs.Rows.{stands, some-same, found-passes, length-part, row-shown}

-- ---- turns

-- a turn of the world and the same of a plain state that shows it, where y is the process there
pub record Paired (frames : ℕ) (place : ℕ → ℕ → ℕ) (turn : WorldTurn) (plain : Plain) (y : Process Flat) : Type 0 where
  pub shows : Shows frames place turn.state plain
  pub knows : Knows turn.state
  pub in_turn : InTurn turn
  pub there : slice_get plain.processes turn.pid ≡ Some y
  pub limit : frames ≤ 4096

abbrev pub plain_turn : (ℕ → ℕ → ℕ) → WorldTurn → Plain → Process Flat → PlainTurn
plain_turn place turn plain y =
    record {
      state = plain;
      number = turn.number;
      hart = record { process = turn.hart.process; thread = turn.hart.thread; regs = map (shown (place turn.pid)) turn.hart.regs; pc = turn.hart.pc; reservation = None };
      pid = turn.pid;
      process = y;
    }

pub mirrored : {frames : ℕ} {place : ℕ → ℕ → ℕ} {turn : WorldTurn} {plain : Plain} {y : Process Flat} → Paired frames place turn plain y
    → Mirrored frames (length turn.state.shared) (place turn.pid) turn.process y
mirrored {turn = turn} {y = y} pair = pair.shows.processes turn.pid turn.process y pair.in_turn.process pair.there

-- ---- shared pages

-- an address of no shared range
pub not-shared-low : (shared : List ℕ) (a : ℕ) → a / 4096 < first_shared_page → shared_page_at shared a ≡ None
not-shared-low shared a l = grind (arith, nat_tests)

pub not-shared-high : (shared : List ℕ) (a : ℕ) → first_shared_page + length shared ≤ first_shadow_page → 0x1000000000 ≤ a → shared_page_at shared a ≡ None
not-shared-high shared a l m =
    let past : length shared ≤ a / 4096 - first_shared_page = omega arith in
    let none = slice_get_past shared (a / 4096 - first_shared_page) past in
    grind (arith, nat_tests, none)

shared-within : (shared : List ℕ) (a page : ℕ) → shared_page_at shared a ≡ Some page → (slice_get shared (a / 4096 - first_shared_page) ≡ Some page) × (first_shared_page ≤ a / 4096) × (a / 4096 < first_shared_page + length shared)
shared-within shared a page e =
    let low : first_shared_page ≤ a / 4096 = grind (arith, nat_tests, e) in
    let there : slice_get shared (a / 4096 - first_shared_page) ≡ Some page = grind (arith, nat_tests, e) in
    let l = slice_get_within shared (a / 4096 - first_shared_page) page there in
    (there, low, omega arith)

-- ---- places

-- where the bytes of an area of a process stand
abbrev pub StandsAt : (ℕ → ℕ) → Process Memory → Area → ℕ → ℕ → Type 0
StandsAt place x (area.Object o) offset a = (a ≡ place o + offset) × (bytes : List Byte) × (slice_get x.memory.objects o ≡ Some (Live bytes))
StandsAt place x (area.Page n) offset a = (a ≡ 4096 * n + offset) × (page : Page) × (memory_page x.memory.pages n ≡ Some page)
StandsAt place x (area.Shared page) offset a = (shared_page_at x.shared a ≡ Some page) × (a % 4096 ≡ offset)

-- an access of this width stands inside an area
pub record Reached (place : ℕ → ℕ) (turn : WorldTurn) (width : ℕ) (at : Place) (a : ℕ) : Type 0 where
  pub fits : at.offset + width ≤ length (area_bytes turn.state.shared turn.process.memory at.area)
  pub there : StandsAt place turn.process at.area at.offset a
  pub below : a + width ≤ 18446744073709551616

-- ---- where an access goes

aligned-fits : (a w : ℕ) → IsWidth w → a % w ≡ 0 → a % 4096 + w ≤ 4096
aligned-fits a w (inl e) f = rw e (omega arith)
aligned-fits a w (inr (inl e)) f = rw e (let g : a % 2 ≡ 0 = rw e at f in omega arith)
aligned-fits a w (inr (inr (inl e))) f = rw e (let g : a % 4 ≡ 0 = rw e at f in omega arith)
aligned-fits a w (inr (inr (inr e))) f = rw e (let g : a % 8 ≡ 0 = rw e at f in omega arith)

page-number : (pages : List Page) (n : ℕ) (page : Page) → memory_page pages n ≡ Some page → page.number ≡ n
page-number pages n page e = let f = found-passes (λ (p : Page). p.number == n) pages page e in grind (arith, nat_tests, f)

in_object-reached : (place : ℕ → ℕ) (turn : WorldTurn) (w o k : ℕ) (at : Place) (x : Option Object) → Laid place turn.process.memory.objects
    → slice_get turn.process.memory.objects o ≡ x → place_in_object o k w x ≡ Ok at → Reached place turn w at (wrapped (place o + k))
in_object-reached place turn w o k at None laid e f = absurd (cc)
in_object-reached place turn w o k at (Some (Dead n)) laid e f = absurd (cc)
in_object-reached place turn w o k at (Some (Live bytes)) laid e f = by (nat_le (k + w) (length bytes)) refl f
  where
    by : (t : Bool) → nat_le (k + w) (length bytes) ≡ t → cond t (Ok (in_area (area.Object o) k)) (Err Outside) ≡ Ok at → Reached place turn w at (wrapped (place o + k))
    by false g h = absurd (cc)
    by true g h =
        let inside : k + w ≤ length bytes = grind (arith, nat_tests, g) in
        let l = laid.below o (Live bytes) e in
        let is : in_area (area.Object o) k ≡ at = cc in
        let same : wrapped (place o + k) ≡ place o + k = omega arith in
        rw (← is) (record { fits = rw e inside; there = (same, bytes, e); below = omega arith })

numbered-reached : (frames : ℕ) (place : ℕ → ℕ → ℕ) (turn : WorldTurn) (plain : Plain) (y : Process Flat) (access : Access) (w a : ℕ) (at : Place) → Paired frames place turn plain y
    → IsWidth w → a % w ≡ 0 → (own : Option Page) (shared : Option ℕ) → memory_page turn.process.memory.pages (a / 4096) ≡ own → shared_page_at turn.process.shared a ≡ shared
    → allowed_place access (numbered_in own shared (a % 4096)) ≡ Ok at → Reached (place turn.pid) turn w at a
numbered-reached frames place turn plain y access w a at pair wide even None None e f g = absurd (cc)
numbered-reached frames place turn plain y access w a at pair wide even (Some page) shared e f g = by (lets access page.bits) g
  where
    m : Mirrored frames (length turn.state.shared) (place turn.pid) turn.process y
    m = mirrored pair

    by : (t : Bool) → cond t (Ok (in_area (area.Page page.number) (a % 4096))) (Err Outside) ≡ Ok at → Reached (place turn.pid) turn w at a
    by false h = absurd (cc)
    by true h =
        let is : in_area (area.Page page.number) (a % 4096) ≡ at = cc in
        let number = page-number turn.process.memory.pages (a / 4096) page e in
        let here : memory_page turn.process.memory.pages page.number ≡ Some page = ap (memory_page turn.process.memory.pages) number ∙ e in
        let size = (m.memory).whole (a / 4096) page e in
        let low = (m.memory).low (a / 4096) page e in
        let fit = aligned-fits a w wide even in
        rw (← is) (record { fits = rw here (omega arith); there = (omega arith, page, here); below = omega arith })
numbered-reached frames place turn plain y access w a at pair wide even None (Some page) e f g = by (lets access read_write) g
  where
    m : Mirrored frames (length turn.state.shared) (place turn.pid) turn.process y
    m = mirrored pair

    by : (t : Bool) → cond t (Ok (in_area (area.Shared page) (a % 4096))) (Err Outside) ≡ Ok at → Reached (place turn.pid) turn w at a
    by false h = absurd (cc)
    by true h =
        let is : in_area (area.Shared page) (a % 4096) ≡ at = cc in
        let within = shared-within turn.process.shared a page f in
        let known = m.regions (a / 4096 - first_shared_page) page within.0 in
        let row = stands turn.state.shared page known in
        let size = pair.shows.wide page row.0 row.1 in
        let fit = aligned-fits a w wide even in
        let few = m.few in
        rw (← is) (record { fits = rw row.1 (omega arith); there = (f, refl); below = omega arith })

pub place-reached : (frames : ℕ) (place : ℕ → ℕ → ℕ) (turn : WorldTurn) (plain : Plain) (y : Process Flat) (access : Access) (w : ℕ) (v : Value) (at : Place) → Paired frames place turn plain y
    → IsWidth w → is_aligned w v ≡ true → reached_place turn.process access w v ≡ Ok at → Reached (place turn.pid) turn w at (shown (place turn.pid) v)
unfolding reached_place
place-reached frames place turn plain y access w (Num a) at pair wide even e =
    numbered-reached frames place turn plain y access w a at pair wide (grind (arith, nat_tests, even)) (memory_page turn.process.memory.pages (a / 4096)) (shared_page_at turn.process.shared a) refl refl e
place-reached frames place turn plain y access w (Ptr o k) at pair wide even e =
    in_object-reached (place turn.pid) turn w o k at (slice_get turn.process.memory.objects o) (mirrored pair).memory.laid refl e

-- ---- bytes

own-byte : (turn : PlainTurn) (a : ℕ) → shared_page_at turn.process.shared a ≡ None → plain_byte turn a ≡ turn.process.memory.bytes a
own-byte turn a e = rw e refl

byte-shown : (frames : ℕ) (place : ℕ → ℕ → ℕ) (turn : WorldTurn) (plain : Plain) (y : Process Flat) (w : ℕ) (at : Place) (a i : ℕ) (b : Byte) → Paired frames place turn plain y
    → Reached (place turn.pid) turn w at a → i < w → slice_get (area_bytes turn.state.shared turn.process.memory at.area) (at.offset + i) ≡ Some b
    → plain_byte (plain_turn place turn plain y) (a + i) ≡ shown_byte (place turn.pid) b
byte-shown frames place turn plain y w at a i b pair r l e = by at.area at.offset r.there r.fits e
  where
    m : Mirrored frames (length turn.state.shared) (place turn.pid) turn.process y
    m = mirrored pair

    by : (where_to : Area) (k : ℕ) → StandsAt (place turn.pid) turn.process where_to k a → k + w ≤ length (area_bytes turn.state.shared turn.process.memory where_to)
        → slice_get (area_bytes turn.state.shared turn.process.memory where_to) (k + i) ≡ Some b → plain_byte (plain_turn place turn plain y) (a + i) ≡ shown_byte (place turn.pid) b
    by (area.Object o) k s f e =
        let bytes = s.1 in
        let here : slice_get bytes (k + i) ≡ Some b = rw (s.2) at e in
        let above = (m.memory).laid.above o (Live bytes) s.2 in
        let start = s.0 in
        let assoc : a + i ≡ place turn.pid o + (k + i) = omega arith in
        let none : shared_page_at y.shared (a + i) ≡ None = rw m.shared (not-shared-high turn.process.shared (a + i) m.few (omega arith)) in
        own-byte (plain_turn place turn plain y) (a + i) none ∙ ap y.memory.bytes assoc ∙ (m.memory).bytes o (k + i) bytes b s.2 here
    by (area.Page n) k s f e =
        let page = s.1 in
        let here : slice_get page.bytes (k + i) ≡ Some b = rw (s.2) at e in
        let inside = slice_get_within page.bytes (k + i) b here in
        let size = (m.memory).whole n page s.2 in
        let low = (m.memory).low n page s.2 in
        let start = s.0 in
        let assoc : a + i ≡ 4096 * n + (k + i) = omega arith in
        let none : shared_page_at y.shared (a + i) ≡ None = not-shared-low y.shared (a + i) (omega arith) in
        own-byte (plain_turn place turn plain y) (a + i) none ∙ ap y.memory.bytes assoc ∙ (m.memory).pages n (k + i) page b s.2 here
    by (area.Shared page) k s f e =
        let within = shared-within turn.process.shared a page s.0 in
        let known = m.regions (a / 4096 - first_shared_page) page within.0 in
        let row = stands turn.state.shared page known in
        let here : slice_get row.0 (k + i) ≡ Some b = rw (row.1) at e in
        let inside = slice_get_within row.0 (k + i) b here in
        let size = pair.shows.wide page row.0 row.1 in
        let start = s.1 in
        let same_page : (a + i) / 4096 ≡ a / 4096 = omega arith in
        let same_byte : (a + i) % 4096 ≡ k + i = omega arith in
        let found : shared_page_at y.shared (a + i) ≡ Some page = rw (m.shared, same_page) s.0 in
        let rows : slice_get plain.shared page ≡ Some (map shared_byte row.0) = ap (λ z. slice_get z page) pair.shows.shared ∙ slice_get-map (map shared_byte) turn.state.shared page ∙ ap (option_map (map shared_byte)) row.1 in
        let number : get_or (map shared_byte row.0) (k + i) 0 ≡ shared_byte b = get_or_from_slice_get (map shared_byte row.0) (k + i) (shared_byte b) 0 (slice_get-map shared_byte row.0 (k + i) ∙ ap (option_map shared_byte) here) in
        let all = all-at (λ bytes. list_all is_plain_byte bytes) turn.state.shared page row.0 pair.knows.shared row.1 in
        let bare = all-at is_plain_byte row.0 (k + i) b all here in
        rw (found, rows, same_byte) (number ∙ plain-byte b bare)
      where
        plain-byte : (c : Byte) → is_plain_byte c ≡ true → shared_byte c ≡ shown_byte (place turn.pid) c
        plain-byte (Number n) e = refl
        plain-byte (Part o k i) e = absurd (cc)

pub read-shown : (frames : ℕ) (place : ℕ → ℕ → ℕ) (turn : WorldTurn) (plain : Plain) (y : Process Flat) (w : ℕ) (at : Place) (a : ℕ) → Paired frames place turn plain y
    → Reached (place turn.pid) turn w at a → map (shown_byte (place turn.pid)) (bytes_at turn at w) ≡ plain_row (plain_turn place turn plain y) w a
read-shown frames place turn plain y w at a pair r =
    row-shown (plain_turn place turn plain y) (place turn.pid) (area_bytes turn.state.shared turn.process.memory at.area) at.offset w a r.fits r.below
    (λ i b l e. byte-shown frames place turn plain y w at a i b pair r l e)

pub value-shown : (frames : ℕ) (place : ℕ → ℕ → ℕ) (turn : WorldTurn) (plain : Plain) (y : Process Flat) (w : ℕ) (at : Place) (a : ℕ) (v : Value) → Paired frames place turn plain y
    → Reached (place turn.pid) turn w at a → value_at turn at w ≡ Ok v → shown (place turn.pid) v ≡ plain_number (plain_turn place turn plain y) w a
value-shown frames place turn plain y w at a v pair r e = by (gather (bytes_at turn at w)) refl e
  where
    by : (found : Option Value) → gather (bytes_at turn at w) ≡ found → ok_or found PointerBytes ≡ Ok v → shown (place turn.pid) v ≡ plain_number (plain_turn place turn plain y) w a
    by None f g = absurd (cc)
    by (Some u) f g =
        let is : u ≡ v = cc in
        let size = length-part (area_bytes turn.state.shared turn.process.memory at.area) at.offset w r.fits in
        ap (shown (place turn.pid)) (sym is) ∙ gather-shown (place turn.pid) w (bytes_at turn at w) u size f ∙ ap (little_number w) (read-shown frames place turn plain y w at a pair r)
