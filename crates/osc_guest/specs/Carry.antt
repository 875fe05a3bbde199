-- A hart goes on with what it was told alone: whatever is true of each page and each table that it was
-- told of stays true of all that it holds, reaches and walks through. `Page pid page frame` is said of a
-- page of a process with a frame, and `Tab pid level page table` of a table of this level on the way to a
-- page.
use Rattle.std.specs.Prelude.{ℕ, zero, suc, ◌-◌, ◌/◌, ◌≡◌, ◌<◌, Bool, true, false, Option, Some, None, List}
use Rattle.osc_word.specs.declared.orders.Start.{Start}
use Rattle.osc_sv39.specs.declared.entries.PteEntry.{PteEntry}
use Rattle.osc_sv39.specs.declared.entries.PteEntry.TheVariants.{Table, Leaf}
use Rattle.osc_sv39.specs.Entries.{entry_of}
use Rattle.osc_sv39.specs.Walk.{is_canonical}
use Rattle.osc_paging.specs.declared.CacheEntry.{CacheEntry}
use Rattle.osc_paging.specs.Boxes.{BoxState, entry_in}
use Rattle.osc_guest.specs.declared.accesses.MemoryAccess.{MemoryAccess}
use Rattle.osc_guest.specs.declared.accesses.Touch.{Touch}
use Rattle.osc_guest.specs.declared.accesses.What.{What}
use Rattle.osc_guest.specs.declared.accesses.What.TheVariants as does
use Rattle.osc_guest.specs.declared.places.Place.{Place}
use Rattle.osc_guest.specs.declared.places.Place.TheVariants as at
use Rattle.osc_guest.specs.declared.places.Stage.TheVariants as stage
use Rattle.osc_guest.specs.User.{UserHart, cache_of}
use Rattle.osc_guest.specs.Accesses.{access_page, touch_of}
use Rattle.osc_guest.specs.Told.{Told, Box, Word, Done, told}
use Rattle.osc_guest.specs.Hands.{start_in, runs_by}

-- process, page, frame
abbrev pub Pages : Type 1
Pages = ℕ → ℕ → ℕ → Type 0

-- process, level, page, table
abbrev pub Tabs : Type 1
Tabs = ℕ → ℕ → ℕ → ℕ → Type 0

-- those of a set
abbrev pub InPages : (ℕ → ℕ → ℕ → Bool) → Pages
InPages pages pid page frame = pages pid page frame ≡ true

abbrev pub InTables : (ℕ → ℕ → ℕ → ℕ → Bool) → Tabs
InTables tables pid level page table = tables pid level page table ≡ true

-- ---- what a hart has
-- it holds its box and may yet walk. A hart between two instructions may not, since its process may end
-- before it takes its box again
abbrev pub may_walk : Place → Bool
may_walk (at.Walk access level table) = true
may_walk (at.Access access frame stage) = true
may_walk _ = false

abbrev pub CacheOk : Pages → ℕ → List (Option CacheEntry) → Type 0
CacheOk Page pid slots = (slot : ℕ) (e : CacheEntry) → entry_in slots slot ≡ Some e → Page pid e.page e.mapping.frame

abbrev pub RootOk : Tabs → ℕ → ℕ → ℕ → Type 0
RootOk Tab levels pid root = (page : ℕ) → is_canonical levels page ≡ true → Tab pid (levels - 1) page root

abbrev pub RootIf : Bool → Tabs → ℕ → ℕ → ℕ → Type 0
RootIf true Tab levels pid root = RootOk Tab levels pid root
RootIf false Tab levels pid root = Unit {0}

abbrev pub PlaceOk : Pages → Tabs → ℕ → Place → Type 0
PlaceOk Page Tab pid (at.Walk access level table) = Tab pid level (access_page access) table
PlaceOk Page Tab pid (at.Access access frame stage) = Page pid (access_page access) frame
PlaceOk Page Tab pid _ = Unit {0}

abbrev pub HartOk : Pages → Tabs → UserHart → Type 0
HartOk Page Tab h =
    RootIf (may_walk h.place) Tab h.levels h.pid h.root × PlaceOk Page Tab h.pid h.place × CacheOk Page h.pid (cache_of h)

-- ---- what it is told
-- where an entry leads that is read on the way to a page, if its frame is one of the machine
abbrev pub EntryOk : Pages → Tabs → ℕ → ℕ → ℕ → ℕ → PteEntry → Type 0
EntryOk Page Tab frames pid page zero (Leaf frame bits) = frame < frames → Page pid page frame
EntryOk Page Tab frames pid page (suc level) (Table frame) = frame < frames → Tab pid level page frame
EntryOk Page Tab frames pid page level entry = Unit {0}

-- the box of a running hart, and that of an idle one, which may be given a thread of another process
abbrev pub RunBoxOk : Pages → Tabs → UserHart → BoxState → Type 0
RunBoxOk Page Tab h box = RootIf (runs_by true box.order) Tab h.levels h.pid h.root × CacheOk Page h.pid box.slots

abbrev pub IdleBoxOk : Pages → Tabs → ℕ → Option Start → List (Option CacheEntry) → Type 0
IdleBoxOk Page Tab pid None slots = CacheOk Page pid slots
IdleBoxOk Page Tab pid (Some start) slots = RootOk Tab start.levels start.pid start.root × CacheOk Page start.pid slots

abbrev pub ToldOk : Pages → Tabs → UserHart → Place → Told → Type 0
ToldOk Page Tab h at.Run (Box box) = RunBoxOk Page Tab h box
ToldOk Page Tab h at.Idle (Box box) = IdleBoxOk Page Tab h.pid (start_in box.order) box.slots
ToldOk Page Tab h (at.Walk access level table) (Word word) =
    EntryOk Page Tab h.frames h.pid (access_page access) level (entry_of word)
ToldOk Page Tab h place t = Unit {0}

abbrev pub Carries : Pages → Tabs → Type 0
Carries Page Tab =
    (h : UserHart) (t : Told) → HartOk Page Tab h → ToldOk Page Tab h h.place t → HartOk Page Tab (told h t).hart

abbrev pub SetsCarried : Type 0
SetsCarried =
    (pages : ℕ → ℕ → ℕ → Bool) (tables : ℕ → ℕ → ℕ → ℕ → Bool) → Carries (InPages pages) (InTables tables)

-- ---- what it shows
-- an LR is done with its load, all else under a gate with its store
abbrev pub if_loaded : What → MemoryAccess → Option MemoryAccess
if_loaded (does.Lr width) access = Some access
if_loaded _ access = None

-- the access that is done with this answer
abbrev pub access_done : Place → Told → Option MemoryAccess
access_done (at.Access access frame stage.Fetch) (Word word) = Some access
access_done (at.Access access frame stage.Load) (Word word) = Some access
access_done (at.Access access frame (stage.GatedLoad version)) (Word word) = if_loaded access.what access
access_done (at.Access access frame (stage.GatedStore version found)) Done = Some access
access_done place t = None

-- each access that is done is shown
abbrev pub DoneShown : Type 0
DoneShown =
    (h : UserHart) (t : Told) (access : MemoryAccess)
    → access_done h.place t ≡ Some access → (told h t).touch ≡ Some (touch_of access true h)

-- and what is shown else was not done
abbrev pub ElseLost : Type 0
ElseLost =
    (h : UserHart) (t : Told) (touch : Touch)
    → access_done h.place t ≡ None → (told h t).touch ≡ Some touch → touch.done ≡ false

-- a page of a process that an access reached
pub record Reaches (Page : Pages) (touch : Touch) : Type 0 where
  pub frame : ℕ
  pub ok : Page touch.pid (touch.address / 4096) frame

abbrev pub TouchesReach : Pages → Tabs → Type 0
TouchesReach Page Tab =
    (h : UserHart) (t : Told) (touch : Touch)
    → HartOk Page Tab h → (told h t).touch ≡ Some touch → touch.done ≡ true → Reaches Page touch

abbrev pub SetsReached : Type 0
SetsReached =
    (pages : ℕ → ℕ → ℕ → Bool) (tables : ℕ → ℕ → ℕ → ℕ → Bool) → TouchesReach (InPages pages) (InTables tables)
