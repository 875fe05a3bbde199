-- The laws of plans: what is given back when, and which addresses are given.
use Rattle.std.specs.Prelude.{ℕ, suc, ◌/◌, ◌≡◌, ◌≢◌, ◌<◌, ◌≤◌, ◌==◌, ◌&&◌, Bool, true, false, Some, None, Option, is_some, List, [], ◌∷◌, ◌++◌, length, slice_get}
use Rattle.std.specs.List.{list_any}
use Rattle.osc_word.specs.declared.job_list.Job.{Job}
use Rattle.osc_word.specs.declared.job_list.Job.TheVariants.{ClearBox}
use Rattle.osc_word.specs.declared.calls.Answer.TheVariants as answer
use Rattle.osc_slot.specs.declared.Block.{Block}
use Rattle.osc_paging.specs.KeptTables.{frame_of}
use Rattle.osc_space.specs.declared.ObjectFact.{ObjectFact}
use Rattle.osc_space.specs.Objects.{Seen, object_at, mark, next_page, next_object, leaf_dead, is_in_leaf}
use Rattle.osc_space.specs.Space.{Draft, Terms, Outcome, Keeps, GivesBack}
use Rattle.osc_space.specs.Header.{Found, block_of}
use Rattle.osc_space.specs.Malloc.{malloc_plan}
use Rattle.osc_space.specs.Free.{free_plan, clear_jobs, waiting_blocks, dead_leaves, flush}
use Rattle.osc_space.specs.Realloc.{stays, left_block, realloc_plan}
use Rattle.osc_space.specs.Finish.{finished}

-- ---- the mark
-- no plan lowers the mark
pub record MarkNeverFalls : Type 0 where
  pub malloc : (n : ℕ) (d : Draft) → mark d.space.objects ≤ mark (malloc_plan n d).draft.space.objects
  pub free : (terms : Terms) (pointer : ℕ) (found : Found) (d : Draft)
      → mark (free_plan terms pointer found d).draft.space.objects ≡ mark d.space.objects
  pub realloc : (terms : Terms) (pointer n : ℕ) (found : Found) (d : Draft)
      → mark d.space.objects ≤ mark (realloc_plan terms pointer n found d).draft.space.objects

-- ---- free
-- the box of each hart is to be cleared
abbrev pub ClearsEachBox : Type 0
ClearsEachBox = (harts hart : ℕ) → hart < harts → slice_get (clear_jobs harts) hart ≡ Some (ClearBox hart)

-- the last of these jobs clear every box
pub record ClearsLast (harts : ℕ) (jobs : List Job) : Type 0 where
  pub before : List Job
  pub is : jobs ≡ before ++ clear_jobs harts

-- a free that frees: its object waits, and no block and no frame is given back until the call
-- returns. It flushes exactly where as many wait as a batch has: then its last jobs clear the boxes,
-- and what is to be given back are the blocks of all that wait, in the order of their calls
pub record FreeWaits (terms : Terms) (d : Draft) (s : Seen) (o : Outcome) : Type 0 where
  pub heap : o.draft.space.heap ≡ d.space.heap
  pub frames : o.draft.free ≡ d.free
  pub waits : o.draft.space.waiting ≡ d.space.waiting ++ s.number ∷ []
  pub keeps : suc (length d.space.waiting) ≢ terms.batch → o.closing ≡ Keeps
  pub gives : suc (length d.space.waiting) ≡ terms.batch → o.closing ≡ GivesBack (waiting_blocks d.space ++ block_of s.fact ∷ [])
  pub clears : suc (length d.space.waiting) ≡ terms.batch → ClearsLast terms.harts o.draft.jobs

abbrev pub FreesWait : Type 0
FreesWait =
    (terms : Terms) (pointer object : ℕ) (found : Found) (d : Draft) (s : Seen)
    → object_at d.space.objects pointer ≡ Some s
    → (free_plan terms pointer found d).answer ≡ answer.Freed object
    → FreeWaits terms d s (free_plan terms pointer found d)

-- where each free flushes, what is to be given back is the block of the object alone
abbrev pub BatchesOfOneFlush : Type 0
BatchesOfOneFlush =
    (terms : Terms) (pointer object : ℕ) (found : Found) (d : Draft) (s : Seen)
    → terms.batch ≡ 1 → d.space.waiting ≡ [] → object_at d.space.objects pointer ≡ Some s
    → (free_plan terms pointer found d).answer ≡ answer.Freed object
    → (free_plan terms pointer found d).closing ≡ GivesBack (block_of s.fact ∷ [])

-- ---- realloc and flushes
-- a realloc that is done gives back the blocks of all that waited, and then its old block where it
-- moves
abbrev pub ReallocsFlush : Type 0
ReallocsFlush =
    (terms : Terms) (pointer n old object moved : ℕ) (found : Found) (d : Draft) (s : Seen)
    → object_at d.space.objects pointer ≡ Some s
    → (realloc_plan terms pointer n found d).answer ≡ answer.Moved old object moved
    → (realloc_plan terms pointer n found d).closing ≡ GivesBack (waiting_blocks d.space ++ left_block (stays s.fact n) s.fact)

-- once a flush has returned none waits and no leaf table stands aside
pub record FlushesEnd (blocks : List Block) (d : Draft) : Type 0 where
  pub waiting : (finished (GivesBack blocks) d).space.waiting ≡ []
  pub aside : (finished (GivesBack blocks) d).space.tables.aside ≡ []

-- a leaf table over objects that are gone is given up: it is linked, and dead
abbrev pub is_given_up : List ObjectFact → Draft → ℕ → Bool
is_given_up gone d leaf =
    is_some (frame_of d.space.tables.tables 0 leaf) && (leaf_dead d.space.objects leaf && list_any (is_in_leaf leaf) gone)

abbrev pub table_after : Bool → Option ℕ → Option ℕ
table_after true frame = None
table_after false frame = frame

-- each linked leaf table has one above it, as in all tables that agree with the words
abbrev pub LeavesStand : Draft → Type 0
LeavesStand d = (leaf : ℕ) → frame_of d.space.tables.tables 0 leaf ≢ None → frame_of d.space.tables.tables 1 (leaf / 512) ≢ None

-- a flush gives up exactly the dead, linked leaf tables over the objects that are gone
pub record FlushGivesUp (harts : ℕ) (gone : List ObjectFact) (d : Draft) : Type 0 where
  pub named : (leaf : ℕ) → list_any (λ x. x == leaf) (dead_leaves gone d.space) ≡ is_given_up gone d leaf
  pub leaves : LeavesStand d → (leaf : ℕ)
      → frame_of (flush harts gone d).space.tables.tables 0 leaf ≡ table_after (is_given_up gone d leaf) (frame_of d.space.tables.tables 0 leaf)
  pub above : (level number : ℕ)
      → frame_of (flush harts gone d).space.tables.tables (suc level) number ≡ frame_of d.space.tables.tables (suc level) number
  pub pages : (flush harts gone d).space.tables.pages ≡ d.space.tables.pages

-- ---- fresh addresses: of malloc, and of realloc whether or not its block stays
abbrev pub IsFresh : Draft → ℕ → ℕ → Type 0
IsFresh d object pointer = (object ≡ next_object d.space.objects) × (pointer / 4096 ≡ next_page d.space.objects)

pub record AddressesAreFresh : Type 0 where
  pub malloc : (n object pointer : ℕ) (d : Draft)
      → (malloc_plan n d).answer ≡ answer.Given object pointer → IsFresh d object pointer
  pub realloc : (terms : Terms) (pointer n old object moved : ℕ) (found : Found) (d : Draft)
      → (realloc_plan terms pointer n found d).answer ≡ answer.Moved old object moved → IsFresh d object moved
