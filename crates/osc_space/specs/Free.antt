-- Free: the object is dead from the plan on, its pages are unmapped, and it waits. Once as many wait
-- as a batch has, a flush lets all of them go: every box is cleared, and their blocks are given back
-- when the call returns. A leaf table over the shadows is given up at the flush after which all its
-- pages were granted and none belongs to a live object. This project's own.
use Rattle.std.specs.Prelude.{ℕ, ◌==◌, ◌&&◌, Bool, true, false, Option, Some, None, List, [], ◌∷◌, length, map, filter}
use Rattle.std.specs.List.{list_any, range_with_len}
use Rattle.osc_word.specs.declared.job_list.Job.{Job}
use Rattle.osc_word.specs.declared.job_list.Job.TheVariants.{ClearBox}
use Rattle.osc_word.specs.declared.calls.Answer.TheVariants.{Freed, NotAnObject}
use Rattle.osc_word.specs.WaitingList.{with_waiting}
use Rattle.osc_slot.specs.declared.Block.{Block}
use Rattle.osc_paging.specs.declared.TableFrame.{TableFrame}
use Rattle.osc_paging.specs.KeptTables.{KeptTables}
use Rattle.osc_paging.specs.TableChanges.{Changed, unmap_page, reclaim}
use Rattle.osc_space.specs.declared.ObjectFact.{ObjectFact}
use Rattle.osc_space.specs.Objects.{Seen, object_at, facts, is_in_leaf, leaf_dead, kill}
use Rattle.osc_space.specs.Header.{Found, object_reasons, block_of}
use Rattle.osc_space.specs.Space.{Space, Draft, Terms, Outcome, Closing, Keeps, GivesBack, first_reason, unless, unchanged, push, with_objects, change}

-- ---- objects that wait
abbrev pub waiting_facts : Space → List ObjectFact
waiting_facts s = facts s.objects s.waiting

-- the blocks of all that wait, in the order of their calls
abbrev pub waiting_blocks : Space → List Block
waiting_blocks s = map block_of (waiting_facts s)

abbrev pub kill_object : ℕ → ℕ → Draft → Draft
kill_object object call d = with_objects (kill object call d.space.objects) d

-- an object waits
abbrev pub await : ℕ → Draft → Draft
await object d = record d { space = record (d.space) { waiting = with_waiting d.space.waiting object } }

-- ---- unmapping
abbrev pub unmap_all : List ℕ → Changed → Changed
unmap_all [] c = c
unmap_all (page ∷ pages) c = unmap_all pages (unmap_page page c)

abbrev pub unmap_object : ObjectFact → Draft → Draft
unmap_object o d = change (unmap_all (range_with_len o.first o.pages)) d

-- ---- the flush
-- the box of every hart is cleared, ascending
abbrev pub clear_jobs : ℕ → List Job
clear_jobs harts = map (λ hart. ClearBox hart) (range_with_len 0 harts)

-- the leaf tables that are linked, ascending
abbrev pub linked_leaves : KeptTables → List ℕ
linked_leaves t =
    map (λ (f : TableFrame). f.piece.number) (filter (λ (f : TableFrame). f.piece.level == 0) t.tables)

-- the leaf tables over these objects that have no live object any more and never will
abbrev pub dead_leaves : List ObjectFact → Space → List ℕ
dead_leaves gone s = filter (λ leaf. leaf_dead s.objects leaf && list_any (is_in_leaf leaf) gone) (linked_leaves s.tables)

abbrev pub reclaim_all : List ℕ → Changed → Changed
reclaim_all [] c = c
reclaim_all (leaf ∷ leaves) c = reclaim_all leaves (reclaim leaf c)

-- the dead leaf tables over these objects are given up, and every box is cleared
abbrev pub flush : ℕ → List ObjectFact → Draft → Draft
flush harts gone d = push (clear_jobs harts) (change (reclaim_all (dead_leaves gone d.space)) d)

-- ---- the plan
-- the object is dead and waits
abbrev pub let_wait : Terms → Seen → Draft → Draft
let_wait terms s d = unmap_object s.fact (await s.number (kill_object s.number terms.call d))

-- a batch waits
abbrev pub is_full : Terms → Space → Bool
is_full terms s = length s.waiting == terms.batch

abbrev pub flush_where : Bool → ℕ → Draft → Draft
flush_where true harts d = flush harts (waiting_facts d.space) d
flush_where false harts d = d

abbrev pub closing_where : Bool → Space → Closing
closing_where true s = GivesBack (waiting_blocks s)
closing_where false s = Keeps

abbrev pub freed : ℕ → Terms → Draft → Outcome
freed object terms d = record {
  answer = Freed object;
  draft = flush_where (is_full terms d.space) terms.harts d;
  closing = closing_where (is_full terms d.space) d.space;
}

abbrev pub free_seen : Option Seen → Terms → Found → Draft → Outcome
free_seen None terms found d = unchanged NotAnObject d
free_seen (Some s) terms found d =
    unless (first_reason (object_reasons (Some s) found)) d (freed s.number terms (let_wait terms s d))

-- `found` is the header of the object as it stands in memory; where no live object has this address
-- there is none, and it isn't looked at
unfoldable pub free_plan : Terms → ℕ → Found → Draft → Outcome
free_plan terms pointer found d = free_seen (object_at d.space.objects pointer) terms found d
