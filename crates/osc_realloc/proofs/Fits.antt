-- Where a realloc is not refused, the new object's pages can be mapped.
use Rattle.std.proofs.Common.{ℕ, ◌+◌, ◌-◌, ◌*◌, ◌/◌, ◌≡◌, ◌<◌, ◌≤◌, min, ◌^◌, Bool, true, false, Some, None, ◌||◌, List, arith, refl, ap, sym, subst, ◌∙◌, length}
use Rattle.osc_word.specs.JobList.{JobList}
use Rattle.osc_word.specs.declared.job_list.Job.{Job}
use Rattle.osc_class.specs.declared.Room.{Room}
use Rattle.osc_class.specs.Rooms.{IsRoom, room_of, shadow_pages}
use Rattle.osc_slot.specs.declared.Block.{Block}
use Rattle.osc_slot.specs.Slots.{is_room}
use Rattle.osc_slot.specs.Heap.{Heap, free_count}
use Rattle.osc_slot.proofs.Backing.{free_count-le}
use Rattle.osc_slot.proofs.HeldBlocks.{same_room}
use Rattle.osc_paging.specs.KeptTables.{KeptTables, need}
use Rattle.osc_tables.specs.Calls.{HasTaken, IsOrdered}
use Rattle.osc_mark.specs.Grants.{Grants, AreMarked, left}
use Rattle.osc_space.specs.declared.ObjectFact.{ObjectFact}
use Rattle.osc_space.specs.Objects.{fact, is_live, next_page, kill, grant, leaf_dead}
use Rattle.osc_space.specs.Space.{Space}
use Rattle.osc_space.specs.Header.{block_of}
use Rattle.osc_space.specs.Agree.{HasSpare, is_waiting, IsKept}
use Rattle.osc_space.specs.Realloc.{stays}
use Rattle.osc_shadow.specs.Parts.{space_of, PartsAgree, memory_refusal}
use Rattle.osc_shadow.specs.Mapping.{CanMap}
use Rattle.osc_shadow.proofs.Agreed.{agreed, pages_fit, fresh_unmapped}
use Rattle.osc_shadow.proofs.Granted.{enough, few_block_pages, can_map_block}
use Rattle.osc_realloc.specs.Blocks.{new_block, newly_taken, placed}
use Rattle.osc_realloc.specs.Replaced.{Replaced}
use Rattle.osc_realloc.proofs.After.{can_map_after}
use Rattle.osc_realloc.proofs.Gone.{new_live}
use Rattle.osc_realloc.proofs.Rooms.{room_holds, bytes_most}

-- ---- the room of the new object
pub room_is : (stay : Bool) (o : ObjectFact) (heap : Heap) (n : ℕ) → stay ≡ stays o n → (new_block stay (block_of o) heap (room_of n)).room ≡ room_of n
room_is true o heap n e = sym (same_room (room_of n) (room_of o.size) (sym e))
room_is false o heap n e = refl

pub block_eq : (stay : Bool) (o : ObjectFact) (heap : Heap) (n : ℕ) (old block : Block) (room : Room) → old ≡ block_of o → room ≡ room_of n → block ≡ new_block stay old heap room
    → block ≡ new_block stay (block_of o) heap (room_of n)
block_eq stay o heap n old block room e f b = b ∙ ap (λ x. new_block stay x heap room) e ∙ ap (λ r. new_block stay (block_of o) heap r) f

pub block_room : (stay : Bool) (o : ObjectFact) (heap : Heap) (n : ℕ) (old block : Block) (room : Room) → stay ≡ stays o n → old ≡ block_of o → room ≡ room_of n → block ≡ new_block stay old heap room
    → block.room ≡ room_of n
block_room stay o heap n old block room s e f b = ap (λ (x : Block). x.room) (block_eq stay o heap n old block room e f b) ∙ room_is stay o heap n s

pub is_kept : (s : Space) (i : ℕ) (o : ObjectFact) → fact s.objects i ≡ Some o → is_live o ≡ true → IsKept s i o
is_kept s i o e l = (e, ap (λ b. b || is_waiting s i) l)

pub low_bytes : (size n : ℕ) → IsRoom (room_of n) → shadow_pages (room_of n) ≤ 2 ^ 24 → min size n < 2 ^ 39
low_bytes size n r l =
    let h = room_holds n in
    let b = bytes_most (room_of n) r in
    omega arith

-- ---- enough for it
pub record HasRoom (g : Grants) (free : List Bool) (frames : ℕ) (room : Room) : Type 0 where
  pub left : shadow_pages room ≤ left g
  pub enough : frames ≤ free_count free
  pub low : shadow_pages room ≤ 2 ^ 24
  pub few : shadow_pages room ≤ length free + 1

few_pages_in : (stay : Bool) (t : KeptTables) (g : Grants) (heap : Heap) (waiting : List ℕ) (free : List Bool) (i n : ℕ) (o : ObjectFact) → PartsAgree t g heap waiting free → stay ≡ stays o n
    → fact g.objects i ≡ Some o → is_live o ≡ true → newly_taken stay heap (room_of n) ≤ free_count free → shadow_pages (room_of n) ≤ length free + 1
few_pages_in true t g heap waiting free i n o agree e is live l =
    let a = agree.agree in
    let small = a.heap.small i o (is, live) in
    let pages : o.pages ≡ shadow_pages (room_of o.size) = a.heap.pages i o (is, ap (λ b. b || is_waiting (space_of t g heap waiting) i) live) in
    let same : shadow_pages (room_of n) ≡ shadow_pages (room_of o.size) = ap shadow_pages (same_room (room_of n) (room_of o.size) (sym e)) in
    let frames = a.frames in
    omega arith
few_pages_in false t g heap waiting free i n o agree e is live l = few_block_pages heap (room_of n) free l

pub has_room : (stay : Bool) (t : KeptTables) (g : Grants) (heap : Heap) (waiting : List ℕ) (free : List Bool) (i n : ℕ) (o : ObjectFact) → PartsAgree t g heap waiting free → AreMarked g → stay ≡ stays o n
    → fact g.objects i ≡ Some o → is_live o ≡ true
    → memory_refusal t g free (newly_taken stay heap (room_of n)) (shadow_pages (room_of n)) ≡ None
    → HasRoom g free (newly_taken stay heap (room_of n)) (room_of n)
has_room stay t g heap waiting free i n o agree marked e is live none =
    let has = enough t g free (newly_taken stay heap (room_of n)) (shadow_pages (room_of n)) none in
    let shadows = has.shadows in
    let frames = has.frames_left in
    let most = marked.most in
    record {
      left = omega arith;
      enough = omega arith;
      low = omega arith;
      few = few_pages_in stay t g heap waiting free i n o agree e is live (omega arith);
    }

-- ---- the pages can be mapped before the old object is replaced
pub can_map_in : (stay : Bool) (t : KeptTables) (g : Grants) (heap : Heap) (waiting : List ℕ) (free now : List Bool) (jobs : JobList) (room : Room) (first : ℕ)
    → PartsAgree t g heap waiting free → IsOrdered t → AreMarked g → IsRoom room
    → memory_refusal t g free (newly_taken stay heap room) (shadow_pages room) ≡ None
    → shadow_pages room ≤ length free + 1 → HasSpare jobs (length free) → first ≡ next_page g.objects
    → now ≡ (placed stay heap room free).free → length now ≡ length free
    → CanMap t now jobs first (shadow_pages room)
can_map_in true t g heap waiting free now jobs room first agree order marked is_room none few spares first_is now_is count =
    let a = agree.agree in
    let has = enough t g free 0 (shadow_pages room) none in
    let knows = agreed (space_of t g heap waiting) agree.regions free a in
    let within = has.shadows in
    let lacks = has.frames_left in
    let below = marked.mark in
    let most = marked.most in
    let now_free : free_count now ≡ free_count free = ap free_count now_is in
    let free_le = free_count-le free in
    record {
      top = order.range;
      opened = knows.opened;
      low = omega arith;
      unmapped = λ page from to. fresh_unmapped (space_of t g heap waiting) agree.regions free page a (omega arith) (omega arith);
      left = pages_fit (space_of t g heap waiting) agree.regions free (shadow_pages room) a order.ascend most within;
      taken = subst (λ (x : List Bool). HasTaken t x) (sym now_is) knows.taken;
      need = let n : need t (next_page g.objects) (shadow_pages room) ≤ free_count now = omega arith in subst (λ k. need t k (shadow_pages room) ≤ free_count now) (sym first_is) n;
      spare = omega arith;
    }
can_map_in false t g heap waiting free now jobs room first agree order marked is_room none few spares first_is now_is count =
    can_map_block t g heap waiting free now jobs jobs room first agree order marked is_room none spares first_is now_is (let frames = agree.agree.frames in omega arith) (omega arith) refl

-- ---- and after it
pub can_map_moved : (t v : KeptTables) (g g2 : Grants) (now : List Bool) (jobs after : JobList) (middle : List Job) (pages : List ℕ) (harts n call first size canon count : ℕ) (gone : List ObjectFact)
    → CanMap t now jobs first count → 0 < count → n < length g.objects → first ≡ next_page g.objects
    → g2 ≡ record g { objects = kill n call (grant count size canon g.objects) }
    → Replaced t v jobs.pushed middle pages harts g2.objects gone
    → length after.pushed + 2 * free_count now + count + 6 ≤ after.room
    → CanMap v now after first count
can_map_moved t v g g2 now jobs after middle pages harts n call first size canon count gone can some l first_is grants r spare =
    let objects : g2.objects ≡ kill n call (grant count size canon g.objects) = ap (λ (x : Grants). x.objects) grants in
    can_map_after t r.tables v now jobs (record { pushed = r.jobs; room = 0 }) (record { pushed = middle; room = 0 }) after pages harts first count g2.objects gone can some (r.unmaps now) (r.flushes now)
    (λ x lo hi. ap (λ os. leaf_dead os x) objects ∙ new_live g.objects n call count size canon x l some (subst (λ k. k / 512 ≤ x) first_is lo) (subst (λ k. x ≤ (k + (count - 1)) / 512) first_is hi))
    spare
