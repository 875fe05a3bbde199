-- Where a grant is not refused, the shadow pages of its block can be mapped.
use Rattle.std.proofs.Common.{ℕ, ◌+◌, ◌≡◌, ◌<◌, ◌≤◌, Bool, true, false, List, [], None, arith, refl, ap, sym, subst, ◌∙◌, length}
use Rattle.std.specs.Prelude.{nat_lt}
use Rattle.std.proofs.lemmas.Bool.Decides.{nat_tests}
use Rattle.osc_word.specs.JobList.{JobList}
use Rattle.osc_frames.specs.Free.{IsTaken}
use Rattle.osc_class.specs.declared.Room.{Room}
use Rattle.osc_class.specs.declared.Room.TheVariants.{Small, Pages}
use Rattle.osc_class.specs.Rooms.{IsRoom, block_bytes, shadow_pages, size_of}
use Rattle.osc_slot.specs.Slots.{need as block_need}
use Rattle.osc_slot.specs.Heap.{Heap, empty_heap, free_count, place}
use Rattle.osc_slot.proofs.Backing.{free_count-le}
use Rattle.osc_paging.specs.KeptTables.{KeptTables, need}
use Rattle.osc_tables.specs.Calls.{IsOrdered}
use Rattle.osc_mark.specs.Grants.{Grants, AreMarked}
use Rattle.osc_space.specs.Objects.{mark, next_page}
use Rattle.osc_space.specs.Agree.{HasSpare}
use Rattle.osc_space.proofs.RefusalLawProofs.{refused_for_want}
use Rattle.osc_shadow.specs.Parts.{space_of, draft_of, PartsAgree, memory_refusal}
use Rattle.osc_shadow.specs.Mapping.{CanMap}
use Rattle.osc_shadow.specs.Pieces.{pieces}
use Rattle.osc_shadow.proofs.Agreed.{agreed, pages_fit, fresh_unmapped, place_takes, place_keeps_taken}

-- ---- what is not refused
pub record Enough (t : KeptTables) (g : Grants) (free : List Bool) (frames pages : ℕ) : Type 0 where
  pub shadows : mark g.objects + pages ≤ g.limit
  pub frames_left : frames + need t (next_page g.objects) pages ≤ free_count free

pub enough : (t : KeptTables) (g : Grants) (free : List Bool) (frames pages : ℕ) → memory_refusal t g free frames pages ≡ None → Enough t g free frames pages
enough t g free frames pages none =
    pick (nat_lt g.limit (mark g.objects + pages)) (nat_lt (free_count free) (frames + need t (next_page g.objects) pages)) refl refl
  where
    pick : (b c : Bool) → nat_lt g.limit (mark g.objects + pages) ≡ b → nat_lt (free_count free) (frames + need t (next_page g.objects) pages) ≡ c → Enough t g free frames pages
    pick true c e f =
        let over : g.limit < mark g.objects + pages = grind (arith, nat_tests, e) in
        let refused = (refused_for_want (draft_of t g (empty_heap 0) [] free []) frames pages).shadows over in
        cc
    pick false true e f =
        let within : mark g.objects + pages ≤ g.limit = grind (arith, nat_tests, e) in
        let lacks : free_count free < frames + need t (next_page g.objects) pages = grind (arith, nat_tests, f) in
        let refused = (refused_for_want (draft_of t g (empty_heap 0) [] free []) frames pages).lack within lacks in
        cc
    pick false false e f = record { shadows = grind (arith, nat_tests, e); frames_left = grind (arith, nat_tests, f) }

-- ---- the pages of a block
small_bytes : (class : ℕ) → class < 13 → size_of class ≤ 4096
small_bytes class l = grind arith

pub few_pieces : (room : Room) → IsRoom room → pieces (block_bytes room) ≤ shadow_pages room
few_pieces (Small class) r = let h = small_bytes class r in omega arith
few_pieces (Pages n) r = omega arith

pub few_block_pages : (heap : Heap) (room : Room) (free : List Bool) → block_need heap.frames heap.held room ≤ free_count free → shadow_pages room ≤ length free + 1
few_block_pages heap (Small class) free l = omega arith
few_block_pages heap (Pages n) free l = let h = free_count-le free in omega arith

-- ---- a block was placed, and its words have their jobs
pub can_map_block : (t : KeptTables) (g : Grants) (heap : Heap) (waiting : List ℕ) (free now : List Bool) (jobs after : JobList) (room : Room) (first : ℕ)
    → PartsAgree t g heap waiting free → IsOrdered t → AreMarked g → IsRoom room
    → memory_refusal t g free (block_need heap.frames heap.held room) (shadow_pages room) ≡ None
    → HasSpare jobs (length free)
    → first ≡ next_page g.objects
    → now ≡ (place heap room free).free → length now ≡ heap.frames
    → length after.pushed ≤ length jobs.pushed + (pieces (block_bytes room) + 2) → after.room ≡ jobs.room
    → CanMap t now after first (shadow_pages room)
can_map_block t g heap waiting free now jobs after room first agree order marked is_room none has_spare first_is now_is count few same =
    let a = agree.agree in
    let s = space_of t g heap waiting in
    let has = enough t g free (block_need heap.frames heap.held room) (shadow_pages room) none in
    let knows = agreed (space_of t g heap waiting) agree.regions free a in
    let within = has.shadows in
    let lacks = has.frames_left in
    let below = marked.mark in
    let most = marked.most in
    let takes = place_takes heap room free (omega arith) in
    let now_free : free_count now ≡ free_count (place heap room free).free = ap free_count now_is in
    let few_pieces_here = few_pieces room is_room in
    let few_pages_here = few_block_pages heap room free (omega arith) in
    let free_le = free_count-le free in
    let frames = a.frames in
    record {
      top = order.range;
      opened = knows.opened;
      low = omega arith;
      unmapped = λ page from to. fresh_unmapped (space_of t g heap waiting) agree.regions free page a (omega arith) (omega arith);
      left = pages_fit (space_of t g heap waiting) agree.regions free (shadow_pages room) a order.ascend most within;
      taken = record {
        count = count ∙ frames ∙ sym a.count;
        tables = λ f p e. subst (λ (x : List Bool). IsTaken x f) (sym now_is) (place_keeps_taken heap room free f (knows.taken.tables f p e));
        aside = λ f p e. subst (λ (x : List Bool). IsTaken x f) (sym now_is) (place_keeps_taken heap room free f (knows.taken.aside f p e));
      };
      need = let n : need t (next_page g.objects) (shadow_pages room) ≤ free_count now = omega arith in subst (λ k. need t k (shadow_pages room) ≤ free_count now) (sym first_is) n;
      spare = omega arith;
    }
