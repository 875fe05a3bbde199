-- The header words of a live object are read through its pages where its block has them.
use Rattle.std.proofs.Common.{ℕ, zero, suc, ◌+◌, ◌-◌, ◌*◌, ◌/◌, ◌%◌, ◌≡◌, ◌<◌, ◌≤◌, ◌==◌, ◌⊎◌, inl, inr, true, false, Option, Some, None, option_map, unwrap_or, List, [], ◌∷◌, slice_get, arith, refl, ap, sym, ◌∙◌, subst}
use Rattle.std.specs.Prelude.{if◌then◌else◌}
use Rattle.std.proofs.lemmas.Bool.Decides.{nat_tests}
use Rattle.osc_word.specs.declared.job_list.WordAt.{WordAt}
use Rattle.osc_word.specs.AddressMap.{first_shadow_page}
use Rattle.osc_class.specs.Rooms.{block_bytes}
use Rattle.osc_slot.specs.declared.Block.{Block}
use Rattle.osc_slot.specs.declared.HeapPage.{HeapPage}
use Rattle.osc_slot.specs.Areas.{IsPlaced, block_at_slot}
use Rattle.osc_slot.specs.Slots.{is_block}
use Rattle.osc_slot.specs.Heap.{IsHeap, frame_of}
use Rattle.osc_slot.proofs.HeldBlocks.{same_block, found}
use Rattle.osc_slot.proofs.Fresh.{placed_is}
use Rattle.osc_paging.specs.KeptTables.{KeptTables, mapping_at}
use Rattle.osc_space.specs.declared.ObjectFact.{ObjectFact}
use Rattle.osc_space.specs.declared.ObjectState.{ObjectState}
use Rattle.osc_space.specs.declared.ObjectState.TheVariants.{Live, Dead}
use Rattle.osc_space.specs.declared.HeaderLook.TheVariants.{Words, Zero}
use Rattle.osc_space.specs.LeafFlags.{read_write_at}
use Rattle.osc_space.specs.Space.{Space, Closing, Keeps}
use Rattle.osc_space.specs.Objects.{GrantedFrom, Seen, object_at, is_live, is_live_state}
use Rattle.osc_space.specs.Header.{block_of, mapped_frame, mapped_word, look_at, look_by_state, header_in}
use Rattle.osc_space.specs.BlockWords.{frame_at, word_of_address, block_word}
use Rattle.osc_space.specs.Agree.{IsLive, ObjectsAgree}
use Rattle.osc_space.specs.Finish.{finished}
use Rattle.osc_space.proofs.ObjectLawProofs.{pages_are_granted_once, looks_find_objects}
use Rattle.osc_parts.specs.Settled.{PartsFit}
use Rattle.osc_parts.proofs.Blocks.{room_bytes, lies_at}
use Rattle.osc_parts.proofs.PlainMalloc.{block_high}
use Rattle.osc_calls.specs.Kernel.{KernelState}
use Rattle.osc_settled.specs.Memory.{at_rest}
use Rattle.osc_settled.specs.UnderWay.{closing_of}
use Rattle.osc_settled.specs.FollowLaws.{HeaderFits, HeadersFollow}
use Rattle.osc_settled.proofs.Shadows.{live_kept, oscar}

-- ---- places
abbrev word_at_place : ℕ → ℕ → WordAt
word_at_place frame offset = record { frame = frame; index = offset / 8 }

same_word : (t : KeptTables) (pages : List HeapPage) (a b : ℕ) → mapped_frame (mapping_at t.pages (a / 4096)) ≡ frame_at pages (b / 4096) → a % 4096 ≡ b % 4096 → mapped_word t a ≡ word_of_address pages b
same_word t pages a b e f = ap (λ x. word_at_place x (a % 4096)) e ∙ ap (λ x. word_at_place (frame_at pages (b / 4096)) x) f

leaf_frame : (x : Option ℕ) → mapped_frame (option_map read_write_at x) ≡ unwrap_or x 0
leaf_frame None = refl
leaf_frame (Some f) = refl

-- an object's first page, and the offset of its block in a page
user_of : (page : ℕ) (objects : List ObjectFact) (a : ℕ) (o : ObjectFact) → GrantedFrom page objects → slice_get objects a ≡ Some o → (0 < o.pages) × (o.user ≡ o.first * 4096 + o.canon % 4096)
user_of page [] a o g e = absurd (let z : ⊥ = grind (arith, e) in z)
user_of page (x ∷ objects) zero o g e =
    let same : x ≡ o = cc in
    subst (λ (y : ObjectFact). (0 < y.pages) × (y.user ≡ y.first * 4096 + y.canon % 4096)) same (g.1, g.2)
user_of page (x ∷ objects) (suc a) o g e = user_of (page + x.pages) objects a o g.3 e

-- a block's header lies in one page, and its address is no small one
record HasHeader (start : ℕ) : Type 0 where
  above : 4096 ≤ start
  in_page : start % 4096 + 32 ≤ 4096

in_page_by : (start bytes : ℕ) → 32 ≤ bytes → (start % 4096 ≡ 0) ⊎ (start % 4096 + bytes ≤ 4096) → start % 4096 + 32 ≤ 4096
in_page_by start bytes l (inl e) = omega (arith, e)
in_page_by start bytes l (inr e) = omega (arith, e, l)

placed_header : (frames : ℕ) (b : Block) → IsPlaced frames b → HasHeader b.start
placed_header frames b p = subst (λ (x : Block). HasHeader x.start) (sym (placed_is frames b p)) (record {
  above = (let h = block_high frames b.room p.slot p.room p.within in omega (arith, h));
  in_page = in_page_by (block_at_slot frames b.room p.slot).start (block_bytes b.room) (room_bytes b.room p.room) (lies_at frames b.room p.slot p.room).0;
})

-- ---- the look
look_live : (t : KeptTables) (user object : ℕ) (state : ObjectState) → is_live_state state ≡ true → look_by_state t user object state ≡ Words (mapped_word t (user - 16)) (mapped_word t (user - 8))
look_live t user object Live e = refl
look_live t user object (Dead call) e = absurd (let z : ⊥ = grind (arith, e) in z)

look_is : (t : KeptTables) (objects : List ObjectFact) (user : ℕ) (s : Seen) → 0 < user → object_at objects user ≡ Some s → is_live s.fact ≡ true
    → header_in t objects user ≡ Words (mapped_word t (user - 16)) (mapped_word t (user - 8))
unfolding header_in
look_is t objects user s l e live =
    ap (λ b. if b then Zero else look_at t user (object_at objects user)) (let z : (user == 0) ≡ false = grind (arith, nat_tests, l) in z)
    ∙ ap (look_at t user) e ∙ look_live t user s.number s.fact.state live

-- ---- one memory
module _ (s : Space) (object : ℕ) (o : ObjectFact) (heap : IsHeap s.heap) (a : ObjectsAgree s) (live : IsLive s object o) where
  placed : IsPlaced s.heap.frames (block_of o)
  placed =
      let f = found s.heap.frames (λ b. is_block (block_of o) b) s.heap.held heap.placed (a.held object o (live_kept s s object o refl live)) in
      subst (λ (b : Block). IsPlaced s.heap.frames b) (sym (same_block (block_of o) f.block f.passes)) f.placed

  header : HasHeader (o.canon - 16)
  header = placed_header s.heap.frames (block_of o) placed

  user_is : (0 < o.pages) × (o.user ≡ o.first * 4096 + o.canon % 4096)
  user_is = user_of first_shadow_page s.objects object o a.granted live.0

  shadow : first_shadow_page ≤ o.first
  shadow = ((pages_are_granted_once s.objects a.granted).within object o live.0).0

  first_page : mapped_frame (mapping_at s.tables.pages o.first) ≡ frame_at s.heap.pages (o.canon / 4096)
  first_page =
      let here : o.first + 0 ≡ o.first = omega arith in
      let there : o.canon / 4096 + 0 ≡ o.canon / 4096 = omega arith in
      ap (λ n. mapped_frame (mapping_at s.tables.pages n)) (sym here)
      ∙ ap mapped_frame (a.mapped object 0 o live user_is.0)
      ∙ leaf_frame (frame_of s.heap.pages (o.canon / 4096 + 0))
      ∙ ap (frame_at s.heap.pages) there

  -- a word so many bytes past the block's start, as it is read so many bytes before the object
  word_is : (back offset : ℕ) → back + offset ≡ 16 → mapped_word s.tables (o.user - back) ≡ block_word s.heap.pages (block_of o) offset
  word_is back offset e =
      let h = header.above in
      let p = header.in_page in
      let u = user_is.1 in
      let c : o.canon ≡ (o.canon - 16) + 16 = omega (arith, h) in
      let page : (o.user - back) / 4096 ≡ o.first = omega (arith, e, u, c, p) in
      let block : (o.canon - 16 + offset) / 4096 ≡ o.canon / 4096 = omega (arith, e, c, p) in
      let place : (o.user - back) % 4096 ≡ (o.canon - 16 + offset) % 4096 = omega (arith, e, u, c, p) in
      same_word s.tables s.heap.pages (o.user - back) (o.canon - 16 + offset)
      (ap (λ n. mapped_frame (mapping_at s.tables.pages n)) page ∙ first_page ∙ ap (frame_at s.heap.pages) (sym block))
      place

  header_fits : HeaderFits s o
  header_fits = record {
    look = look_is s.tables s.objects o.user (record { number = object; fact = o }) (let u = user_is.1 in let f = shadow in omega (arith, u, f))
        ((looks_find_objects s.objects a.granted).by_user (record { number = object; fact = o }) live.0) live.1;
    first = word_is 16 0 refl;
    second = word_is 8 8 refl;
  }

-- a return that gives nothing back leaves all as it is
parts_now : (k : KernelState) (closing : Closing) (s : Space) → closing ≡ Keeps
    → PartsFit k.config.heap k.config.batch k.regions (finished closing (at_rest s k.free)).space (finished closing (at_rest s k.free)).free
    → PartsFit k.config.heap k.config.batch k.regions s k.free
unfolding finished
parts_now k closing s e h = subst (λ c. PartsFit k.config.heap k.config.batch k.regions (finished c (at_rest s k.free)).space (finished c (at_rest s k.free)).free) e h

pub headers_follow : HeadersFollow
headers_follow words k pid object p o f h keeps e lives live =
    let parts = parts_now k (closing_of k.under_way pid) p.space keeps (f.memory.spaces pid p e lives).returns.parts in
    header_fits p.space object o parts.heap (oscar k.config.heap p.space h parts.agrees.heap) live
