-- No frame of a mapped page or of a block is a table.
use Rattle.std.proofs.Common.{ℕ, suc, ◌+◌, ◌/◌, ◌-◌, ◌≡◌, ◌≢◌, ◌<◌, ◌≤◌, ◌==◌, ◌&&◌, ◌||◌, cond, Bool, true, false, is_some, Option, Some, None, List, [], ◌∷◌, map, filter, find, option_map, slice_get, arith, refl, sym, ap, subst, ◌∙◌}
use Rattle.std.specs.List.{list_any}
use Rattle.std.proofs.lemmas.Bool.Decides.{nat_tests}
use Rattle.osc_word.specs.declared.settings.HeapKind.TheVariants.{Oscar}
use Rattle.osc_word.specs.AddressMap.{is_shadow, is_shared, is_image_or_stack, is_canonical_page, is_in_map}
use Rattle.osc_sv39.specs.declared.entries.Mapping.{Mapping}
use Rattle.osc_slot.specs.declared.Block.{Block}
use Rattle.osc_slot.specs.declared.HeapPage.{HeapPage}
use Rattle.osc_slot.specs.Slots.{is_covered}
use Rattle.osc_slot.specs.Heap.{Heap, frame_of, frame_of_found, without_block, release}
use Rattle.osc_slot.proofs.InOrder.{find-filter}
use Rattle.osc_paging.specs.declared.Mapped.{Mapped}
use Rattle.osc_paging.specs.KeptTables.{mapping_at}
use Rattle.osc_paging.specs.CopyLaws.{IsNoTable}
use Rattle.osc_space.specs.declared.ObjectFact.{ObjectFact}
use Rattle.osc_space.specs.LeafFlags.{read_write_at}
use Rattle.osc_space.specs.Objects.{has_page, is_live, is_live_page}
use Rattle.osc_space.specs.Space.{Space, Draft, Closing, Keeps, GivesBack, with_heap}
use Rattle.osc_space.specs.Fork.{frame_of_page, image_frames, heap_frame_of}
use Rattle.osc_space.specs.Share.{shared_frames}
use Rattle.osc_space.specs.Finish.{give_blocks, finished}
use Rattle.osc_space.specs.Agree.{ObjectsAgree}
use Rattle.osc_parts.specs.Frames.{one_at, among, frames_held}
use Rattle.osc_parts.proofs.Blocks.{page_member, no_piece}
use Rattle.osc_parts.proofs.Counts.{among-append}
use Rattle.osc_parts.proofs.Settling.{mapping_among}
use Rattle.osc_parts.proofs.Trading.{held_is, held_once}
use Rattle.osc_calls.specs.Kernel.{KernelState, Process, process_at}
use Rattle.osc_settled.specs.Memory.{at_rest}
use Rattle.osc_settled.specs.UnderWay.{closing_of}
use Rattle.osc_settled.specs.KernelFits.{KernelFits}
use Rattle.osc_settled.proofs.Shadows.{oscar, shadows_follow}
use Rattle.osc_settled.proofs.Following.{processes_apart}
use Rattle.osc_caches.specs.DataFrames.{IsData, Maps, Holds, IsNobodysTable, DataIsNoTable}

-- ---- a page of a list
mapped-among : (ms : List Mapped) (n : ℕ) (m : Mapping) → mapping_at ms n ≡ Some m → 0 < among m.frame (map frame_of_page ms)
mapped-among [] n m e = absurd (let b : ⊥ = grind (arith, e) in b)
mapped-among (x ∷ ms) n m e = go (x.number == n) refl (mapped-among ms n m)
  where
    go : (b : Bool) → (x.number == n) ≡ b → (mapping_at ms n ≡ Some m → 0 < among m.frame (map frame_of_page ms)) → 0 < one_at x.mapping.frame m.frame + among m.frame (map frame_of_page ms)
    go true d later =
        let same : x.mapping ≡ m = (let h : Some x.mapping ≡ Some m = grind (arith, e, d) in grind (arith, h)) in
        let one : one_at x.mapping.frame m.frame ≡ 1 = (let f = ap (λ (z : Mapping). z.frame) same in grind (arith, nat_tests, f)) in
        omega (arith, one)
    go false d later = let l = later (grind (arith, e, d)) in omega (arith, l)

-- of a list of those that pass a test
passed-among : (test : ℕ → Bool) (ms : List Mapped) (n : ℕ) (m : Mapping) → mapping_at ms n ≡ Some m → test n ≡ true → 0 < among m.frame (map frame_of_page (filter (λ (x : Mapped). test x.number) ms))
passed-among test ms n m e t = mapped-among (filter (λ (x : Mapped). test x.number) ms) n m (mapping_among test n ms t ∙ e)

-- ---- a return gives pages of the heap back, and adds none
kept-page : (b : Bool) (o : Option HeapPage) (f : ℕ) → frame_of_found (cond b o None) ≡ Some f → frame_of_found o ≡ Some f
kept-page true o f e = e
kept-page false o f e = absurd (let b : ⊥ = grind (arith, e) in b)

released : (heap : Heap) (block : Block) (free : List Bool) (q f : ℕ) → frame_of (release heap block free).heap.pages q ≡ Some f → frame_of heap.pages q ≡ Some f
unfolding release
released heap block free q f e =
    let held = without_block block heap.held in
    kept-page (is_covered held q) (find (λ (p : HeapPage). p.page == q) heap.pages) f
    (sym (ap frame_of_found (find-filter (λ (p : HeapPage). p.page) (is_covered held) q heap.pages)) ∙ e)

gave : (blocks : List Block) (d : Draft) (q f : ℕ) → frame_of (give_blocks blocks d).space.heap.pages q ≡ Some f → frame_of d.space.heap.pages q ≡ Some f
gave [] d q f e = e
gave (block ∷ blocks) d q f e = released d.space.heap block d.free q f (gave blocks (with_heap (release d.space.heap block d.free) d) q f e)

pub was-page : (closing : Closing) (d : Draft) (q f : ℕ) → frame_of (finished closing d).space.heap.pages q ≡ Some f → frame_of d.space.heap.pages q ≡ Some f
unfolding finished
was-page Keeps d q f e = e
was-page (GivesBack blocks) d q f e = gave blocks d q f e

same-pages : (closing : Closing) (d : Draft) → (finished closing d).space.tables.pages ≡ d.space.tables.pages
unfolding finished
same-pages Keeps d = refl
same-pages (GivesBack blocks) d = go blocks d
  where
    go : (blocks : List Block) (d : Draft) → (give_blocks blocks d).space.tables.pages ≡ d.space.tables.pages
    go [] d = refl
    go (block ∷ blocks) d = go blocks (with_heap (release d.space.heap block d.free) d)

-- ---- the frames of a process
any-at : (f : ObjectFact → Bool) (xs : List ObjectFact) → list_any f xs ≡ true → (i : ℕ) × (x : ObjectFact) × (slice_get xs i ≡ Some x) × (f x ≡ true)
any-at f [] e = absurd (let b : ⊥ = grind (arith, e) in b)
any-at f (x ∷ xs) e = go (f x) refl (any-at f xs)
  where
    go : (b : Bool) → f x ≡ b → (list_any f xs ≡ true → (i : ℕ) × (y : ObjectFact) × (slice_get xs i ≡ Some y) × (f y ≡ true)) → (i : ℕ) × (y : ObjectFact) × (slice_get (x ∷ xs) i ≡ Some y) × (f y ≡ true)
    go true d later = (0, x, refl, d)
    go false d later = (let l = later (grind (arith, e, d)) in (suc l.0, l.1, l.2, l.3))

pub some-frame : (o : Option ℕ) (m : Mapping) → option_map read_write_at o ≡ Some m → o ≡ Some m.frame
some-frame None m e = absurd (let b : ⊥ = grind (arith, e) in b)
some-frame (Some f) m e = (let same : read_write_at f ≡ m = grind (arith, e) in ap Some (ap (λ (z : Mapping). z.frame) same))

both-true : (a b : Bool) → (a && b) ≡ true → (a ≡ true) × (b ≡ true)
both-true a b e = grind (arith, e)

pub in-range : (n : ℕ) (o : ObjectFact) → has_page n o ≡ true → (o.first ≤ n) × (n < o.first + o.pages)
in-range n o e = grind (arith, nat_tests, e)

no-range : (a b c d : Bool) → a ≡ false → b ≡ false → c ≡ false → d ≡ false → (a || b || c || d) ≡ true → ⊥
no-range a b c d e f g h r = grind (arith, e, f, g, h, r)

-- how often a frame is one of data
abbrev data_count : ℕ → Space → ℕ
data_count f s = among f (map heap_frame_of s.heap.pages) + among f (image_frames s.tables) + among f (shared_frames s.tables)

module _ (words : List ℕ) (k : KernelState) (pid : ℕ) (p : Process) (fits : KernelFits words k) (heap : k.config.heap ≡ Oscar) (here : process_at k pid ≡ Some p) (lives : p.status ≡ None) where
  abbrev after : Space
  after = (finished (closing_of k.under_way pid) (at_rest p.space k.free)).space

  agreed : ObjectsAgree after
  agreed = oscar k.config.heap after heap (fits.memory.spaces pid p here lives).returns.parts.agrees.heap

  pages : after.tables.pages ≡ p.space.tables.pages
  pages = same-pages (closing_of k.under_way pid) (at_rest p.space k.free)

  shadow-count : (n : ℕ) (m : Mapping) → mapping_at p.space.tables.pages n ≡ Some m → is_shadow n ≡ true → 0 < data_count m.frame p.space
  shadow-count n m e c =
      let follow = shadows_follow words k pid p fits heap here lives in
      let live : is_live_page p.space.objects n ≡ true = sym (follow.live n c) ∙ ap is_some e in
      let x = any-at (λ o. is_live o && has_page n o) p.space.objects live in
      let o = x.1 in
      let lives_it = (both-true (is_live o) (has_page n o) x.3).0 in
      let low = (in-range n o (both-true (is_live o) (has_page n o) x.3).1).0 in
      let high = (in-range n o (both-true (is_live o) (has_page n o) x.3).1).1 in
      let at : o.first + (n - o.first) ≡ n = omega (arith, low) in
      let to = follow.mapped x.0 (n - o.first) o (x.2, lives_it) (omega (arith, low, high)) in
      let frame = some-frame (frame_of after.heap.pages (o.canon / 4096 + (n - o.first))) m (sym to ∙ ap (mapping_at p.space.tables.pages) at ∙ e) in
      let found = page_member p.space.heap.pages (o.canon / 4096 + (n - o.first)) m.frame (was-page (closing_of k.under_way pid) (at_rest p.space k.free) _ m.frame frame) in
      omega (arith, found)

  page-count : (n : ℕ) (m : Mapping) → mapping_at p.space.tables.pages n ≡ Some m → 0 < data_count m.frame p.space
  page-count n m e = go (is_image_or_stack n) (is_shared n) (is_shadow n) (is_canonical_page n) refl refl refl refl
      ((fits.memory.spaces pid p here lives).returns.parts.agrees.ranges n (ap (λ ps. is_some (mapping_at ps n)) pages ∙ ap is_some e))
    where
      go : (a b c d : Bool) → is_image_or_stack n ≡ a → is_shared n ≡ b → is_shadow n ≡ c → is_canonical_page n ≡ d → is_in_map n ≡ true → 0 < data_count m.frame p.space
      go true b c d i h x y r = (let l = passed-among is_image_or_stack p.space.tables.pages n m e i in omega (arith, l))
      go false true c d i h x y r = (let l = passed-among is_shared p.space.tables.pages n m e h in omega (arith, l))
      go false false true d i h x y r = shadow-count n m e x
      go false false false true i h x y r = absurd (let none = sym (ap (λ ps. mapping_at ps n) pages) ∙ agreed.canonical n y in let b : ⊥ = grind (arith, none, e) in b)
      go false false false false i h x y r = absurd (no-range (is_image_or_stack n) (is_shared n) (is_shadow n) (is_canonical_page n) i h x y r)

  counted : (frame : ℕ) → IsData p.space frame → 0 < data_count frame p.space
  counted frame (Maps n m e f) = subst (λ z. 0 < data_count z p.space) f (page-count n m e)
  counted frame (Holds page e) = (let l = page_member p.space.heap.pages page frame e in omega (arith, l))

  own-table : (frame : ℕ) → IsData p.space frame → IsNoTable p.space.tables frame
  own-table frame d =
      let l = counted frame d in
      let once = held_once p.space k.free frame (fits.memory.spaces pid p here lives).frames in
      let a = held_is frame p.space in
      (no_piece frame p.space.tables.tables (omega (arith, l, once, a)), no_piece frame p.space.tables.aside (omega (arith, l, once, a)))

  other-table : (frame q : ℕ) (r : Process) → IsData p.space frame → q ≢ pid → process_at k q ≡ Some r → r.status ≡ None → IsNoTable r.space.tables frame
  other-table frame q r d apart there alive =
      let l = counted frame d in
      let both = processes_apart words k q pid r p fits apart there here alive lives frame in
      let a = held_is frame p.space in
      let b = held_is frame r.space in
      let c = among-append frame (frames_held p.space) (shared_frames p.space.tables) in
      (no_piece frame r.space.tables.tables (omega (arith, l, both, a, b, c)), no_piece frame r.space.tables.aside (omega (arith, l, both, a, b, c)))

  nobodys : (frame : ℕ) → IsData p.space frame → IsNobodysTable k frame
  nobodys frame d q r there alive = go (q == pid) refl
    where
      go : (b : Bool) → (q == pid) ≡ b → IsNoTable r.space.tables frame
      go true e =
          let same : q ≡ pid = grind (arith, nat_tests, e) in
          let one : p ≡ r = (let h : process_at k pid ≡ Some r = subst (λ z. process_at k z ≡ Some r) same there in let z : Some p ≡ Some r = sym here ∙ h in grind (arith, z)) in
          subst (λ (z : Process). IsNoTable z.space.tables frame) one (own-table frame d)
      go false e = other-table frame q r d (λ z. let b : ⊥ = grind (arith, nat_tests, e, z) in b) there alive

pub data_is_no_table : DataIsNoTable
data_is_no_table words k pid frame p fits heap here lives d = nobodys words k pid p fits heap here lives frame d
