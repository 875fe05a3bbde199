-- A free that is not refused: what it makes of a process's parts, before and after the return.
use Rattle.std.proofs.Common.{ℕ, ◌+◌, ◌-◌, ◌/◌, ◌≡◌, ◌≢◌, ◌<◌, ◌≤◌, ◌==◌, ◌||◌, Bool, true, false, cond, Option, Some, None, is_some, option_map, List, [], ◌∷◌, length, arith, refl, ap, sym, ◌∙◌, subst, ◌⊎◌, inl, inr}
use Rattle.std.proofs.lemmas.Bool.Decides.{nat_tests}
use Rattle.std.proofs.lemmas.List.{length-append}
use Rattle.osc_word.specs.declared.settings.HeapKind.TheVariants.{Oscar}
use Rattle.osc_word.specs.AddressMap.{first_shadow_page, is_shadow}
use Rattle.osc_class.specs.Rooms.{room_of, shadow_pages}
use Rattle.osc_slot.specs.declared.Block.{Block}
use Rattle.osc_slot.specs.Slots.{is_held}
use Rattle.osc_slot.specs.Heap.{frame_of}
use Rattle.osc_paging.specs.KeptTables.{mapping_at}
use Rattle.osc_paging.specs.KeptTables.{frame_of as table_over}
use Rattle.osc_paging.specs.Agree.{AgreesAfter}
use Rattle.osc_paging.proofs.TableLawProofs.{tables_stand_above}
use Rattle.osc_space.specs.declared.ObjectFact.{ObjectFact}
use Rattle.osc_space.specs.LeafFlags.{read_write_at}
use Rattle.osc_space.specs.Objects.{Seen, is_live, has_page, is_live_page, killed, fact}
use Rattle.osc_space.specs.Header.{block_of}
use Rattle.osc_space.specs.Space.{Draft, Terms}
use Rattle.osc_space.specs.Share.{Regions}
use Rattle.osc_space.specs.Free.{let_wait}
use Rattle.osc_space.specs.Agree.{is_waiting, IsLive, IsKept, IsBlockOf, ObjectsAgree}
use Rattle.osc_space.proofs.ObjectLawProofs.{pages_are_granted_once, mark-kill, grants_keep}
use Rattle.osc_parts.specs.Frames.{Trades}
use Rattle.osc_parts.specs.Settled.{tables_of, Settled}
use Rattle.osc_parts.proofs.Lists.{get_within}
use Rattle.osc_parts.proofs.Killing.{kill_length, killed_at, killed_other, killed_here, kill_other, one_owner, kill_own, in_append, apart_more}
use Rattle.osc_parts.proofs.Trading.{unmap_all-trades}
use Rattle.osc_parts.proofs.Shapes.{unmap_all-shape, unmap_all-free, unmap_all-pages, unmap_all-agrees}
use Rattle.osc_parts.proofs.Waiting.{is_in, object_covered}

pub record Frees (batch : ℕ) (entries : ℕ → ℕ → ℕ) (words : List ℕ) (regions : Regions) (terms : Terms) (d : Draft) (s : Seen) : Type 0 where
  pub settled : Settled Oscar batch entries words regions d
  pub batch_is : terms.batch ≡ batch
  pub harts : terms.harts ≤ 8
  pub is_fact : fact d.space.objects s.number ≡ Some s.fact
  pub live : is_live s.fact ≡ true

-- what an object was before
pub record Was (d : Draft) (b : ℕ) (x : ObjectFact) : Type 0 where
  pub of : ObjectFact
  pub kept : IsKept d.space b of
  pub block : block_of x ≡ block_of of
  pub canon : x.canon ≡ of.canon
  pub size : x.size ≡ of.size
  pub pages : x.pages ≡ of.pages

module _ (batch : ℕ) (entries : ℕ → ℕ → ℕ) (words : List ℕ) (regions : Regions) (terms : Terms) (d : Draft) (s : Seen) (m : Frees batch entries words regions terms d s) where
  abbrev pub waits : Draft
  waits = let_wait terms s d

  abbrev o : ObjectFact
  o = s.fact

  objects : ObjectsAgree d.space
  objects = m.settled.parts.agrees.heap

  live_here : IsLive d.space s.number o
  live_here = (m.is_fact, m.live)

  kept_here : IsKept d.space s.number o
  kept_here = (m.is_fact, (let l = m.live in grind (arith, nat_tests, l)))

  first_high : first_shadow_page ≤ o.first
  first_high = ((pages_are_granted_once d.space.objects objects.granted).within s.number o m.is_fact).0

  -- ---- frames and words
  pub waits_trades : Trades d.space d.free waits.space waits.free
  waits_trades = let t = unmap_all-trades d.space o.pages o.first (tables_of d) first_high in record { count = t.count; each = t.each; shared = t.shared }

  pub waits_free : waits.free ≡ d.free
  waits_free = unmap_all-free o.pages o.first (tables_of d)

  pub waits_agrees : AgreesAfter entries words (tables_of waits)
  waits_agrees = unmap_all-agrees entries words o.pages o.first (tables_of d) m.settled.tables

  pub waits_tables : waits.space.tables.tables ≡ d.space.tables.tables
  waits_tables = (unmap_all-shape o.pages o.first (tables_of d)).tables

  pages_left : (q : ℕ) → mapping_at waits.space.tables.pages q ≡ cond (has_page q o) None (mapping_at d.space.tables.pages q)
  pages_left q = unmap_all-pages o.pages o.first (tables_of d) q

  -- ---- objects
  is_not_waiting : is_in d.space.waiting s.number ≡ false
  is_not_waiting = go (is_in d.space.waiting s.number) refl
    where
      go : (b : Bool) → is_in d.space.waiting s.number ≡ b → b ≡ false
      go false e = refl
      go true e = absurd (let dead = objects.waiting.dead s.number o e m.is_fact in let l = m.live in let z : ⊥ = grind (arith, dead, l) in z)

  waiting_now : (b : ℕ) → is_in waits.space.waiting b ≡ (is_in d.space.waiting b || (s.number == b || false))
  waiting_now b = in_append d.space.waiting (s.number ∷ []) b

  was : (b : ℕ) (x : ObjectFact) → IsKept waits.space b x → Was d b x
  was b x k = go (killed_at d.space.objects s.number terms.call b o x m.is_fact k.0)
    where
      go : ((b ≢ s.number) × (fact d.space.objects b ≡ Some x)) ⊎ ((b ≡ s.number) × (x ≡ killed terms.call o)) → Was d b x
      go (inl e) = let n = e.0 in let w = waiting_now b in let t = k.1 in let q : (s.number == b) ≡ false = grind (arith, nat_tests, n) in
          record { of = x; kept = (e.1, grind (arith, nat_tests, w, t, q)); block = refl; canon = refl; size = refl; pages = refl }
      go (inr e) = record {
        of = o;
        kept = subst (λ y. IsKept d.space y o) (sym e.0) kept_here;
        block = ap block_of e.1;
        canon = ap (λ (y : ObjectFact). y.canon) e.1;
        size = ap (λ (y : ObjectFact). y.size) e.1;
        pages = ap (λ (y : ObjectFact). y.pages) e.1;
      }

  -- a live object is another one
  live_was : (b : ℕ) (x : ObjectFact) → IsLive waits.space b x → (b ≢ s.number) × IsLive d.space b x
  live_was b x l = go (killed_at d.space.objects s.number terms.call b o x m.is_fact l.0)
    where
      go : ((b ≢ s.number) × (fact d.space.objects b ≡ Some x)) ⊎ ((b ≡ s.number) × (x ≡ killed terms.call o)) → (b ≢ s.number) × IsLive d.space b x
      go (inl e) = (e.0, (e.1, l.1))
      go (inr e) = absurd (let z : false ≡ true = sym (ap is_live e.1) ∙ l.1 in let y : ⊥ = grind (arith, z) in y)

  backed_now : (block : Block) → is_held d.space.heap.held block ≡ true → IsBlockOf waits.space block
  backed_now block h = let w = objects.backed block h in go w (w.object == s.number) refl
    where
      go : (w : IsBlockOf d.space block) → (b : Bool) → (w.object == s.number) ≡ b → IsBlockOf waits.space block
      go w true e =
          let same : w.object ≡ s.number = grind (arith, nat_tests, e) in
          let one : o ≡ w.of = (let f = m.is_fact in let g : fact d.space.objects s.number ≡ Some w.of = subst (λ y. fact d.space.objects y ≡ Some w.of) same w.kept.0 in cc) in
          record { object = s.number; of = killed terms.call o; kept = (killed_here d.space.objects s.number terms.call o m.is_fact, waiting_now s.number ∙ (grind (arith, nat_tests))); is = ap block_of one ∙ w.is }
      go w false e =
          let n : w.object ≢ s.number = grind (arith, nat_tests, e) in
          let t = w.kept.1 in let q = waiting_now w.object in
          record { object = w.object; of = w.of; kept = (killed_other d.space.objects s.number terms.call w.object w.of n w.kept.0, grind (arith, nat_tests, t, q)); is = w.is }

  mapped_now : (b k : ℕ) (x : ObjectFact) → IsLive waits.space b x → k < x.pages
      → mapping_at waits.space.tables.pages (x.first + k) ≡ option_map read_write_at (frame_of d.space.heap.pages (x.canon / 4096 + k))
  mapped_now b k x l less =
      let u = live_was b x l in
      let other = one_owner d.space.objects b s.number (x.first + k) x o objects.granted u.1.0 m.is_fact (λ e. u.0 (sym e)) (let z : has_page (x.first + k) x ≡ true = grind (arith, nat_tests, less) in z) in
      pages_left (x.first + k) ∙ ap (λ t. cond t None (mapping_at d.space.tables.pages (x.first + k))) other ∙ objects.mapped b k x u.1 less

  shadows_now : (q : ℕ) → is_shadow q ≡ true → is_some (mapping_at waits.space.tables.pages q) ≡ is_live_page waits.space.objects q
  shadows_now q c = go (has_page q o) refl
    where
      go : (h : Bool) → has_page q o ≡ h → is_some (mapping_at waits.space.tables.pages q) ≡ is_live_page waits.space.objects q
      go true h = ap is_some (pages_left q ∙ ap (λ b. cond b None (mapping_at d.space.tables.pages q)) h) ∙ sym (kill_own d.space.objects s.number terms.call q o objects.granted m.is_fact h)
      go false h = ap is_some (pages_left q ∙ ap (λ b. cond b None (mapping_at d.space.tables.pages q)) h) ∙ objects.shadows q c ∙ sym (kill_other d.space.objects s.number terms.call q o m.is_fact h)

  -- ---- what waits
  -- a page of the object was mapped, so its leaf table is linked
  page_linked : (q : ℕ) → has_page q o ≡ true → is_some (table_over d.space.tables.tables 0 (q / 512)) ≡ true
  page_linked q h =
      let low : o.first ≤ q = grind (arith, nat_tests, h) in
      let high : q < o.first + o.pages = grind (arith, nat_tests, h) in
      let k : o.first + (q - o.first) ≡ q = omega (arith, low) in
      let e = subst (λ y. mapping_at d.space.tables.pages y ≡ option_map read_write_at (frame_of d.space.heap.pages (o.canon / 4096 + (q - o.first)))) k (objects.mapped s.number (q - o.first) o live_here (omega (arith, low, high))) in
      let c = object_covered d.space.heap.frames d.space.heap.held o (q - o.first) m.settled.parts.heap.placed (objects.held s.number o kept_here) (objects.pages s.number o kept_here) (omega (arith, low, high)) in
      let f = m.settled.parts.heap.covered (o.canon / 4096 + (q - o.first)) ∙ c in
      some ((tables_stand_above d.space.tables d.free _ m.settled.tables).pages q (there (frame_of d.space.heap.pages (o.canon / 4096 + (q - o.first))) f e))
    where
      there : (x : Option ℕ) → is_some x ≡ true → mapping_at d.space.tables.pages q ≡ option_map read_write_at x → mapping_at d.space.tables.pages q ≢ None
      there None f e n = let z : ⊥ = grind (arith, f) in z
      there (Some g) f e n = let z : ⊥ = grind (arith, e, n) in z

      some : {X : Type 0} {x : Option X} → x ≢ None → is_some x ≡ true
      some {x = None} n = absurd (n refl)
      some {x = Some y} n = refl

  linked_now : (b q : ℕ) (x : ObjectFact) → is_waiting waits.space b ≡ true → fact waits.space.objects b ≡ Some x → has_page q x ≡ true
      → is_some (table_over waits.space.tables.tables 0 (q / 512)) ≡ true
  linked_now b q x w f h = ap (λ ts. is_some (table_over ts 0 (q / 512))) waits_tables ∙ go (killed_at d.space.objects s.number terms.call b o x m.is_fact f)
    where
      go : ((b ≢ s.number) × (fact d.space.objects b ≡ Some x)) ⊎ ((b ≡ s.number) × (x ≡ killed terms.call o)) → is_some (table_over d.space.tables.tables 0 (q / 512)) ≡ true
      go (inl e) = objects.waiting.linked b q x (let n = e.0 in let t = waiting_now b in grind (arith, nat_tests, n, t, w)) e.1 h
      go (inr e) = page_linked q (sym (ap (has_page q) e.1) ∙ h)

  dead_now : (b : ℕ) (x : ObjectFact) → is_waiting waits.space b ≡ true → fact waits.space.objects b ≡ Some x → is_live x ≡ false
  dead_now b x w f = go (killed_at d.space.objects s.number terms.call b o x m.is_fact f)
    where
      go : ((b ≢ s.number) × (fact d.space.objects b ≡ Some x)) ⊎ ((b ≡ s.number) × (x ≡ killed terms.call o)) → is_live x ≡ false
      go (inl e) = objects.waiting.dead b x (let n = e.0 in let t = waiting_now b in grind (arith, nat_tests, n, t, w)) e.1
      go (inr e) = ap is_live e.1

  known_now : (b : ℕ) → is_waiting waits.space b ≡ true → b < length waits.space.objects
  known_now b w = subst (λ n. b < n) (sym (kill_length d.space.objects s.number terms.call)) (go (is_in d.space.waiting b) refl)
    where
      go : (t : Bool) → is_in d.space.waiting b ≡ t → b < length d.space.objects
      go true e = objects.waiting.known b e
      go false e = let q = waiting_now b in let same : b ≡ s.number = grind (arith, nat_tests, q, e, w) in subst (λ n. n < length d.space.objects) (sym same) (get_within d.space.objects s.number o m.is_fact)

  pub waits_objects : ObjectsAgree waits.space
  waits_objects = record {
    granted = grants_keep.killed s.number terms.call d.space.objects objects.granted;
    limit = (let e = mark-kill s.number terms.call d.space.objects in let a = objects.limit in omega (arith, e, a));
    canonical = λ q c. pages_left q ∙ (let a = objects.canonical q c in grind (arith, nat_tests, a));
    shadows = shadows_now;
    held = λ b x k. (let w = was b x k in ap (λ c. is_held d.space.heap.held c) w.block ∙ objects.held b w.of w.kept);
    own = λ a b x y k l e. (let u = was a x k in let v = was b y l in objects.own a b u.of v.of u.kept v.kept (sym u.canon ∙ e ∙ v.canon));
    backed = backed_now;
    pages = λ b x k. (let w = was b x k in w.pages ∙ objects.pages b w.of w.kept ∙ ap (λ n. shadow_pages (room_of n)) (sym w.size));
    mapped = mapped_now;
    small = λ b x l. objects.small b x (live_was b x l).1;
    waiting = record {
      few = (let e = length-append d.space.waiting (s.number ∷ []) in let a = m.settled.parts.waits in let b = m.settled.parts.few in omega (arith, e, a, b));
      apart = apart_more d.space.waiting s.number objects.waiting.apart is_not_waiting;
      known = known_now;
      dead = dead_now;
      linked = linked_now;
    };
  }
