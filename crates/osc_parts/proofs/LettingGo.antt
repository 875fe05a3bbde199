-- Once the blocks of all objects that wait are given back, the live objects and their blocks agree.
use Rattle.std.proofs.Common.{ℕ, ◌+◌, ◌/◌, ◌≡◌, ◌<◌, ◌≤◌, ◌&&◌, Bool, true, false, not, Some, None, is_some, option_map, [], arith, refl, ap, sym, ◌∙◌, subst}
use Rattle.std.proofs.lemmas.Bool.Decides.{nat_tests}
use Rattle.osc_word.specs.AddressMap.{is_shadow, is_canonical_page}
use Rattle.osc_class.specs.Rooms.{room_of, shadow_pages}
use Rattle.osc_slot.specs.declared.Block.{Block}
use Rattle.osc_slot.specs.Slots.{is_held, is_covered}
use Rattle.osc_slot.specs.Heap.{Heap, ArePlaced, frame_of}
use Rattle.osc_paging.specs.KeptTables.{KeptTables, mapping_at}
use Rattle.osc_space.specs.declared.ObjectFact.{ObjectFact}
use Rattle.osc_space.specs.LeafFlags.{read_write_at}
use Rattle.osc_space.specs.Objects.{mark, is_live, is_live_page, fact, AreGranted}
use Rattle.osc_space.specs.Header.{block_of}
use Rattle.osc_space.specs.Space.{Space}
use Rattle.osc_space.specs.Free.{waiting_blocks}
use Rattle.osc_space.specs.Agree.{is_waiting, AreApart, IsLive, IsKept, IsBlockOf, ObjectsAgree}
use Rattle.osc_parts.proofs.Waiting.{is_in, Different, AllHeld, waiter, waiting_held, waiting_all_held, waiting_differ, lies, object_covered}

-- what is needed of the objects when those that wait are let go: all but that their leaf tables are
-- linked, which may be given up by then
pub record ObjectsStand (s : Space) : Type 0 where
  pub granted : AreGranted s.objects
  pub limit : mark s.objects ≤ s.shadows
  pub canonical : (page : ℕ) → is_canonical_page page ≡ true → mapping_at s.tables.pages page ≡ None
  pub shadows : (page : ℕ) → is_shadow page ≡ true → is_some (mapping_at s.tables.pages page) ≡ is_live_page s.objects page
  pub held : (object : ℕ) (o : ObjectFact) → IsKept s object o → is_held s.heap.held (block_of o) ≡ true
  pub own : (a b : ℕ) (o p : ObjectFact) → IsKept s a o → IsKept s b p → o.canon ≡ p.canon → a ≡ b
  pub backed : (block : Block) → is_held s.heap.held block ≡ true → IsBlockOf s block
  pub pages : (object : ℕ) (o : ObjectFact) → IsKept s object o → o.pages ≡ shadow_pages (room_of o.size)
  pub mapped : (object k : ℕ) (o : ObjectFact) → IsLive s object o → k < o.pages
      → mapping_at s.tables.pages (o.first + k) ≡ option_map read_write_at (frame_of s.heap.pages (o.canon / 4096 + k))
  pub small : (object : ℕ) (o : ObjectFact) → IsLive s object o → o.pages ≤ s.heap.frames
  pub apart : AreApart s.waiting
  pub dead : (object : ℕ) (o : ObjectFact) → is_waiting s object ≡ true → fact s.objects object ≡ Some o → is_live o ≡ false

pub stand : (s : Space) → ObjectsAgree s → ObjectsStand s
stand s g = record {
  granted = g.granted;
  limit = g.limit;
  canonical = g.canonical;
  shadows = g.shadows;
  held = g.held;
  own = g.own;
  backed = g.backed;
  pages = g.pages;
  mapped = g.mapped;
  small = g.small;
  apart = g.waiting.apart;
  dead = g.waiting.dead;
}

-- no two objects that are kept have one block
pub same_object : (w : Space) (a b : ℕ) (o p : ObjectFact) → ObjectsStand w → ArePlaced w.heap.frames w.heap.held → IsKept w a o → IsKept w b p → block_of o ≡ block_of p → a ≡ b
same_object w a b o p g h k l e =
    let x = (lies w.heap.frames w.heap.held o h (g.held a o k)).canon in
    let y = (lies w.heap.frames w.heap.held p h (g.held b p l)).canon in
    let s : (block_of o).start ≡ (block_of p).start = ap (λ (c : Block). c.start) e in
    g.own a b o p k l (x ∙ ap (λ n. n + 16) s ∙ sym y)

kept_waiting : (w : Space) (a : ℕ) (o : ObjectFact) → is_in w.waiting a ≡ true → fact w.objects a ≡ Some o → IsKept w a o
kept_waiting w a o i f = (f, (let z : is_in w.waiting a ≡ true = i in grind (arith, nat_tests, z)))

pub waiting_are_held : (w : Space) → ObjectsStand w → AllHeld w.heap.held (waiting_blocks w)
waiting_are_held w g = waiting_all_held w.heap.held w.objects w.waiting (λ a o i f. g.held a o (kept_waiting w a o i f))

pub waiting_are_different : (w : Space) → ObjectsStand w → ArePlaced w.heap.frames w.heap.held → Different (waiting_blocks w)
waiting_are_different w g h = waiting_differ w.objects w.waiting g.apart (λ a b o p i j e f s. same_object w a b o p g h (kept_waiting w a o i e) (kept_waiting w b p j f) s)

pub is_held_waiting : (w : Space) (block : Block) → ObjectsStand w → is_held (waiting_blocks w) block ≡ true → is_held w.heap.held block ≡ true
is_held_waiting w block g e =
    let x = waiter w.objects w.waiting block e in
    ap (λ b. is_held w.heap.held b) (sym x.is) ∙ g.held x.object x.of (kept_waiting w x.object x.of x.waits x.is_fact)

pub record LetsGo (w : Space) (t : KeptTables) (h : Heap) : Type 0 where
  pub agrees : ObjectsStand w
  pub placed : ArePlaced w.heap.frames w.heap.held
  pub placed_now : ArePlaced h.frames h.held
  pub pages : (q : ℕ) → mapping_at t.pages q ≡ mapping_at w.tables.pages q
  pub frames : h.frames ≡ w.heap.frames
  pub held : (block : Block) → is_held h.held block ≡ (is_held w.heap.held block && not (is_held (waiting_blocks w) block))
  pub stays : (page : ℕ) → is_covered h.held page ≡ true → frame_of h.pages page ≡ frame_of w.heap.pages page

module _ (w : Space) (t : KeptTables) (h : Heap) (k : LetsGo w t h) where
  abbrev left : Space
  left = record w { tables = t; waiting = []; heap = h }

  live_kept : (a : ℕ) (o : ObjectFact) → IsKept left a o → IsLive w a o
  live_kept a o l = (l.0, (let e = l.1 in grind (arith, nat_tests, e)))

  was_kept : (a : ℕ) (o : ObjectFact) → IsLive w a o → IsKept w a o
  was_kept a o l = (l.0, (let e = l.1 in grind (arith, nat_tests, e)))

  -- the block of a live object is none of those
  spared : (a : ℕ) (o : ObjectFact) → IsLive w a o → (b : Bool) → is_held (waiting_blocks w) (block_of o) ≡ b → b ≡ false
  spared a o l false e = refl
  spared a o l true e =
      let x = waiter w.objects w.waiting (block_of o) e in
      let same = same_object w a x.object o x.of k.agrees k.placed (was_kept a o l) (kept_waiting w x.object x.of x.waits x.is_fact) (sym x.is) in
      let one : fact w.objects x.object ≡ Some o = subst (λ y. fact w.objects y ≡ Some o) same l.0 in
      absurd (let dead = k.agrees.dead x.object o x.waits one in let live = l.1 in let z : ⊥ = grind (arith, dead, live) in z)

  held_left : (a : ℕ) (o : ObjectFact) → IsLive w a o → is_held h.held (block_of o) ≡ true
  held_left a o l =
      let was = k.agrees.held a o (was_kept a o l) in
      let none = spared a o l (is_held (waiting_blocks w) (block_of o)) refl in
      k.held (block_of o) ∙ (grind (arith, nat_tests, was, none))

  backed_left : (block : Block) → is_held h.held block ≡ true → IsBlockOf left block
  backed_left block e =
      let both = k.held block in
      let was : is_held w.heap.held block ≡ true = grind (arith, nat_tests, both, e) in
      let none : is_held (waiting_blocks w) block ≡ false = grind (arith, nat_tests, both, e) in
      let x = k.agrees.backed block was in
      go x none (is_live x.of) refl
    where
      go : (x : IsBlockOf w block) → is_held (waiting_blocks w) block ≡ false → (b : Bool) → is_live x.of ≡ b → IsBlockOf left block
      go x none true l = record { object = x.object; of = x.of; kept = (x.kept.0, (grind (arith, nat_tests, l))); is = x.is }
      go x none false l =
          absurd (let q = x.kept.1 in let i : is_in w.waiting x.object ≡ true = grind (arith, nat_tests, q, l) in
          let there = waiting_held w.objects w.waiting x.object x.of i x.kept.0 in
          let z : true ≡ false = sym there ∙ ap (λ b. is_held (waiting_blocks w) b) x.is ∙ none in let y : ⊥ = grind (arith, z) in y)

  pub left_agrees : ObjectsAgree left
  left_agrees = record {
    granted = k.agrees.granted;
    limit = k.agrees.limit;
    canonical = λ q c. k.pages q ∙ k.agrees.canonical q c;
    shadows = λ q c. ap is_some (k.pages q) ∙ k.agrees.shadows q c;
    held = λ a o l. held_left a o (live_kept a o l);
    own = λ a b o p l m e. k.agrees.own a b o p (was_kept a o (live_kept a o l)) (was_kept b p (live_kept b p m)) e;
    backed = backed_left;
    pages = λ a o l. k.agrees.pages a o (was_kept a o (live_kept a o l));
    mapped = λ a i o l less.
        k.pages (o.first + i) ∙ k.agrees.mapped a i o l less
        ∙ ap (option_map read_write_at) (sym (k.stays (o.canon / 4096 + i)
        (object_covered h.frames h.held o i k.placed_now (held_left a o l) (k.agrees.pages a o (was_kept a o l)) less)));
    small = λ a o l. subst (λ n. o.pages ≤ n) (sym k.frames) (k.agrees.small a o l);
    waiting = record {
      few = omega arith;
      apart = tt;
      known = λ a i. absurd (let z : ⊥ = grind (arith, i) in z);
      dead = λ a o i f. absurd (let z : ⊥ = grind (arith, i) in z);
      linked = λ a q o i f p. absurd (let z : ⊥ = grind (arith, i) in z);
    };
  }
