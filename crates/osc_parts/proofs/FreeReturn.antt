-- Each free fits: where its object waits, where a batch is let go, and where it is refused.
use Rattle.std.proofs.Common.{ℕ, zero, suc, ◌+◌, ◌*◌, ◌≡◌, ◌≢◌, ◌≤◌, Bool, true, false, cond, Option, Some, None, is_some, List, [], ◌∷◌, ◌++◌, length, map, slice_get, arith, refl, ap, sym, ◌∙◌, subst}
use Rattle.std.proofs.lemmas.Bool.Decides.{nat_tests}
use Rattle.std.proofs.lemmas.List.{length-append}
use Rattle.osc_word.specs.declared.calls.Answer.{Answer}
use Rattle.osc_word.specs.declared.calls.Answer.TheVariants.{Freed, NotAnObject}
use Rattle.osc_word.specs.declared.settings.HeapKind.TheVariants.{Oscar}
use Rattle.osc_word.specs.AddressMap.{is_in_map}
use Rattle.osc_slot.specs.declared.Block.{Block}
use Rattle.osc_slot.specs.Heap.{Heap}
use Rattle.osc_paging.specs.KeptTables.{KeptTables, mapping_at}
use Rattle.osc_paging.specs.KeptTables.{frame_of as table_over}
use Rattle.osc_paging.specs.CopyLaws.{KeepsTaken}
use Rattle.osc_space.specs.declared.ObjectState.{ObjectState}
use Rattle.osc_space.specs.declared.ObjectState.TheVariants.{Live, Dead}
use Rattle.osc_space.specs.Objects.{Seen, is_live, is_live_state, object_at, has_page}
use Rattle.osc_space.specs.Header.{Found, object_reasons, death_reasons, damage_reason}
use Rattle.osc_space.specs.Space.{Space, Draft, Terms, Keeps, GivesBack, first_reason, unless}
use Rattle.osc_space.specs.Fork.{table_frame_of}
use Rattle.osc_space.specs.Share.{Regions}
use Rattle.osc_space.specs.Free.{let_wait, flush, flush_where, closing_where, is_full, waiting_facts, waiting_blocks, freed, free_seen, free_plan}
use Rattle.osc_space.specs.Finish.{finished, give_blocks}
use Rattle.osc_space.specs.Agree.{ObjectsAgree}
use Rattle.osc_space.proofs.ObjectLawProofs.{looks_find_objects}
use Rattle.osc_parts.specs.Frames.{among, vacant, FramesFit, Trades}
use Rattle.osc_parts.specs.Settled.{tables_of, PartsFit}
use Rattle.osc_parts.specs.Jobs.{Pushed, IsOwn, PushesOwn}
use Rattle.osc_parts.specs.PlanFits.{PlanFits}
use Rattle.osc_parts.specs.FreeLaws.{FreesFit}
use Rattle.osc_parts.proofs.Trading.{held_is, fit_after, trades_both}
use Rattle.osc_parts.proofs.Shapes.{Unmaps, unmap_all-shape, unmap_all-pages}
use Rattle.osc_parts.proofs.Settling.{settled_frames, parts_after, keeps_fits, unchanged_fits}
use Rattle.osc_parts.proofs.JobCounts.{IsOf, pushed_both, pushed_weaker, unmap_all-pushes}
use Rattle.osc_parts.proofs.Giving.{Finishes, finishes}
use Rattle.osc_parts.proofs.Flushing.{Flushed, flushes}
use Rattle.osc_parts.proofs.LettingGo.{stand, waiting_are_held, waiting_are_different, is_held_waiting, left_agrees}
use Rattle.osc_parts.proofs.FreeParts.{Frees, waits_trades, waits_free, waits_agrees, waits_objects}

-- an object that is taken lives
pub taken_lives : (s : Seen) (found : Found) → first_reason (object_reasons (Some s) found) ≡ None → is_live s.fact ≡ true
taken_lives s found e = go s.fact.state refl
  where
    go : (x : ObjectState) → s.fact.state ≡ x → is_live_state s.fact.state ≡ true
    go Live f = ap is_live_state f
    go (Dead call) f = absurd (let z = sym (ap (λ y. first_reason (death_reasons s.number y ++ (damage_reason s.fact.canon found.first ∷ damage_reason s.fact.size found.second ∷ []))) f) ∙ e in let y : ⊥ = grind (arith, z) in y)

module _ (batch : ℕ) (entries : ℕ → ℕ → ℕ) (words : List ℕ) (regions : Regions) (terms : Terms) (d : Draft) (s : Seen) (m : Frees batch entries words regions terms d s) where
  abbrev waits : Draft
  waits = let_wait terms s d

  objects : ObjectsAgree waits.space
  objects = waits_objects batch entries words regions terms d s m

  trades : Trades d.space d.free waits.space waits.free
  trades = waits_trades batch entries words regions terms d s m

  free_same : waits.free ≡ d.free
  free_same = waits_free batch entries words regions terms d s m

  shape : Unmaps d.space.tables waits.space.tables
  shape = unmap_all-shape s.fact.pages s.fact.first (tables_of d)

  takes : KeepsTaken d.free waits.free
  takes = record { size = ap length free_same; taken = λ f e. ap (λ free. slice_get free f) free_same ∙ e }

  ranges : (q : ℕ) → is_some (mapping_at waits.space.tables.pages q) ≡ true → is_in_map q ≡ true
  ranges q e = go (has_page q s.fact) refl
    where
      left : mapping_at waits.space.tables.pages q ≡ cond (has_page q s.fact) None (mapping_at d.space.tables.pages q)
      left = unmap_all-pages s.fact.pages s.fact.first (tables_of d) q

      go : (b : Bool) → has_page q s.fact ≡ b → is_in_map q ≡ true
      go true h = absurd (let z : false ≡ true = sym (ap is_some (left ∙ ap (λ b. cond b None (mapping_at d.space.tables.pages q)) h)) ∙ e in let y : ⊥ = grind (arith, z) in y)
      go false h = m.settled.parts.agrees.ranges q (sym (ap is_some (left ∙ ap (λ b. cond b None (mapping_at d.space.tables.pages q)) h)) ∙ e)

  unmaps : Pushed (IsOwn waits.space) d.jobs waits.jobs s.fact.pages
  unmaps =
      pushed_weaker (IsOf d.space.tables.tables) (IsOwn waits.space) d.jobs waits.jobs s.fact.pages s.fact.pages
      (λ f l. (let a = held_is f waits.space in let e = ap (λ ts. among f (map table_frame_of ts)) shape.tables in omega (arith, a, e, l))) (omega arith)
      (unmap_all-pushes s.fact.pages s.fact.first (tables_of d))

  pages_few : s.fact.pages ≤ length d.free
  pages_few =
      let a = m.settled.parts.agrees.heap.small s.number s.fact (m.is_fact, m.live) in
      let b = m.settled.parts.agrees.frames in
      omega (arith, a, b)

  -- ---- the object waits
  pub waits_fit : is_full terms waits.space ≡ false → (answer : Answer) → PlanFits Oscar batch entries words regions d (record { answer = answer; draft = waits; closing = Keeps })
  waits_fit e answer =
      keeps_fits Oscar batch entries words regions d answer waits takes trades m.settled.parts
      (parts_after Oscar batch regions d.space waits.space d.free waits.free m.settled.parts trades (record {
        frames = refl;
        shadows = refl;
        count = shape.shape.count;
        room = shape.shape.room;
        top = shape.shape.top;
        root = ap (λ ts. is_some (table_over ts waits.space.tables.top 0)) shape.tables ∙ ap (λ l. is_some (table_over d.space.tables.tables l 0)) shape.shape.top ∙ m.settled.parts.agrees.root;
        aside = shape.aside ∙ m.settled.parts.agrees.aside;
        heap = m.settled.parts.heap;
        objects = objects;
        ranges = ranges;
        waits = (let a = length-append d.space.waiting (s.number ∷ []) in let b = m.settled.parts.waits in let c = m.batch_is in let n : length waits.space.waiting ≢ terms.batch = grind (arith, nat_tests, e) in omega (arith, a, b, c, n));
      }))
      (waits_agrees batch entries words regions terms d s m)
      (pushed_weaker (IsOwn waits.space) (IsOwn waits.space) d.jobs waits.jobs s.fact.pages (8 * length d.free + 64) (λ f l. l) (let a = pages_few in omega (arith, a)) unmaps)

  -- ---- a batch is let go
  abbrev flushed : Draft
  flushed = flush terms.harts (waiting_facts waits.space) waits

  abbrev blocks : List Block
  blocks = waiting_blocks waits.space

  abbrev returned : Draft
  returned = finished (GivesBack blocks) flushed

  frames : FramesFit waits.space waits.free
  frames = fit_after d.space waits.space d.free waits.free (settled_frames Oscar d.space regions d.free m.settled.parts.agrees) trades

  none : {X : Type 0} (x : Option X) → is_some x ≡ false → x ≡ None
  none None e = refl
  none (Some y) e = absurd (let z : ⊥ = grind (arith, e) in z)

  does : Flushed entries words terms.harts waits flushed
  does = flushes entries words terms.harts (waiting_facts waits.space) waits (record {
    granted = objects.granted;
    limit = (let a = objects.limit in let b = m.settled.parts.shadows in omega (arith, a, b));
    dead = λ q c e. none (mapping_at waits.space.tables.pages q) (objects.shadows q c ∙ e);
    top = (let a = m.settled.parts.levels in let b = shape.shape.top in omega (arith, a, b));
    frames = frames;
    tables = waits_agrees batch entries words regions terms d s m;
  })

  flushed_frames : FramesFit flushed.space flushed.free
  flushed_frames = fit_after waits.space flushed.space waits.free flushed.free frames does.trades

  ends : Finishes blocks flushed
  ends = finishes blocks flushed m.settled.parts.heap (m.settled.parts.agrees.frames ∙ sym (ap length (does.free ∙ free_same))) flushed_frames
      (waiting_are_held waits.space (stand waits.space objects)) (waiting_are_different waits.space (stand waits.space objects) m.settled.parts.heap.placed)

  all_trades : Trades d.space d.free returned.space returned.free
  all_trades =
      trades_both d.space flushed.space returned.space d.free flushed.free returned.free
      (trades_both d.space waits.space flushed.space d.free waits.free flushed.free trades does.trades) ends.trades

  abbrev last_tables : KeptTables
  last_tables = record (flushed.space.tables) { aside = [] }

  abbrev last_heap : Heap
  last_heap = (give_blocks blocks flushed).space.heap

  abbrev last : Space
  last = record (waits.space) { tables = last_tables; waiting = []; heap = last_heap }

  last_objects : ObjectsAgree last
  last_objects = left_agrees waits.space last_tables last_heap (record {
    agrees = stand waits.space objects;
    placed = m.settled.parts.heap.placed;
    placed_now = ends.given.is_heap.placed;
    pages = λ q. ap (λ ps. mapping_at ps q) does.pages;
    frames = ends.given.frames;
    held = ends.given.held;
    stays = ends.given.stays;
  })

  root_stays : (l : ℕ) → 2 ≤ l → waits.space.tables.top ≡ l → is_some (table_over flushed.space.tables.tables l 0) ≡ true
  root_stays zero h e = absurd (omega arith)
  root_stays (suc l) h e =
      ap is_some (does.above l 0) ∙ ap (λ ts. is_some (table_over ts (suc l) 0)) shape.tables ∙ ap (λ k. is_some (table_over d.space.tables.tables k 0)) (sym e ∙ shape.shape.top) ∙ m.settled.parts.agrees.root

  last_parts : PartsFit Oscar batch regions last returned.free
  last_parts =
      parts_after Oscar batch regions d.space last d.free returned.free m.settled.parts
      (subst (λ (x : Space). Trades d.space d.free x returned.free) ends.space all_trades)
      (record {
        frames = ends.given.frames;
        shadows = refl;
        count = does.shape.count ∙ shape.shape.count;
        room = does.shape.room ∙ shape.shape.room;
        top = does.shape.top ∙ shape.shape.top;
        root = ap (λ l. is_some (table_over flushed.space.tables.tables l 0)) does.shape.top ∙ root_stays waits.space.tables.top (let a = m.settled.parts.levels in let b = shape.shape.top in omega (arith, a, b)) refl;
        aside = refl;
        heap = ends.given.is_heap;
        objects = last_objects;
        ranges = λ q e. ranges q (sym (ap (λ ps. is_some (mapping_at ps q)) does.pages) ∙ e);
        waits = (let b = m.settled.parts.waits in omega (arith, b));
      })

  pushes : PushesOwn d flushed
  pushes =
      let both = pushed_both (IsOwn waits.space) d.jobs waits.jobs flushed.jobs s.fact.pages (length waits.free + terms.harts) unmaps does.pushes in
      pushed_weaker (IsOwn waits.space) (IsOwn flushed.space) d.jobs flushed.jobs (s.fact.pages + (length waits.free + terms.harts)) (8 * length d.free + 64)
      (λ f l. (let t = does.trades.each f in let v = ap (λ free. vacant free f) does.free in omega (arith, t, v, l)))
      (let a = pages_few in let b = ap length free_same in let c = m.harts in omega (arith, a, b, c)) both

  pub flush_fits : (answer : Answer) → PlanFits Oscar batch entries words regions d (record { answer = answer; draft = flushed; closing = GivesBack blocks })
  flush_fits answer = record {
    takes = record { size = ap length (does.free ∙ free_same); taken = λ f e. ap (λ free. slice_get free f) (does.free ∙ free_same) ∙ e };
    trades = trades_both d.space waits.space flushed.space d.free waits.free flushed.free trades does.trades;
    frames = flushed_frames;
    tables = does.tables;
    pushes = pushes;
    held = λ block e. is_held_waiting waits.space block (stand waits.space objects) e;
    same = ends.same;
    gives = ends.trades;
    parts = subst (λ (x : Space). PartsFit Oscar batch regions x returned.free) (sym ends.space) last_parts;
    agrees = λ now jobs g. ends.agrees entries now jobs g;
  }

  pub freed_fits : PlanFits Oscar batch entries words regions d (freed s.number terms waits)
  freed_fits = go (is_full terms waits.space) refl
    where
      go : (b : Bool) → is_full terms waits.space ≡ b
          → PlanFits Oscar batch entries words regions d (record { answer = Freed s.number; draft = flush_where b terms.harts waits; closing = closing_where b waits.space })
      go true e = flush_fits (Freed s.number)
      go false e = waits_fit e (Freed s.number)

pub frees_fit : FreesFit
unfolding free_plan
frees_fit batch entries words regions terms pointer found d k t = seen (object_at d.space.objects pointer) refl
  where
    seen : (x : Option Seen) → object_at d.space.objects pointer ≡ x → PlanFits Oscar batch entries words regions d (free_seen x terms found d)
    seen None e = unchanged_fits Oscar batch entries words regions d NotAnObject k
    seen (Some s) e = go (first_reason (object_reasons (Some s) found)) refl
      where
        go : (r : Option Answer) → first_reason (object_reasons (Some s) found) ≡ r → PlanFits Oscar batch entries words regions d (unless r d (freed s.number terms (let_wait terms s d)))
        go (Some a) f = unchanged_fits Oscar batch entries words regions d a k
        go None f = freed_fits batch entries words regions terms d s (record {
          settled = k;
          batch_is = t.is;
          harts = t.harts;
          is_fact = ((looks_find_objects d.space.objects k.parts.agrees.heap.granted).at pointer s e).0;
          live = taken_lives s found f;
        })
