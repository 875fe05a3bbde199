-- A free of the plain heap: pages that hold no block any more are unmapped, and the block is given back.
use Rattle.std.proofs.Common.{ℕ, zero, suc, ◌+◌, ◌*◌, ◌/◌, ◌≡◌, ◌≤◌, ◌==◌, nat_lt, nat_le, ◌&&◌, ◌||◌, Bool, true, false, not, cond, Option, Some, None, is_some, option_map, List, [], ◌∷◌, ◌++◌, length, map, filter, slice_get, arith, refl, ap, sym, ◌∙◌, subst}
use Rattle.std.specs.List.{range_with_len}
use Rattle.std.proofs.lemmas.Bool.Decides.{nat_tests}
use Rattle.std.proofs.lemmas.List.FromFn.{length-map-range_with_len}
use Rattle.osc_word.specs.declared.calls.Answer.{Answer}
use Rattle.osc_word.specs.declared.calls.Answer.TheVariants as answer
use Rattle.osc_word.specs.declared.job_list.Job.{Job}
use Rattle.osc_word.specs.declared.settings.HeapKind.TheVariants.{Plain}
use Rattle.osc_word.specs.AddressMap.{first_shadow_page, is_canonical_page, is_in_map}
use Rattle.osc_sv39.specs.declared.entries.Mapping.{Mapping}
use Rattle.osc_class.specs.Rooms.{shadow_pages}
use Rattle.osc_slot.specs.declared.Block.{Block}
use Rattle.osc_slot.specs.Areas.{IsPlaced}
use Rattle.osc_slot.specs.Slots.{is_held, is_covered, is_on, is_block}
use Rattle.osc_slot.specs.Heap.{Heap, without_block, release, frame_of, block_of_user}
use Rattle.osc_slot.proofs.Bounds.{pages_within}
use Rattle.osc_slot.proofs.HeldBlocks.{is_block_self, same_block, found}
use Rattle.osc_paging.specs.KeptTables.{mapping_at}
use Rattle.osc_paging.specs.KeptTables.{frame_of as table_over}
use Rattle.osc_paging.specs.TableChanges.{Changed, unmap_page}
use Rattle.osc_paging.specs.Agree.{AgreesAfter}
use Rattle.osc_paging.specs.CopyLaws.{KeepsTaken}
use Rattle.osc_paging.proofs.TableLawProofs.{unmapping_keeps}
use Rattle.osc_paging.proofs.Others.{work_elsewhere_keeps}
use Rattle.osc_space.specs.LeafFlags.{read_write_at}
use Rattle.osc_space.specs.Space.{Space, Draft, GivesBack}
use Rattle.osc_space.specs.Fork.{table_frame_of}
use Rattle.osc_space.specs.Share.{Regions}
use Rattle.osc_space.specs.Free.{unmap_all, clear_jobs}
use Rattle.osc_space.specs.Finish.{finished, give_blocks}
use Rattle.osc_space.specs.PlainHeap.{emptied_pages, unmap_emptied, let_go_plain, plain_free_of, plain_free_plan}
use Rattle.osc_space.specs.Agree.{PlainAgrees}
use Rattle.osc_parts.specs.Frames.{among, FramesFit, Trades}
use Rattle.osc_parts.specs.Settled.{tables_of, PartsFit, Settled}
use Rattle.osc_parts.specs.Jobs.{Pushed, IsOwn, PushesOwn}
use Rattle.osc_parts.specs.PlanFits.{PlanFits}
use Rattle.osc_parts.specs.PlainLaws.{PlainFreesFit}
use Rattle.osc_parts.proofs.Trading.{over, TradesIn, held_is, fit_after, trades_none, trades_both, unmap_page-trades}
use Rattle.osc_parts.proofs.Shapes.{Unmaps, same_shape, then, unmap_page-shape, unmap_page-free, unmap_page-pages}
use Rattle.osc_parts.proofs.JobCounts.{IsOf, pushed_none, pushed_both, pushed_weaker, unmap_page-pushes}
use Rattle.osc_parts.proofs.Settling.{settled_frames, parts_after, same_taken, unchanged_fits}
use Rattle.osc_parts.proofs.Flushing.{clears_where, clears_elsewhere, length-filtered}
use Rattle.osc_parts.proofs.Giving.{Finishes, finishes}
use Rattle.osc_parts.proofs.Waiting.{is_in}
use Rattle.osc_parts.proofs.PlainMalloc.{block_high, same_none}

-- ---- pages of a list are unmapped
list-trades : (s : Space) (pages : List ℕ) (c : Changed) → ((q : ℕ) → is_in pages q ≡ true → first_shadow_page ≤ q) → TradesIn s c (unmap_all pages c)
list-trades s [] c h = trades_none (over s c.tables) c.free
list-trades s (p ∷ pages) c h =
    let d = unmap_page p c in
    let e = unmap_all pages d in
    trades_both (over s c.tables) (over s d.tables) (over s e.tables) c.free d.free e.free
    (unmap_page-trades s p c (h p (grind (arith, nat_tests)))) (list-trades s pages d (λ q i. h q (grind (arith, nat_tests, i))))

list-shape : (pages : List ℕ) (c : Changed) → Unmaps c.tables (unmap_all pages c).tables
list-shape [] c = record { shape = same_shape c.tables; tables = refl; aside = refl }
list-shape (p ∷ pages) c =
    let a = unmap_page-shape p c in
    let b = list-shape pages (unmap_page p c) in
    record { shape = then c.tables (unmap_page p c).tables (unmap_all pages (unmap_page p c)).tables a.shape b.shape; tables = b.tables ∙ a.tables; aside = b.aside ∙ a.aside }

list-free : (pages : List ℕ) (c : Changed) → (unmap_all pages c).free ≡ c.free
list-free [] c = refl
list-free (p ∷ pages) c = list-free pages (unmap_page p c) ∙ unmap_page-free p c

list-pages : (pages : List ℕ) (c : Changed) (q : ℕ) → mapping_at (unmap_all pages c).tables.pages q ≡ cond (is_in pages q) None (mapping_at c.tables.pages q)
list-pages [] c q = refl
list-pages (p ∷ pages) c q = let a = list-pages pages (unmap_page p c) q in let b = unmap_page-pages p c q in grind (arith, nat_tests, a, b)

list-agrees : (entries : ℕ → ℕ → ℕ) (words : List ℕ) (pages : List ℕ) (c : Changed) → AgreesAfter entries words c → AgreesAfter entries words (unmap_all pages c)
list-agrees entries words [] c g = g
list-agrees entries words (p ∷ pages) c g = list-agrees entries words pages (unmap_page p c) (unmapping_keeps entries words c p g)

list-pushes : (pages : List ℕ) (c : Changed) → Pushed (IsOf c.tables.tables) c.jobs (unmap_all pages c).jobs (length pages)
list-pushes [] c = pushed_none (IsOf c.tables.tables) c.jobs 0
list-pushes (p ∷ pages) c =
    let all = pushed_both (IsOf c.tables.tables) c.jobs (unmap_page p c).jobs (unmap_all pages (unmap_page p c)).jobs 1 (length pages) (unmap_page-pushes p c)
    (subst (λ ts. Pushed (IsOf ts) (unmap_page p c).jobs (unmap_all pages (unmap_page p c)).jobs (length pages)) (unmap_page-shape p c).tables (list-pushes pages (unmap_page p c))) in
    record { more = all.more; is = all.is; few = (let f = all.few in omega (arith, f)); within = all.within }

in_range : (test : ℕ → Bool) (count first q : ℕ) → is_in (filter test (range_with_len first count)) q ≡ (test q && (nat_le first q && nat_lt q (first + count)))
in_range test zero first q = grind (arith, nat_tests)
in_range test (suc count) first q = go (test first) refl (first == q) refl (in_range test count (first + 1) q)
  where
    go : (b : Bool) → test first ≡ b → (c : Bool) → (first == q) ≡ c → is_in (filter test (range_with_len (first + 1) count)) q ≡ (test q && (nat_le (first + 1) q && nat_lt q (first + 1 + count)))
        → is_in (cond b (first ∷ filter test (range_with_len (first + 1) count)) (filter test (range_with_len (first + 1) count))) q ≡ (test q && (nat_le first q && nat_lt q (first + suc count)))
    go true e true f later = let same : first ≡ q = grind (arith, nat_tests, f) in let t : test q ≡ true = sym (ap test same) ∙ e in grind (arith, nat_tests, same, t, f)
    go true e false f later = grind (arith, nat_tests, later, f)
    go false e true f later = let same : first ≡ q = grind (arith, nat_tests, f) in let t : test q ≡ false = sym (ap test same) ∙ e in grind (arith, nat_tests, later, t)
    go false e false f later = grind (arith, nat_tests, later, f)

-- ---- blocks
pub found_held : (held : List Block) (user : ℕ) (block : Block) → block_of_user held user ≡ Some block → is_held held block ≡ true
found_held [] user block e = absurd (let z : ⊥ = grind (arith, e) in z)
found_held (b ∷ held) user block e = go (b.start + 16 == user) refl (found_held held user block)
  where
    go : (t : Bool) → (b.start + 16 == user) ≡ t → (block_of_user held user ≡ Some block → is_held held block ≡ true) → (is_block block b || is_held held block) ≡ true
    go true f later = let same : b ≡ block = grind (arith, e, f) in let s : is_block block b ≡ true = subst (λ x. is_block x b ≡ true) same (is_block_self b) in grind (arith, nat_tests, s)
    go false f later = let rest : block_of_user held user ≡ Some block = grind (arith, e, f) in let l = later rest in grind (arith, nat_tests, l)

still_covered : (held : List Block) (block : Block) (q : ℕ) → is_covered held q ≡ true → is_on q block ≡ false → is_covered (without_block block held) q ≡ true
still_covered [] block q e n = e
still_covered (b ∷ held) block q e n = go (is_block block b) refl (is_on q b) refl (still_covered held block q)
  where
    go : (t : Bool) → is_block block b ≡ t → (u : Bool) → is_on q b ≡ u → (is_covered held q ≡ true → is_on q block ≡ false → is_covered (without_block block held) q ≡ true)
        → is_covered (cond (not t) (b ∷ without_block block held) (without_block block held)) q ≡ true
    go true f true g later = absurd (let s = same_block block b f in let z : false ≡ true = sym n ∙ ap (is_on q) s ∙ g in let y : ⊥ = grind (arith, z) in y)
    go true f false g later = later (grind (arith, nat_tests, e, g)) n
    go false f true g later = grind (arith, nat_tests, g)
    go false f false g later = let l = later (grind (arith, nat_tests, e, g)) n in grind (arith, nat_tests, l)

released : (heap : Heap) (block : Block) (free : List Bool) → (release heap block free).heap.held ≡ without_block block heap.held
unfolding release
released heap block free = refl

-- ---- what is left mapped
abbrev jobs_after : ℕ → List ℕ → Draft → List Job
jobs_after harts [] d = d.jobs
jobs_after harts (p ∷ pages) d = (unmap_all (p ∷ pages) (tables_of d)).jobs ++ clear_jobs harts

abbrev pub left_mapped : ℕ → List ℕ → Draft → Draft
left_mapped harts pages d = record {
  space = record (d.space) { tables = (unmap_all pages (tables_of d)).tables };
  free = (unmap_all pages (tables_of d)).free;
  jobs = jobs_after harts pages d;
}

left_is : (harts : ℕ) (pages : List ℕ) (d : Draft) → unmap_emptied pages harts d ≡ left_mapped harts pages d
left_is harts [] d = refl
left_is harts (p ∷ pages) d = refl

left_agrees : (entries : ℕ → ℕ → ℕ) (words : List ℕ) (harts : ℕ) (pages : List ℕ) (d : Draft) → AgreesAfter entries words (tables_of d) → AgreesAfter entries words (tables_of (left_mapped harts pages d))
left_agrees entries words harts [] d g = g
left_agrees entries words harts (p ∷ pages) d g =
    let c = unmap_all (p ∷ pages) (tables_of d) in
    work_elsewhere_keeps entries words c (clear_jobs harts) (list-agrees entries words (p ∷ pages) (tables_of d) g) (clears_elsewhere c.tables 0 harts)

left_pushes : (harts : ℕ) (pages : List ℕ) (d : Draft) → Pushed (IsOf d.space.tables.tables) d.jobs (jobs_after harts pages d) (length pages + harts)
left_pushes harts [] d = pushed_none (IsOf d.space.tables.tables) d.jobs (0 + harts)
left_pushes harts (p ∷ pages) d =
    let c = unmap_all (p ∷ pages) (tables_of d) in
    pushed_both (IsOf d.space.tables.tables) d.jobs c.jobs (c.jobs ++ clear_jobs harts) (length (p ∷ pages)) harts (list-pushes (p ∷ pages) (tables_of d))
    (record { more = clear_jobs harts; is = refl; few = (let n : length (clear_jobs harts) ≡ harts = length-map-range_with_len _ _ _ in omega (arith, n)); within = clears_where (IsOf d.space.tables.tables) 0 harts })

module _ (batch : ℕ) (entries : ℕ → ℕ → ℕ) (words : List ℕ) (regions : Regions) (harts : ℕ) (d : Draft) (block : Block) (settled : Settled Plain batch entries words regions d) (held : is_held d.space.heap.held block ≡ true) where
  abbrev emptied : List ℕ
  emptied = emptied_pages d.space.heap.held block

  abbrev gone : Draft
  gone = left_mapped harts emptied d

  plain : PlainAgrees d.space
  plain = settled.parts.agrees.heap

  pub at_slot : IsPlaced d.space.heap.frames block
  at_slot =
      let f = found d.space.heap.frames (λ b. is_block block b) d.space.heap.held settled.parts.heap.placed held in
      subst (λ (b : Block). IsPlaced d.space.heap.frames b) (sym (same_block block f.block f.passes)) f.placed

  frames_few : d.space.heap.frames ≤ 4096
  frames_few = let a = settled.parts.agrees.frames in let b = settled.tables.small in omega (arith, a, b)

  high : 0x2000000 ≤ block.start / 4096
  high = let p = at_slot in subst (λ s. 0x2000000 ≤ s / 4096) (sym p.start) (block_high d.space.heap.frames block.room p.slot p.room p.within)

  is_emptied : (q : ℕ) → is_in emptied q ≡ (not (is_covered (without_block block d.space.heap.held) q) && is_on q block)
  is_emptied q = in_range (λ page. not (is_covered (without_block block d.space.heap.held) page)) (shadow_pages block.room) (block.start / 4096) q

  all_high : (q : ℕ) → is_in emptied q ≡ true → first_shadow_page ≤ q
  all_high q i = let e = is_emptied q in let h = high in let on : is_on q block ≡ true = grind (arith, nat_tests, e, i) in let l : block.start / 4096 ≤ q = grind (arith, nat_tests, on) in omega (arith, l, h)

  shape : Unmaps d.space.tables gone.space.tables
  shape = list-shape emptied (tables_of d)

  pub free_same : gone.free ≡ d.free
  free_same = list-free emptied (tables_of d)

  pages_left : (q : ℕ) → mapping_at gone.space.tables.pages q ≡ cond (is_in emptied q) None (mapping_at d.space.tables.pages q)
  pages_left q = list-pages emptied (tables_of d) q

  pub trades : Trades d.space d.free gone.space gone.free
  trades = let t = list-trades d.space emptied (tables_of d) all_high in record { count = t.count; each = t.each; shared = t.shared }

  frames : FramesFit gone.space gone.free
  frames = fit_after d.space gone.space d.free gone.free (settled_frames Plain d.space regions d.free settled.parts.agrees) trades

  agrees : AgreesAfter entries words (tables_of gone)
  agrees = left_agrees entries words harts emptied d settled.tables

  ends : Finishes (block ∷ []) gone
  ends = finishes (block ∷ []) gone settled.parts.heap (settled.parts.agrees.frames ∙ sym trades.count) frames (held, tt) (refl, tt)

  pub go_pushes : Pushed (IsOwn gone.space) d.jobs gone.jobs (length d.free + harts)
  go_pushes =
      let p = at_slot in
      let few = length-filtered (λ page. not (is_covered (without_block block d.space.heap.held) page)) (range_with_len (block.start / 4096) (shadow_pages block.room)) in
      let size : length (range_with_len (block.start / 4096) (shadow_pages block.room)) ≡ shadow_pages block.room = length-range (shadow_pages block.room) (block.start / 4096) in
      let pages = pages_within d.space.heap.frames block.room p.slot p.room p.within in
      let f = settled.parts.agrees.frames in
      pushed_weaker (IsOf d.space.tables.tables) (IsOwn gone.space) d.jobs gone.jobs (length emptied + harts) (length d.free + harts)
      (λ g l. (let a = held_is g gone.space in let e = ap (λ ts. among g (map table_frame_of ts)) shape.tables in omega (arith, a, e, l)))
      (omega (arith, few, size, pages, f)) (left_pushes harts emptied d)
    where
      length-range : (count from : ℕ) → length (range_with_len from count) ≡ count
      length-range zero from = refl
      length-range (suc count) from = ap suc (length-range count (from + 1))

  abbrev last : Space
  last = record (gone.space) { waiting = []; tables = record (gone.space.tables) { aside = [] }; heap = (give_blocks (block ∷ []) gone).space.heap }

  held_last : last.heap.held ≡ without_block block d.space.heap.held
  held_last = released d.space.heap block gone.free

  frame_last : (q : ℕ) → is_some (frame_of last.heap.pages q) ≡ is_covered (without_block block d.space.heap.held) q
  frame_last q = ends.given.is_heap.covered q ∙ ap (λ bs. is_covered bs q) held_last

  canonical_now : (q : ℕ) → is_canonical_page q ≡ true → mapping_at gone.space.tables.pages q ≡ option_map read_write_at (frame_of last.heap.pages q)
  canonical_now q c = go (is_covered (without_block block d.space.heap.held) q) refl (is_on q block) refl
    where
      unless_emptied : (b : Bool) → is_in emptied q ≡ b → mapping_at gone.space.tables.pages q ≡ cond b None (option_map read_write_at (frame_of d.space.heap.pages q))
      unless_emptied b e = pages_left q ∙ ap (λ t. cond t None (mapping_at d.space.tables.pages q)) e ∙ ap (λ x. cond b None x) (plain.canonical q c)

      nothing : (x : Option ℕ) → is_some x ≡ false → None ≡ option_map read_write_at x
      nothing None e = refl
      nothing (Some f) e = absurd (let z : ⊥ = grind (arith, e) in z)

      before : (b : Bool) → is_covered d.space.heap.held q ≡ b → is_on q block ≡ false → is_covered (without_block block d.space.heap.held) q ≡ false → b ≡ false
      before false e n g = refl
      before true e n g = absurd (let z : true ≡ false = sym (still_covered d.space.heap.held block q e n) ∙ g in let y : ⊥ = grind (arith, z) in y)

      go : (t : Bool) → is_covered (without_block block d.space.heap.held) q ≡ t → (u : Bool) → is_on q block ≡ u → mapping_at gone.space.tables.pages q ≡ option_map read_write_at (frame_of last.heap.pages q)
      go true e u f = unless_emptied false (is_emptied q ∙ ap (λ b. not b && is_on q block) e) ∙ sym (ap (option_map read_write_at) (ends.given.stays q (ap (λ bs. is_covered bs q) held_last ∙ e)))
      go false e true f = unless_emptied true (is_emptied q ∙ ap (λ b. not b && is_on q block) e ∙ f) ∙ nothing (frame_of last.heap.pages q) (frame_last q ∙ e)
      go false e false f =
          unless_emptied false (is_emptied q ∙ ap (λ b. not b && is_on q block) e ∙ f)
          ∙ ap (option_map read_write_at) (same_none (frame_of d.space.heap.pages q) (frame_of last.heap.pages q)
          (settled.parts.heap.covered q ∙ before (is_covered d.space.heap.held q) refl f e) (frame_last q ∙ e))

  unmapped_none : (b : Bool) → (x : Option Mapping) → x ≡ None → cond b None x ≡ None
  unmapped_none true x e = refl
  unmapped_none false x e = e

  ranges : (q : ℕ) → is_some (mapping_at gone.space.tables.pages q) ≡ true → is_in_map q ≡ true
  ranges q m = go (is_in emptied q) refl
    where
      go : (b : Bool) → is_in emptied q ≡ b → is_in_map q ≡ true
      go true e = absurd (let z : false ≡ true = sym (ap is_some (pages_left q ∙ ap (λ t. cond t None (mapping_at d.space.tables.pages q)) e)) ∙ m in let y : ⊥ = grind (arith, z) in y)
      go false e = settled.parts.agrees.ranges q (sym (ap is_some (pages_left q ∙ ap (λ t. cond t None (mapping_at d.space.tables.pages q)) e)) ∙ m)

  last_parts : PartsFit Plain batch regions last (finished (GivesBack (block ∷ [])) gone).free
  last_parts =
      parts_after Plain batch regions d.space last d.free (finished (GivesBack (block ∷ [])) gone).free settled.parts
      (subst (λ (x : Space). Trades d.space d.free x (finished (GivesBack (block ∷ [])) gone).free) ends.space
      (trades_both d.space gone.space (finished (GivesBack (block ∷ [])) gone).space d.free gone.free (finished (GivesBack (block ∷ [])) gone).free trades ends.trades))
      (record {
        frames = ends.given.frames;
        shadows = refl;
        count = shape.shape.count;
        room = shape.shape.room;
        top = shape.shape.top;
        root = ap (λ ts. is_some (table_over ts gone.space.tables.top 0)) shape.tables ∙ ap (λ l. is_some (table_over d.space.tables.tables l 0)) shape.shape.top ∙ settled.parts.agrees.root;
        aside = refl;
        heap = ends.given.is_heap;
        objects = record {
          objects = plain.objects;
          waiting = refl;
          shadows = λ q c. pages_left q ∙ unmapped_none (is_in emptied q) (mapping_at d.space.tables.pages q) (plain.shadows q c);
          canonical = canonical_now;
        };
        ranges = ranges;
        waits = (let b = settled.parts.waits in omega (arith, b));
      })

  -- it stands for a longer plan, too, that began with another draft
  pub go_fits : (before : Draft) (a : Answer) → KeepsTaken before.free d.free → Trades before.space before.free d.space d.free → PushesOwn before gone
      → PlanFits Plain batch entries words regions before (record { answer = a; draft = gone; closing = GivesBack (block ∷ []) })
  go_fits before a k t j = record {
    takes = record { size = ap length free_same ∙ k.size; taken = λ f e. ap (λ free. slice_get free f) free_same ∙ k.taken f e };
    trades = trades_both before.space d.space gone.space before.free d.free gone.free t trades;
    frames = frames;
    tables = agrees;
    pushes = j;
    held = λ b e. only b e;
    same = ends.same;
    gives = ends.trades;
    parts = subst (λ (x : Space). PartsFit Plain batch regions x (finished (GivesBack (block ∷ [])) gone).free) (sym ends.space) last_parts;
    agrees = λ now js g. ends.agrees entries now js g;
  }
    where
      only : (b : Block) → (is_block b block || false) ≡ true → is_held d.space.heap.held b ≡ true
      only b e = let s : is_block b block ≡ true = grind (arith, nat_tests, e) in ap (λ x. is_held d.space.heap.held x) (same_block b block s) ∙ held

  pub gone_is : let_go_plain harts block d ≡ gone
  gone_is = left_is harts emptied d

pub plain_frees_fit : PlainFreesFit
unfolding plain_free_plan
plain_frees_fit batch entries words regions harts pointer d k h = go (block_of_user d.space.heap.held pointer) refl
  where
    go : (x : Option Block) → block_of_user d.space.heap.held pointer ≡ x → PlanFits Plain batch entries words regions d (plain_free_of x harts d)
    go None e = unchanged_fits Plain batch entries words regions d answer.NotAnObject k
    go (Some block) e =
        let held = found_held d.space.heap.held pointer block e in
        let j = go_pushes batch entries words regions harts d block k held in
        subst (λ (x : Draft). PlanFits Plain batch entries words regions d (record { answer = answer.Nothing; draft = x; closing = GivesBack (block ∷ []) }))
        (sym (gone_is batch entries words regions harts d block k held))
        (go_fits batch entries words regions harts d block k held d answer.Nothing (same_taken d.free) (trades_none d.space d.free)
        (pushed_weaker (IsOwn (left_mapped harts (emptied_pages d.space.heap.held block) d).space) (IsOwn (left_mapped harts (emptied_pages d.space.heap.held block) d).space) d.jobs (left_mapped harts (emptied_pages d.space.heap.held block) d).jobs (length d.free + harts) (8 * length d.free + 64) (λ f l. l) (omega (arith, h)) j))
