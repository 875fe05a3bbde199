-- What a realloc that is done made is the definition's.
use Rattle.std.proofs.Common.{ℕ, ◌+◌, ◌*◌, ◌%◌, ◌≡◌, min, Bool, true, false, cond, List, [], ◌∷◌, ◌++◌, Some, refl, ap, sym, ◌∙◌}
use Rattle.std.specs.List.{range_with_len}
use Rattle.osc_word.specs.declared.job_list.Job.{Job}
use Rattle.osc_word.specs.declared.calls.Answer.{Answer}
use Rattle.osc_word.specs.declared.calls.Answer.TheVariants as answer
use Rattle.osc_class.specs.Rooms.{room_of, shadow_pages}
use Rattle.osc_slot.specs.declared.Block.{Block}
use Rattle.osc_slot.specs.declared.HeapPage.{HeapPage}
use Rattle.osc_slot.specs.Heap.{Heap}
use Rattle.osc_paging.specs.KeptTables.{KeptTables}
use Rattle.osc_paging.specs.TableChanges.{Changed, map_pages}
use Rattle.osc_tables.specs.Calls.{changed}
use Rattle.osc_mark.specs.Grants.{Grants}
use Rattle.osc_space.specs.declared.ObjectFact.{ObjectFact}
use Rattle.osc_space.specs.Objects.{Seen, fact, facts, grant, kill, next_object, next_page}
use Rattle.osc_space.specs.BlockWords.{block_mappings, copy_jobs, header_jobs, trim_jobs, zero_block}
use Rattle.osc_space.specs.Header.{block_of}
use Rattle.osc_space.specs.Space.{Draft, Terms, Outcome, Closing, GivesBack}
use Rattle.osc_space.specs.Malloc.{grant_object, map_shadows, next_user}
use Rattle.osc_space.specs.Free.{kill_object, flush, unmap_all, unmap_object, waiting_blocks}
use Rattle.osc_space.specs.Realloc.{stays, block_for, place_where, left_block, bytes_jobs, keep_bytes, replace_object, realloc_in, realloc_made}
use Rattle.osc_shadow.specs.Flushing.{flushed, leaves_over}
use Rattle.osc_shadow.specs.Parts.{draft_of}
use Rattle.osc_realloc.specs.Blocks.{new_block, placed}
use Rattle.osc_realloc.specs.Replaced.{Replaced}
use Rattle.osc_realloc.specs.Outcomes.{realloced, block_left}
use Rattle.osc_realloc.specs.declared.answer.Realloced.TheVariants.{Moved}
use Rattle.osc_realloc.proofs.Gone.{leaves_same}

-- the draft with changed tables
abbrev draft_with : Grants → Heap → List ℕ → Changed → Draft
draft_with marks heap waiting c = draft_of c.tables marks heap waiting c.free c.jobs

-- ---- one step after another
place_is : (stay : Bool) (n : ℕ) (t : KeptTables) (g : Grants) (h h1 : Heap) (w : List ℕ) (f f1 : List Bool) (j : List Job) → h1 ≡ (placed stay h (room_of n) f).heap → f1 ≡ (placed stay h (room_of n) f).free
    → draft_of t g h1 w f1 j ≡ place_where stay n (draft_of t g h w f j)
place_is true n t g h h1 w f f1 j e k = ap (λ x. draft_of t g x w f1 j) e ∙ ap (λ x. draft_of t g h w x j) k
place_is false n t g h h1 w f f1 j e k = ap (λ x. draft_of t g x w f1 j) e ∙ ap (λ x. draft_of t g (placed false h (room_of n) f).heap w x j) k

pub block_is : (stay : Bool) (o : ObjectFact) (n : ℕ) (t : KeptTables) (g : Grants) (h : Heap) (w : List ℕ) (f : List Bool) (j : List Job) → new_block stay (block_of o) h (room_of n) ≡ block_for stay o n (draft_of t g h w f j)
block_is true o n t g h w f j = refl
block_is false o n t g h w f j = refl

pub bytes_is : (stay : Bool) (pages : List HeapPage) (o : ObjectFact) (from block : Block) (n bytes : ℕ) → from ≡ block_of o → bytes ≡ min o.size n
    → cond stay (trim_jobs pages block bytes n) (zero_block pages block ++ header_jobs pages block n ++ copy_jobs pages from block bytes) ≡ bytes_jobs stay pages o block n
bytes_is true pages o from block n bytes e k = ap (λ b. trim_jobs pages block b n) k
bytes_is false pages o from block n bytes e k = ap (λ x. zero_block pages block ++ header_jobs pages block n ++ copy_jobs pages x block bytes) e ∙ ap (λ b. zero_block pages block ++ header_jobs pages block n ++ copy_jobs pages (block_of o) block b) k

unmaps_is : (terms : Terms) (s : Seen) (block : Block) (n : ℕ) (t t1 : KeptTables) (g g2 : Grants) (h1 : Heap) (w : List ℕ) (f1 : List Bool) (j j1 : List Job) (d : Draft)
    → draft_of t g h1 w f1 j ≡ d
    → g2 ≡ record g { objects = kill s.number terms.call (grant (shadow_pages block.room) n (block.start + 16) g.objects) }
    → changed t1 f1 j1 ≡ unmap_all (range_with_len s.fact.first s.fact.pages) (changed t f1 j)
    → draft_of t1 g2 h1 w f1 j1 ≡ unmap_object s.fact (kill_object s.number terms.call (grant_object block n d))
unmaps_is terms s block n t t1 g g2 h1 w f1 j j1 d p e k =
    ap (λ c. draft_with g2 h1 w c) k
    ∙ ap (λ m. draft_with m h1 w (unmap_all (range_with_len s.fact.first s.fact.pages) (changed t f1 j))) e
    ∙ ap (λ x. unmap_object s.fact (kill_object s.number terms.call (grant_object block n x))) p

flush_is : (harts : ℕ) (t1 t2 : KeptTables) (g2 : Grants) (h1 : Heap) (w : List ℕ) (f1 : List Bool) (j1 j2 : List Job) (gone other : List ObjectFact)
    → changed t2 f1 j2 ≡ flushed harts (leaves_over t1 g2.objects gone) (changed t1 f1 j1)
    → leaves_over t1 g2.objects gone ≡ leaves_over t1 g2.objects other
    → draft_of t2 g2 h1 w f1 j2 ≡ flush harts other (draft_of t1 g2 h1 w f1 j1)
flush_is harts t1 t2 g2 h1 w f1 j1 j2 gone other k e =
    ap (λ c. draft_with g2 h1 w c) k ∙ ap (λ ls. draft_with g2 h1 w (flushed harts ls (changed t1 f1 j1))) e

-- ---- all steps
pub draft_is : (terms : Terms) (s : Seen) (stay : Bool) (n : ℕ) (block : Block) (t0 t2 t3 : KeptTables) (g0 g2 : Grants) (h0 h1 : Heap) (w : List ℕ) (f0 f1 f2 : List Bool) (j0 j2 j3 j4 bytes : List Job) (first : ℕ)
    → fact g0.objects s.number ≡ Some s.fact
    → h1 ≡ (placed stay h0 (room_of n) f0).heap → f1 ≡ (placed stay h0 (room_of n) f0).free
    → g2 ≡ record g0 { objects = kill s.number terms.call (grant (shadow_pages block.room) n (block.start + 16) g0.objects) }
    → Replaced t0 t2 j0 j2 (range_with_len s.fact.first s.fact.pages) terms.harts g2.objects (facts g2.objects (w ++ s.number ∷ []))
    → j3 ≡ j2 ++ bytes → bytes ≡ bytes_jobs stay h1.pages s.fact block n
    → first ≡ next_page g0.objects
    → changed t3 f2 j4 ≡ map_pages first (block_mappings h1.pages block) (changed t2 f1 j3)
    → draft_of t3 g2 h1 w f2 j4 ≡ map_shadows (next_page g0.objects) block (keep_bytes stay s.fact block n (replace_object terms s block n (place_where stay n (draft_of t0 g0 h0 w f0 j0))))
draft_is terms s stay n block t0 t2 t3 g0 g2 h0 h1 w f0 f1 f2 j0 j2 j3 j4 bytes first is eh ef eg r ej eb e1 em =
    let placing = place_is stay n t0 g0 h0 h1 w f0 f1 j0 eh ef in
    let unmapping = unmaps_is terms s block n t0 r.tables g0 g2 h1 w f1 j0 r.jobs (place_where stay n (draft_of t0 g0 h0 w f0 j0)) placing eg (r.unmaps f1) in
    let objects : g2.objects ≡ kill s.number terms.call (grant (shadow_pages block.room) n (block.start + 16) g0.objects) = ap (λ (g : Grants). g.objects) eg in
    let leaves : leaves_over r.tables g2.objects (facts g2.objects (w ++ s.number ∷ [])) ≡ leaves_over r.tables g2.objects (facts g2.objects w ++ s.fact ∷ []) =
    ap (λ os. leaves_over r.tables os (facts os (w ++ s.number ∷ []))) objects
    ∙ leaves_same r.tables g0.objects w s.number terms.call (shadow_pages block.room) n (block.start + 16) s.fact is
    ∙ sym (ap (λ os. leaves_over r.tables os (facts os w ++ s.fact ∷ [])) objects) in
    let flushing = flush_is terms.harts r.tables t2 g2 h1 w f1 r.jobs j2 (facts g2.objects (w ++ s.number ∷ [])) (facts g2.objects w ++ s.fact ∷ []) (r.flushes f1) leaves in
    let gone : facts g2.objects w ++ s.fact ∷ [] ≡ facts (kill s.number terms.call (grant (shadow_pages block.room) n (block.start + 16) g0.objects)) w ++ s.fact ∷ [] = ap (λ os. facts os w ++ s.fact ∷ []) objects in
    mapping
    ∙ ap (λ x. map_shadows (next_page g0.objects) block (keep_bytes stay s.fact block n x)) (flushing ∙ ap (λ x. flush terms.harts x (draft_of r.tables g2 h1 w f1 r.jobs)) gone ∙ ap (λ x. flush terms.harts (facts (kill s.number terms.call (grant (shadow_pages block.room) n (block.start + 16) g0.objects)) w ++ s.fact ∷ []) x) unmapping ∙ replaced)
  where
    mapping : draft_of t3 g2 h1 w f2 j4 ≡ map_shadows (next_page g0.objects) block (keep_bytes stay s.fact block n (draft_of t2 g2 h1 w f1 j2))
    mapping =
        ap (λ c. draft_with g2 h1 w c) em
        ∙ ap (λ k. draft_with g2 h1 w (map_pages k (block_mappings h1.pages block) (changed t2 f1 j3))) e1
        ∙ ap (λ k. draft_with g2 h1 w (map_pages (next_page g0.objects) (block_mappings h1.pages block) (changed t2 f1 k))) (ej ∙ ap (λ b. j2 ++ b) eb)

    replaced : flush terms.harts (facts (kill s.number terms.call (grant (shadow_pages block.room) n (block.start + 16) g0.objects)) w ++ s.fact ∷ []) (unmap_object s.fact (kill_object s.number terms.call (grant_object block n (place_where stay n (draft_of t0 g0 h0 w f0 j0)))))
        ≡ replace_object terms s block n (place_where stay n (draft_of t0 g0 h0 w f0 j0))
    replaced = by_where stay
      where
        by_where : (b : Bool) → flush terms.harts (facts (kill s.number terms.call (grant (shadow_pages block.room) n (block.start + 16) g0.objects)) w ++ s.fact ∷ []) (unmap_object s.fact (kill_object s.number terms.call (grant_object block n (place_where b n (draft_of t0 g0 h0 w f0 j0)))))
            ≡ replace_object terms s block n (place_where b n (draft_of t0 g0 h0 w f0 j0))
        by_where true = refl
        by_where false = refl

-- ---- the whole
abbrev made : Answer → Draft → Closing → Outcome
made a d c = record { answer = a; draft = d; closing = c }

pub moved_is : (terms : Terms) (s : Seen) (stay : Bool) (n : ℕ) (block : Block) (d after : Draft) (object pointer first : ℕ)
    → stay ≡ stays s.fact n → fact d.space.objects s.number ≡ Some s.fact → block ≡ block_for stay s.fact n d
    → object ≡ next_object d.space.objects → first ≡ next_page d.space.objects → pointer ≡ first * 4096 + (block.start + 16) % 4096
    → after ≡ map_shadows (next_page d.space.objects) block (keep_bytes stay s.fact block n (replace_object terms s block n (place_where stay n d)))
    → realloced n d (Moved s.number object pointer) after ≡ realloc_made (stays s.fact n) terms s n d
moved_is terms s stay n block d after object pointer first es is eb eo e1 ep ea =
    ap (λ x. made (answer.Moved s.number x pointer) (after) (GivesBack (waiting_blocks d.space ++ block_left (fact d.space.objects s.number) n))) eo
    ∙ ap (λ x. made (answer.Moved s.number (next_object d.space.objects) x) (after) (GivesBack (waiting_blocks d.space ++ block_left (fact d.space.objects s.number) n))) (ep ∙ ap (λ k. k * 4096 + (block.start + 16) % 4096) e1)
    ∙ ap (λ x. made (answer.Moved s.number (next_object d.space.objects) (next_user d.space.objects block)) (x) (GivesBack (waiting_blocks d.space ++ block_left (fact d.space.objects s.number) n))) ea
    ∙ ap (λ x. made (answer.Moved s.number (next_object d.space.objects) (next_user d.space.objects block)) (map_shadows (next_page d.space.objects) block (keep_bytes stay s.fact block n (replace_object terms s block n (place_where stay n d)))) (GivesBack (waiting_blocks d.space ++ block_left x n))) is
    ∙ ap (λ b. made (answer.Moved s.number (next_object d.space.objects) (next_user d.space.objects block)) (map_shadows (next_page d.space.objects) block (keep_bytes stay s.fact block n (replace_object terms s block n (place_where stay n d)))) (GivesBack (waiting_blocks d.space ++ left_block b s.fact))) (sym es)
    ∙ ap (λ b. realloc_in stay terms s n b d) eb
    ∙ ap (λ b. realloc_made b terms s n d) es
