-- What is given back when a call returns: blocks, and the frames of leaf tables that stand aside.
use Rattle.std.proofs.Common.{ℕ, ◌+◌, ◌*◌, ◌≡◌, ◌<◌, ◌≤◌, ◌&&◌, Bool, true, false, not, Some, List, [], ◌∷◌, length, map, filter, slice_get, slice_set, arith, refl, ap, sym, ◌∙◌, subst, inl, inr}
use Rattle.std.proofs.lemmas.Bool.Decides.{nat_tests}
use Rattle.osc_word.specs.declared.job_list.Job.{Job}
use Rattle.osc_slot.specs.declared.Block.{Block}
use Rattle.osc_slot.specs.declared.HeapPage.{HeapPage}
use Rattle.osc_slot.specs.Slots.{is_held, is_covered}
use Rattle.osc_slot.specs.Heap.{IsHeap, release, without_block, frame_of, free_count}
use Rattle.osc_slot.proofs.Backing.{length-give_back, free_count-give, free_count-le}
use Rattle.osc_slot.proofs.Releasing.{release_keeps}
use Rattle.osc_paging.specs.declared.TableFrame.{TableFrame}
use Rattle.osc_paging.specs.JobWords.{words_after}
use Rattle.osc_paging.specs.KeptTables.{KeptTables}
use Rattle.osc_paging.specs.TableChanges.{frames_given, give_leaves}
use Rattle.osc_paging.specs.Agree.{Agrees, AgreesAfter}
use Rattle.osc_paging.specs.OtherLaws.{IsAnyTable}
use Rattle.osc_paging.proofs.Elsewhere.{some_piece}
use Rattle.osc_paging.proofs.Kept.{length-frames_given}
use Rattle.osc_paging.proofs.TableLawProofs.{giving_keeps}
use Rattle.osc_space.specs.Fork.{table_frame_of, heap_frame_of}
use Rattle.osc_space.specs.Agree.{AreApart, AllTaken}
use Rattle.osc_space.specs.Space.{Space, Draft, GivesBack, change}
use Rattle.osc_space.specs.Finish.{give_blocks, none_waits, finished}
use Rattle.osc_parts.specs.Frames.{among, frames_held, FramesFit, Trades}
use Rattle.osc_parts.specs.Settled.{tables_of}
use Rattle.osc_parts.specs.PlanFits.{with_jobs}
use Rattle.osc_parts.proofs.Counts.{once_apart, all_taken, block_pages_split, give_back_vacant, frames_given_vacant, taken_but}
use Rattle.osc_parts.proofs.Trading.{held_is, held_once, held_taken, fit_after, trades_none, trades_both}
use Rattle.osc_parts.proofs.Settling.{heap_frames}
use Rattle.osc_parts.proofs.Blocks.{table_counts}
use Rattle.osc_parts.proofs.Waiting.{Different, AllHeld, held_without, less_covered, block_swap}

-- ---- one block
abbrev pub with_release : Space → Block → List Bool → Space
with_release s block free = record s { heap = (release s.heap block free).heap }

pub release_trades : (s : Space) (block : Block) (free : List Bool) → FramesFit s free → Trades s free (with_release s block free) (release s.heap block free).free
unfolding release
release_trades s block free k = record {
  count = length-give_back (filter (λ (p : HeapPage). not (is_covered (without_block block s.heap.held) p.page)) s.heap.pages) free;
  each = λ f. (let a = held_is f s in
      let b = held_is f (with_release s block free) in
      let c = split f in
      let v = give_back_vacant f (filter (λ (p : HeapPage). not (is_covered (without_block block s.heap.held) p.page)) s.heap.pages) free
      (once_apart (map heap_frame_of (filter (λ (p : HeapPage). not (is_covered (without_block block s.heap.held) p.page)) s.heap.pages)) once)
      (all_taken free (map heap_frame_of (filter (λ (p : HeapPage). not (is_covered (without_block block s.heap.held) p.page)) s.heap.pages)) taken) in
      omega (arith, a, b, c, v));
  shared = refl;
}
  where
    split : (f : ℕ) → among f (map heap_frame_of (filter (λ (p : HeapPage). is_covered (without_block block s.heap.held) p.page) s.heap.pages))
        + among f (map heap_frame_of (filter (λ (p : HeapPage). not (is_covered (without_block block s.heap.held) p.page)) s.heap.pages)) ≡ among f (map heap_frame_of s.heap.pages)
    split f = block_pages_split (λ (p : HeapPage). is_covered (without_block block s.heap.held) p.page) f s.heap.pages

    once : (f : ℕ) → among f (map heap_frame_of (filter (λ (p : HeapPage). not (is_covered (without_block block s.heap.held) p.page)) s.heap.pages)) ≤ 1
    once f = let a = held_is f s in let b = split f in let c = held_once s free f k in omega (arith, a, b, c)

    taken : (f : ℕ) → 0 < among f (map heap_frame_of (filter (λ (p : HeapPage). not (is_covered (without_block block s.heap.held) p.page)) s.heap.pages)) → slice_get free f ≡ Some false
    taken f l = held_taken s free f k (let a = held_is f s in let b = split f in omega (arith, a, b, l))

-- ---- all of them
pub record Given (blocks : List Block) (d e : Draft) : Type 0 where
  pub is_heap : IsHeap e.space.heap
  pub frames : e.space.heap.frames ≡ d.space.heap.frames
  pub is : e ≡ record d { space = record (d.space) { heap = e.space.heap }; free = e.free }
  pub held : (block : Block) → is_held e.space.heap.held block ≡ (is_held d.space.heap.held block && not (is_held blocks block))
  pub less : (page : ℕ) → is_covered e.space.heap.held page ≡ true → is_covered d.space.heap.held page ≡ true
  pub stays : (page : ℕ) → is_covered e.space.heap.held page ≡ true → frame_of e.space.heap.pages page ≡ frame_of d.space.heap.pages page
  pub trades : Trades d.space d.free e.space e.free

still_held : (held : List Block) (block : Block) (blocks : List Block) → AllHeld held blocks → is_held blocks block ≡ false → AllHeld (without_block block held) blocks
still_held held block [] a e = tt
still_held held block (b ∷ blocks) a e =
    (held_without block b held ∙ (let h = a.0 in let s = block_swap block b in grind (arith, nat_tests, h, e, s)), still_held held block blocks a.1 (grind (arith, nat_tests, e)))

pub give_blocks_given : (blocks : List Block) (d : Draft) → IsHeap d.space.heap → d.space.heap.frames ≡ length d.free → FramesFit d.space d.free → AllHeld d.space.heap.held blocks → Different blocks → Given blocks d (give_blocks blocks d)
unfolding release
give_blocks_given [] d h l k a n = record {
  is_heap = h;
  frames = refl;
  is = refl;
  held = λ block. grind (arith, nat_tests);
  less = λ page e. e;
  stays = λ page e. refl;
  trades = trades_none d.space d.free;
}
give_blocks_given (b ∷ blocks) d h l k a n =
    let r = release d.space.heap b d.free in
    let mid : Draft = record d { space = record (d.space) { heap = r.heap }; free = r.free } in
    let kept = release_keeps d.space.heap b d.free h (heap_frames d.space d.free l k) a.0 in
    let trade = release_trades d.space b d.free k in
    let rest = give_blocks_given blocks mid kept.is_heap (kept.same_frames ∙ l ∙ sym trade.count) (fit_after d.space mid.space d.free mid.free k trade) (still_held d.space.heap.held b blocks a.1 n.0) n.1 in
    let e = give_blocks blocks mid in
    record {
      is_heap = rest.is_heap;
      frames = rest.frames ∙ kept.same_frames;
      is = rest.is;
      held = λ block. rest.held block ∙ (let w = held_without b block d.space.heap.held in grind (arith, nat_tests, w));
      less = λ page c. less_covered b page d.space.heap.held (rest.less page c);
      stays = λ page c. rest.stays page c ∙ kept.stays page (less_covered b page d.space.heap.held (rest.less page c)) (rest.less page c);
      trades = trades_both d.space mid.space e.space d.free mid.free e.free trade rest.trades;
    }

pub give_blocks_jobs : (blocks : List Block) (jobs : List Job) (d : Draft) → give_blocks blocks (with_jobs jobs d) ≡ with_jobs jobs (give_blocks blocks d)
give_blocks_jobs [] jobs d = refl
give_blocks_jobs (b ∷ blocks) jobs d = give_blocks_jobs blocks jobs (record d { space = record (d.space) { heap = (release d.space.heap b d.free).heap }; free = (release d.space.heap b d.free).free })

-- ---- leaf tables aside
pub leaves_trades : (s : Space) (free : List Bool) → FramesFit s free → Trades s free (record s { tables = record (s.tables) { aside = [] } }) (frames_given s.tables.aside free)
leaves_trades s free k = record {
  count = length-frames_given s.tables.aside free;
  each = λ f. (let a = held_is f s in
      let b = held_is f (record s { tables = record (s.tables) { aside = [] } }) in
      let v = frames_given_vacant f s.tables.aside free
      (once_apart (map table_frame_of s.tables.aside) (λ g. (let x = held_is g s in let y = held_once s free g k in omega (arith, x, y))))
      (all_taken free (map table_frame_of s.tables.aside) (λ g l. held_taken s free g k (let x = held_is g s in omega (arith, x, l)))) in
      omega (arith, a, b, v));
  shared = refl;
}

-- ---- the words
pub agrees_free : (t : KeptTables) (free after : List Bool) (words : List ℕ) → Agrees t free words → length after ≡ length free
    → ((f : ℕ) → IsAnyTable t f → slice_get after f ≡ Some false) → Agrees t after words
agrees_free t free after words g l taken = record {
  size = g.size ∙ ap (λ n. n * 512) (sym l);
  small = (let s = g.small in omega (arith, s, l));
  apart = g.apart;
  taken = λ f p e. taken f (inl (some_piece e));
  parents = g.parents;
  leaves = g.leaves;
  agree = g.agree;
  spare = λ f p e. ((g.spare f p e).0, taken f (inr (some_piece e)));
  zeros = g.zeros;
}

pub any_table_held : (s : Space) (f : ℕ) → IsAnyTable s.tables f → 0 < among f (frames_held s)
any_table_held s f (inl h) = let a = held_is f s in let b = table_counts f s.tables.tables h in omega (arith, a, b)
any_table_held s f (inr h) = let a = held_is f s in let b = table_counts f s.tables.aside h in omega (arith, a, b)

pub agrees_fit : (s : Space) (free after : List Bool) (words : List ℕ) → Agrees s.tables free words → length after ≡ length free → FramesFit s after → Agrees s.tables after words
agrees_fit s free after words g l k =
    agrees_free s.tables free after words g l (λ f i. held_taken s after f k (let a = any_table_held s f i in omega (arith, a)))

-- ---- how many frames may be held
pub tables_few : (ts : List TableFrame) (free : List Bool) → AreApart (map table_frame_of ts) → AllTaken free (map table_frame_of ts) → free_count (frames_given ts free) ≡ length ts + free_count free
tables_few [] free a t = omega arith
tables_few (x ∷ ts) free a t =
    let here = free_count-give free x.frame t.0 in
    let later = tables_few ts (slice_set free x.frame true) a.1
    (taken_but free x.frame (map table_frame_of ts) a.0 t.1) in
    omega (arith, here, later)

pub tables_within : (s : Space) (free : List Bool) → FramesFit s free → length s.tables.tables ≤ length free
tables_within s free k =
    let a = tables_few s.tables.tables free
    (once_apart (map table_frame_of s.tables.tables) (λ g. (let x = held_is g s in let y = held_once s free g k in omega (arith, x, y))))
    (all_taken free (map table_frame_of s.tables.tables) (λ g l. held_taken s free g k (let x = held_is g s in omega (arith, x, l)))) in
    let b = free_count-le (frames_given s.tables.tables free) in
    let c = length-frames_given s.tables.tables free in
    omega (arith, a, b, c)

-- ---- the whole
pub record Finishes (blocks : List Block) (d : Draft) : Type 0 where
  pub given : Given blocks d (give_blocks blocks d)
  pub trades : Trades d.space d.free (finished (GivesBack blocks) d).space (finished (GivesBack blocks) d).free
  pub same : (jobs : List Job) → finished (GivesBack blocks) (with_jobs jobs d) ≡ with_jobs jobs (finished (GivesBack blocks) d)
  pub space : (finished (GivesBack blocks) d).space ≡ record (d.space) { waiting = []; tables = record (d.space.tables) { aside = [] }; heap = (give_blocks blocks d).space.heap }
  pub agrees : (entries : ℕ → ℕ → ℕ) (now : List ℕ) (jobs : List Job) → AgreesAfter entries now (tables_of (with_jobs jobs d)) → AgreesAfter entries now (tables_of (with_jobs jobs (finished (GivesBack blocks) d)))

pub finishes : (blocks : List Block) (d : Draft) → IsHeap d.space.heap → d.space.heap.frames ≡ length d.free → FramesFit d.space d.free → AllHeld d.space.heap.held blocks → Different blocks → Finishes blocks d
unfolding finished
finishes blocks d h l k a n = record {
  given = given;
  trades = trades_both d.space (give_blocks blocks d).space (finished (GivesBack blocks) d).space d.free (give_blocks blocks d).free (finished (GivesBack blocks) d).free given.trades
      (let t = leaves_trades (give_blocks blocks d).space (give_blocks blocks d).free fit in record { count = t.count; each = t.each; shared = t.shared });
  same = λ jobs. ap (λ x. change give_leaves (none_waits x)) (give_blocks_jobs blocks jobs d);
  space = ap (λ (x : Draft). (change give_leaves (none_waits x)).space) given.is;
  agrees = λ entries now jobs g.
      giving_keeps entries now (record { tables = (give_blocks blocks d).space.tables; free = (give_blocks blocks d).free; jobs = jobs })
      (agrees_fit (give_blocks blocks d).space d.free (give_blocks blocks d).free _ (subst (λ (t : KeptTables). Agrees t d.free (words_after entries jobs now)) (sym tables_same) g) given.trades.count fit);
}
  where
    given : Given blocks d (give_blocks blocks d)
    given = give_blocks_given blocks d h l k a n

    fit : FramesFit (give_blocks blocks d).space (give_blocks blocks d).free
    fit = fit_after d.space (give_blocks blocks d).space d.free (give_blocks blocks d).free k given.trades

    tables_same : (give_blocks blocks d).space.tables ≡ d.space.tables
    tables_same = ap (λ (x : Draft). x.space.tables) given.is
