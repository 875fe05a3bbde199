-- What a change that only trades frames keeps of a process's parts.
use Rattle.std.proofs.Common.{ℕ, zero, suc, ◌+◌, ◌*◌, ◌≡◌, ◌<◌, ◌==◌, nat_lt, Bool, true, false, cond, Some, is_some, List, [], ◌∷◌, length, map, filter, slice_get, arith, refl, ap, sym, ◌∙◌}
use Rattle.std.proofs.lemmas.Bool.Decides.{nat_tests}
use Rattle.osc_word.specs.declared.settings.HeapKind.{HeapKind}
use Rattle.osc_word.specs.declared.calls.Answer.{Answer}
use Rattle.osc_word.specs.AddressMap.{is_shared, is_in_map}
use Rattle.osc_slot.specs.declared.HeapPage.{HeapPage}
use Rattle.osc_slot.specs.Heap.{IsHeap, FramesAgree, AreTaken}
use Rattle.osc_paging.specs.declared.Mapped.{Mapped}
use Rattle.osc_paging.specs.KeptTables.{KeptTables, mapping_at, root_of}
use Rattle.osc_paging.specs.Agree.{AgreesAfter}
use Rattle.osc_paging.specs.CopyLaws.{KeepsTaken}
use Rattle.osc_space.specs.Space.{Space, Draft, Keeps, unchanged}
use Rattle.osc_space.specs.Finish.{finished}
use Rattle.osc_space.specs.Fork.{heap_frame_of}
use Rattle.osc_space.specs.Share.{Regions, holders, shared_pages}
use Rattle.osc_space.specs.Agree.{HeapAgrees, RegionsAgree, SpaceAgrees}
use Rattle.osc_parts.specs.Frames.{among, vacant, one_where, frames_held, FramesFit, Trades}
use Rattle.osc_parts.specs.Settled.{tables_of, PartsFit, Settled}
use Rattle.osc_parts.specs.Jobs.{IsOwn, PushesOwn}
use Rattle.osc_parts.specs.PlanFits.{PlanFits}
use Rattle.osc_parts.proofs.JobCounts.{pushed_none}
use Rattle.osc_parts.proofs.Trading.{held_is, held_taken, fit_after, fits_quiet, quiet_apart, quiet_taken, vacant_there, trades_none}

-- ---- regions
pub mapping_among : (test : ℕ → Bool) (n : ℕ) (ms : List Mapped) → test n ≡ true → mapping_at (filter (λ (x : Mapped). test x.number) ms) n ≡ mapping_at ms n
mapping_among test n [] e = refl
mapping_among test n (x ∷ ms) e = go (test x.number) refl (mapping_among test n ms e)
  where
    go : (b : Bool) → test x.number ≡ b → mapping_at (filter (λ (y : Mapped). test y.number) ms) n ≡ mapping_at ms n → mapping_at (cond b (x ∷ filter (λ (y : Mapped). test y.number) ms) (filter (λ (y : Mapped). test y.number) ms)) n ≡ mapping_at (x ∷ ms) n
    go true d later = ap (λ o. cond (x.number == n) (Some x.mapping) o) later
    go false d later = pick (x.number == n) refl
      where
        pick : (c : Bool) → (x.number == n) ≡ c → mapping_at (filter (λ (y : Mapped). test y.number) ms) n ≡ cond c (Some x.mapping) (mapping_at ms n)
        pick false f = later
        pick true f = absurd (let same : x.number ≡ n = grind (arith, nat_tests, f) in let z : true ≡ false = sym e ∙ sym (ap test same) ∙ d in let w : ⊥ = grind (arith, z) in w)

pub shared_mapping : (t u : KeptTables) (page : ℕ) → shared_pages u ≡ shared_pages t → is_shared page ≡ true → mapping_at u.pages page ≡ mapping_at t.pages page
shared_mapping t u page e s = sym (mapping_among is_shared page u.pages s) ∙ ap (λ ms. mapping_at ms page) e ∙ mapping_among is_shared page t.pages s

free_vacant : (free : List Bool) (f : ℕ) → slice_get free f ≡ Some true → vacant free f ≡ 1
free_vacant free f e = ap one_where e

-- a frame that is free or held alone has no holder
pub record Unheld (s : Space) (regions : Regions) (free : List Bool) : Type 0 where
  pub free_ones : (f : ℕ) → slice_get free f ≡ Some true → holders regions f ≡ 0
  pub own_ones : (f : ℕ) → 0 < among f (frames_held s) → holders regions f ≡ 0

pub unheld_after : (s t : Space) (regions : Regions) (free after : List Bool) → Unheld s regions free → Trades s free t after → Unheld t regions after
unheld_after s t regions free after u d = record {
  free_ones = λ f e. by f (let a = d.each f in let b = free_vacant after f e in omega (arith, a, b)) (among f (frames_held s)) refl;
  own_ones = λ f l. by f (let a = d.each f in omega (arith, a, l)) (among f (frames_held s)) refl;
}
  where
    by : (f : ℕ) → 0 < among f (frames_held s) + vacant free f → (x : ℕ) → among f (frames_held s) ≡ x → holders regions f ≡ 0
    by f l zero e = u.free_ones f (vacant_there free f (omega (arith, l, e)))
    by f l (suc x) e = u.own_ones f (omega (arith, e))

pub regions_after : (t u : KeptTables) (regions : Regions) (free after : List Bool) → RegionsAgree t regions free → shared_pages u ≡ shared_pages t → length after ≡ length free
    → ((f : ℕ) → slice_get after f ≡ Some true → holders regions f ≡ 0) → RegionsAgree u regions after
regions_after t u regions free after r e l h = record {
  count = r.count ∙ sym l;
  first = λ page s. ap is_some (shared_mapping t u page e s) ∙ r.first page s ∙ ap (λ ms. nat_lt page (0x200000 + length ms)) (sym e);
  held = λ page m s f. r.held page m s (sym (shared_mapping t u page e s) ∙ f);
  unheld = h;
}

-- ---- the heap's frames
pub heap_taken : (free : List Bool) (pages : List HeapPage) → ((f : ℕ) → 0 < among f (map heap_frame_of pages) → slice_get free f ≡ Some false) → AreTaken free pages
unfolding AreTaken
heap_taken free [] h = tt
heap_taken free (p ∷ pages) h = (h p.frame (grind (arith, nat_tests)), heap_taken free pages (λ f l. h f (omega (arith, l))))

pub heap_frames : (s : Space) (free : List Bool) → s.heap.frames ≡ length free → FramesFit s free → FramesAgree s.heap free
heap_frames s free e k = record {
  count = sym e;
  taken = heap_taken free s.heap.pages (λ f l. held_taken s free f k (let a = held_is f s in omega (arith, a, l)));
}

pub settled_frames : (kind : HeapKind) (s : Space) (regions : Regions) (free : List Bool) → SpaceAgrees kind s regions free → FramesFit s free
settled_frames kind s regions free g = fits_quiet s free g.aside g.apart g.taken

-- ---- the whole
-- what a change keeps or makes anew, beside the frames
pub record Rest (kind : HeapKind) (batch : ℕ) (s t : Space) : Type 0 where
  pub frames : t.heap.frames ≡ s.heap.frames
  pub shadows : t.shadows ≡ s.shadows
  pub count : t.tables.count ≡ s.tables.count
  pub room : t.tables.room ≡ s.tables.room
  pub top : t.tables.top ≡ s.tables.top
  pub root : is_some (root_of t.tables) ≡ true
  pub aside : t.tables.aside ≡ []
  pub heap : IsHeap t.heap
  pub objects : HeapAgrees kind t
  pub ranges : (page : ℕ) → is_some (mapping_at t.tables.pages page) ≡ true → is_in_map page ≡ true
  pub waits : length t.waiting < batch

pub parts_after : (kind : HeapKind) (batch : ℕ) (regions : Regions) (s t : Space) (free after : List Bool)
    → PartsFit kind batch regions s free → Trades s free t after → Rest kind batch s t → PartsFit kind batch regions t after
parts_after kind batch regions s t free after p d r =
    let was = p.agrees in
    let fit = fit_after s t free after (settled_frames kind s regions free was) d in
    let unheld = unheld_after s t regions free after (record { free_ones = was.shared.unheld; own_ones = p.private }) d in
    record {
      agrees = record {
        frames = r.frames ∙ was.frames ∙ sym d.count;
        count = r.count ∙ was.count ∙ sym d.count;
        room = r.room ∙ was.room ∙ (let a = d.count in let b = r.shadows in omega (arith, a, b));
        root = r.root;
        aside = r.aside;
        heap = r.objects;
        shared = regions_after s.tables t.tables regions free after was.shared d.shared d.count unheld.free_ones;
        ranges = r.ranges;
        apart = quiet_apart t after r.aside fit;
        taken = quiet_taken t after r.aside fit;
      };
      heap = r.heap;
      levels = (let a = p.levels in let b = r.top in omega (arith, a, b));
      shadows = (let a = p.shadows in let b = r.shadows in omega (arith, a, b));
      few = p.few;
      waits = r.waits;
      private = unheld.own_ones;
    }

-- a plan after which nothing is given back
pub keeps_fits : (kind : HeapKind) (batch : ℕ) (entries : ℕ → ℕ → ℕ) (words : List ℕ) (regions : Regions) (d : Draft) (answer : Answer) (e : Draft)
    → KeepsTaken d.free e.free → Trades d.space d.free e.space e.free → PartsFit kind batch regions d.space d.free → PartsFit kind batch regions e.space e.free
    → AgreesAfter entries words (tables_of e) → PushesOwn d e
    → PlanFits kind batch entries words regions d (record { answer = answer; draft = e; closing = Keeps })
unfolding finished
keeps_fits kind batch entries words regions d answer e k t p q g j = record {
  takes = k;
  trades = t;
  frames = settled_frames kind e.space regions e.free q.agrees;
  tables = g;
  pushes = j;
  held = λ block h. absurd (let z : ⊥ = grind (arith, h) in z);
  same = λ jobs. refl;
  gives = trades_none e.space e.free;
  parts = q;
  agrees = λ now jobs a. a;
}

pub same_taken : (free : List Bool) → KeepsTaken free free
same_taken free = record { size = refl; taken = λ f e. e }

-- a plan that is refused
pub unchanged_fits : (kind : HeapKind) (batch : ℕ) (entries : ℕ → ℕ → ℕ) (words : List ℕ) (regions : Regions) (d : Draft) (answer : Answer)
    → Settled kind batch entries words regions d → PlanFits kind batch entries words regions d (unchanged answer d)
unchanged_fits kind batch entries words regions d answer s =
    keeps_fits kind batch entries words regions d answer d (same_taken d.free) (trades_none d.space d.free) s.parts s.parts s.tables (pushed_none (IsOwn d.space) d.jobs (8 * length d.free + 64))
