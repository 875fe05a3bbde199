-- Each page that is laid leaves parts that fit.
use Rattle.std.proofs.Common.{ℕ, zero, suc, ◌+◌, ◌*◌, ◌/◌, ◌^◌, ◌≡◌, ◌<◌, ◌≤◌, ◌==◌, nat_lt, nat_le, ◌&&◌, not, Bool, true, false, cond, Option, Some, None, is_some, option_map, List, [], ◌∷◌, length, map, filter, find, position, replicate, slice_get, slice_set, arith, refl, ap, sym, ◌∙◌, subst}
use Rattle.std.proofs.lemmas.Bool.Decides.{nat_tests}
use Rattle.std.proofs.lemmas.Option.{slice_get_within}
use Rattle.std.proofs.lemmas.List.{length-replicate}
use Rattle.osc_word.specs.declared.settings.Config.{Config}
use Rattle.osc_word.specs.declared.settings.HeapKind.{HeapKind}
use Rattle.osc_word.specs.declared.settings.HeapKind.TheVariants.{Oscar, Plain}
use Rattle.osc_word.specs.Limits.{Limit, limits, is_kept, first_fault}
use Rattle.osc_word.specs.AddressMap.{is_image_or_stack, is_shared, is_in_map}
use Rattle.osc_sv39.specs.declared.entries.Mapping.{Mapping}
use Rattle.osc_slot.specs.Heap.{free_count, empty_heap}
use Rattle.osc_slot.proofs.Backing.{length-set, least_free, get-set}
use Rattle.osc_paging.specs.declared.Mapped.{Mapped}
use Rattle.osc_paging.specs.KeptTables.{KeptTables, closed, mapping_at, frame_of, root_of, need}
use Rattle.osc_paging.specs.TableChanges.{Changed, link_all, leaf_put, map_page, with_page, opened}
use Rattle.osc_paging.specs.Agree.{AgreesAfter}
use Rattle.osc_paging.specs.CopyLaws.{KeepsTaken}
use Rattle.osc_paging.specs.TableLaws.{MapsPage}
use Rattle.osc_paging.proofs.Needed.{link_all-pages}
use Rattle.osc_paging.proofs.Elsewhere.{taking_keeps}
use Rattle.osc_paging.proofs.TableLawProofs.{mapping_keeps, mapping_takes_need, opening_agrees}
use Rattle.osc_space.specs.LeafFlags.{leaf_of_page}
use Rattle.osc_space.specs.Fork.{frame_of_page}
use Rattle.osc_space.specs.Share.{holders, no_regions, shared_pages}
use Rattle.osc_space.specs.Agree.{HeapAgrees}
use Rattle.osc_parts.specs.Frames.{one_at, among, vacant, one_where, frames_held, Trades}
use Rattle.osc_parts.specs.Settled.{PartsFit}
use Rattle.osc_parts.proofs.Counts.{page_more, vacant_take}
use Rattle.osc_parts.proofs.Trading.{held_is, link_all-trades}
use Rattle.osc_parts.proofs.Shapes.{Adds, map_pages-adds}
use Rattle.osc_parts.proofs.Settling.{Rest, parts_after}
use Rattle.osc_parts.proofs.MallocParts.{high_enough, some_root}
use Rattle.osc_parts.proofs.OpenParts.{opening_fits}
use Rattle.osc_calls.specs.Open.{OpenPage, laid, lay, lay_all, rooted, first_space}
use Rattle.osc_settled.specs.StartLaws.{CanLay, AllCanLay}

-- ---- the configuration
all_kept : (ls : List Limit) (i : ℕ) (l : Limit) → option_map (λ (x : Limit). x.fault) (find (λ (x : Limit). not (is_kept x)) ls) ≡ None → slice_get ls i ≡ Some l → is_kept l ≡ true
all_kept [] i l e g = absurd (let z : ⊥ = grind (arith, g) in z)
all_kept (x ∷ ls) i l e g = go (is_kept x) refl e i g (all_kept ls)
  where
    here : (b : Bool) → is_kept x ≡ b → b ≡ true → x ≡ l → is_kept l ≡ true
    here b f t same = ap is_kept (sym same) ∙ f ∙ t

    go : (b : Bool) → is_kept x ≡ b → option_map (λ (y : Limit). y.fault) (cond (not b) (Some x) (find (λ (y : Limit). not (is_kept y)) ls)) ≡ None → (j : ℕ) → slice_get (x ∷ ls) j ≡ Some l
        → ((i : ℕ) (m : Limit) → option_map (λ (y : Limit). y.fault) (find (λ (y : Limit). not (is_kept y)) ls) ≡ None → slice_get ls i ≡ Some m → is_kept m ≡ true) → is_kept l ≡ true
    go false f h j k later = absurd (let z : ⊥ = grind (arith, h) in z)
    go true f h zero k later = here true f refl (let same : x ≡ l = cc in same)
    go true f h (suc j) k later = later j l h k

pub record Ranges (config : Config) : Type 0 where
  pub frames : 64 ≤ config.frames
  pub few_frames : config.frames ≤ 4096
  pub harts : 1 ≤ config.harts
  pub processes : 1 ≤ config.processes
  pub shadows : config.shadows ≤ 1048576
  pub levels : 3 ≤ config.levels
  pub batch : 1 ≤ config.batch
  pub small_batch : config.batch ≤ 64

least : (least most n : ℕ) → (nat_le least n && nat_le n most) ≡ true → least ≤ n
least a b n e = grind (arith, nat_tests, e)

greatest : (least most n : ℕ) → (nat_le least n && nat_le n most) ≡ true → n ≤ most
greatest a b n e = grind (arith, nat_tests, e)

pub ranges : (config : Config) → first_fault config ≡ None → Ranges config
ranges config e = record {
  frames = least 64 4096 config.frames (all_kept (limits config) 2 _ e refl);
  few_frames = greatest 64 4096 config.frames (all_kept (limits config) 2 _ e refl);
  harts = least 1 8 config.harts (all_kept (limits config) 0 _ e refl);
  processes = least 1 64 config.processes (all_kept (limits config) 1 _ e refl);
  shadows = greatest 1 1048576 config.shadows (all_kept (limits config) 3 _ e refl);
  levels = least 3 4 config.levels (all_kept (limits config) 5 _ e refl);
  batch = least 1 64 config.batch (all_kept (limits config) 6 _ e refl);
  small_batch = greatest 1 64 config.batch (all_kept (limits config) 6 _ e refl);
}

-- ---- pages
-- one more page of a kind
page_in : (test : ℕ → Bool) (n : ℕ) (m : Mapping) (f : ℕ) (ms : List Mapped) → test n ≡ true
    → among f (map frame_of_page (filter (λ (x : Mapped). test x.number) (with_page n m ms))) ≡ one_at m.frame f + among f (map frame_of_page (filter (λ (x : Mapped). test x.number) ms))
page_in test n m f [] e = ap (λ b. among f (map frame_of_page (cond b ((record { number = n; mapping = m }) ∷ []) []))) e
page_in test n m f (x ∷ ms) e = go (nat_lt x.number n) (page_in test n m f ms e)
  where
    sub : (c : Bool) → among f (map frame_of_page (filter (λ (y : Mapped). test y.number) (with_page n m ms))) ≡ one_at m.frame f + among f (map frame_of_page (filter (λ (y : Mapped). test y.number) ms))
        → among f (map frame_of_page (cond c (x ∷ filter (λ (y : Mapped). test y.number) (with_page n m ms)) (filter (λ (y : Mapped). test y.number) (with_page n m ms)))) ≡ one_at m.frame f + among f (map frame_of_page (cond c (x ∷ filter (λ (y : Mapped). test y.number) ms) (filter (λ (y : Mapped). test y.number) ms)))
    sub true later = omega (arith, later)
    sub false later = later

    go : (b : Bool) → among f (map frame_of_page (filter (λ (y : Mapped). test y.number) (with_page n m ms))) ≡ one_at m.frame f + among f (map frame_of_page (filter (λ (y : Mapped). test y.number) ms))
        → among f (map frame_of_page (filter (λ (y : Mapped). test y.number) (cond b (x ∷ with_page n m ms) ((record { number = n; mapping = m }) ∷ x ∷ ms)))) ≡ one_at m.frame f + among f (map frame_of_page (filter (λ (y : Mapped). test y.number) (x ∷ ms)))
    go true later = sub (test x.number) later
    go false later = ap (λ c. among f (map frame_of_page (cond c ((record { number = n; mapping = m }) ∷ filter (λ (y : Mapped). test y.number) (x ∷ ms)) (filter (λ (y : Mapped). test y.number) (x ∷ ms))))) e

-- a memory without objects agrees where only the image and the stack are mapped
objects_none : (kind : HeapKind) (config : Config) (t : KeptTables) → ((q : ℕ) → is_image_or_stack q ≡ false → mapping_at t.pages q ≡ None) → HeapAgrees kind (first_space config t)
objects_none Oscar config t only = record {
  granted = tt;
  limit = omega arith;
  canonical = λ q c. only q (grind (arith, nat_tests, c));
  shadows = λ q c. ap (λ (o : Option Mapping). is_some o) (only q (grind (arith, nat_tests, c)));
  held = λ a o k. absurd (let e = k.0 in let z : ⊥ = grind (arith, e) in z);
  own = λ a b o p k l e. absurd (let f = k.0 in let z : ⊥ = grind (arith, f) in z);
  backed = λ b h. absurd (let z : ⊥ = grind (arith, h) in z);
  pages = λ a o k. absurd (let e = k.0 in let z : ⊥ = grind (arith, e) in z);
  mapped = λ a i o l m. absurd (let e = l.0 in let z : ⊥ = grind (arith, e) in z);
  small = λ a o l. absurd (let e = l.0 in let z : ⊥ = grind (arith, e) in z);
  waiting = record {
    few = omega arith;
    apart = tt;
    known = λ a w. absurd (let z : ⊥ = grind (arith, w) in z);
    dead = λ a o w e. absurd (let z : ⊥ = grind (arith, w) in z);
    linked = λ a q o w e h. absurd (let z : ⊥ = grind (arith, w) in z);
  };
}
objects_none Plain config t only = record {
  objects = refl;
  waiting = refl;
  shadows = λ q c. only q (grind (arith, nat_tests, c));
  canonical = λ q c. only q (grind (arith, nat_tests, c));
}

-- ---- what holds while pages are laid
pub record Laying (config : Config) (zeros : List ℕ) (c : Changed) : Type 0 where
  pub count : length c.free ≡ config.frames
  pub parts : PartsFit config.heap config.batch (no_regions config.frames) (first_space config c.tables) c.free
  pub tables : AgreesAfter (λ frame index. 0) zeros c
  pub uses : (f : ℕ) → f < length c.free → vacant c.free f + among f (frames_held (first_space config c.tables)) ≡ 1
  pub none_shared : shared_pages c.tables ≡ []
  pub only : (q : ℕ) → is_image_or_stack q ≡ false → mapping_at c.tables.pages q ≡ None

-- ---- one page
abbrev leaf_at : OpenPage → ℕ → Mapping
leaf_at p g = record { frame = g; bits = leaf_of_page p.bits }

-- the page with its leaf, and its frame taken
abbrev laid_in : OpenPage → ℕ → ℕ → Changed → Changed
laid_in p g t c = record (leaf_put p.page (leaf_at p g) (Some t) c) { free = slice_set c.free g false }

lay_is : (p : OpenPage) (g t : ℕ) (c : Changed) → position (λ b. b) c.free ≡ Some g → frame_of c.tables.tables 0 (p.page / 512) ≡ Some t → lay p c ≡ laid_in p g t c
lay_is p g t c e f =
    ap (λ o. laid p o c) e
    ∙ ap (λ o. leaf_put p.page (leaf_at p g) o (record c { free = slice_set c.free g false })) f

free_same : (n : ℕ) (m : Mapping) (o : Option ℕ) (c : Changed) → (leaf_put n m o c).free ≡ c.free
free_same n m None c = refl
free_same n m (Some t) c = refl

pub low_page : (n : ℕ) → is_image_or_stack n ≡ true → n < 0x4000000
low_page n e = grind (arith, nat_tests, e)

not_shared : (n : ℕ) → is_image_or_stack n ≡ true → is_shared n ≡ false
not_shared n e = grind (arith, nat_tests, e)

in_map : (n : ℕ) → is_image_or_stack n ≡ true → is_in_map n ≡ true
in_map n e = grind (arith, nat_tests, e)

module _ (config : Config) (zeros : List ℕ) (ok : Ranges config) (p : OpenPage) (c : Changed) (was : Laying config zeros c) (can : CanLay p c) where
  abbrev n : ℕ
  n = p.page

  abbrev c1 : Changed
  c1 = link_all c.tables.top n c

  within_levels : n < 512 ^ suc c.tables.top
  within_levels = let a = high_enough c.tables.top was.parts.levels in let b = low_page n can.within in omega (arith, a, b)

  maps : (m : Mapping) → MapsPage n m c (map_page n m c)
  maps m =
      let r = some_root (root_of c.tables) was.parts.agrees.root in
      mapping_takes_need n r.0 m c r.1 within_levels (let k = can.room in omega (arith, k))

  some_free : 0 < free_count c1.free
  some_free =
      let m = leaf_at p 0 in
      let t : free_count (map_page n m c).free + need c.tables n 1 ≡ free_count c.free = (maps m).taken in
      let s : free_count (map_page n m c).free ≡ free_count c1.free = ap free_count (free_same n m (frame_of c1.tables.tables 0 (n / 512)) c1) in
      let k = can.room in omega (arith, t, s, k)

  -- its leaf table was linked
  no_leaf : frame_of c1.tables.tables 0 (n / 512) ≡ None → ⊥
  no_leaf e =
      let m = leaf_at p 0 in
      let same : (map_page n m c).tables.pages ≡ c.tables.pages = ap (λ x. (leaf_put n m x c1).tables.pages) e ∙ link_all-pages c.tables.top n c in
      let itself : (n == n) ≡ true = grind (arith, nat_tests) in
      let now : mapping_at (map_page n m c).tables.pages n ≡ Some m = (maps m).pages n ∙ ap (λ b. cond b (Some m) (mapping_at c.tables.pages n)) itself in
      let z : None ≡ Some m = sym can.new ∙ sym (ap (λ ps. mapping_at ps n) same) ∙ now in
      let w : ⊥ = grind (arith, z) in w

  module _ (g t : ℕ) (is_free : slice_get c1.free g ≡ Some true) (leaf : frame_of c1.tables.tables 0 (n / 512) ≡ Some t) where
    abbrev m : Mapping
    m = leaf_at p g

    abbrev d : Changed
    d = laid_in p g t c1

    mapped : map_page n m c ≡ leaf_put n m (Some t) c1
    mapped = ap (λ x. leaf_put n m x c1) leaf

    links : Trades (first_space config c.tables) c.free (first_space config c1.tables) c1.free
    links = link_all-trades (first_space config c.tables) c.tables.top n c

    trades : Trades (first_space config c.tables) c.free (first_space config d.tables) d.free
    trades = record {
      count = length-set c1.free g false ∙ links.count;
      each = λ f. (let a = held_is f (first_space config c1.tables) in
          let b = held_is f (first_space config d.tables) in
          let i = page_in is_image_or_stack n m f c1.tables.pages can.within in
          let u = links.each f in
          let v = vacant_take c1.free g f is_free in
          omega (arith, a, b, i, u, v));
      shared = page_more is_shared n m c1.tables.pages (not_shared n can.within) ∙ links.shared;
    }

    below : g < length c1.free
    below = slice_get_within c1.free g true is_free

    small : g < 4096
    small = let a = below in let b = links.count in let e = was.count in let f = ok.few_frames in omega (arith, a, b, e, f)

    takes : KeepsTaken c1.free (slice_set c1.free g false)
    takes = record {
      size = length-set c1.free g false;
      taken = λ f e. still f (f == g) refl e;
    }
      where
        at : (f : ℕ) → slice_get (slice_set c1.free g false) f ≡ cond ((f == g) && is_some (slice_get c1.free f)) (Some false) (slice_get c1.free f)
        at f = get-set c1.free g f false

        still : (f : ℕ) (b : Bool) → (f == g) ≡ b → slice_get c1.free f ≡ Some false → slice_get (slice_set c1.free g false) f ≡ Some false
        still f true e h = let a = at f in grind (arith, a, e, h)
        still f false e h = let a = at f in grind (arith, a, e, h)

    agrees : AgreesAfter (λ frame index. 0) zeros d
    agrees =
        let a : AgreesAfter (λ frame index. 0) zeros (leaf_put n m (Some t) c1) = subst (λ x. AgreesAfter (λ frame index. 0) zeros x) mapped (mapping_keeps (λ frame index. 0) zeros c n m (can.reads g small) was.tables) in
        taking_keeps d.tables c1.free d.free _ a takes

    pages : (q : ℕ) → mapping_at d.tables.pages q ≡ cond (n == q) (Some m) (mapping_at c.tables.pages q)
    pages q = sym (ap (λ (x : Changed). mapping_at x.tables.pages q) mapped) ∙ (maps m).pages q

    only : (q : ℕ) → is_image_or_stack q ≡ false → mapping_at d.tables.pages q ≡ None
    only q e = pages q ∙ go (n == q) refl
      where
        go : (b : Bool) → (n == q) ≡ b → cond b (Some m) (mapping_at c.tables.pages q) ≡ None
        go true f =
            let same : n ≡ q = grind (arith, nat_tests, f) in
            absurd (let z : true ≡ false = sym can.within ∙ ap is_image_or_stack same ∙ e in let w : ⊥ = grind (arith, z) in w)
        go false f = was.only q e

    adds : Adds c.tables d.tables
    adds =
        let a : Adds c.tables (map_page n m c).tables = map_pages-adds (m ∷ []) n c in
        let b : Adds c.tables (leaf_put n m (Some t) c1).tables = subst (λ (x : Changed). Adds c.tables x.tables) mapped a in b

    rest : Rest config.heap config.batch (first_space config c.tables) (first_space config d.tables)
    rest = record {
      frames = refl;
      shadows = refl;
      count = adds.shape.count;
      room = adds.shape.room;
      top = adds.shape.top;
      root = ap (λ (x : Changed). is_some (root_of x.tables)) (sym mapped) ∙ ap (λ (o : Option ℕ). is_some o) (maps m).root ∙ was.parts.agrees.root;
      aside = adds.aside ∙ was.parts.agrees.aside;
      heap = was.parts.heap;
      objects = objects_none config.heap config d.tables only;
      ranges = λ q e. range q (is_image_or_stack q) refl e;
      waits = was.parts.waits;
    }
      where
        range : (q : ℕ) (b : Bool) → is_image_or_stack q ≡ b → is_some (mapping_at d.tables.pages q) ≡ true → is_in_map q ≡ true
        range q true e f = in_map q e
        range q false e f = absurd (let z : false ≡ true = sym (ap (λ (o : Option Mapping). is_some o) (only q e)) ∙ f in let w : ⊥ = grind (arith, z) in w)

    laid_fits : Laying config zeros d
    laid_fits = record {
      count = trades.count ∙ was.count;
      parts = parts_after config.heap config.batch (no_regions config.frames) (first_space config c.tables) (first_space config d.tables) c.free d.free was.parts trades rest;
      tables = agrees;
      uses = λ f l. (let u = was.uses f (let s = trades.count in omega (arith, s, l)) in let e = trades.each f in omega (arith, u, e));
      none_shared = trades.shared ∙ was.none_shared;
      only = only;
    }

  pub lays : Laying config zeros (lay p c1)
  lays = by (frame_of c1.tables.tables 0 (n / 512)) refl
    where
      by : (o : Option ℕ) → frame_of c1.tables.tables 0 (n / 512) ≡ o → Laying config zeros (lay p c1)
      by None e = absurd (no_leaf e)
      by (Some t) e =
          let l = least_free c1.free some_free in
          subst (λ x. Laying config zeros x) (sym (lay_is p l.frame t c1 l.is e)) (laid_fits l.frame t l.is_free e)

pub lays_all : (config : Config) (zeros : List ℕ) → Ranges config → (ps : List OpenPage) (c : Changed) → Laying config zeros c → AllCanLay ps c → Laying config zeros (lay_all ps c)
lays_all config zeros ok [] c was can = was
lays_all config zeros ok (p ∷ ps) c was can = lays_all config zeros ok ps (lay p (link_all c.tables.top p.page c)) (lays config zeros ok p c was can.0) can.1

-- ---- the first table
pub none_held : (n f : ℕ) → holders (no_regions n) f ≡ 0
none_held zero f = grind (arith, nat_tests)
none_held (suc n) zero = refl
none_held (suc n) (suc f) = none_held n f

free_all : (n f : ℕ) → f < n → slice_get (replicate n true) f ≡ Some true
free_all zero f l = absurd (omega arith)
free_all (suc n) zero l = refl
free_all (suc n) (suc f) l = free_all n f (omega (arith, l))

taken_one : (n : ℕ) → 0 < n → slice_get (slice_set (replicate n true) 0 false) 0 ≡ Some false
taken_one zero l = absurd (omega arith)
taken_one (suc n) l = refl

abbrev pub no_words : Config → List ℕ
no_words config = replicate (config.frames * 512) 0

pub rooted_fits : (config : Config) → Ranges config → Laying config (no_words config) (rooted config)
rooted_fits config ok = record {
  count = size;
  parts = subst (λ k. PartsFit config.heap config.batch (no_regions k) (record { tables = opened 0 (closed config.levels k (k + config.shadows)); objects = []; waiting = []; shadows = config.shadows; heap = empty_heap k }) (slice_set (replicate config.frames true) 0 false)) size
      (opening_fits config.heap config.batch config.levels config.shadows 0 (slice_set (replicate config.frames true) 0 false) ok.levels ok.batch ok.small_batch (let s = ok.shadows in omega (arith, s)) first);
  tables = opening_agrees config.levels config.frames (config.frames + config.shadows) 0 (slice_set (replicate config.frames true) 0 false) (no_words config)
      (length-replicate (config.frames * 512) 0 ∙ (let s = size in omega (arith, s))) (let s = size in let f = ok.few_frames in omega (arith, s, f)) first (λ i l. none_held (config.frames * 512) (0 * 512 + i));
  uses = λ f l. (let v = vacant_take (replicate config.frames true) 0 f (free_all config.frames 0 (let k = ok.frames in omega (arith, k))) in
      let a : vacant (replicate config.frames true) f ≡ 1 = ap one_where (free_all config.frames f (let s = size in omega (arith, s, l))) in
      let h = held_is f (first_space config (rooted config).tables) in
      omega (arith, v, a, h));
  none_shared = refl;
  only = λ q e. refl;
}
  where
    size : length (slice_set (replicate config.frames true) 0 false) ≡ config.frames
    size = length-set (replicate config.frames true) 0 false ∙ length-replicate config.frames true

    first : slice_get (slice_set (replicate config.frames true) 0 false) 0 ≡ Some false
    first = taken_one config.frames (let k = ok.frames in omega (arith, k))
