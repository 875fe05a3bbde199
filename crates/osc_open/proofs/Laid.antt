-- What laying pages keeps, page by page.
use Rattle.std.proofs.Common.{ℕ, suc, ◌≡◌, ◌<◌, ◌≤◌, ◌+◌, ◌-◌, ◌*◌, ◌/◌, ◌^◌, ◌==◌, Bool, false, Option, Some, None, List, [], ◌∷◌, ◌++◌, length, map, position, arith, refl, ap, sym, subst, ◌∙◌}
use Rattle.std.specs.Prelude.{IsSome, IsTrue, slice_set}
use Rattle.std.proofs.lemmas.Bool.Decides.{nat_tests}
use Rattle.osc_word.specs.JobList.{JobList, spare}
use Rattle.osc_sv39.specs.declared.entries.Mapping.{Mapping}
use Rattle.osc_sv39.specs.Walk.{piece, number_of}
use Rattle.osc_sv39.specs.ReadBack.{is_leaf}
use Rattle.osc_sv39.proofs.EntriesBack.{leaves_read_back}
use Rattle.osc_frames.specs.Free.{free_count, least_free, without_frame}
use Rattle.osc_paging.specs.Agree.{ReadsAsLeaf}
use Rattle.osc_paging.specs.KeptTables.{KeptTables, levels_of, root_of, mapping_of, frame_of, need}
use Rattle.osc_paging.specs.TableChanges.{Changed, link_all, leaf_put, put_leaf, map_page}
use Rattle.osc_paging.specs.TableLaws.{MapsPage}
use Rattle.osc_paging.proofs.Needed.{Grown, link_all-grown, put-tables}
use Rattle.osc_paging.proofs.TableLawProofs.{mapping_takes_need, piece-top}
use Rattle.osc_space.specs.LeafFlags.{leaf_of_page}
use Rattle.osc_calls.specs.Open.{OpenPage, lay, lay_all}
use Rattle.osc_tables.specs.Inside.{IsTop}
use Rattle.osc_tables.specs.Calls.{HasTaken, changed}
use Rattle.osc_share.proofs.FreeNumbers.{stays_taken, set_length}
use Rattle.osc_share.proofs.Low.{IsLow, low_page, reach}
use Rattle.osc_share.proofs.Lengths.{Pushes, map_pushes, map_pages_more}
use Rattle.osc_open.specs.Laying.{number_of_page}
use Rattle.osc_open.specs.Row.{CanLay, first_taken, lacking}
use Rattle.osc_open.proofs.First.{least_is, next_taken, count_is, link_all_first}
use Rattle.osc_open.proofs.Lacking.{lacking_less, need_least}

-- the mapping of the first one
abbrev pub own_mapping : ℕ → OpenPage → KeptTables → List Bool → Mapping
own_mapping count p t free =
    record { frame = count - free_count free + need t p.page 1; bits = leaf_of_page p.bits }

-- what the first one asks for
pub record CanLayOne (count : ℕ) (p : OpenPage) (rest : List OpenPage) (t : KeptTables) (free : List Bool) (jobs : JobList) : Type 0 where
  pub low : IsLow (levels_of t) p.page
  pub unmapped : mapping_of t p.page ≡ None
  pub left : 0 < t.room - length t.pages
  pub need : need t (number_of (levels_of t) p.page) 1 ≤ free_count free
  pub leaf : ReadsAsLeaf (own_mapping count p t free)
  pub spare : 7 ≤ spare jobs

-- and what its tables and those of the rest need
record Needs (p : OpenPage) (rest : List OpenPage) (t : KeptTables) (free : List Bool) (u : KeptTables) : Type 0 where
  root : (root : ℕ) × (root_of t ≡ Some root)
  enough : need t p.page 1 ≤ free_count free
  lacks : lacking t.tables t.top (p.page ∷ map number_of_page rest) ≡ need t p.page 1 + lacking u.tables t.top (map number_of_page rest)

some_root : (x : Option ℕ) → IsSome x → (root : ℕ) × (x ≡ Some root)
some_root None h = cc
some_root (Some root) h = (root, refl)

page_within : (top page : ℕ) → IsTop top → page < 67108864 → page < 512 ^ suc top
page_within top page range l = let most = reach top range in omega (arith, most)

needs : (count : ℕ) (p : OpenPage) (rest : List OpenPage) (t : KeptTables) (free : List Bool) (jobs : JobList) → CanLay count (p ∷ rest) t free jobs
    → Needs p rest t free (link_all t.top p.page (changed t free jobs.pushed)).tables
needs count p rest t free jobs can =
    let root = some_root (root_of t) can.opened in
    let c = changed t free jobs.pushed in
    let least = need_least t.top p.page (map number_of_page rest) t.tables in
    let given = can.enough in
    let enough : need t p.page 1 ≤ free_count free = omega (arith, least, given) in
    let none : piece (suc t.top) p.page ≡ 0 = piece-top (suc t.top) p.page (page_within t.top p.page can.range can.pages.1) in
    let top_there : frame_of t.tables t.top (piece (suc t.top) p.page) ≡ Some root.0 = rw none root.1 in
    let grown : Grown t.top p.page t.tables (link_all t.top p.page c).tables.tables = link_all-grown t.top p.page c root.0 top_there enough in
    record {
      root = root;
      enough = enough;
      lacks = lacking_less t.top t.top p.page (map number_of_page rest) t.tables (link_all t.top p.page c).tables.tables (omega arith) grown;
    }

leaf_reads : (count : ℕ) (p : OpenPage) (t : KeptTables) (free : List Bool) → count ≤ 4096 → need t p.page 1 ≤ free_count free → free_count free ≤ count
    → IsTrue (is_leaf (leaf_of_page p.bits)) → ReadsAsLeaf (own_mapping count p t free)
leaf_reads count p t free small enough few leaf =
    leaves_read_back (count - free_count free + need t p.page 1) (leaf_of_page p.bits) (omega arith) (omega arith) leaf

pub can_lay_one : (count : ℕ) (p : OpenPage) (rest : List OpenPage) (t : KeptTables) (free : List Bool) (jobs : JobList) → count ≤ 4096 → CanLay count (p ∷ rest) t free jobs
    → CanLayOne count p rest t free jobs
can_lay_one count p rest t free jobs small can =
    let n = needs count p rest t free jobs can in
    let is = low_page t.top p.page can.range can.pages.1 in
    let none = can.unmapped p.page can.pages.0 in
    let left = can.left in
    let has_spare = can.spare in
    record {
      low = is;
      unmapped = rw (is.canonical, is.number) none;
      left = omega (arith, left);
      need = rw is.number n.enough;
      leaf = leaf_reads count p t free small n.enough can.few can.pages.2;
      spare = omega (arith, has_spare);
    }

-- ---- the page is laid
put_and_take : (page frame : ℕ) (m : Mapping) (x : Option ℕ) (d : Changed)
    → leaf_put page m x (record d { free = slice_set d.free frame false })
    ≡ record (leaf_put page m x d) { free = slice_set d.free frame false }
put_and_take page frame m None d = refl
put_and_take page frame m (Some table) d = refl

-- its own frame is taken after its tables
is_laid : (p : OpenPage) (frame : ℕ) (d : Changed) (u : KeptTables) (after : List Bool) (now : JobList) → position (λ b. b) d.free ≡ Some frame
    → changed u after now.pushed ≡ put_leaf p.page (record { frame = frame; bits = leaf_of_page p.bits }) d → after ≡ d.free
    → lay p d ≡ changed u (without_frame after (least_free after)) now.pushed
is_laid p frame d u after now least e same =
    let m : Mapping = record { frame = frame; bits = leaf_of_page p.bits } in
    let least_after : position (λ b. b) after ≡ Some frame = ap (position (λ b. b)) same ∙ least in
    rw (least, least_after)
    (put_and_take p.page frame m (frame_of d.tables.tables 0 (p.page / 512)) d
    ∙ (ap (λ (x : Changed). record x { free = slice_set d.free frame false }) (sym e)
    ∙ ap (λ free. changed u (slice_set free frame false) now.pushed) (sym same)))

pub record LaysOne (count : ℕ) (p : OpenPage) (rest : List OpenPage) (t : KeptTables) (free : List Bool) (jobs : JobList) (u : KeptTables) (after : List Bool) (now : JobList) : Type 0 where
  pub next : lay p (link_all t.top p.page (changed t free jobs.pushed)) ≡ changed u after now.pushed
  pub can : CanLay count rest u after now

pub lays_one : (count : ℕ) (p : OpenPage) (rest : List OpenPage) (t u : KeptTables) (free after : List Bool) (jobs now : JobList) → CanLay count (p ∷ rest) t free jobs
    → changed u after now.pushed ≡ map_page p.page (own_mapping count p t free) (changed t free jobs.pushed) → HasTaken u after → now.room ≡ jobs.room
    → LaysOne count p rest t free jobs u (without_frame after (least_free after)) now
lays_one count p rest t u free after jobs now can e has room =
    let c = changed t free jobs.pushed in
    let d = link_all t.top p.page c in
    let m = own_mapping count p t free in
    let n = needs count p rest t free jobs can in
    let put = put-tables p.page m (frame_of d.tables.tables 0 (p.page / 512)) d in
    let same_free : after ≡ d.free = ap (λ (x : Changed). x.free) e ∙ put.1 in
    let same_tables : u.tables ≡ d.tables.tables = ap (λ (x : Changed). x.tables.tables) e ∙ put.0 in
    let maps : MapsPage p.page m c (changed u after now.pushed) = subst (λ x. MapsPage p.page m c x) (sym e) (mapping_takes_need p.page n.root.0 m c n.root.1 (page_within t.top p.page can.range can.pages.1) n.enough) in
    let took : free_count after + need t p.page 1 ≡ free_count free = maps.taken in
    let prefix = link_all_first t.top p.page (count - free_count free) (free_count free) c can.first in
    let few = can.few in
    let more_few = prefix.few in
    let after_is : after ≡ first_taken (count - free_count free + prefix.more) (free_count free - prefix.more) = same_free ∙ prefix.same in
    let after_count : free_count after ≡ free_count free - prefix.more = ap free_count after_is ∙ count_is (count - free_count free + prefix.more) (free_count free - prefix.more) in
    let more_is : prefix.more ≡ need t p.page 1 = omega (arith, took, after_count, more_few) in
    let lacks = n.lacks in
    let given = can.enough in
    let some : free_count after ≡ suc (free_count after - 1) = omega (arith, took, lacks, given) in
    let frame = count - free_count free + need t p.page 1 in
    let shape : after ≡ first_taken frame (suc (free_count after - 1)) =
    after_is ∙ (ap (λ k. first_taken (count - free_count free + k) (free_count free - k)) more_is ∙ ap (first_taken frame) (omega (arith, took, some))) in
    let least : position (λ b. b) after ≡ Some frame = ap (position (λ b. b)) shape ∙ least_is frame (free_count after - 1) in
    let own : without_frame after (least_free after) ≡ slice_set after frame false = ap (without_frame after) least in
    let shape_own : slice_set after frame false ≡ first_taken (suc frame) (free_count after - 1) = ap (λ xs. slice_set xs frame false) shape ∙ next_taken frame (free_count after - 1) in
    let count_own : free_count (slice_set after frame false) ≡ free_count after - 1 = ap free_count shape_own ∙ count_is (suc frame) (free_count after - 1) in
    let place_own : suc frame ≡ count - (free_count after - 1) = omega (arith, took, few, some) in
    let pushes = subst (λ (x : Changed). Pushes (2 * t.top + 1) c x) (sym e) (map_pushes p.page m c) in
    let more_pages = subst (λ (x : Changed). length x.tables.pages ≤ suc (length t.pages)) (sym e) (map_pages_more p.page m c) in
    let pushed = pushes.jobs in
    let same_room = pushes.room in
    let left = can.left in
    let has_spare = can.spare in
    let top : u.top ≡ t.top = maps.top in
    record {
      next = is_laid p frame d u after now (ap (position (λ b. b)) (sym same_free) ∙ least) e same_free;
      can = rw own (record {
        low = suc p.page;
        pages = can.pages.3;
        unmapped = λ q l. maps.pages q ∙ (let other : (p.page == q) ≡ false = grind (arith, nat_tests, l) in rw other (can.unmapped q (let a = can.pages.0 in omega (arith, a, l))));
        opened = rw maps.root can.opened;
        range = rw top can.range;
        left = omega (arith, left, more_pages, same_room);
        taken = record {
          count = set_length false (frame ∷ []) after ∙ has.count;
          tables = λ f q x. stays_taken (frame ∷ []) after f (has.tables f q x);
          aside = λ f q x. stays_taken (frame ∷ []) after f (has.aside f q x);
        };
        few = omega (arith, count_own, took, few);
        first = shape_own ∙ (ap (λ k. first_taken k (free_count after - 1)) place_own ∙ ap (λ k. first_taken (count - k) k) (sym count_own));
        enough = rw (count_own, top, same_tables) (omega (arith, lacks, given, took));
        spare = omega (arith, has_spare, pushed, room, can.range.1);
      });
    }

-- ---- lists of pages
pub lay_all_append : (ps qs : List OpenPage) (c : Changed) → lay_all (ps ++ qs) c ≡ lay_all qs (lay_all ps c)
lay_all_append [] qs c = refl
lay_all_append (p ∷ ps) qs c = lay_all_append ps qs (lay p (link_all c.tables.top p.page c))
