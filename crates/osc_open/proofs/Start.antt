-- What holds at the start: all pages can be laid where their frames are enough.
use Rattle.std.proofs.Common.{ℕ, zero, suc, ◌≡◌, ◌<◌, ◌≤◌, ◌+◌, ◌-◌, ◌*◌, ◌==◌, Bool, true, false, Option, Some, None, List, [], ◌∷◌, ◌++◌, length, map, replicate, arith, refl, ap, sym, subst, ◌∙◌, length-append, cond}
use Rattle.std.specs.Prelude.{IsSome, IsTrue, slice_set, slice_get}
use Rattle.std.proofs.lemmas.Bool.Decides.{nat_tests}
use Rattle.std.proofs.Common.{rules}
use Rattle.std.proofs.lemmas.List.{map-append, length-replicate}
use Rattle.osc_word.specs.declared.settings.Config.{Config}
use Rattle.osc_word.specs.declared.job_list.Job.{Job}
use Rattle.osc_word.specs.JobList.{JobList, spare}
use Rattle.osc_frames.specs.Free.{free_count, least_free, without_frame}
use Rattle.osc_sv39.specs.declared.flags.PteBits.{PteBits}
use Rattle.osc_sv39.specs.ReadBack.{is_leaf}
use Rattle.osc_sv39.specs.Walk.{IsLevels, piece}
use Rattle.osc_image.specs.Frames.{different, stack_pages, tables_below}
use Rattle.osc_paging.specs.declared.Piece.{Piece}
use Rattle.osc_paging.specs.KeptTables.{KeptTables, closed, frame_of, piece_of}
use Rattle.osc_paging.specs.TableChanges.{Changed, opened, table_frame}
use Rattle.osc_space.specs.LeafFlags.{leaf_of_page}
use Rattle.osc_calls.specs.Open.{OpenPage, all_pages, lay_all, rooted}
use Rattle.osc_tables.specs.Calls.{HasTaken, IsClosed, changed}
use Rattle.osc_share.proofs.FreeNumbers.{set_length}
use Rattle.osc_open.specs.Laying.{AreImagePages, frames_for, number_of_page}
use Rattle.osc_open.specs.Row.{AreLow, CanLay, alike, first_taken, lacking, with_stack}
use Rattle.osc_open.proofs.Different.{different-swap}
use Rattle.osc_open.proofs.Counted.{length-numbers}
use Rattle.osc_open.proofs.First.{count_is, least_is, next_taken}
use Rattle.osc_open.proofs.Lacking.{all_lacking}
use Rattle.osc_open.proofs.Laid.{lay_all_append}

-- ---- pages
pub few_pages : (low : ℕ) (ps : List OpenPage) → low ≤ 1048576 → AreImagePages low ps → low + length ps ≤ 1048576
few_pages low [] l are = omega arith
few_pages low (p ∷ ps) l are =
    let above = are.0 in
    let below = are.1 in
    let on = few_pages (suc p.page) ps (omega (arith, below)) are.3 in
    omega (arith, above, on)

alike_low : (low first n : ℕ) (bits : PteBits) → low ≤ first → first + n ≤ 67108864 → IsTrue (is_leaf (leaf_of_page bits)) → AreLow low (alike first n bits)
unfolding alike
alike_low low first zero bits l most leaf = tt
alike_low low first (suc n) bits l most leaf =
    (l, omega arith, leaf, alike_low (suc first) (suc first) n bits (omega arith) (omega arith) leaf)

-- R and W
abbrev pub read_and_write : PteBits
read_and_write = record { 0 = 6 }

pub stack_alike : with_stack [] ≡ alike 0x1000F0 16 read_and_write
unfolding with_stack alike
stack_alike = refl

all_low : (low : ℕ) (ps : List OpenPage) → low ≤ 1048576 → AreImagePages low ps → AreLow low (with_stack ps)
unfolding with_stack
all_low low [] l are =
    let leaf : IsTrue (is_leaf (leaf_of_page read_and_write)) = search rules in
    subst (AreLow low) (sym stack_alike) (alike_low low 0x1000F0 16 read_and_write (omega arith) (omega arith) leaf)
all_low low (p ∷ ps) l are =
    let below = are.1 in
    (are.0, omega (arith, below), are.2, all_low (suc p.page) ps (omega (arith, below)) are.3)

all_length : (ps : List OpenPage) → length (with_stack ps) ≡ length ps + 16
unfolding with_stack
all_length ps = length-append ps (all_pages [])

all_numbers : (ps : List OpenPage) → map number_of_page (with_stack ps) ≡ map number_of_page ps ++ stack_pages
unfolding with_stack
all_numbers ps = map-append number_of_page ps (all_pages [])

-- ---- tables
below-swap : (level : ℕ) (xs ys : List ℕ) → tables_below level (xs ++ ys) ≡ tables_below level (ys ++ xs)
unfolding tables_below
below-swap zero xs ys = refl
below-swap (suc l) xs ys =
    let f = piece (suc l) in
    let one : different (map f (xs ++ ys)) ≡ different (map f (ys ++ xs)) =
    ap different (map-append f xs ys) ∙ (different-swap (map f xs) (map f ys) ∙ sym (ap different (map-append f ys xs))) in
    let on = below-swap l xs ys in
    omega (arith, one, on)

root_alone : (top l n : ℕ) → l < top → frame_of (table_frame top 0 0 ∷ []) l n ≡ None
root_alone top l n less = let other : (top == l) ≡ false = grind (arith, nat_tests, less) in rw other refl

root_there : (top : ℕ) → frame_of (table_frame top 0 0 ∷ []) top 0 ≡ Some 0
root_there top = let same : (top == top) ≡ true = grind (arith, nat_tests) in rw same refl

-- what the pages lack is what they need beside the root
lacks_all : (levels frames : ℕ) (ps : List OpenPage) → frames_for levels ps ≤ frames
    → suc (length (with_stack ps) + lacking (table_frame (levels - 1) 0 0 ∷ []) (levels - 1) (map number_of_page (with_stack ps))) ≤ frames
unfolding frames_for
lacks_all levels frames ps enough =
    let numbers = map number_of_page ps in
    let is = all_numbers ps in
    let long = all_length ps in
    let same_length = length-numbers ps in
    let all = all_lacking (table_frame (levels - 1) 0 0 ∷ []) (levels - 1) (map number_of_page (with_stack ps)) (λ l n less. root_alone (levels - 1) l n less) in
    let swapped = ap (tables_below (levels - 1)) is ∙ below-swap (levels - 1) numbers stack_pages in
    omega (arith, long, same_length, all, swapped, enough)

-- ---- frames
abbrev pub root_taken : ℕ → List Bool
root_taken frames = slice_set (replicate frames true) 0 false

pub root_first : (frames : ℕ) → 0 < frames → root_taken frames ≡ first_taken 1 (frames - 1)
root_first frames some =
    let more : frames ≡ suc (frames - 1) = omega arith in
    ap root_taken more ∙ next_taken 0 (frames - 1)

pub least_of_all : (frames : ℕ) → 0 < frames → least_free (replicate frames true) ≡ Some 0
least_of_all frames some =
    let more : frames ≡ suc (frames - 1) = omega arith in
    ap (λ n. least_free (replicate n true)) more ∙ least_is 0 (frames - 1)

has_root : (frames top : ℕ) (f : ℕ) (q : Piece) → 0 < frames → piece_of (table_frame top 0 0 ∷ []) f ≡ Some q → slice_get (root_taken frames) f ≡ Some false
has_root frames top f q some = pick (0 == f) refl
  where
    pick : (b : Bool) → (0 == f) ≡ b → cond b (Some (record { level = top; number = 0 })) None ≡ Some q → slice_get (root_taken frames) f ≡ Some false
    pick true e x =
        let is : 0 ≡ f = grind (arith, nat_tests, e) in
        subst (λ g. slice_get (root_taken frames) g ≡ Some false) is (ap (λ free. slice_get free 0) (root_first frames some))
    pick false e x = absurd (cc)

taken_at_start : (top frames room : ℕ) (t : KeptTables) → 0 < frames → t.tables ≡ table_frame top 0 0 ∷ [] → t.aside ≡ [] → t.count ≡ frames → HasTaken t (root_taken frames)
taken_at_start top frames room t some tables aside count = record {
  count = set_length false (0 ∷ []) (replicate frames true) ∙ (length-replicate frames true ∙ sym count);
  tables = λ f q x. has_root frames top f q some (sym (ap (λ ts. piece_of ts f) tables) ∙ x);
  aside = λ f q x. none f q (sym (ap (λ ts. piece_of ts f) aside) ∙ x);
}
  where
    none : (f : ℕ) (q : Piece) → None ≡ Some q → slice_get (root_taken frames) f ≡ Some false
    none f q x = absurd (cc)

pub can_lay_all : (levels frames room : ℕ) (ps : List OpenPage) (jobs : JobList) → IsLevels levels → frames ≤ room → AreImagePages 16 ps
    → frames_for levels ps ≤ frames → 7 * frames ≤ spare jobs
    → CanLay frames (with_stack ps) (opened 0 (closed levels frames room)) (root_taken frames) jobs
can_lay_all levels frames room ps jobs l wide are enough has =
    let lacks = lacks_all levels frames ps enough in
    let some : 0 < frames = omega (arith, lacks) in
    let is = root_first frames some in
    let count : free_count (root_taken frames) ≡ frames - 1 = ap free_count is ∙ count_is 1 (frames - 1) in
    let one : 1 ≡ frames - (frames - 1) = omega arith in
    let there : IsSome {T = ℕ} (Some 0) = search rules in
    record {
      low = 16;
      pages = all_low 16 ps (omega arith) are;
      unmapped = λ q above. refl;
      opened = subst (λ (x : Option ℕ). IsSome x) (sym (root_there (levels - 1))) there;
      range = (omega (arith, l.0), omega (arith, l.1));
      left = omega (arith, lacks);
      taken = taken_at_start (levels - 1) frames room (opened 0 (closed levels frames room)) some refl refl refl;
      few = omega (arith, count);
      first = is ∙ (ap (λ k. first_taken k (frames - 1)) one ∙ ap (λ k. first_taken (frames - k) k) (sym count));
      enough = omega (arith, lacks, count);
      spare = omega (arith, lacks, has);
    }

pub can_lay_start : (config : Config) (ps : List OpenPage) (t : KeptTables) (free : List Bool) (jobs : JobList) → IsLevels config.levels → AreImagePages 16 ps
    → frames_for config.levels ps ≤ config.frames → 7 * config.frames ≤ spare jobs → t ≡ (rooted config).tables → free ≡ (rooted config).free
    → CanLay config.frames (with_stack ps) t free jobs
can_lay_start config ps t free jobs l are enough has e f =
    let can = can_lay_all config.levels config.frames (config.frames + config.shadows) ps jobs l (omega arith) are enough has in
    subst (λ u. CanLay config.frames (with_stack ps) u free jobs) (sym e)
    (subst (λ x. CanLay config.frames (with_stack ps) (rooted config).tables x jobs) (sym f) can)

pub some_frame : (levels frames : ℕ) (ps : List OpenPage) → frames_for levels ps ≤ frames → 0 < frames
some_frame levels frames ps enough = let lacks = lacks_all levels frames ps enough in omega (arith, lacks)

pub closed_is : (levels frames room : ℕ) → IsLevels levels → IsClosed (closed levels frames room)
closed_is levels frames room l =
    let e : levels ≡ suc (levels - 1) = omega (arith, l.0) in ap (λ n. closed n frames room) e

-- ---- the image, and then the stack
stack_after : (ps : List OpenPage) → ps ++ with_stack [] ≡ all_pages ps
unfolding with_stack
stack_after ps = refl

pub laid_all : (ps : List OpenPage) (c : Changed) → lay_all (alike 0x1000F0 16 read_and_write) (lay_all ps c) ≡ lay_all (all_pages ps) c
laid_all ps c =
    ap (λ qs. lay_all qs (lay_all ps c)) (sym stack_alike)
    ∙ (sym (lay_all_append ps (with_stack []) c) ∙ ap (λ qs. lay_all qs c) (stack_after ps))

-- ---- the root
pub root_is : (frames : ℕ) (free : List Bool) (taken : Option ℕ) → 0 < frames → free ≡ replicate frames true → taken ≡ least_free free → taken ≡ Some 0
root_is frames free taken some all least = least ∙ (ap least_free all ∙ least_of_all frames some)

pub root_frame : (frames root : ℕ) (free : List Bool) (taken : Option ℕ) → 0 < frames → free ≡ replicate frames true → taken ≡ least_free free → taken ≡ Some root → root ≡ 0
root_frame frames root free taken some all least is =
    let zero_is = root_is frames free taken some all least in
    let same : Some root ≡ Some 0 = sym is ∙ zero_is in cc

pub root_left : (frames : ℕ) (free after : List Bool) (taken : Option ℕ) → 0 < frames → free ≡ replicate frames true → taken ≡ least_free free → after ≡ without_frame free taken → after ≡ root_taken frames
root_left frames free after taken some all least is =
    is ∙ (ap (without_frame free) (root_is frames free taken some all least) ∙ ap (λ xs. slice_set xs 0 false) all)

pub rooted_is : (config : Config) (root : ℕ) (t u : KeptTables) (free : List Bool) (jobs : List Job) → root ≡ 0 → t ≡ closed config.levels config.frames (config.frames + config.shadows) → u ≡ opened root t
    → free ≡ root_taken config.frames → jobs ≡ [] → changed u free jobs ≡ rooted config
rooted_is config root t u free jobs r e is f j =
    let tables : u ≡ (rooted config).tables = is ∙ (ap (λ n. opened n t) r ∙ ap (opened 0) e) in
    rw (tables, f, j) refl
