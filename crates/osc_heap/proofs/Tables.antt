-- Tables whose entries are kept as far as they were used.
use Rattle.std.proofs.Common.{ℕ, zero, suc, ◌≡◌, ◌≢◌, ◌<◌, ◌≤◌, ◌+◌, ◌*◌, ◌/◌, ◌%◌, List, [], ◌∷◌, Option, None, Some, length, map, replicate, set, get_or, ⊎_elim, arith, refl, sym, ap, ◌∙◌}
use Rattle.std.specs.List.{range_with_len}
use Rattle.std.proofs.lemmas.Nat.{div-mul-add, mod-mul-add, div-add-mod'}
use Rattle.std.proofs.Math.Nat.{div-lt_iff_lt-mul, mod-lt, mul-le-mul_right}
use Rattle.std.proofs.lemmas.Bool.{cases_lt}
use Rattle.std.proofs.lemmas.List.{same_lists, length-set, length-replicate, get_or-replicate, get_or_default, get_or-set_same, get_or-set_other}
use Rattle.std.proofs.lemmas.List.FromFn.{length-map-range_with_len, get_or-map-range_with_len}
use Rattle.osc_slot.specs.Areas.{first_page}
use Rattle.osc_slot.specs.Heap.{HaveFrames}
use Rattle.osc_heap.specs.Layout.{pages_from, renamed}
use Rattle.osc_heap.specs.Table.{entry_place, table_of}
use Rattle.osc_heap.proofs.Held.{length_renamed, frame_named}

-- ---- the places of the entries
pub some_frames : (frames at : ℕ) → at < 13 * frames → 0 < frames
some_frames frames at l = omega arith

pub area_within : (frames at : ℕ) → at < 13 * frames → at / frames < 13
area_within frames at l = (div-lt_iff_lt-mul (some_frames frames at l)).1 l

pub place_within : (frames at : ℕ) → at < 13 * frames → entry_place frames at < 13 * frames
place_within frames at l =
    let area = area_within frames at l in
    let page = mod-lt at (some_frames frames at l) in
    omega arith

-- the page whose entry stands at a place
pub place_back : (frames place : ℕ) → place < 13 * frames → entry_place frames (place % 13 * frames + place / 13) ≡ place
place_back frames place l =
    let q = div-mul-add (place % 13) frames (place / 13) (omega arith) in
    let r = mod-mul-add (place % 13) frames (place / 13) (omega arith) in
    rw (q, r) (omega arith)

pub page_back : (frames place : ℕ) → place < 13 * frames → place % 13 * frames + place / 13 < 13 * frames
page_back frames place l =
    let rows : place % 13 * frames ≤ 12 * frames = mul-le-mul_right frames (omega arith) in
    omega arith

same_place : (frames a b : ℕ) → a < 13 * frames → b < 13 * frames → entry_place frames a ≡ entry_place frames b → a ≡ b
same_place frames a b l m e =
    let x = area_within frames a l in
    let y = area_within frames b m in
    let area : a / frames ≡ b / frames = omega arith in
    let page : a % frames ≡ b % frames = omega arith in
    sym (div-add-mod' a frames) ∙ ap (λ q. q * frames + a % frames) area ∙ ap (λ r. b / frames * frames + r) page ∙ div-add-mod' b frames

-- ---- what a table says of its entries
pub length_table : (frames : ℕ) (entries : List (Option ℕ)) → length (table_of frames entries) ≡ 13 * frames
length_table frames entries = length-map-range_with_len (λ page. get_or entries (entry_place frames page) None) 0 (13 * frames)

pub read_entry : (frames at : ℕ) (entries : List (Option ℕ)) → at < 13 * frames → get_or (table_of frames entries) at None ≡ get_or entries (entry_place frames at) None
read_entry frames at entries l = get_or-map-range_with_len (λ page. get_or entries (entry_place frames page) None) 0 (13 * frames) at at None l (omega arith)

-- a table of this length is the one of these entries where each place says so
table_is : (frames : ℕ) (entries table : List (Option ℕ)) → length table ≡ 13 * frames → ((at : ℕ) → at < 13 * frames → get_or entries (entry_place frames at) None ≡ get_or table at None) → table_of frames entries ≡ table
table_is frames entries table long same =
    let size = length_table frames entries in
    same_lists (table_of frames entries) table (size ∙ sym long) (λ k d l.
    get_or_default (table_of frames entries) k d None l ∙ read_entry frames k entries (omega arith) ∙ same k (omega arith) ∙ get_or_default table k None d (omega arith))

pub no_entries : (frames : ℕ) (entries : List (Option ℕ)) → entries ≡ [] → table_of frames entries ≡ replicate (13 * frames) None
no_entries frames entries e =
    let long = length-replicate {A = Option ℕ} (13 * frames) None in
    table_is frames entries (replicate (13 * frames) None) long (λ at l. rw e (sym (get_or-replicate {A = Option ℕ} (13 * frames) at None None l)))

pub same_entries : (frames : ℕ) (entries others : List (Option ℕ)) → ((at : ℕ) → get_or entries at None ≡ get_or others at None) → table_of frames entries ≡ table_of frames others
same_entries frames entries others same =
    table_is frames entries (table_of frames others) (length_table frames others) (λ at l. same (entry_place frames at) ∙ sym (read_entry frames at others l))

pub entry_set : (frames at place : ℕ) (entries : List (Option ℕ)) (x : Option ℕ) → place ≡ entry_place frames at → at < 13 * frames → place < length entries → table_of frames (set entries place x) ≡ set (table_of frames entries) at x
entry_set frames at place entries x e l m =
    let long = length_table frames entries in
    table_is frames (set entries place x) (set (table_of frames entries) at x) (length-set (table_of frames entries) at x ∙ long) (λ k n. ⊎_elim (λ less. other k n (omega arith)) (λ more. ⊎_elim (λ less. other k n (omega arith)) (λ same. here k (omega arith)) (cases_lt at k)) (cases_lt k at))
  where
    here : (k : ℕ) → k ≡ at → get_or (set entries place x) (entry_place frames k) None ≡ get_or (set (table_of frames entries) at x) k None
    here k s =
        let long = length_table frames entries in
        rw (s, ← e) (get_or-set_same entries place x None m ∙ sym (get_or-set_same (table_of frames entries) at x None (omega arith)))

    other : (k : ℕ) → k < 13 * frames → k ≢ at → get_or (set entries place x) (entry_place frames k) None ≡ get_or (set (table_of frames entries) at x) k None
    other k n differ =
        get_or-set_other entries place (entry_place frames k) x None (λ same. differ (same_place frames k at n l (same ∙ e)))
        ∙ sym (read_entry frames k entries n) ∙ sym (get_or-set_other (table_of frames entries) at k x None differ)

get_or-renamed : (names : List ℕ) (entries : List (Option ℕ)) (k : ℕ) → get_or (map (renamed names) entries) k None ≡ renamed names (get_or entries k None)
get_or-renamed names [] k = refl
get_or-renamed names (x ∷ entries) zero = refl
get_or-renamed names (x ∷ entries) (suc k) = get_or-renamed names entries k

pub renamed_table : (frames : ℕ) (names : List ℕ) (entries : List (Option ℕ)) → table_of frames (map (renamed names) entries) ≡ map (renamed names) (table_of frames entries)
renamed_table frames names entries =
    let long = length_renamed names (table_of frames entries) in
    table_is frames (map (renamed names) entries) (map (renamed names) (table_of frames entries)) (long ∙ length_table frames entries) (λ at l.
    get_or-renamed names entries (entry_place frames at) ∙ ap (renamed names) (sym (read_entry frames at entries l)) ∙ sym (get_or-renamed names (table_of frames entries) at))

pub within_table : (frames at : ℕ) (entries table : List (Option ℕ)) → table_of frames entries ≡ table → at < length table → at < 13 * frames
within_table frames at entries table view l =
    let long = length_table frames entries in
    let same : length table ≡ length (table_of frames entries) = ap length (sym view) in
    omega arith

pub same_frames : (frames others : ℕ) (entries more : List (Option ℕ)) (table other : List (Option ℕ)) → table_of frames entries ≡ table → table_of others more ≡ other → length table ≡ length other → frames ≡ others
same_frames frames others entries more table other view seen e =
    let long = length_table frames entries in
    let size = length_table others more in
    let same : length table ≡ length (table_of frames entries) = ap length (sym view) in
    let alike : length other ≡ length (table_of others more) = ap length (sym seen) in
    omega arith

-- a frame that stands at some place is a page's
pub entry_named : (frames n place frame : ℕ) (entries table : List (Option ℕ)) → table_of frames entries ≡ table → length entries ≤ 13 * frames → HaveFrames n (pages_from first_page table []) → place < length entries → get_or entries place None ≡ Some frame → frame < n
entry_named frames n place frame entries table view few h l e =
    let at = page_back frames place (omega arith) in
    let long = length_table frames entries in
    let same : length table ≡ length (table_of frames entries) = ap length (sym view) in
    frame_named n first_page (place % 13 * frames + place / 13) frame table h (omega arith)
    (ap (λ (t : List (Option ℕ)). get_or t (place % 13 * frames + place / 13) None) (sym view) ∙ read_entry frames (place % 13 * frames + place / 13) entries at ∙ ap (λ (p : ℕ). get_or entries p None) (place_back frames place (omega arith)) ∙ e)
