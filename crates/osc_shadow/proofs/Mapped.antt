-- What a mapping leaves: room for the next one.
use Rattle.std.proofs.Common.{ℕ, zero, suc, ◌+◌, ◌-◌, ◌*◌, ◌^◌, ◌≡◌, ◌<◌, ◌≤◌, ◌==◌, ◌/◌, Bool, true, false, cond, List, [], ◌∷◌, Option, Some, None, arith, refl, ap, sym, subst, ◌∙◌, length, position}
use Rattle.std.specs.Prelude.{replicate}
use Rattle.std.proofs.lemmas.Bool.Decides.{nat_tests}
use Rattle.std.proofs.lemmas.List.{length-append}
use Rattle.std.proofs.lemmas.List.Sums.{sum_by-cons}
use Rattle.osc_word.specs.JobList.{JobList, spare}
use Rattle.osc_frames.specs.Free.{free_count}
use Rattle.osc_frames.proofs.FreeCount.{free_count-set}
use Rattle.osc_sv39.specs.declared.entries.Mapping.{Mapping}
use Rattle.osc_sv39.specs.Walk.{piece, is_canonical, number_of}
use Rattle.osc_paging.specs.declared.Mapped.{Mapped}
use Rattle.osc_paging.specs.KeptTables.{KeptTables, levels_of, mapping_at, mapping_of, frame_of, root_of, need}
use Rattle.osc_paging.specs.TableChanges.{Changed, with_page, linked, link, link_all, leaf_put, map_page}
use Rattle.osc_paging.specs.TableLaws.{free_frames}
use Rattle.osc_paging.proofs.Kept.{position_passes}
use Rattle.osc_paging.proofs.Needed.{link_all-pages}
use Rattle.osc_paging.proofs.TableLawProofs.{mapping_takes_need, need_splits}
use Rattle.osc_tables.specs.Calls.{HasTaken, changed, left}
use Rattle.osc_tables.specs.Inside.{IsTop}
use Rattle.osc_shadow.specs.Mapping.{CanMap}
use Rattle.osc_shadow.proofs.LowPages.{is_low, low_mapping, range_large, some_of}

-- ---- jobs: two for each frame that a table takes, and one for the page
pub weight : Changed → ℕ
weight c = length c.jobs + 2 * free_frames c.free

link_weighs : (c : Changed) (l n : ℕ) (a b p : Option ℕ) → position (λ (x : Bool). x) c.free ≡ p → weight (linked l n a b p c) ≡ weight c
unfolding weight
link_weighs c l n (Some f) b p e = refl
link_weighs c l n None None p e = refl
link_weighs c l n None (Some b) None e = refl
link_weighs c l n None (Some b) (Some p) e =
    let count = free_count-set c.free p true false (position_passes c.free p e) in
    rw (length-append c.jobs) (omega arith)

link_all_weighs : (l n : ℕ) (c : Changed) → weight (link_all l n c) ≡ weight c
unfolding link_all
link_all_weighs zero n c = refl
link_all_weighs (suc l) n c = link_all_weighs l n (link l (piece (suc l) n) c) ∙ link_weighs c l (piece (suc l) n) _ _ _ refl

put_weighs : (n : ℕ) (m : Mapping) (x : Option ℕ) (c : Changed) → weight (leaf_put n m x c) ≤ weight c + 1
unfolding weight
put_weighs n m None c = omega arith
put_weighs n m (Some t) c = rw (length-append c.jobs) (omega arith)

pub map_weighs : (n : ℕ) (m : Mapping) (c : Changed) → weight (map_page n m c) ≤ weight c + 1
map_weighs n m c =
    let a = put_weighs n m (frame_of (link_all c.tables.top n c).tables.tables 0 (n / 512)) (link_all c.tables.top n c) in
    let b = link_all_weighs c.tables.top n c in
    omega arith

-- ---- pages: one more at most
length-with_page : (n : ℕ) (m : Mapping) (ms : List Mapped) → length (with_page n m ms) ≡ length ms + 1
length-with_page n m [] = refl
length-with_page n m (x ∷ ms) = grind (arith, nat_tests, length-with_page n m ms)

put_pages : (n : ℕ) (m : Mapping) (x : Option ℕ) (c : Changed) → length (leaf_put n m x c).tables.pages ≤ length c.tables.pages + 1
put_pages n m None c = omega arith
put_pages n m (Some t) c = omega (arith, length-with_page n m c.tables.pages)

pub map_pages_more : (n : ℕ) (m : Mapping) (c : Changed) → length (map_page n m c).tables.pages ≤ length c.tables.pages + 1
map_pages_more n m c =
    let a = put_pages n m (frame_of (link_all c.tables.top n c).tables.tables 0 (n / 512)) (link_all c.tables.top n c) in
    let b = ap length (link_all-pages c.tables.top n c) in
    omega arith

link_room : (c : Changed) (l n : ℕ) (a b p : Option ℕ) → (linked l n a b p c).tables.room ≡ c.tables.room
link_room c l n (Some f) b p = refl
link_room c l n None None p = refl
link_room c l n None (Some b) None = refl
link_room c l n None (Some b) (Some p) = refl

link_all_room : (l n : ℕ) (c : Changed) → (link_all l n c).tables.room ≡ c.tables.room
unfolding link_all
link_all_room zero n c = refl
link_all_room (suc l) n c = link_all_room l n (link l (piece (suc l) n) c) ∙ link_room c l (piece (suc l) n) _ _ _

put_room : (n : ℕ) (m : Mapping) (x : Option ℕ) (c : Changed) → (leaf_put n m x c).tables.room ≡ c.tables.room
put_room n m None c = refl
put_room n m (Some t) c = refl

pub map_room : (n : ℕ) (m : Mapping) (c : Changed) → (map_page n m c).tables.room ≡ c.tables.room
map_room n m c = put_room n m _ (link_all c.tables.top n c) ∙ link_all_room c.tables.top n c

-- ---- need: the first page needs no more than all
all_free : (n : ℕ) → free_frames (replicate n true) ≡ n
all_free zero = refl
all_free (suc n) = let h = sum_by-cons (λ (b : Bool). cond b 1 0) true (replicate n true) in let on = all_free n in omega arith

pub need_first : (t : KeptTables) (n more root : ℕ) → root_of t ≡ Some root → n + more < 512 ^ levels_of t → need t n 1 ≤ need t n (suc more)
need_first t n more root e s =
    let c : Changed = record { tables = t; free = replicate (need t n 1) true; jobs = [] } in
    let m : Mapping = record { frame = 0; bits = record { 0 = 0 } } in
    let low : need t n 1 ≤ free_frames (replicate (need t n 1) true) = rw (all_free (need t n 1)) (omega arith) in
    let split = need_splits n root more m (record { tables = t; free = replicate (need t n 1) true; jobs = [] }) e s low in
    omega arith

-- ---- what the map of the first page asks for
pub record MapsFirst (t : KeptTables) (free : List Bool) (jobs : JobList) (n : ℕ) : Type 0 where
  pub canonical : is_canonical (levels_of t) n ≡ true
  pub number : number_of (levels_of t) n ≡ n
  pub unmapped : mapping_of t n ≡ None
  pub left : 0 < left t
  pub need : need t (number_of (levels_of t) n) 1 ≤ free_count free
  pub spare : 7 ≤ spare jobs

pub maps_first : (t : KeptTables) (free : List Bool) (jobs : JobList) (n count : ℕ) → CanMap t free jobs n count → 0 < count → MapsFirst t free jobs n
maps_first t free jobs n count can l = go (count - 1) (omega arith)
  where
    go : (more : ℕ) → count ≡ suc more → MapsFirst t free jobs n
    go more e =
        let low = can.low in
        let small : n < 2 ^ 26 = omega arith in
        let page = is_low t.top n can.top small in
        let root = some_of (root_of t) can.opened in
        let large = range_large t.top can.top in
        let needs = need_first t n more root.0 root.1 (omega arith) in
        let all : need t n (suc more) ≤ free_count free = subst (λ k. need t n k ≤ free_count free) e can.need in
        let fits = can.left in
        let room = can.spare in
        record {
          canonical = page.0;
          number = page.1;
          unmapped = low_mapping t n can.top small ∙ can.unmapped n (omega arith) (omega arith);
          left = omega arith;
          need = rw page.1 (omega arith);
          spare = omega arith;
        }

-- ---- and what it leaves for the rest
pub can_map_rest : (t u : KeptTables) (free now : List Bool) (jobs after : JobList) (n count : ℕ) (m : Mapping) → CanMap t free jobs n count → 0 < count → changed u now after.pushed ≡ map_page n m (changed t free jobs.pushed) → HasTaken u now → after.room ≡ jobs.room → CanMap u now after (n + 1) (count - 1)
unfolding weight
can_map_rest t u free now jobs after n count m can l e taken room = go (count - 1) (omega arith)
  where
    go : (more : ℕ) → count ≡ suc more → CanMap u now after (n + 1) more
    go more f =
        let c : Changed = changed t free jobs.pushed in
        let low = can.low in
        let root = some_of (root_of t) can.opened in
        let large = range_large t.top can.top in
        let range : n + more < 512 ^ levels_of t = omega arith in
        let needs = need_first t n more root.0 root.1 range in
        let all : need t n (suc more) ≤ free_frames free = subst (λ k. need t n k ≤ free_frames free) f can.need in
        let one : need t n 1 ≤ free_frames free = omega arith in
        let maps = mapping_takes_need n root.0 m (changed t free jobs.pushed) root.1 (omega arith) one in
        let split = need_splits n root.0 more m (changed t free jobs.pushed) root.1 range one in
        let tables : u ≡ (map_page n m (changed t free jobs.pushed)).tables = ap (λ (d : Changed). d.tables) e in
        let free_is : now ≡ (map_page n m (changed t free jobs.pushed)).free = ap (λ (d : Changed). d.free) e in
        let pushed : after.pushed ≡ (map_page n m (changed t free jobs.pushed)).jobs = ap (λ (d : Changed). d.jobs) e in
        let weighs = map_weighs n m (changed t free jobs.pushed) in
        let lengths : length after.pushed + 2 * free_frames now ≡ weight (map_page n m (changed t free jobs.pushed)) = rw (pushed, free_is) refl in
        let more_pages = map_pages_more n m (changed t free jobs.pushed) in
        let pages : length u.pages ≡ length (map_page n m (changed t free jobs.pushed)).tables.pages = ap (λ (d : Changed). length d.tables.pages) e in
        let room_is : u.room ≡ t.room = ap (λ (d : Changed). d.tables.room) e ∙ map_room n m (changed t free jobs.pushed) in
        let top_is : u.top ≡ t.top = ap (λ (d : Changed). d.tables.top) e ∙ maps.top in
        let took = maps.taken in
        let free_left : free_frames now ≡ free_frames (map_page n m (changed t free jobs.pushed)).free = ap free_frames free_is in
        let need_is : need u (n + 1) more ≡ need (map_page n m (changed t free jobs.pushed)).tables (n + 1) more = ap (λ (d : Changed). need d.tables (n + 1) more) e in
        let fits = can.left in
        let spares = can.spare in
        record {
          top = subst IsTop (sym top_is) can.top;
          opened = let still : root_of u ≡ root_of t = ap (λ (d : Changed). root_of d.tables) e ∙ maps.root in rw still can.opened;
          low = omega arith;
          unmapped = λ q from to. ap (λ (d : Changed). mapping_at d.tables.pages q) e ∙ maps.pages q ∙ (let other : (n == q) ≡ false = grind (arith, nat_tests, from) in rw other (can.unmapped q (omega arith) (omega arith)));
          left = omega arith;
          taken = taken;
          need = omega arith;
          spare = omega arith;
        }
