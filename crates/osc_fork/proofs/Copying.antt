-- The frames that are to be copied, one after another, each into the least free one.
use Rattle.std.proofs.Common.{ℕ, zero, suc, ◌≡◌, ◌≢◌, ◌<◌, ◌≤◌, ◌+◌, ◌-◌, ◌==◌, Bool, true, false, cond, Some, List, [], ◌∷◌, ◌++◌, length, set, get_or, map, filter, position, arith, refl, sym, subst, ap, ◌∙◌, append_assoc, length-append}
use Rattle.std.specs.Prelude.{zip, slice_set}
use Rattle.std.specs.List.{range_with_len}
use Rattle.std.proofs.lemmas.Bool.Decides.{nat_tests}
use Rattle.std.proofs.lemmas.List as lists
use Rattle.std.proofs.lemmas.List.FromFn.{length-range_with_len, get_or-map-range_with_len}
use Rattle.std.proofs.lemmas.Grind.{same_number_lists}
use Rattle.osc_word.specs.JobList.{JobList, spare, with_job}
use Rattle.osc_frames.specs.Free.{free_count}
use Rattle.osc_slot.proofs.Backing.{free_count-take}
use Rattle.osc_paging.specs.KeptTables.{KeptTables}
use Rattle.osc_paging.proofs.Kept.{position_passes}
use Rattle.osc_space.specs.Fork.{copy_job, name_in, free_numbers, set_free}
use Rattle.osc_fork.specs.Names.{to_copy, is_marked, marked_frames, marked_copies}
use Rattle.osc_fork.proofs.FreeNumbers.{least_first}

-- the copies of the frames from one on
abbrev rest : (ℕ → Bool) → ℕ → ℕ → List Bool → List (ℕ × ℕ)
rest p i m free = zip (filter p (range_with_len i m)) (free_numbers free)

abbrev tos : List (ℕ × ℕ) → List ℕ
tos pairs = map (λ (c : ℕ × ℕ). c.1) pairs

rest_marked : (p : ℕ → Bool) (i m to : ℕ) (free : List Bool) → p i ≡ true → position (λ b. b) free ≡ Some to → rest p i (suc m) free ≡ (i, to) ∷ rest p (i + 1) m (slice_set free to false)
rest_marked p i m to free e f = rw (e, least_first free to f) refl

rest_other : (p : ℕ → Bool) (i m : ℕ) (free : List Bool) → p i ≡ false → rest p i (suc m) free ≡ rest p (i + 1) m free
rest_other p i m free e = rw e refl

name_below : (p : ℕ → Bool) (a n : ℕ) (q : List ℕ) (k : ℕ) → k < a → name_in (zip (filter p (range_with_len a n)) q) k ≡ k
name_below p a zero q k s = refl
name_below p a (suc n) q k s = go (p a) q (λ r. name_below p (a + 1) n r k (omega arith))
  where
    go : (b : Bool) (q : List ℕ) → ((r : List ℕ) → name_in (zip (filter p (range_with_len (a + 1) n)) r) k ≡ k) → name_in (zip (cond b (a ∷ filter p (range_with_len (a + 1) n)) (filter p (range_with_len (a + 1) n))) q) k ≡ k
    go false q later = later q
    go true [] later = refl
    go true (y ∷ q) later = let other : (a == k) ≡ false = grind (arith, nat_tests, s) in rw other (later q)

name_first : (i to : ℕ) (pairs : List (ℕ × ℕ)) → name_in ((i, to) ∷ pairs) i ≡ to
name_first i to pairs = let e : (i == i) ≡ true = grind (arith, nat_tests) in rw e refl

name_later : (i to k : ℕ) (pairs : List (ℕ × ℕ)) → i < k → name_in ((i, to) ∷ pairs) k ≡ name_in pairs k
name_later i to k pairs s = let e : (i == k) ≡ false = grind (arith, nat_tests, s) in rw e refl

-- the frames before this one are named, and copied where they are to be
pub record Copying (t : KeptTables) (i : ℕ) (names0 names : List ℕ) (free0 free : List Bool) (jobs0 jobs : JobList) : Type 0 where
  pub size : length names ≡ length names0
  pub ahead : (k : ℕ) → i ≤ k → get_or names k 0 ≡ get_or names0 k 0
  pub done : (k : ℕ) → k < i → get_or names k 0 ≡ name_in (marked_copies names0 free0) k
  pub named : (k : ℕ) → i ≤ k → name_in (marked_copies names0 free0) k ≡ name_in (rest (is_marked names0) i (length names0 - i) free) k
  pub taken : set_free false (tos (rest (is_marked names0) i (length names0 - i) free)) free ≡ set_free false (tos (marked_copies names0 free0)) free0
  pub pushed : jobs.pushed ++ map (copy_job t) (rest (is_marked names0) i (length names0 - i) free) ≡ jobs0.pushed ++ map (copy_job t) (marked_copies names0 free0)
  pub room : jobs.room ≡ jobs0.room
  pub enough : length (filter (is_marked names0) (range_with_len i (length names0 - i))) ≤ free_count free
  pub has_spare : length names0 - i ≤ spare jobs

pub copying_none : (t : KeptTables) (names : List ℕ) (free : List Bool) (jobs : JobList) → length (marked_frames names) ≤ free_count free → length names ≤ spare jobs → Copying t 0 names names free free jobs jobs
copying_none t names free jobs enough has_spare =
    let z : length names - 0 ≡ length names = omega arith in
    record {
      size = refl;
      ahead = λ k s. refl;
      done = λ k s. absurd (omega arith);
      named = λ k s. rw z refl;
      taken = rw z refl;
      pushed = rw z refl;
      room = refl;
      enough = rw z enough;
      has_spare = omega arith;
    }

pub copying_one : (t : KeptTables) (i to : ℕ) (names0 names : List ℕ) (free0 free : List Bool) (jobs0 jobs : JobList) → i < length names → get_or names i 0 ≡ to_copy → position (λ b. b) free ≡ Some to
    → Copying t i names0 names free0 free jobs0 jobs → Copying t (i + 1) names0 (set names i to) free0 (slice_set free to false) jobs0 (with_job jobs (copy_job t (i, to)))
copying_one t i to names0 names free0 free jobs0 jobs s e f c =
    let size = c.size in
    let left : length names0 - i ≡ suc (length names0 - (i + 1)) = omega (arith, size, s) in
    let before = c.ahead i (omega arith) in
    let marked : is_marked names0 i ≡ true = (let h : get_or names0 i 0 ≡ to_copy = sym before ∙ e in grind (arith, nat_tests, h)) in
    let m = length names0 - (i + 1) in
    let first = rest_marked (is_marked names0) i m to free marked f in
    let all = marked_copies names0 free0 in
    let now : rest (is_marked names0) i (length names0 - i) free ≡ (i, to) ∷ rest (is_marked names0) (i + 1) m (slice_set free to false) = ap (λ n. rest (is_marked names0) i n free) left ∙ first in
    let count = free_count-take free to (position_passes free to f) in
    let enough = c.enough in
    let few : length (filter (is_marked names0) (range_with_len i (length names0 - i))) ≡ suc (length (filter (is_marked names0) (range_with_len (i + 1) m))) = rw (left, marked) refl in
    let has_spare = c.has_spare in
    let grown = length-append jobs.pushed (copy_job t (i, to) ∷ []) in
    record {
      size = lists.length-set names i to ∙ size;
      ahead = λ k l. lists.get_or-set_other names i k to 0 (omega (arith, l)) ∙ c.ahead k (omega (arith, l));
      done = λ k l. before_or_here k (k == i) refl l (c.done k) (c.named i (omega arith) ∙ ap (λ ps. name_in ps i) now ∙ name_first i to _);
      named = λ k l. c.named k (omega (arith, l)) ∙ ap (λ ps. name_in ps k) now ∙ name_later i to k _ (omega (arith, l));
      taken = sym (ap (λ ps. set_free false (tos ps) free) now) ∙ c.taken;
      pushed = append_assoc jobs.pushed (copy_job t (i, to) ∷ []) _ ∙ sym (ap (λ ps. jobs.pushed ++ map (copy_job t) ps) now) ∙ c.pushed;
      room = c.room;
      enough = omega (arith, count, enough, few);
      has_spare = omega (arith, has_spare, grown, left);
    }
  where
    before_or_here : (k : ℕ) (b : Bool) → (k == i) ≡ b → k < i + 1 → (k < i → get_or names k 0 ≡ name_in (marked_copies names0 free0) k) → name_in (marked_copies names0 free0) i ≡ to → get_or (set names i to) k 0 ≡ name_in (marked_copies names0 free0) k
    before_or_here k true g l d h =
        let is : i ≡ k = grind (arith, nat_tests, g) in
        subst (λ n. get_or (set names i to) n 0 ≡ name_in (marked_copies names0 free0) n) is (lists.get_or-set_same names i to 0 s ∙ sym h)
    before_or_here k false g l d h =
        let below : k < i = grind (arith, nat_tests, g, l) in
        lists.get_or-set_other names i k to 0 (omega (arith, below)) ∙ d below

pub copying_other : (t : KeptTables) (i : ℕ) (names0 names : List ℕ) (free0 free : List Bool) (jobs0 jobs : JobList) → i < length names → get_or names i 0 ≢ to_copy → get_or names0 i 0 ≡ i
    → Copying t i names0 names free0 free jobs0 jobs → Copying t (i + 1) names0 names free0 free jobs0 jobs
copying_other t i names0 names free0 free jobs0 jobs s e own c =
    let size = c.size in
    let left : length names0 - i ≡ suc (length names0 - (i + 1)) = omega (arith, size, s) in
    let before = c.ahead i (omega arith) in
    let marked : is_marked names0 i ≡ false = unmarked (is_marked names0 i) refl before in
    let m = length names0 - (i + 1) in
    let now : rest (is_marked names0) i (length names0 - i) free ≡ rest (is_marked names0) (i + 1) m free = ap (λ n. rest (is_marked names0) i n free) left ∙ rest_other (is_marked names0) i m free marked in
    let enough = c.enough in
    let few : length (filter (is_marked names0) (range_with_len i (length names0 - i))) ≡ length (filter (is_marked names0) (range_with_len (i + 1) m)) = rw (left, marked) refl in
    let has_spare = c.has_spare in
    record {
      size = size;
      ahead = λ k l. c.ahead k (omega (arith, l));
      done = λ k l. before_or_here k (k == i) refl l (c.done k) (before ∙ own ∙ sym (c.named i (omega arith) ∙ ap (λ ps. name_in ps i) now ∙ name_below (is_marked names0) (i + 1) m (free_numbers free) i (omega arith)));
      named = λ k l. c.named k (omega (arith, l)) ∙ ap (λ ps. name_in ps k) now;
      taken = sym (ap (λ ps. set_free false (tos ps) free) now) ∙ c.taken;
      pushed = sym (ap (λ ps. jobs.pushed ++ map (copy_job t) ps) now) ∙ c.pushed;
      room = c.room;
      enough = omega (arith, enough, few);
      has_spare = omega (arith, has_spare, left);
    }
  where
    unmarked : (b : Bool) → is_marked names0 i ≡ b → get_or names i 0 ≡ get_or names0 i 0 → is_marked names0 i ≡ false
    unmarked false g h = g
    unmarked true g h = absurd (e (h ∙ (let k : get_or names0 i 0 ≡ to_copy = grind (arith, nat_tests, g) in k)))

    before_or_here : (k : ℕ) (b : Bool) → (k == i) ≡ b → k < i + 1 → (k < i → get_or names k 0 ≡ name_in (marked_copies names0 free0) k) → get_or names i 0 ≡ name_in (marked_copies names0 free0) i → get_or names k 0 ≡ name_in (marked_copies names0 free0) k
    before_or_here k true g l d h = let is : i ≡ k = grind (arith, nat_tests, g) in subst (λ n. get_or names n 0 ≡ name_in (marked_copies names0 free0) n) is h
    before_or_here k false g l d h = d (grind (arith, nat_tests, g, l))

-- ---- the end
pub record Copied (t : KeptTables) (names0 names : List ℕ) (free0 free : List Bool) (jobs0 jobs : JobList) : Type 0 where
  pub names_are : names ≡ map (name_in (marked_copies names0 free0)) (range_with_len 0 (length names0))
  pub free_is : free ≡ set_free false (tos (marked_copies names0 free0)) free0
  pub pushed : jobs.pushed ≡ jobs0.pushed ++ map (copy_job t) (marked_copies names0 free0)

pub all_copied : (t : KeptTables) (i : ℕ) (names0 names : List ℕ) (free0 free : List Bool) (jobs0 jobs : JobList) → length names ≤ i → Copying t i names0 names free0 free jobs0 jobs → Copied t names0 names free0 free jobs0 jobs
all_copied t i names0 names free0 free jobs0 jobs s c =
    let size = c.size in
    let none : length names0 - i ≡ 0 = omega (arith, size, s) in
    let all = marked_copies names0 free0 in
    let count = lists.length-map (range_with_len 0 (length names0)) (name_in all) ∙ length-range_with_len 0 (length names0) in
    record {
      names_are = same_number_lists names _ (size ∙ sym count)
          (λ k l. c.done k (omega (arith, l, s)) ∙ sym (get_or-map-range_with_len (name_in all) 0 (length names0) k k 0 (omega (arith, l, size)) (omega arith)));
      free_is = sym (ap (λ n. set_free false (tos (rest (is_marked names0) i n free)) free) none) ∙ c.taken;
      pushed = sym (lists.append-nil jobs.pushed) ∙ sym (ap (λ n. jobs.pushed ++ map (copy_job t) (rest (is_marked names0) i n free)) none) ∙ c.pushed;
    }
