-- The first of the moves that are left of a job, and what is left once an action of it is done.
use Rattle.std.proofs.Common.{ℕ, zero, suc, ◌+◌, ◌≡◌, ◌<◌, ◌≤◌, true, false, ◌&&◌, Option, Some, None, is_none, List, [], ◌∷◌, length, drop, map, arith, refl, ap, sym, ◌∙◌}
use Rattle.std.specs.List.{range_with_len}
use Rattle.std.proofs.lemmas.List.{drop_more, drop_all}
use Rattle.std.proofs.lemmas.List.FromFn.{length-map-range_with_len, get_or-map-range_with_len}
use Rattle.osc_word.specs.declared.job_list.WordAt.{WordAt}
use Rattle.osc_word.specs.declared.job_list.Job.{Job}
use Rattle.osc_word.specs.declared.job_list.Job.TheVariants.{PutWord, ZeroWords, CopyWords, CopyPart, CopyTable, ClearBox, Tell, ToOut}
use Rattle.osc_calls.specs.Moves.{Move, Put, Copy, after, moves_of}
use Rattle.osc_machine.specs.declared.HartAsk.TheVariants as does
use Rattle.osc_machine.specs.Turns.{StillAt, AllDone, rest_of, moves_left, copy_ask, move_ask}
use Rattle.osc_space.specs.WordLaws.{StaysInFrame}
use Rattle.osc_moves.specs.Standing.{IsEntryIn, is_copy, box_of, box_changed}

-- one of a row of moves, and the others
pub row : (f : ℕ → Move) (count i : ℕ) → i < count → drop i (map f (range_with_len 0 count)) ≡ f i ∷ drop (i + 1) (map f (range_with_len 0 count))
row f count i there =
    let long = length-map-range_with_len f 0 count in
    drop_more (map f (range_with_len 0 count)) i (f i) (omega (arith, there, long))
    ∙ ap (λ m. m ∷ drop (i + 1) (map f (range_with_len 0 count))) (get_or-map-range_with_len f 0 count i i (f i) there (omega arith))

pub count_row : (f : ℕ → Move) (count : ℕ) → count ≡ length (map f (range_with_len 0 count))
count_row f count = sym (length-map-range_with_len f 0 count)

-- ---- runs of words
pub zeros_fit : (job : Job) (at : WordAt) (count done : ℕ) → job ≡ ZeroWords at count → StaysInFrame job → done < length (moves_of (λ a b. 0) job) → at.index + done < 65536
zeros_fit job at count done is stays there =
    let s : at.index + count ≤ 512 = rw is at stays in
    let long = length-map-range_with_len (λ k. Put (after at k) 0) 0 count in
    let t : done < length (map (λ k. Put (after at k) 0) (range_with_len 0 count)) = rw is at there in
    omega (arith, s, long, t)

pub copies_fit : (job : Job) (from to : WordAt) (count done : ℕ) → job ≡ CopyWords from to count → StaysInFrame job → done < length (moves_of (λ a b. 0) job)
    → (from.index + done < 65536) × (to.index + done < 65536)
copies_fit job from to count done is stays there =
    let s : (from.index + count ≤ 512) × (to.index + count ≤ 512) = rw is at stays in
    let long = length-map-range_with_len (λ k. Copy (after from k) (after to k)) 0 count in
    let t : done < length (map (λ k. Copy (after from k) (after to k)) (range_with_len 0 count)) = rw is at there in
    (omega (arith, s.0, long, t), omega (arith, s.1, long, t))

-- what their moves ask for
pub zeros_ask : (entries : ℕ → ℕ → ℕ) (job : Job) (at : WordAt) (count done : ℕ) (read : Option ℕ) → job ≡ ZeroWords at count → done < length (moves_of entries job)
    → does.Store (after at done) 0 ≡ move_ask (drop done (moves_of entries job)) read
zeros_ask entries job at count done read is there =
    let long = length-map-range_with_len (λ k. Put (after at k) 0) 0 count in
    let t : done < length (map (λ k. Put (after at k) 0) (range_with_len 0 count)) = rw is at there in
    rw (is, row (λ k. Put (after at k) 0) count done (omega (arith, long, t))) refl

pub copies_ask : (entries : ℕ → ℕ → ℕ) (job : Job) (from to : WordAt) (count done : ℕ) (read : Option ℕ) → job ≡ CopyWords from to count → done < length (moves_of entries job)
    → copy_ask (after from done) (after to done) read ≡ move_ask (drop done (moves_of entries job)) read
copies_ask entries job from to count done read is there =
    let long = length-map-range_with_len (λ k. Copy (after from k) (after to k)) 0 count in
    let t : done < length (map (λ k. Copy (after from k) (after to k)) (range_with_len 0 count)) = rw is at there in
    rw (is, row (λ k. Copy (after from k) (after to k)) count done (omega (arith, long, t))) refl

pub table_asks : (entries : ℕ → ℕ → ℕ) (job : Job) (from to done word : ℕ) (read : Option ℕ) → job ≡ CopyTable from to → IsEntryIn entries job done word
    → done < length (moves_of entries job)
    → does.Store (record { frame = to; index = done }) word ≡ move_ask (drop done (moves_of entries job)) read
table_asks entries job from to done word read is entry there =
    let f : ℕ → Move = λ k. Put (record { frame = to; index = k }) (entries to k) in
    let long = length-map-range_with_len f 0 512 in
    let t : done < length (map f (range_with_len 0 512)) = rw is at there in
    let below : done < 512 = omega (arith, long, t) in
    let e : done < 512 → word ≡ entries to done = rw is at entry in
    rw (is, row f 512 done below, e below) refl

-- ---- none is left
pub none_asks : (ms : List Move) (done : ℕ) (read : Option ℕ) → length ms ≤ done → does.Rest ≡ move_ask (drop done ms) read
none_asks ms done read past = rw (drop_all done ms past) refl

pub none_left : (ms : List Move) (done : ℕ) (read : Option ℕ) (word : ℕ) → length ms ≤ done → AllDone ≡ moves_left (drop done ms) read word
none_left ms done read word past = rw (drop_all done ms past) refl

-- ---- an action is done
-- the load of a copy
loaded : (entries : ℕ → ℕ → ℕ) (job : Job) (done word : ℕ) → is_copy job ≡ true → done < length (moves_of entries job)
    → StillAt (drop done (moves_of entries job)) (Some word) ≡ moves_left (drop done (moves_of entries job)) None word
loaded entries (CopyWords from to count) done word copies there =
    let f : ℕ → Move = λ k. Copy (after from k) (after to k) in
    let long = length-map-range_with_len f 0 count in
    rw (row f count done (omega (arith, there, long))) refl
loaded entries (CopyPart from to bytes) zero word copies there = refl
loaded entries (CopyPart from to bytes) (suc done) word copies there = absurd (omega (arith, there))
loaded entries (PutWord at value) done word copies there = absurd (let z : ⊥ = grind (arith, copies) in z)
loaded entries (ZeroWords at count) done word copies there = absurd (let z : ⊥ = grind (arith, copies) in z)
loaded entries (CopyTable from to) done word copies there = absurd (let z : ⊥ = grind (arith, copies) in z)
loaded entries (ClearBox hart) done word copies there = absurd (let z : ⊥ = grind (arith, copies) in z)
loaded entries (Tell hart) done word copies there = absurd (let z : ⊥ = grind (arith, copies) in z)
loaded entries (ToOut at first count) done word copies there = absurd (let z : ⊥ = grind (arith, copies) in z)

pub copy_loaded : (entries : ℕ → ℕ → ℕ) (job : Job) (done : ℕ) (read : Option ℕ) (word : ℕ) → is_none read && is_copy job ≡ true → done < length (moves_of entries job)
    → StillAt (drop done (moves_of entries job)) (Some word) ≡ moves_left (drop done (moves_of entries job)) read word
copy_loaded entries job done None word copies there = loaded entries job done word copies there
copy_loaded entries job done (Some read) word copies there = absurd (let z : ⊥ = grind (arith, copies) in z)

-- any other action
passed : (entries : ℕ → ℕ → ℕ) (job : Job) (done : ℕ) (read : Option ℕ) (word : ℕ) → is_none read && is_copy job ≡ false → done < length (moves_of entries job)
    → rest_of (drop (done + 1) (moves_of entries job)) ≡ moves_left (drop done (moves_of entries job)) read word
passed entries (PutWord at value) zero read word other there = refl
passed entries (PutWord at value) (suc done) read word other there = absurd (omega (arith, there))
passed entries (ZeroWords at count) done read word other there =
    let f : ℕ → Move = λ k. Put (after at k) 0 in
    let long = length-map-range_with_len f 0 count in
    rw (row f count done (omega (arith, there, long))) refl
passed entries (CopyWords from to count) done None word other there = absurd (let z : ⊥ = grind (arith, other) in z)
passed entries (CopyWords from to count) done (Some read) word other there =
    let f : ℕ → Move = λ k. Copy (after from k) (after to k) in
    let long = length-map-range_with_len f 0 count in
    rw (row f count done (omega (arith, there, long))) refl
passed entries (CopyPart from to bytes) zero None word other there = absurd (let z : ⊥ = grind (arith, other) in z)
passed entries (CopyPart from to bytes) zero (Some read) word other there = refl
passed entries (CopyPart from to bytes) (suc done) read word other there = absurd (omega (arith, there))
passed entries (CopyTable from to) done read word other there =
    let f : ℕ → Move = λ k. Put (record { frame = to; index = k }) (entries to k) in
    let long = length-map-range_with_len f 0 512 in
    rw (row f 512 done (omega (arith, there, long))) refl
passed entries (ClearBox hart) zero read word other there = refl
passed entries (ClearBox hart) (suc done) read word other there = absurd (omega (arith, there))
passed entries (Tell hart) zero read word other there = refl
passed entries (Tell hart) (suc done) read word other there = absurd (omega (arith, there))
passed entries (ToOut at first count) zero read word other there = refl
passed entries (ToOut at first count) (suc done) read word other there = absurd (omega (arith, there))

rests : (ms : List Move) (done : ℕ) → done < length ms → StillAt (drop done ms) None ≡ rest_of (drop done ms)
rests [] done there = absurd (omega (arith, there))
rests (m ∷ ms) zero there = refl
rests (m ∷ ms) (suc done) there = rests ms done (omega (arith, there))

-- of the last move
pub last : (entries : ℕ → ℕ → ℕ) (job : Job) (done : ℕ) (read : Option ℕ) (word : ℕ) → is_none read && is_copy job ≡ false → length (moves_of entries job) ≡ done + 1
    → AllDone ≡ moves_left (drop done (moves_of entries job)) read word
last entries job done read word other long =
    ap rest_of (sym (drop_all (done + 1) (moves_of entries job) (omega (arith, long))))
    ∙ passed entries job done read word other (omega (arith, long))

-- of a move after which there is another
pub more : (entries : ℕ → ℕ → ℕ) (job : Job) (done : ℕ) (read : Option ℕ) (word : ℕ) → is_none read && is_copy job ≡ false → done + 1 < length (moves_of entries job)
    → StillAt (drop (done + 1) (moves_of entries job)) None ≡ moves_left (drop done (moves_of entries job)) read word
more entries job done read word other there =
    rests (moves_of entries job) (done + 1) there ∙ passed entries job done read word other (omega (arith, there))

-- ---- boxes
silent : (f : ℕ → Move) (count from done : ℕ) → ((k : ℕ) (ms : List Move) → box_changed (f k ∷ ms) ≡ None) → None ≡ box_changed (drop done (map f (range_with_len from count)))
silent f zero from zero none = refl
silent f zero from (suc done) none = refl
silent f (suc count) from zero none = sym (none from _)
silent f (suc count) from (suc done) none = silent f count (from + 1) done none

pub boxes : (entries : ℕ → ℕ → ℕ) (job : Job) → box_of job ≡ box_changed (moves_of entries job)
boxes entries (PutWord at value) = refl
boxes entries (ZeroWords at count) = silent (λ k. Put (after at k) 0) count 0 0 (λ k ms. refl)
boxes entries (CopyWords from to count) = silent (λ k. Copy (after from k) (after to k)) count 0 0 (λ k ms. refl)
boxes entries (CopyPart from to bytes) = refl
boxes entries (CopyTable from to) = silent (λ (k : ℕ). Put (record { frame = to; index = k }) (entries to k)) 512 0 0 (λ k ms. refl)
boxes entries (ClearBox hart) = refl
boxes entries (Tell hart) = refl
boxes entries (ToOut at first count) = refl

pub no_box : (entries : ℕ → ℕ → ℕ) (job : Job) (done : ℕ) → None ≡ box_changed (drop (suc done) (moves_of entries job))
no_box entries (PutWord at value) done = rw (drop_all (suc done) (moves_of entries (PutWord at value)) (omega arith)) refl
no_box entries (ZeroWords at count) done = silent (λ k. Put (after at k) 0) count 0 (suc done) (λ k ms. refl)
no_box entries (CopyWords from to count) done = silent (λ k. Copy (after from k) (after to k)) count 0 (suc done) (λ k ms. refl)
no_box entries (CopyPart from to bytes) done = rw (drop_all (suc done) (moves_of entries (CopyPart from to bytes)) (omega arith)) refl
no_box entries (CopyTable from to) done = silent (λ (k : ℕ). Put (record { frame = to; index = k }) (entries to k)) 512 0 (suc done) (λ k ms. refl)
no_box entries (ClearBox hart) done = rw (drop_all (suc done) (moves_of entries (ClearBox hart)) (omega arith)) refl
no_box entries (Tell hart) done = rw (drop_all (suc done) (moves_of entries (Tell hart)) (omega arith)) refl
no_box entries (ToOut at first count) done = rw (drop_all (suc done) (moves_of entries (ToOut at first count)) (omega arith)) refl

pub past_first : (entries : ℕ → ℕ → ℕ) (job : Job) (done : ℕ) → 0 < done → None ≡ box_changed (drop done (moves_of entries job))
past_first entries job zero some = absurd (omega (arith, some))
past_first entries job (suc done) some = no_box entries job done
