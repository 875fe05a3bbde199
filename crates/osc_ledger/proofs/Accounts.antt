-- What a call's return makes of an account, and lists of blocks and objects that a call changes.
use Rattle.std.proofs.Common.{ℕ, zero, suc, ◌+◌, ◌≡◌, ◌<◌, ◌==◌, ◌&&◌, ◌||◌, Bool, true, false, not, cond, Option, Some, None, is_some, List, [], ◌∷◌, ◌++◌, length, map, filter, find, option_map, slice_get, arith, refl, sym, ap, ◌∙◌}
use Rattle.std.specs.List.{list_any, cons_option}
use Rattle.std.proofs.lemmas.Bool.Decides.{nat_tests}
use Rattle.osc_word.specs.AddressMap.{first_shadow_page}
use Rattle.osc_class.specs.declared.Room.{Room}
use Rattle.osc_class.specs.declared.Room.TheVariants.{Small, Pages}
use Rattle.osc_slot.specs.declared.Block.{Block}
use Rattle.osc_slot.specs.Ordered.{insert_by}
use Rattle.osc_slot.specs.Slots.{is_room, is_block, is_held}
use Rattle.osc_slot.specs.Heap.{without_block, block_of_user, release}
use Rattle.osc_space.specs.declared.ObjectFact.{ObjectFact}
use Rattle.osc_space.specs.Objects.{fact, facts, grant, granted_at, kill, next_page}
use Rattle.osc_space.specs.Header.{block_of}
use Rattle.osc_space.specs.Space.{Draft, Closing, Keeps, GivesBack}
use Rattle.osc_space.specs.Finish.{give_blocks, finished}
use Rattle.osc_space.proofs.ObjectLawProofs.{mark-kill}
use Rattle.osc_calls.specs.Kernel.{Process}
use Rattle.osc_machine.specs.Replay.{Ledger}
use Rattle.osc_machine.specs.Agreements.{Account, account_kept}

-- ---- blocks that are given back one by one
abbrev pub released : List Block → List Block → List Block
released [] held = held
released (block ∷ blocks) held = released blocks (without_block block held)

room-way : (a b : Room) → is_room a b ≡ is_room b a
room-way (Small a) (Small b) = grind (arith, nat_tests)
room-way (Small a) (Pages b) = refl
room-way (Pages a) (Small b) = refl
room-way (Pages a) (Pages b) = grind (arith, nat_tests)

block-way : (a b : Block) → is_block a b ≡ is_block b a
block-way a b = let r = room-way a.room b.room in grind (arith, nat_tests, r)

fuse : (p q r : Block → Bool) → ((b : Block) → r b ≡ (p b && q b)) → (ys : List Block) → filter q (filter p ys) ≡ filter r ys
fuse p q r h [] = refl
fuse p q r h (y ∷ ys) = go (p y) (q y) (r y) refl (h y) (fuse p q r h ys)
  where
    go : (a b c : Bool) → q y ≡ b → c ≡ (a && b) → filter q (filter p ys) ≡ filter r ys
        → filter q (cond a (y ∷ filter p ys) (filter p ys)) ≡ cond c (y ∷ filter r ys) (filter r ys)
    go true true true e f rest = rw e (ap (λ zs. y ∷ zs) rest)
    go true true false e f rest = absurd (let z : ⊥ = grind (arith, f) in z)
    go true false true e f rest = absurd (let z : ⊥ = grind (arith, f) in z)
    go true false false e f rest = rw e rest
    go false b true e f rest = absurd (let z : ⊥ = grind (arith, f) in z)
    go false b false e f rest = rest

all-pass : (held : List Block) → filter (λ b. not (is_held [] b)) held ≡ held
all-pass [] = refl
all-pass (y ∷ ys) = ap (λ zs. y ∷ zs) (all-pass ys)

pub released-is : (blocks held : List Block) → released blocks held ≡ filter (λ b. not (is_held blocks b)) held
released-is [] held = sym (all-pass held)
released-is (x ∷ blocks) held =
    released-is blocks (without_block x held)
    ∙ fuse (λ b. not (is_block x b)) (λ b. not (is_held blocks b)) (λ b. not (is_held (x ∷ blocks) b)) (λ b. both (is_block x b) (is_block b x) (is_held blocks b) (block-way x b)) held
  where
    both : (u v w : Bool) → u ≡ v → not (v || w) ≡ (not u && not w)
    both u v w e = grind (arith, nat_tests, e)

pub released-append : (xs ys held : List Block) → released (xs ++ ys) held ≡ released ys (released xs held)
released-append [] ys held = refl
released-append (x ∷ xs) ys held = released-append xs ys (without_block x held)

-- ---- a ledger whose account is what a process keeps
abbrev pub as_kept : Process → Ledger → Ledger
as_kept p l = record l { objects = p.space.objects; waiting = p.space.waiting; held = p.space.heap.held; over = is_some p.status }

-- ---- the account once a call has returned
abbrev pub given_back : Closing → Account → Account
given_back Keeps a = a
given_back (GivesBack blocks) a = record a { waiting = []; held = released blocks a.held }

gave-objects : (blocks : List Block) (d : Draft) → (give_blocks blocks d).space.objects ≡ d.space.objects
gave-objects [] d = refl
gave-objects (block ∷ blocks) d = gave-objects blocks _

gave-held : (blocks : List Block) (d : Draft) → (give_blocks blocks d).space.heap.held ≡ released blocks d.space.heap.held
unfolding release
gave-held [] d = refl
gave-held (block ∷ blocks) d = gave-held blocks _

pub same_account : (a b : List ObjectFact) (c d : List Block) (waiting : List ℕ) (over : Bool) → a ≡ b → c ≡ d
    → (let x : Account = record { objects = a; waiting = waiting; held = c; over = over } in x) ≡ record { objects = b; waiting = waiting; held = d; over = over }
same_account a b c d waiting over e f = λ i. record { objects = e i; waiting = waiting; held = f i; over = over }

pub finished-account : (closing : Closing) (d : Draft) (p : Process)
    → account_kept (record p { space = (finished closing d).space }) ≡ given_back closing (account_kept (record p { space = d.space }))
unfolding finished
finished-account Keeps d p = refl
finished-account (GivesBack blocks) d p =
    same_account (give_blocks blocks d).space.objects d.space.objects (give_blocks blocks d).space.heap.held (released blocks d.space.heap.held) [] _
    (gave-objects blocks d) (gave-held blocks d)

-- ---- objects
kill-block : (object call : ℕ) (xs : List ObjectFact) (i : ℕ) → option_map block_of (fact (kill object call xs) i) ≡ option_map block_of (fact xs i)
kill-block object call [] i = refl
kill-block zero call (x ∷ xs) zero = refl
kill-block zero call (x ∷ xs) (suc i) = refl
kill-block (suc object) call (x ∷ xs) zero = refl
kill-block (suc object) call (x ∷ xs) (suc i) = kill-block object call xs i

one-block : (o p : Option ObjectFact) (xs ys : List ObjectFact) → option_map block_of o ≡ option_map block_of p → map block_of xs ≡ map block_of ys
    → map block_of (cons_option o xs) ≡ map block_of (cons_option p ys)
one-block None None xs ys e f = f
one-block None (Some p) xs ys e f = absurd (let z : ⊥ = grind (arith, e) in z)
one-block (Some o) None xs ys e f = absurd (let z : ⊥ = grind (arith, e) in z)
one-block (Some o) (Some p) xs ys e f = let s : block_of o ≡ block_of p = some (block_of o) (block_of p) e in λ i. s i ∷ f i
  where
    some : (a b : Block) → Some a ≡ Some b → a ≡ b
    some a b e = cc

pub kill-blocks : (object call : ℕ) (xs : List ObjectFact) (ws : List ℕ) → map block_of (facts (kill object call xs) ws) ≡ map block_of (facts xs ws)
kill-blocks object call xs [] = refl
kill-blocks object call xs (w ∷ ws) =
    one-block (fact (kill object call xs) w) (fact xs w) (facts (kill object call xs) ws) (facts xs ws) (kill-block object call xs w) (kill-blocks object call xs ws)

get-more : {X : Type 0} (xs : List X) (x : X) (i : ℕ) → i < length xs → slice_get (xs ++ x ∷ []) i ≡ slice_get xs i
get-more [] x i l = absurd (let z : ⊥ = omega (arith, l) in z)
get-more (y ∷ xs) x zero l = refl
get-more (y ∷ xs) x (suc i) l = get-more xs x i (omega (arith, l))

pub more-facts : (xs : List ObjectFact) (more : ObjectFact) (ws : List ℕ) → ((w : ℕ) → list_any (λ x. x == w) ws ≡ true → w < length xs)
    → facts (xs ++ more ∷ []) ws ≡ facts xs ws
more-facts xs more [] known = refl
more-facts xs more (w ∷ ws) known =
    ap (λ o. cons_option o (facts (xs ++ more ∷ []) ws)) (get-more xs more w (known w (grind (arith, nat_tests))))
    ∙ ap (cons_option (fact xs w)) (more-facts xs more ws (λ v e. known v (let a : ((w == v) || list_any (λ x. x == v) ws) ≡ true = grind (arith, nat_tests, e) in a)))

kill-append : (object call : ℕ) (xs : List ObjectFact) (more : ObjectFact) → object < length xs → kill object call (xs ++ more ∷ []) ≡ kill object call xs ++ more ∷ []
kill-append object call [] more l = absurd (let z : ⊥ = omega (arith, l) in z)
kill-append zero call (x ∷ xs) more l = refl
kill-append (suc object) call (x ∷ xs) more l = ap (λ zs. x ∷ zs) (kill-append object call xs more (omega (arith, l)))

pub kill-grant : (object call pages size canon : ℕ) (xs : List ObjectFact) → object < length xs
    → kill object call (grant pages size canon xs) ≡ grant pages size canon (kill object call xs)
kill-grant object call pages size canon xs l =
    kill-append object call xs (granted_at (next_page xs) pages size canon) l
    ∙ ap (λ m. kill object call xs ++ granted_at (first_shadow_page + m) pages size canon ∷ []) (sym (mark-kill object call xs))

pub length-kill : (object call : ℕ) (xs : List ObjectFact) → length (kill object call xs) ≡ length xs
length-kill object call [] = refl
length-kill zero call (x ∷ xs) = refl
length-kill (suc object) call (x ∷ xs) = let e = length-kill object call xs in omega (arith, e)

-- ---- the block at a pointer
pub none-at-zero : (held : List Block) → block_of_user held 0 ≡ None
none-at-zero [] = refl
none-at-zero (y ∷ ys) = let e : (y.start + 16 == 0) ≡ false = grind (arith, nat_tests) in rw e (none-at-zero ys)

pub at-pointer : (held : List Block) (user : ℕ) (old : Block) → block_of_user held user ≡ Some old → old.start + 16 ≡ user
at-pointer [] user old e = absurd (let z : ⊥ = grind (arith, e) in z)
at-pointer (y ∷ ys) user old e = go (y.start + 16 == user) refl e (at-pointer ys user old)
  where
    go : (b : Bool) → (y.start + 16 == user) ≡ b → cond b (Some y) (block_of_user ys user) ≡ Some old
        → (block_of_user ys user ≡ Some old → old.start + 16 ≡ user) → old.start + 16 ≡ user
    go true t e later = let same : y ≡ old = cc in ap (λ (b : Block). b.start + 16) (sym same) ∙ (let z : y.start + 16 ≡ user = grind (arith, nat_tests, t) in z)
    go false t e later = later e

-- a block whose start no held one has is not at the pointer of a held one
pub absent-pointer : (held : List Block) (user start : ℕ) (old : Block) → block_of_user held user ≡ Some old → list_any (λ (b : Block). b.start == start) held ≡ false
    → (start + 16 == user) ≡ false
absent-pointer [] user start old e n = absurd (let z : ⊥ = grind (arith, e) in z)
absent-pointer (y ∷ ys) user start old e n =
    go (y.start + 16 == user) refl e (λ f. absent-pointer ys user start old f (let m : list_any (λ (b : Block). b.start == start) ys ≡ false = grind (arith, nat_tests, n) in m))
  where
    go : (b : Bool) → (y.start + 16 == user) ≡ b → cond b (Some y) (block_of_user ys user) ≡ Some old
        → (block_of_user ys user ≡ Some old → (start + 16 == user) ≡ false) → (start + 16 == user) ≡ false
    go true t e later = let here : (y.start == start) ≡ false = grind (arith, nat_tests, n) in grind (arith, nat_tests, t, here)
    go false t e later = later e

pub find-insert : (test : Block → Bool) (x : Block) (xs : List Block) → test x ≡ false → find test (insert_by (λ (b : Block). b.start) x xs) ≡ find test xs
unfolding insert_by
find-insert test x [] e = rw e refl
find-insert test x (y ∷ ys) e = grind (arith, nat_tests, e, find-insert test x ys e)
