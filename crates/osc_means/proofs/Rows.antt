-- Lists, and rows of bytes of the plain run.
use Rattle.std.proofs.Common.{ℕ, zero, suc, ◌≡◌, ◌≢◌, ◌<◌, ◌≤◌, ◌==◌, ◌+◌, ◌-◌, ◌%◌, Bool, true, false, cond, List, [], ◌∷◌, ◌++◌, Option, Some, None, option_map, arith, refl, ap, sym, subst, ◌∙◌, slice_get, length, length-drop, map, take, drop, replicate}
use Rattle.std.proofs.lemmas.Bool.Decides.{nat_tests}
use Rattle.std.proofs.lemmas.List.{length-take-le}
use Rattle.std.proofs.lemmas.Option.{slice_get_within}
use Rattle.std.specs.List.{list_all, find}
use Rattle.osc_isa.specs.Numbers.{wrapped}
use Rattle.osc_world.specs.declared.Byte.{Byte}
use Rattle.osc_world.specs.PlainWorld.{PlainTurn, plain_byte, plain_row}
use Rattle.osc_means.specs.Shown.{shown_byte}

-- ---- lists

-- an element stands where the list is long enough
pub stands : {X : Type 0} (xs : List X) (i : ℕ) → i < length xs → (x : X) × (slice_get xs i ≡ Some x)
stands [] i l = absurd (omega arith)
stands (x ∷ xs) zero l = (x, refl)
stands (x ∷ xs) (suc i) l = stands xs i (omega arith)

pub drop-at : {X : Type 0} (xs : List X) (i : ℕ) (x : X) → slice_get xs i ≡ Some x → drop i xs ≡ x ∷ drop (i + 1) xs
drop-at [] i x e = absurd (cc)
drop-at (y ∷ xs) zero x e = cc
drop-at (y ∷ xs) (suc i) x e = let s : suc i + 1 ≡ suc (i + 1) = omega arith in rw s (drop-at xs i x e)

pub some-same : {X : Type 0} (x y : X) → Some x ≡ Some y → x ≡ y
some-same x y e = cc

pub length-part : {X : Type 0} (xs : List X) (k w : ℕ) → k + w ≤ length xs → length (take w (drop k xs)) ≡ w
length-part xs k w l = length-take-le w (drop k xs) (let d = length-drop k xs in omega arith)

pub map-map : {X Y Z : Type 0} (f : X → Y) (g : Y → Z) (h : X → Z) (xs : List X) → ((x : X) → g (f x) ≡ h x) → map g (map f xs) ≡ map h xs
map-map f g h [] e = refl
map-map f g h (x ∷ xs) e = let a = e x in let b = map-map f g h xs e in cc

pub map-same : {X Y : Type 0} (f g : X → Y) (xs : List X) → ((i : ℕ) (x : X) → slice_get xs i ≡ Some x → f x ≡ g x) → map f xs ≡ map g xs
map-same f g [] e = refl
map-same f g (x ∷ xs) e = let a = e 0 x refl in let b = map-same f g xs (λ i y h. e (suc i) y h) in cc

pub map-append : {X Y : Type 0} (f : X → Y) (xs ys : List X) → map f (xs ++ ys) ≡ map f xs ++ map f ys
map-append f [] ys = refl
map-append f (x ∷ xs) ys = ap (λ z. f x ∷ z) (map-append f xs ys)

pub map-replicate : {X Y : Type 0} (f : X → Y) (n : ℕ) (x : X) → map f (replicate n x) ≡ replicate n (f x)
map-replicate f zero x = refl
map-replicate f (suc n) x = ap (λ z. f x ∷ z) (map-replicate f n x)

-- what stands in a list that has one more
pub pushed : {X : Type 0} (xs : List X) (y z : X) (i : ℕ) → slice_get (xs ++ y ∷ []) i ≡ Some z → i ≢ length xs → slice_get xs i ≡ Some z
pushed [] y z zero e n = absurd (n refl)
pushed [] y z (suc i) e n = absurd (cc)
pushed (x ∷ xs) y z zero e n = e
pushed (x ∷ xs) y z (suc i) e n = pushed xs y z i e (λ s. n (ap suc s))

pub pushed-last : {X : Type 0} (xs : List X) (y : X) → slice_get (xs ++ y ∷ []) (length xs) ≡ Some y
pushed-last [] y = refl
pushed-last (x ∷ xs) y = pushed-last xs y

pub found-passes : {X : Type 0} (f : X → Bool) (xs : List X) (x : X) → find f xs ≡ Some x → f x ≡ true
found-passes f [] x e = absurd (cc)
found-passes f (y ∷ xs) x e = by (f y) refl e (found-passes f xs x)
  where
    by : (t : Bool) → f y ≡ t → cond t (Some y) (find f xs) ≡ Some x → (find f xs ≡ Some x → f x ≡ true) → f x ≡ true
    by true h g later = subst (λ z. f z ≡ true) (some-same y x g) h
    by false h g later = later g

-- ---- rows

-- a row goes on below 2^64
row-next : (turn : PlainTurn) (w a : ℕ) → a + 1 + w ≤ 18446744073709551616 → plain_row turn w (wrapped (a + 1)) ≡ plain_row turn w (a + 1)
unfolding plain_row
row-next turn zero a l = refl
row-next turn (suc w) a l = let same : wrapped (a + 1) ≡ a + 1 = omega arith in ap (plain_row turn (suc w)) same

-- the bytes of a list from a place on are a row, where each is
pub row-shown : (turn : PlainTurn) (place : ℕ → ℕ) (bytes : List Byte) (k w a : ℕ) → k + w ≤ length bytes → a + w ≤ 18446744073709551616
    → ((i : ℕ) (b : Byte) → i < w → slice_get bytes (k + i) ≡ Some b → plain_byte turn (a + i) ≡ shown_byte place b)
    → map (shown_byte place) (take w (drop k bytes)) ≡ plain_row turn w a
unfolding plain_row
row-shown turn place bytes k zero a l m e = refl
row-shown turn place bytes k (suc w) a l m e =
    let here = stands bytes k (omega arith) in
    let rest = row-shown turn place bytes (k + 1) w (a + 1) (omega arith) (omega arith) (λ i b n f. let s : a + 1 + i ≡ a + suc i = omega arith in let t : k + 1 + i ≡ k + suc i = omega arith in ap (plain_byte turn) s ∙ e (suc i) b (omega arith) (rw (← t) f)) in
    let zero_k : k + 0 ≡ k = omega arith in
    let zero_a : a + 0 ≡ a = omega arith in
    let first : plain_byte turn a ≡ shown_byte place here.0 = ap (plain_byte turn) (sym zero_a) ∙ e 0 here.0 (omega arith) (rw zero_k here.1) in
    let next = row-next turn w a (omega arith) in
    let split = drop-at bytes k here.0 here.1 in
    rw split (let s : map (shown_byte place) (take w (drop (k + 1) bytes)) ≡ plain_row turn w (wrapped (a + 1)) = rest ∙ sym next in
    let f : shown_byte place here.0 ≡ plain_byte turn a = sym first in cc)

pub length-row : (turn : PlainTurn) (w a : ℕ) → length (plain_row turn w a) ≡ w
unfolding plain_row
length-row turn zero a = refl
length-row turn (suc w) a = ap suc (length-row turn w (wrapped (a + 1)))
