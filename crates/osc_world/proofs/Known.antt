-- Each pointer names a granted object: what a deed leaves.
use Rattle.std.proofs.Common.{◌≡◌, ℕ, ◌≤◌, ◌+◌, ◌==◌, Bool, true, false, cond, ◌&&◌, List, [], ◌∷◌, ◌++◌, length, Option, Some, None, refl, arith, slice_get, zero, suc, map, subst, take, drop, replicate}
use Rattle.std.proofs.lemmas.Bool.Decides.{nat_tests}
use Rattle.std.specs.Prelude.{slice_set}
use Rattle.std.specs.List.{list_all}
use Rattle.osc_world.specs.declared.Value.{Value}
use Rattle.osc_world.specs.declared.Value.TheVariants.{Num, Ptr}
use Rattle.osc_world.specs.declared.Byte.{Byte}
use Rattle.osc_world.specs.declared.Byte.TheVariants.{Number, Part}
use Rattle.osc_world.specs.declared.Area.{Area}
use Rattle.osc_world.specs.declared.Area.TheVariants as area
use Rattle.osc_world.specs.States.{changed_at}
use Rattle.osc_world.specs.World.{Memory, Object, Live, Dead, Page}
use Rattle.osc_world.specs.Accesses.{overlaid, object_overlaid, page_overlaid, memory_overlaid}
use Rattle.osc_world.specs.Knows.{is_granted, is_known, is_known_byte, knows_object, knows_page, knows_memory, knows_left}
use Rattle.osc_world.proofs.Lists.{length-changed_at}

-- ---- lists

pub and-both : (a b : Bool) → a ≡ true → b ≡ true → (a && b) ≡ true
and-both true b e f = f
and-both false b e f = e

pub and-left : (a b : Bool) → (a && b) ≡ true → a ≡ true
and-left true b e = refl
and-left false b e = e

pub and-right : (a b : Bool) → (a && b) ≡ true → b ≡ true
and-right true b e = e
and-right false b e = absurd (cc)

pub all-at : {X : Type 0} (p : X → Bool) (xs : List X) (i : ℕ) (x : X) → list_all p xs ≡ true → slice_get xs i ≡ Some x → p x ≡ true
all-at p [] i x a e = absurd (cc)
all-at p (y ∷ xs) zero x a e = let s : y ≡ x = cc in subst (λ z. p z ≡ true) s (and-left (p y) (list_all p xs) a)
all-at p (y ∷ xs) (suc i) x a e = all-at p xs i x (and-right (p y) (list_all p xs) a) e

pub all-set : {X : Type 0} (p : X → Bool) (xs : List X) (i : ℕ) (y : X) → list_all p xs ≡ true → p y ≡ true → list_all p (slice_set xs i y) ≡ true
all-set p [] i y a e = refl
all-set p (x ∷ xs) zero y a e = and-both (p y) (list_all p xs) e (and-right (p x) (list_all p xs) a)
all-set p (x ∷ xs) (suc i) y a e = and-both (p x) (list_all p (slice_set xs i y)) (and-left (p x) (list_all p xs) a) (all-set p xs i y (and-right (p x) (list_all p xs) a) e)

pub all-map : {X Y : Type 0} (p : X → Bool) (q : Y → Bool) (f : X → Y) (xs : List X) → ((x : X) → p x ≡ true → q (f x) ≡ true) → list_all p xs ≡ true → list_all q (map f xs) ≡ true
all-map p q f [] h a = refl
all-map p q f (x ∷ xs) h a = and-both (q (f x)) (list_all q (map f xs)) (h x (and-left (p x) (list_all p xs) a)) (all-map p q f xs h (and-right (p x) (list_all p xs) a))

pub all-more : {X : Type 0} (p q : X → Bool) (xs : List X) → ((x : X) → p x ≡ true → q x ≡ true) → list_all p xs ≡ true → list_all q xs ≡ true
all-more p q [] h a = refl
all-more p q (x ∷ xs) h a = and-both (q x) (list_all q xs) (h x (and-left (p x) (list_all p xs) a)) (all-more p q xs h (and-right (p x) (list_all p xs) a))

pub all-append : {X : Type 0} (p : X → Bool) (xs ys : List X) → list_all p xs ≡ true → list_all p ys ≡ true → list_all p (xs ++ ys) ≡ true
all-append p [] ys a b = b
all-append p (x ∷ xs) ys a b = and-both (p x) (list_all p (xs ++ ys)) (and-left (p x) (list_all p xs) a) (all-append p xs ys (and-right (p x) (list_all p xs) a) b)

pub all-take : {X : Type 0} (p : X → Bool) (n : ℕ) (xs : List X) → list_all p xs ≡ true → list_all p (take n xs) ≡ true
all-take p zero xs a = refl
all-take p (suc n) [] a = refl
all-take p (suc n) (x ∷ xs) a = and-both (p x) (list_all p (take n xs)) (and-left (p x) (list_all p xs) a) (all-take p n xs (and-right (p x) (list_all p xs) a))

pub all-drop : {X : Type 0} (p : X → Bool) (n : ℕ) (xs : List X) → list_all p xs ≡ true → list_all p (drop n xs) ≡ true
all-drop p zero xs a = a
all-drop p (suc n) [] a = refl
all-drop p (suc n) (x ∷ xs) a = all-drop p n xs (and-right (p x) (list_all p xs) a)

pub all-replicate : {X : Type 0} (p : X → Bool) (n : ℕ) (x : X) → p x ≡ true → list_all p (replicate n x) ≡ true
all-replicate p zero x e = refl
all-replicate p (suc n) x e = and-both (p x) (list_all p (replicate n x)) e (all-replicate p n x e)

pub all-changed_at : {X : Type 0} (p : X → Bool) (f : X → X) (xs : List X) (i : ℕ) → ((x : X) → p x ≡ true → p (f x) ≡ true) → list_all p xs ≡ true → list_all p (changed_at f xs i) ≡ true
unfolding changed_at
all-changed_at p f [] i h a = refl
all-changed_at p f (x ∷ xs) zero h a = and-both (p (f x)) (list_all p xs) (h x (and-left (p x) (list_all p xs) a)) (and-right (p x) (list_all p xs) a)
all-changed_at p f (x ∷ xs) (suc i) h a = and-both (p x) (list_all p (changed_at f xs i)) (and-left (p x) (list_all p xs) a) (all-changed_at p f xs i h (and-right (p x) (list_all p xs) a))

pub all-overlaid : {B : Type 0} (p : B → Bool) (bytes : List B) (offset : ℕ) (others : List B) → list_all p bytes ≡ true → list_all p others ≡ true → list_all p (overlaid bytes offset others) ≡ true
unfolding overlaid
all-overlaid p bytes offset [] a b = a
all-overlaid p bytes offset (o ∷ others) a b = all-overlaid p (slice_set bytes offset o) (offset + 1) others (all-set p bytes offset o a (and-left (p o) (list_all p others) b)) (and-right (p o) (list_all p others) b)

-- ---- more objects

granted-more : (n m o k : ℕ) → n ≤ m → is_granted n o k ≡ true → is_granted m o k ≡ true
granted-more n m o k l e = grind (arith, nat_tests, e)

pub known-more : (n m : ℕ) (v : Value) → n ≤ m → is_known n v ≡ true → is_known m v ≡ true
known-more n m (Num a) l e = refl
known-more n m (Ptr o k) l e = granted-more n m o k l e

pub byte-more : (n m : ℕ) (b : Byte) → n ≤ m → is_known_byte n b ≡ true → is_known_byte m b ≡ true
byte-more n m (Number a) l e = refl
byte-more n m (Part o k i) l e = granted-more n m o k l e

pub bytes-more : (n m : ℕ) (bytes : List Byte) → n ≤ m → list_all (is_known_byte n) bytes ≡ true → list_all (is_known_byte m) bytes ≡ true
bytes-more n m bytes l = all-more (is_known_byte n) (is_known_byte m) bytes (λ b. byte-more n m b l)

pub page-more : (n m : ℕ) (page : Page) → n ≤ m → knows_page n page ≡ true → knows_page m page ≡ true
page-more n m page l = bytes-more n m page.bytes l

pub object-more : (n m : ℕ) (object : Object) → n ≤ m → knows_object n object ≡ true → knows_object m object ≡ true
object-more n m (Live bytes) l e = bytes-more n m bytes l e
object-more n m (Dead size) l e = refl

pub left-more : (n m : ℕ) (v : Option Value) → n ≤ m → knows_left n v ≡ true → knows_left m v ≡ true
left-more n m None l e = refl
left-more n m (Some v) l e = known-more n m v l e

-- ---- memory

overlaid-object : (n offset : ℕ) (bytes : List Byte) (object : Object) → list_all (is_known_byte n) bytes ≡ true → knows_object n object ≡ true → knows_object n (object_overlaid offset bytes object) ≡ true
overlaid-object n offset bytes (Live old) b e = all-overlaid (is_known_byte n) old offset bytes e b
overlaid-object n offset bytes (Dead size) b e = refl

overlaid-page : (n number offset : ℕ) (bytes : List Byte) (page : Page) → list_all (is_known_byte n) bytes ≡ true → knows_page n page ≡ true → knows_page n (page_overlaid number offset bytes page) ≡ true
overlaid-page n number offset bytes page b e = by (page.number == number)
  where
    by : (test : Bool) → knows_page n (cond test (record page { bytes = overlaid page.bytes offset bytes }) page) ≡ true
    by true = all-overlaid (is_known_byte n) page.bytes offset bytes e b
    by false = e

pub overlaid-memory : (memory : Memory) (at : Area) (offset : ℕ) (bytes : List Byte) → list_all (is_known_byte (length memory.objects)) bytes ≡ true → knows_memory memory ≡ true → knows_memory (memory_overlaid memory at offset bytes) ≡ true
overlaid-memory memory (area.Object o) offset bytes b e =
    let count = length-changed_at (object_overlaid offset bytes) memory.objects o in
    let pages = and-left (list_all (knows_page (length memory.objects)) memory.pages) (list_all (knows_object (length memory.objects)) memory.objects) e in
    let objects = and-right (list_all (knows_page (length memory.objects)) memory.pages) (list_all (knows_object (length memory.objects)) memory.objects) e in
    rw count (and-both _ _ pages (all-changed_at (knows_object (length memory.objects)) (object_overlaid offset bytes) memory.objects o (λ x. overlaid-object (length memory.objects) offset bytes x b) objects))
overlaid-memory memory (area.Page page) offset bytes b e =
    let pages = and-left (list_all (knows_page (length memory.objects)) memory.pages) (list_all (knows_object (length memory.objects)) memory.objects) e in
    let objects = and-right (list_all (knows_page (length memory.objects)) memory.pages) (list_all (knows_object (length memory.objects)) memory.objects) e in
    and-both _ _ (all-map (knows_page (length memory.objects)) (knows_page (length memory.objects)) (page_overlaid page offset bytes) memory.pages (λ x. overlaid-page (length memory.objects) page offset bytes x b) pages) objects
overlaid-memory memory (area.Shared page) offset bytes b e = e
