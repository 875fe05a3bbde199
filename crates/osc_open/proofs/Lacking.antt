-- The tables that are still missing over pages, and how they become fewer.
use Rattle.std.proofs.Common.{ℕ, zero, suc, ◌≡◌, ◌≢◌, ◌+◌, ◌≤◌, ◌<◌, ◌==◌, Bool, true, false, cond, Option, Some, None, List, [], ◌∷◌, refl, ap, ◌∙◌, sym, arith, map}
use Rattle.std.specs.Prelude.{filter, is_none}
use Rattle.std.proofs.lemmas.Bool.Decides.{nat_tests}
use Rattle.osc_sv39.specs.Walk.{piece}
use Rattle.osc_image.specs.Frames.{different, tables_below}
use Rattle.osc_paging.specs.declared.TableFrame.{TableFrame}
use Rattle.osc_paging.specs.KeptTables.{frame_of, lack, need_below}
use Rattle.osc_paging.proofs.Needed.{Grown, need_one}
use Rattle.osc_open.specs.Row.{is_absent, lacking}
use Rattle.osc_open.proofs.Different.{different-cons, without}

-- where none is there yet, all are missing
pub all_lacking : (ts : List TableFrame) (level : ℕ) (numbers : List ℕ) → ((l n : ℕ) → l < level → frame_of ts l n ≡ None)
    → lacking ts level numbers ≡ tables_below level numbers
unfolding tables_below
all_lacking ts zero numbers none = refl
all_lacking ts (suc l) numbers none =
    let on = all_lacking ts l numbers (λ k n s. none k n (omega arith)) in
    let same = all (map (piece (suc l)) numbers) in
    rw (on, same) refl
  where
    all : (xs : List ℕ) → filter (is_absent ts l) xs ≡ xs
    all [] = refl
    all (x ∷ xs) = let e : is_absent ts l x ≡ true = ap is_none (none l x (omega arith)) in rw e (ap (λ ys. x ∷ ys) (all xs))

same_filter : (p q : ℕ → Bool) (xs : List ℕ) → ((x : ℕ) → p x ≡ q x) → filter p xs ≡ filter q xs
same_filter p q [] e = refl
same_filter p q (x ∷ xs) e = rw (e x, same_filter p q xs e) refl

-- a number is taken out
less_filter : (p q : ℕ → Bool) (x : ℕ) (xs : List ℕ) → q x ≡ false → ((y : ℕ) → y ≢ x → p y ≡ q y) → without x (filter p xs) ≡ filter q xs
less_filter p q x [] f e = refl
less_filter p q x (y ∷ xs) f e = pick (p y) refl (y == x) refl (less_filter p q x xs f e)
  where
    pick : (b : Bool) → p y ≡ b → (same : Bool) → (y == x) ≡ same → without x (filter p xs) ≡ filter q xs
        → without x (cond b (y ∷ filter p xs) (filter p xs)) ≡ cond (q y) (y ∷ filter q xs) (filter q xs)
    pick b s true t on =
        let is : y ≡ x = grind (arith, nat_tests, t) in
        let no_more : q y ≡ false = ap q is ∙ f in
        rw no_more (first b)
      where
        first : (b : Bool) → without x (cond b (y ∷ filter p xs) (filter p xs)) ≡ filter q xs
        first true = rw t on
        first false = on
    pick b s false t on =
        let other : y ≢ x = grind (arith, nat_tests, t) in
        let same : q y ≡ b = sym (e y other) ∙ s in
        rw same (kept b)
      where
        kept : (b : Bool) → without x (cond b (y ∷ filter p xs) (filter p xs)) ≡ cond b (y ∷ filter q xs) (filter q xs)
        kept true = rw t (ap (λ ys. y ∷ ys) on)
        kept false = on

is_there : (x : Option ℕ) → x ≢ None → is_none x ≡ false
is_there None h = absurd (h refl)
is_there (Some f) h = refl

level_less : (ts us : List TableFrame) (l n : ℕ) (xs : List ℕ) → frame_of us l n ≢ None
    → ((m : ℕ) → m ≢ n → frame_of us l m ≡ frame_of ts l m)
    → different (filter (is_absent ts l) (n ∷ xs)) ≡ lack (frame_of ts l n) + different (filter (is_absent us l) xs)
level_less ts us l n xs there same = pick (frame_of ts l n) refl
  where
    now : is_absent us l n ≡ false
    now = is_there (frame_of us l n) there

    pick : (x : Option ℕ) → frame_of ts l n ≡ x
        → different (filter (is_absent ts l) (n ∷ xs)) ≡ lack (frame_of ts l n) + different (filter (is_absent us l) xs)
    pick (Some f) e =
        let was : is_absent ts l n ≡ false = ap is_none e in
        let all = same_filter (is_absent ts l) (is_absent us l) xs (λ m. agree m (m == n) refl) in
        rw (was, e, all) (omega arith)
      where
        agree : (m : ℕ) (b : Bool) → (m == n) ≡ b → is_absent ts l m ≡ is_absent us l m
        agree m true t = let is : m ≡ n = grind (arith, nat_tests, t) in rw (is, now) (ap is_none e)
        agree m false t = let other : m ≢ n = grind (arith, nat_tests, t) in ap is_none (sym (same m other))
    pick None e =
        let was : is_absent ts l n ≡ true = ap is_none e in
        let less = less_filter (is_absent ts l) (is_absent us l) n xs now (λ m d. ap is_none (sym (same m d))) in
        rw (was, e) (different-cons n (filter (is_absent ts l) xs) ∙ ap (λ ys. 1 + different ys) less)

-- once the tables over a page are linked, the others lack what they lacked
pub lacking_less : (top level number : ℕ) (rest : List ℕ) (ts us : List TableFrame) → level ≤ top → Grown top number ts us
    → lacking ts level (number ∷ rest) ≡ need_below ts level number 1 + lacking us level rest
unfolding need_below
lacking_less top zero number rest ts us l g = refl
lacking_less top (suc level) number rest ts us l g =
    let one = need_one ts level number in
    let on = lacking_less top level number rest ts us (omega arith) g in
    let here = level_less ts us level (piece (suc level) number) (map (piece (suc level)) rest) (g.there level (omega arith)) (λ m d. g.same level m (omega arith) d) in
    omega (arith, one, on, here)

level_least : (ts : List TableFrame) (l n : ℕ) (xs : List ℕ) → lack (frame_of ts l n) ≤ different (filter (is_absent ts l) (n ∷ xs))
level_least ts l n xs = pick (frame_of ts l n) refl
  where
    pick : (x : Option ℕ) → frame_of ts l n ≡ x → lack (frame_of ts l n) ≤ different (filter (is_absent ts l) (n ∷ xs))
    pick (Some f) e = rw e (omega arith)
    pick None e =
        let was : is_absent ts l n ≡ true = ap is_none e in
        rw (was, e) (let one = different-cons n (filter (is_absent ts l) xs) in omega (arith, one))

-- what one page needs is missing
pub need_least : (level number : ℕ) (rest : List ℕ) (ts : List TableFrame) → need_below ts level number 1 ≤ lacking ts level (number ∷ rest)
unfolding need_below
need_least zero number rest ts = omega arith
need_least (suc level) number rest ts =
    let one = need_one ts level number in
    let on = need_least level number rest ts in
    let here = level_least ts level (piece (suc level) number) (map (piece (suc level)) rest) in
    omega (arith, one, on, here)
