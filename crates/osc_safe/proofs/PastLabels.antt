-- What each label makes of what is known of the past.
use Rattle.std.proofs.Common.{ℕ, zero, suc, ◌≡◌, ◌==◌, ◌⊎◌, inl, inr, ⊎_elim, Bool, true, false, not, cond, Some, List, [], ◌∷◌, ◌++◌, map, filter, find, length, slice_get, option_map, arith, refl, sym, ap, subst, ◌∙◌}
use Rattle.std.proofs.lemmas.Bool.Decides.{nat_tests}
use Rattle.std.proofs.lemmas.Option.{slice_get_within}
use Rattle.osc_space.specs.declared.ObjectFact.{ObjectFact}
use Rattle.osc_space.specs.declared.ObjectState.TheVariants.{Live, Dead}
use Rattle.osc_space.specs.Space.{Space}
use Rattle.osc_space.specs.Objects.{fact, kill, killed}
use Rattle.osc_parts.proofs.Killing.{kill_get}
use Rattle.osc_space.specs.Agree.{is_waiting}
use Rattle.osc_calls.specs.ObjectLaws.{StaysObject}
use Rattle.osc_machine.specs.DeadPages.{Shadow, Grave, Past, shadow, grants, graves, lays_out, buries}
use Rattle.osc_safe.specs.Telling.{WasGranted, WasBuried, PastFits}

-- ---- lists
pub record Found {X : Type 0} (test : X → Bool) (xs : List X) (x : X) : Type 0 where
  pub place : ℕ
  pub is : slice_get xs place ≡ Some x
  pub passes : test x ≡ true

pub found : {X : Type 0} (test : X → Bool) (xs : List X) (x : X) → find test xs ≡ Some x → Found test xs x
found test [] x e = absurd (let z : ⊥ = grind (arith, e) in z)
found test (y ∷ xs) x e = go (test y) refl (found test xs x)
  where
    go : (b : Bool) → test y ≡ b → (find test xs ≡ Some x → Found test xs x) → Found test (y ∷ xs) x
    go true d on = let s : y ≡ x = grind (arith, e, d) in record { place = 0; is = ap Some s; passes = ap test (sym s) ∙ d }
    go false d on = let f = on (grind (arith, e, d)) in record { place = suc f.place; is = f.is; passes = f.passes }

-- an item of a list that was filtered
pub filtered : {X : Type 0} (test : X → Bool) (xs : List X) (i : ℕ) (x : X) → slice_get (filter test xs) i ≡ Some x → Found test xs x
filtered test [] i x e = absurd (let z : ⊥ = grind (arith, e) in z)
filtered test (y ∷ xs) i x e = go (test y) refl i e (λ j f. filtered test xs j x f)
  where
    go : (b : Bool) → test y ≡ b → (i : ℕ) → slice_get (filter test (y ∷ xs)) i ≡ Some x → ((j : ℕ) → slice_get (filter test xs) j ≡ Some x → Found test xs x) → Found test (y ∷ xs) x
    go true d zero f on = let s : y ≡ x = grind (arith, f, d) in record { place = 0; is = ap Some s; passes = ap test (sym s) ∙ d }
    go true d (suc j) f on = let k = on j (grind (arith, f, d)) in record { place = suc k.place; is = k.is; passes = k.passes }
    go false d j f on = let k = on j (grind (arith, f, d)) in record { place = suc k.place; is = k.is; passes = k.passes }

pub appended : {X : Type 0} (xs ys : List X) (i : ℕ) (x : X) → slice_get (xs ++ ys) i ≡ Some x → ((j : ℕ) × (slice_get xs j ≡ Some x)) ⊎ ((j : ℕ) × (slice_get ys j ≡ Some x))
appended [] ys i x e = inr (i, e)
appended (y ∷ xs) ys zero x e = inl (0, e)
appended (y ∷ xs) ys (suc i) x e = ⊎_elim (λ (f : (j : ℕ) × (slice_get xs j ≡ Some x)). inl (suc f.0, f.1)) (λ (f : (j : ℕ) × (slice_get ys j ≡ Some x)). inr f) (appended xs ys i x e)

pub mapped : {X Y : Type 0} (f : X → Y) (xs : List X) (i : ℕ) (y : Y) → slice_get (map f xs) i ≡ Some y → (x : X) × (slice_get xs i ≡ Some x) × (f x ≡ y)
mapped f [] i y e = absurd (let z : ⊥ = grind (arith, e) in z)
mapped f (x ∷ xs) zero y e = (x, refl, (let s : f x ≡ y = cc in s))
mapped f (x ∷ xs) (suc i) y e = mapped f xs i y e

-- ---- objects grow
pub record Later (o : ObjectFact) (objects : List ObjectFact) (i : ℕ) : Type 0 where
  pub later : ObjectFact
  pub is : fact objects i ≡ Some later
  pub stays : StaysObject o later

-- each object of a list is in the other one, as it stays
abbrev pub GrowsTo : List ObjectFact → List ObjectFact → Type 0
GrowsTo a b = (i : ℕ) (o : ObjectFact) → fact a i ≡ Some o → Later o b i

same-object : (o : ObjectFact) → StaysObject o o
same-object o = record { first = refl; pages = refl; size = refl; user = refl; canon = refl; dead = λ call e. e }

pub grows-same : (a b : List ObjectFact) → b ≡ a → GrowsTo a b
grows-same a b e i o f = record { later = o; is = ap (λ (xs : List ObjectFact). slice_get xs i) e ∙ f; stays = same-object o }

get-front : (a b : List ObjectFact) (i : ℕ) (o : ObjectFact) → slice_get a i ≡ Some o → slice_get (a ++ b) i ≡ Some o
get-front [] b i o e = absurd (let z : ⊥ = grind (arith, e) in z)
get-front (x ∷ a) b zero o e = e
get-front (x ∷ a) b (suc i) o e = get-front a b i o e

pub grows-added : (a more : List ObjectFact) → GrowsTo a (a ++ more)
grows-added a more i o e = record { later = o; is = get-front a more i o e; stays = same-object o }

killed-object : (o : ObjectFact) (call : ℕ) → o.state ≡ Live → StaysObject o (killed call o)
killed-object o call e =
    record { first = refl; pages = refl; size = refl; user = refl; canon = refl; dead = λ since f. absurd (let b : ⊥ = grind (arith, e, f) in b) }

pub grows-killed : (a : List ObjectFact) (object call : ℕ) (o : ObjectFact) → fact a object ≡ Some o → o.state ≡ Live → GrowsTo a (kill object call a)
grows-killed a object call o e l i x f = go (i == object) refl
  where
    go : (b : Bool) → (i == object) ≡ b → Later x (kill object call a) i
    go true d =
        let same : i ≡ object = grind (arith, nat_tests, d) in
        let own : x ≡ o = grind (arith, same, e, f) in
        record { later = killed call x; is = kill_get a object call i ∙ (let q : cond (i == object) (option_map (killed call) (slice_get a i)) (slice_get a i) ≡ Some (killed call x) = grind (arith, d, f) in q); stays = killed-object x call (ap (λ (z : ObjectFact). z.state) own ∙ l) }
    go false d = record { later = x; is = kill_get a object call i ∙ (let q : cond (i == object) (option_map (killed call) (slice_get a i)) (slice_get a i) ≡ Some x = grind (arith, d, f) in q); stays = same-object x }

later-object : (o l m : ObjectFact) → StaysObject o l → StaysObject l m → StaysObject o m
later-object o l m s t = record {
  first = t.first ∙ s.first;
  pages = t.pages ∙ s.pages;
  size = t.size ∙ s.size;
  user = t.user ∙ s.user;
  canon = t.canon ∙ s.canon;
  dead = λ call e. t.dead call (s.dead call e);
}

pub grows-on : (a b c : List ObjectFact) → GrowsTo a b → GrowsTo b c → GrowsTo a c
grows-on a b c f g i o e =
    let l = f i o e in
    let m = g i l.later l.is in
    record { later = m.later; is = m.is; stays = later-object o l.later m.later l.stays m.stays }

pub granted-later : (a b : List ObjectFact) (said : ℕ) (x : Shadow) → GrowsTo a b → WasGranted a said x → WasGranted b said x
granted-later a b said x g w =
    let l = g x.object w.o w.is in
    record { o = l.later; is = l.is; less = w.less; first = w.first ∙ sym l.stays.first; pages = w.pages ∙ sym l.stays.pages }

pub buried-later : (a b : List ObjectFact) (said : ℕ) (x : Grave) → GrowsTo a b → WasBuried a said x → WasBuried b said x
unfolding granted-later
buried-later a b said x g w =
    let l = g x.shadow.object w.was.o w.was.is in
    record { was = granted-later a b said x.shadow g w.was; state = l.stays.dead x.call w.state }

-- all objects may have been told of
granted-all : (objects : List ObjectFact) (said : ℕ) (x : Shadow) → WasGranted objects said x → WasGranted objects (length objects) x
granted-all objects said x w = record { o = w.o; is = w.is; less = slice_get_within objects x.object w.o w.is; first = w.first; pages = w.pages }

pub past-all : (s : Space) (said : ℕ) (past : Past) → PastFits s said past → PastFits s (length s.objects) past
unfolding granted-all
past-all s said past f = record {
  granted = λ i x e. granted-all s.objects said x (f.granted i x e);
  waiting = λ i g e. (let b = f.waiting i g e in record { was = granted-all s.objects said g.shadow b.was; state = b.state });
  dead = λ i g e. (let b = f.dead i g e in record { was = granted-all s.objects said g.shadow b.was; state = b.state });
  over = f.over;
}

-- the process's memory goes on, and nothing is told of it
pub past-later : (s t : Space) (said : ℕ) (past : Past) → GrowsTo s.objects t.objects → ((i : ℕ) (g : Grave) → slice_get past.dead i ≡ Some g → is_waiting t g.shadow.object ≡ false) → PastFits s said past → PastFits t said past
past-later s t said past grows over f = record {
  granted = λ i x e. granted-later s.objects t.objects said x grows (f.granted i x e);
  waiting = λ i g e. buried-later s.objects t.objects said g grows (f.waiting i g e);
  dead = λ i g e. buried-later s.objects t.objects said g grows (f.dead i g e);
  over = over;
}

-- ---- labels
-- a grant
pub told-grant : (past : Past) (s : Space) (object : ℕ) (o : ObjectFact) → fact s.objects object ≡ Some o → PastFits s (length s.objects) past
    → PastFits s (length s.objects) (grants (shadow object o.first o.pages) past)
told-grant past s object o e f = record { granted = granted; waiting = f.waiting; dead = f.dead; over = f.over }
  where
    granted : (i : ℕ) (x : Shadow) → slice_get (shadow object o.first o.pages ∷ past.granted) i ≡ Some x → WasGranted s.objects (length s.objects) x
    granted zero x d =
        let q : shadow object o.first o.pages ≡ x = cc in
        subst (WasGranted s.objects (length s.objects)) q (record { o = o; is = e; less = slice_get_within s.objects object o e; first = refl; pages = refl })
    granted (suc i) x d = f.granted i x d

-- the graves of a dead object
made-graves : (past : Past) (s : Space) (said object call : ℕ) (o : ObjectFact) → fact s.objects object ≡ Some o → o.state ≡ Dead call → PastFits s said past
    → (i : ℕ) (g : Grave) → slice_get (graves object call past) i ≡ Some g → WasBuried s.objects said g × (g.shadow.object ≡ object)
made-graves past s said object call o e st f i g d =
    let m = mapped (λ x. record { shadow = x; call = call }) (filter (λ (x : Shadow). x.object == object) past.granted) i g d in
    let k = filtered (λ (x : Shadow). x.object == object) past.granted i m.0 m.1 in
    let same : m.0.object ≡ object = (let p = k.passes in grind (arith, nat_tests, p)) in
    let w = f.granted k.place m.0 k.is in
    let is = w.is in
    let fact_is : w.o ≡ o = grind (arith, is, e, same) in
    let b : WasBuried s.objects said (record { shadow = m.0; call = call }) = record { was = w; state = ap (λ (x : ObjectFact). x.state) fact_is ∙ st } in
    subst (λ (z : Grave). WasBuried s.objects said z × (z.shadow.object ≡ object)) m.2 (b, same)

-- an object waits
pub told-waiting : (past : Past) (s : Space) (said object call : ℕ) (o : ObjectFact) → fact s.objects object ≡ Some o → o.state ≡ Dead call → PastFits s said past
    → PastFits s said (lays_out object call past)
told-waiting past s said object call o e st f = record {
  granted = f.granted;
  waiting = λ i g d. ⊎_elim
      (λ (q : (j : ℕ) × (slice_get (graves object call past) j ≡ Some g)). (made-graves past s said object call o e st f q.0 g q.1).0)
      (λ (q : (j : ℕ) × (slice_get past.waiting j ≡ Some g)). f.waiting q.0 g q.1)
      (appended (graves object call past) past.waiting i g d);
  dead = f.dead;
  over = f.over;
}

-- a death
pub told-death : (past : Past) (s : Space) (said object call : ℕ) (o : ObjectFact) → fact s.objects object ≡ Some o → o.state ≡ Dead call → is_waiting s object ≡ false → PastFits s said past
    → PastFits s said (buries object call past)
told-death past s said object call o e st none f = record {
  granted = f.granted;
  waiting = λ i g d. (let k = filtered (λ (x : Grave). not (x.shadow.object == object)) past.waiting i g d in f.waiting k.place g k.is);
  dead = λ i g d. ⊎_elim
      (λ (q : (j : ℕ) × (slice_get (graves object call past) j ≡ Some g)). (made-graves past s said object call o e st f q.0 g q.1).0)
      (λ (q : (j : ℕ) × (slice_get past.dead j ≡ Some g)). f.dead q.0 g q.1)
      (appended (graves object call past) past.dead i g d);
  over = λ i g d. ⊎_elim
      (λ (q : (j : ℕ) × (slice_get (graves object call past) j ≡ Some g)). ap (is_waiting s) (made-graves past s said object call o e st f q.0 g q.1).1 ∙ none)
      (λ (q : (j : ℕ) × (slice_get past.dead j ≡ Some g)). f.over q.0 g q.1)
      (appended (graves object call past) past.dead i g d);
}

-- nothing waits any more
pub told-end : (past : Past) (s : Space) (said : ℕ) → PastFits s said past → PastFits s said (record past { waiting = [] })
told-end past s said f = record {
  granted = f.granted;
  waiting = λ i g d. absurd (let b : ⊥ = grind (arith, d) in b);
  dead = f.dead;
  over = f.over;
}
