-- What a run has shown stays true of the objects, at each step of the kernel.
use Rattle.std.proofs.Common.{ℕ, zero, suc, ◌≡◌, ◌≢◌, ◌<◌, ◌==◌, ◌⊎◌, inl, inr, ⊎_elim, Bool, true, false, Option, Some, None, List, [], ◌∷◌, ◌++◌, length, set, slice_get, slice_set, arith, refl, sym, ap, subst, ◌∙◌}
use Rattle.std.proofs.lemmas.Bool.Decides.{nat_tests}
use Rattle.std.proofs.lemmas.List.{length-set, get_or-set_same, get_or-set_other}
use Rattle.std.proofs.lemmas.Option.{slice_get_within}
use Rattle.osc_paging.proofs.WordLists.{slice_get-set}
use Rattle.osc_word.specs.declared.steps.Label.{Label}
use Rattle.osc_word.specs.declared.steps.Label.TheVariants.{Gave, Freeing, Freed, Moving, Moved, Touched, Forked, Ended}
use Rattle.osc_space.specs.declared.ObjectFact.{ObjectFact}
use Rattle.osc_space.specs.Space.{Space}
use Rattle.osc_space.specs.Agree.{is_waiting}
use Rattle.osc_calls.specs.Kernel.{KernelState, Process, UnderWay, Quiet, Retrying, Leaving, Waiting, Returning}
use Rattle.osc_machine.specs.DeadPages.{Grave, Past, no_past, past_of, change_past, pasts_with, pasts_from}
use Rattle.osc_safe.specs.KernelSteps.{is_touch, AllTouch}
use Rattle.osc_safe.specs.Telling.{WasBuried, PastFits, IsDead, said_by, KernelTold}
use Rattle.osc_safe.proofs.PastLabels.{GrowsTo, past-all, past-later}

-- ---- lists in which one element was written, or to which one was added
pub set-cases : {X : Type 0} (xs : List X) (n : ℕ) (x : X) (m : ℕ) (y : X) → slice_get (set xs n x) m ≡ Some y → ((m ≡ n) × (x ≡ y)) ⊎ ((m ≢ n) × (slice_get xs m ≡ Some y))
set-cases xs n x m y e = go (m == n) refl (slice_get xs m) refl
  where
    go : (b : Bool) → (m == n) ≡ b → (o : Option _) → slice_get xs m ≡ o → ((m ≡ n) × (x ≡ y)) ⊎ ((m ≢ n) × (slice_get xs m ≡ Some y))
    go true d None q = absurd (let z : ⊥ = grind (arith, nat_tests, e, d, q, slice_get-set xs n m x) in z)
    go true d (Some old) q = inl ((let r : m ≡ n = grind (arith, nat_tests, d) in r), (let r : x ≡ y = grind (arith, nat_tests, e, d, q, slice_get-set xs n m x) in r))
    go false d o q = inr ((λ r. (let z : ⊥ = grind (arith, nat_tests, d, r) in z)), (let r : slice_get xs m ≡ Some y = grind (arith, nat_tests, e, d, slice_get-set xs n m x) in r))

pub added-cases : {X : Type 0} (xs : List X) (x : X) (m : ℕ) (y : X) → slice_get (xs ++ x ∷ []) m ≡ Some y → (slice_get xs m ≡ Some y) ⊎ ((m ≡ length xs) × (x ≡ y))
added-cases [] x zero y e = inr (refl, (let r : x ≡ y = grind (arith, e) in r))
added-cases [] x (suc m) y e = absurd (let z : ⊥ = grind (arith, e) in z)
added-cases (z ∷ xs) x zero y e = inl e
added-cases (z ∷ xs) x (suc m) y e = ⊎_elim (λ (q : slice_get xs m ≡ Some y). inl q) (λ (q : (m ≡ length xs) × (x ≡ y)). inr (ap suc q.0, q.1)) (added-cases xs x m y e)

-- ---- pasts
past-here : (pasts : List Past) (pid : ℕ) (F : Past → Past) → pid < length pasts → past_of (change_past pid F pasts) pid ≡ F (past_of pasts pid)
past-here pasts pid F l = get_or-set_same pasts pid (F (past_of pasts pid)) no_past l

past-other : (pasts : List Past) (pid q : ℕ) (F : Past → Past) → q ≢ pid → past_of (change_past pid F pasts) q ≡ past_of pasts q
past-other pasts pid q F d = get_or-set_other pasts pid q (F (past_of pasts pid)) no_past d

pub past-added : (pasts : List Past) (new : Past) (q : ℕ) → q < length pasts → past_of (pasts ++ new ∷ []) q ≡ past_of pasts q
past-added [] new q l = absurd (omega (arith, l))
past-added (x ∷ pasts) new zero l = refl
past-added (x ∷ pasts) new (suc q) l = past-added pasts new q (omega (arith, l))

pub past-new : (pasts : List Past) (new : Past) → past_of (pasts ++ new ∷ []) (length pasts) ≡ new
past-new [] new = refl
past-new (x ∷ pasts) new = past-new pasts new

touch-keeps : (label : Label) (pasts : List Past) → is_touch label ≡ true → pasts_with label pasts ≡ pasts
touch-keeps (Touched pid hart address width kind done) pasts e = refl
touch-keeps (Gave pid object first pages size) pasts e = absurd (let b : ⊥ = grind (arith, e) in b)
touch-keeps (Freeing pid object call) pasts e = absurd (let b : ⊥ = grind (arith, e) in b)
touch-keeps (Freed pid object call) pasts e = absurd (let b : ⊥ = grind (arith, e) in b)
touch-keeps (Moving pid old call) pasts e = absurd (let b : ⊥ = grind (arith, e) in b)
touch-keeps (Moved pid old call object first pages size) pasts e = absurd (let b : ⊥ = grind (arith, e) in b)
touch-keeps (Forked pid child) pasts e = absurd (let b : ⊥ = grind (arith, e) in b)
touch-keeps (Ended pid fault status) pasts e = absurd (let b : ⊥ = grind (arith, e) in b)

pub touches-keep : (labels : List Label) (pasts : List Past) → AllTouch labels → pasts_from pasts labels ≡ pasts
touches-keep [] pasts a = refl
touches-keep (label ∷ labels) pasts a = ap (λ ps. pasts_from ps labels) (touch-keeps label pasts a.0) ∙ touches-keep labels pasts a.1

-- ---- where no call is about to give an object
pub record Rests (pasts : List Past) (ps : List Process) : Type 0 where
  pub count : length pasts ≡ length ps
  pub each : (pid : ℕ) (p : Process) → slice_get ps pid ≡ Some p → PastFits p.space (length p.space.objects) (past_of pasts pid)
  pub waits : (pid object : ℕ) (p : Process) → slice_get ps pid ≡ Some p → is_waiting p.space object ≡ true → IsDead p.space.objects object

pub rests-of : (pasts : List Past) (k : KernelState) → KernelTold pasts k → Rests pasts k.processes
rests-of pasts k t = record {
  count = t.count;
  each = λ pid p e. past-all p.space (said_by pid k.under_way (length p.space.objects)) (past_of pasts pid) (t.each pid p e);
  waits = t.waits;
}

abbrev pub is_returning : UnderWay → Bool
is_returning (Returning done) = true
is_returning _ = false

said-rest : (u : UnderWay) (pid n : ℕ) → is_returning u ≡ false → said_by pid u n ≡ n
said-rest Quiet pid n e = refl
said-rest Retrying pid n e = refl
said-rest (Leaving hart) pid n e = refl
said-rest (Waiting c) pid n e = refl
said-rest (Returning done) pid n e = absurd (let b : ⊥ = grind (arith, e) in b)

pub told-of : (pasts : List Past) (k : KernelState) → is_returning k.under_way ≡ false → Rests pasts k.processes → KernelTold pasts k
told-of pasts k n r = record {
  count = r.count;
  each = λ pid p e. subst (λ c. PastFits p.space c (past_of pasts pid)) (sym (said-rest k.under_way pid (length p.space.objects) n)) (r.each pid p e);
  waits = r.waits;
  answer = λ done p e. absurd (let b : ⊥ = grind (arith, n, e) in b);
}

-- ---- one process's past changes
pub rests-change : (pasts : List Past) (ps : List Process) (pid : ℕ) (p : Process) (F : Past → Past) → slice_get ps pid ≡ Some p
    → (PastFits p.space (length p.space.objects) (past_of pasts pid) → PastFits p.space (length p.space.objects) (F (past_of pasts pid))) → Rests pasts ps → Rests (change_past pid F pasts) ps
rests-change pasts ps pid p F e f r = record {
  count = length-set pasts pid (F (past_of pasts pid)) ∙ r.count;
  each = λ q x d. go (q == pid) q x refl d;
  waits = r.waits;
}
  where
    go : (b : Bool) (q : ℕ) (x : Process) → (q == pid) ≡ b → slice_get ps q ≡ Some x → PastFits x.space (length x.space.objects) (past_of (change_past pid F pasts) q)
    go true q x c d =
        let same : pid ≡ q = grind (arith, nat_tests, c) in
        let own : p ≡ x = grind (arith, same, e, d) in
        let l : pid < length pasts = subst (λ z. pid < z) (sym r.count) (slice_get_within ps pid p e) in
        subst (λ (z : Process). PastFits z.space (length z.space.objects) (past_of (change_past pid F pasts) q)) own
        (subst (λ z. PastFits p.space (length p.space.objects) (past_of (change_past pid F pasts) z)) same
        (subst (PastFits p.space (length p.space.objects)) (sym (past-here pasts pid F l)) (f (r.each pid p e))))
    go false q x c d =
        let differs : q ≢ pid = (λ z. (let b : ⊥ = grind (arith, nat_tests, c, z) in b)) in
        subst (PastFits x.space (length x.space.objects)) (sym (past-other pasts pid q F differs)) (r.each q x d)

-- ---- one process's memory changes, without a label
pub record Moves (s t : Space) : Type 0 where
  pub grows : GrowsTo s.objects t.objects
  pub over : (object : ℕ) → IsDead s.objects object → is_waiting s object ≡ false → is_waiting t object ≡ false
  pub waits : (object : ℕ) → is_waiting t object ≡ true → (is_waiting s object ≡ true) ⊎ IsDead t.objects object

buried-dead : (objects : List ObjectFact) (said : ℕ) (g : Grave) → WasBuried objects said g → IsDead objects g.shadow.object
buried-dead objects said g b = record { o = b.was.o; call = g.call; is = b.was.is; state = b.state }

dead-later : (a b : List ObjectFact) (object : ℕ) → GrowsTo a b → IsDead a object → IsDead b object
dead-later a b object g d = let l = g object d.o d.is in record { o = l.later; call = d.call; is = l.is; state = l.stays.dead d.call d.state }

pub past-moves : (s t : Space) (said : ℕ) (past : Past) → Moves s t → PastFits s said past → PastFits t said past
past-moves s t said past m f =
    past-later s t said past m.grows (λ i g e. m.over g.shadow.object (buried-dead s.objects said g (f.dead i g e)) (f.over i g e)) f

pub waits-put : (pasts : List Past) (ps : List Process) (pid : ℕ) (p new : Process) → slice_get ps pid ≡ Some p → Moves p.space new.space → Rests pasts ps
    → (q object : ℕ) (x : Process) → slice_get (set ps pid new) q ≡ Some x → is_waiting x.space object ≡ true → IsDead x.space.objects object
waits-put pasts ps pid p new e m r q object x d w = ⊎_elim
    (λ (c : (q ≡ pid) × (new ≡ x)). subst (λ (z : Process). IsDead z.space.objects object) c.1 (⊎_elim
    (λ (old : is_waiting p.space object ≡ true). dead-later p.space.objects new.space.objects object m.grows (r.waits pid object p e old))
    (λ (dead : IsDead new.space.objects object). dead)
    (m.waits object (ap (λ (z : Process). is_waiting z.space object) c.1 ∙ w))))
    (λ (c : (q ≢ pid) × (slice_get ps q ≡ Some x)). r.waits q object x c.1 w)
    (set-cases ps pid new q x d)

pub rests-put : (pasts : List Past) (ps : List Process) (pid : ℕ) (p new : Process) → slice_get ps pid ≡ Some p → Moves p.space new.space → Rests pasts ps → Rests pasts (slice_set ps pid new)
rests-put pasts ps pid p new e m r = record {
  count = r.count ∙ sym (length-set ps pid new);
  each = λ q x d. ⊎_elim
      (λ (c : (q ≡ pid) × (new ≡ x)). subst (λ (z : Process). PastFits z.space (length z.space.objects) (past_of pasts q)) c.1
      (subst (λ z. PastFits new.space (length new.space.objects) (past_of pasts z)) (sym c.0)
      (past-all new.space (length p.space.objects) (past_of pasts pid) (past-moves p.space new.space (length p.space.objects) (past_of pasts pid) m (r.each pid p e)))))
      (λ (c : (q ≢ pid) × (slice_get ps q ≡ Some x)). r.each q x c.1)
      (set-cases ps pid new q x d);
  waits = waits-put pasts ps pid p new e m r;
}
