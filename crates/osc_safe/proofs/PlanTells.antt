-- What a run has shown stays true when a call commits.
use Rattle.std.proofs.Common.{ℕ, zero, suc, ◌+◌, ◌-◌, ◌≡◌, ◌≢◌, ◌<◌, ◌==◌, ◌||◌, ◌⊎◌, inl, inr, ⊎_elim, Bool, true, false, if◌then◌else◌, Some, List, [], ◌∷◌, ◌++◌, length, set, slice_get, slice_set, arith, refl, sym, ap, subst, ◌∙◌}
use Rattle.std.specs.List.{list_any}
use Rattle.std.proofs.lemmas.Bool.Decides.{nat_tests}
use Rattle.std.proofs.lemmas.List.{length-append}
use Rattle.std.proofs.lemmas.List.Folds.{list_any-append}
use Rattle.std.proofs.lemmas.Option.{slice_get_within}
use Rattle.osc_word.specs.declared.calls.Answer.{Answer}
use Rattle.osc_word.specs.declared.calls.Answer.TheVariants as answer
use Rattle.osc_space.specs.declared.ObjectFact.{ObjectFact}
use Rattle.osc_space.specs.declared.ObjectState.TheVariants.{Live, Dead}
use Rattle.osc_space.specs.Space.{Space}
use Rattle.osc_space.specs.Objects.{fact, kill, killed}
use Rattle.osc_space.specs.Agree.{is_waiting}
use Rattle.osc_parts.proofs.Killing.{killed_here}
use Rattle.osc_parts.proofs.Lists.{get_append}
use Rattle.osc_calls.specs.Kernel.{KernelState, Process, Calling, process_at}
use Rattle.osc_calls.specs.Labels.{effect_shows, plan_shows}
use Rattle.osc_calls.specs.Planned.{Planned}
use Rattle.osc_calls.specs.Plan.{committed, journal_entry}
use Rattle.osc_machine.specs.DeadPages.{Past, past_of, change_past, pasts_from, lays_out}
use Rattle.osc_safe.specs.KernelSteps.{AllTouch}
use Rattle.osc_safe.specs.Telling.{PastFits, IsDead, told_before, AnswerFits, KernelTold}
use Rattle.osc_safe.proofs.PastLabels.{GrowsTo, grows-same, grows-added, grows-killed, grows-on, past-all, told-waiting, told-end}
use Rattle.osc_safe.proofs.SpacePlans.{is_plain, SpaceGoes, Stays, Gives, Frees, Moves as MovesOne}
use Rattle.osc_safe.proofs.PlanRows.{PlanGoes, SameSpaces, EndsOne, OneSpace, AddsOne, plain-shows}
use Rattle.osc_safe.proofs.Tells.{set-cases, added-cases, past-added, past-new, touches-keep, Rests, rests-change, Moves, past-moves, rests-put}

-- ---- answers that speak of no object
plain-before : (a : Answer) (n : ℕ) → is_plain a ≡ true → told_before a n ≡ n
plain-before (answer.Given object pointer) n e = absurd (let b : ⊥ = grind (arith, e) in b)
plain-before (answer.Moved old object pointer) n e = absurd (let b : ⊥ = grind (arith, e) in b)
plain-before a n e = refl

plain-fits : (a : Answer) (n : ℕ) (s : Space) → is_plain a ≡ true → AnswerFits a n s
plain-fits (answer.Moved old object pointer) n s e = absurd (let b : ⊥ = grind (arith, e) in b)
plain-fits a n s e = tt

if-same : {X : Type 0} (b : Bool) (x : X) → (if b then x else x) ≡ x
if-same true x = refl
if-same false x = refl

-- with such an answer a call that commits has told of all objects
commits-plain : (pasts : List Past) (c : Calling) (made : Planned) → is_plain made.answer ≡ true → Rests pasts made.kernel.processes → KernelTold pasts (committed c made)
commits-plain pasts c made e r = record {
  count = r.count;
  each = λ pid p d. (let n = length p.space.objects in
      let said : (if c.pid == pid then told_before made.answer n else n) ≡ n = ap (λ z. if c.pid == pid then z else n) (plain-before made.answer n e) ∙ if-same (c.pid == pid) n in
      subst (λ z. PastFits p.space z (past_of pasts pid)) (sym said) (r.each pid p d));
  waits = r.waits;
  answer = λ done p d f. (let same : made.answer ≡ done.answer = grind (arith, d) in
      subst (λ a. AnswerFits a (length (made.kernel.journal ++ journal_entry c made.answer ∷ [])) p.space) same (plain-fits made.answer _ p.space e));
}

-- ---- the plans of the heap
-- nothing changes
same-moves : (s t : Space) → t.objects ≡ s.objects → t.waiting ≡ s.waiting → Moves s t
same-moves s t e f = record {
  grows = grows-same s.objects t.objects e;
  over = λ object d w. ap (λ ws. list_any (λ waits. waits == object) ws) f ∙ w;
  waits = λ object w. inl (ap (λ ws. list_any (λ waits. waits == object) ws) (sym f) ∙ w);
}

given-moves : (s t : Space) (o : ObjectFact) → t.objects ≡ s.objects ++ o ∷ [] → t.waiting ≡ s.waiting → Moves s t
given-moves s t o e f = record {
  grows = subst (GrowsTo s.objects) (sym e) (grows-added s.objects (o ∷ []));
  over = λ object d w. ap (λ ws. list_any (λ waits. waits == object) ws) f ∙ w;
  waits = λ object w. inl (ap (λ ws. list_any (λ waits. waits == object) ws) (sym f) ∙ w);
}

-- an object that lives is not that of a grave
live-other : (objects : List ObjectFact) (a b : ℕ) (o : ObjectFact) → fact objects a ≡ Some o → o.state ≡ Live → IsDead objects b → a ≢ b
live-other objects a b o e l d same = (let is = d.is in let st = d.state in let q : d.o ≡ o = grind (arith, is, e, same) in let z : ⊥ = grind (arith, q, l, st) in z)

freed-moves : (s t : Space) (object place : ℕ) (o : ObjectFact) → fact s.objects object ≡ Some o → o.state ≡ Live → t.objects ≡ kill object place s.objects → t.waiting ≡ s.waiting ++ object ∷ [] → Moves s t
freed-moves s t object place o is l e f = record {
  grows = subst (GrowsTo s.objects) (sym e) (grows-killed s.objects object place o is l);
  over = λ other d w. (let apart = live-other s.objects object other o is l d in
      more other ∙ (let q : (list_any (λ waits. waits == other) s.waiting || ((object == other) || false)) ≡ false = grind (arith, nat_tests, w, apart) in q));
  waits = λ other w. go other (object == other) refl w;
}
  where
    more : (other : ℕ) → is_waiting t other ≡ (list_any (λ waits. waits == other) s.waiting || ((object == other) || false))
    more other = ap (λ ws. list_any (λ waits. waits == other) ws) f ∙ list_any-append (λ waits. waits == other) s.waiting (object ∷ [])

    go : (other : ℕ) (b : Bool) → (object == other) ≡ b → is_waiting t other ≡ true → (is_waiting s other ≡ true) ⊎ IsDead t.objects other
    go other true c w =
        let same : object ≡ other = grind (arith, nat_tests, c) in
        inr (record { o = killed place o; call = place; is = ap (λ (xs : List ObjectFact). slice_get xs other) e ∙ subst (λ z. fact (kill object place s.objects) z ≡ Some (killed place o)) same (killed_here s.objects object place o is); state = refl })
    go other false c w = inl (let m = more other in (let q : list_any (λ waits. waits == other) s.waiting ≡ true = grind (arith, m, w, c) in q))

moved-moves : (s t : Space) (object place : ℕ) (o more : ObjectFact) → fact s.objects object ≡ Some o → o.state ≡ Live → t.objects ≡ kill object place (s.objects ++ more ∷ []) → t.waiting ≡ s.waiting → Moves s t
moved-moves s t object place o more is l e f = record {
  grows = subst (GrowsTo s.objects) (sym e) (grows-on s.objects (s.objects ++ more ∷ []) _ (grows-added s.objects (more ∷ []))
      (grows-killed (s.objects ++ more ∷ []) object place o (get_append s.objects (more ∷ []) object o is) l));
  over = λ object d w. ap (λ ws. list_any (λ waits. waits == object) ws) f ∙ w;
  waits = λ object w. inl (ap (λ ws. list_any (λ waits. waits == object) ws) (sym f) ∙ w);
}

-- ---- a process's memory, with the answer that gives an object
-- the call's process has told of so many objects, and the others of all
commits-one : (pasts : List Past) (k : KernelState) (c : Calling) (p new : Process) (made : Planned) → process_at k c.pid ≡ Some p → made.kernel.processes ≡ slice_set k.processes c.pid new
    → ((n : ℕ) → told_before made.answer n ≡ length p.space.objects) → Moves p.space new.space → AnswerFits made.answer (length (made.kernel.journal ++ journal_entry c made.answer ∷ [])) new.space → Rests pasts k.processes
    → KernelTold pasts (committed c made)
commits-one pasts k c p new made e ps said m fits r =
    let put = rests-put pasts k.processes c.pid p new e m r in record {
      count = put.count ∙ ap length (sym ps);
      each = λ pid x d. each pid x (c.pid == pid) refl (ap (λ xs. slice_get xs pid) (sym ps) ∙ d);
      waits = λ pid object x d w. put.waits pid object x (ap (λ xs. slice_get xs pid) (sym ps) ∙ d) w;
      answer = λ done x d f. (let same : made.answer ≡ done.answer = grind (arith, d) in
          let whom : c ≡ done.calling = grind (arith, d) in
          let own : new ≡ x = there x (ap (λ xs. slice_get xs c.pid) (sym ps) ∙ subst (λ (z : Calling). slice_get made.kernel.processes z.pid ≡ Some x) (sym whom) f) in
          subst (λ (z : Process). AnswerFits done.answer (length (made.kernel.journal ++ journal_entry c made.answer ∷ [])) z.space) own
          (subst (λ a. AnswerFits a (length (made.kernel.journal ++ journal_entry c made.answer ∷ [])) new.space) same fits));
    }
  where
    there : (x : Process) → slice_get (set k.processes c.pid new) c.pid ≡ Some x → new ≡ x
    there x d = ⊎_elim (λ (q : (c.pid ≡ c.pid) × (new ≡ x)). q.1) (λ (q : (c.pid ≢ c.pid) × (slice_get k.processes c.pid ≡ Some x)). absurd (q.0 refl)) (set-cases k.processes c.pid new c.pid x d)

    each : (pid : ℕ) (x : Process) (b : Bool) → (c.pid == pid) ≡ b → slice_get (set k.processes c.pid new) pid ≡ Some x
        → PastFits x.space (if c.pid == pid then told_before made.answer (length x.space.objects) else length x.space.objects) (past_of pasts pid)
    each pid x true d f =
        let same : c.pid ≡ pid = grind (arith, nat_tests, d) in
        let own : new ≡ x = there x (subst (λ z. slice_get (set k.processes c.pid new) z ≡ Some x) (sym same) f) in
        let count : (if c.pid == pid then told_before made.answer (length x.space.objects) else length x.space.objects) ≡ length p.space.objects =
        ap (λ b. if b then told_before made.answer (length x.space.objects) else length x.space.objects) d ∙ said (length x.space.objects) in
        subst (λ z. PastFits x.space z (past_of pasts pid)) (sym count)
        (subst (λ (z : Process). PastFits z.space (length p.space.objects) (past_of pasts pid)) own
        (subst (λ z. PastFits new.space (length p.space.objects) (past_of pasts z)) same (past-moves p.space new.space (length p.space.objects) (past_of pasts c.pid) m (r.each c.pid p e))))
    each pid x false d f =
        let count : (if c.pid == pid then told_before made.answer (length x.space.objects) else length x.space.objects) ≡ length x.space.objects =
        ap (λ b. if b then told_before made.answer (length x.space.objects) else length x.space.objects) d in
        subst (λ z. PastFits x.space z (past_of pasts pid)) (sym count)
        ((rests-put pasts k.processes c.pid p new e m r).each pid x f)

-- ---- each row
abbrev Commits : List Past → Calling → ℕ → Planned → Type 0
Commits pasts c place made = KernelTold (pasts_from pasts (plan_shows c place made.answer made.effect)) (committed c made)

last-place : {X : Type 0} (xs : List X) (x : X) → length (xs ++ x ∷ []) - 1 ≡ length xs
last-place xs x = (let q = length-append xs (x ∷ []) in omega (arith, q))

put-here : (ps : List Process) (pid : ℕ) (p new : Process) → slice_get ps pid ≡ Some p → slice_get (slice_set ps pid new) pid ≡ Some new
put-here [] pid p new e = absurd (let b : ⊥ = grind (arith, e) in b)
put-here (x ∷ ps) zero p new e = refl
put-here (x ∷ ps) (suc pid) p new e = put-here ps pid p new e

space-tells : (pasts : List Past) (k : KernelState) (c : Calling) (p new : Process) (made : Planned) → process_at k c.pid ≡ Some p → made.kernel.journal ≡ k.journal → made.kernel.processes ≡ slice_set k.processes c.pid new
    → AllTouch (effect_shows c made.effect) → Rests pasts k.processes
    → ((object : ℕ) (o : ObjectFact) → fact p.space.objects object ≡ Some o → o.state ≡ Live → is_waiting p.space object ≡ false)
    → SpaceGoes (length k.journal) p.space new.space made.answer → Commits pasts c (length made.kernel.journal) made
space-tells pasts k c p new made e j ps quiet r live (Stays os ws plain) =
    subst (λ z. KernelTold z (committed c made)) (sym (touches-keep (plan_shows c (length made.kernel.journal) made.answer made.effect) pasts (plain-shows c (length made.kernel.journal) made.answer made.effect plain quiet)))
    (commits-plain pasts c made plain (subst (Rests pasts) (sym ps) (rests-put pasts k.processes c.pid p new e (same-moves p.space new.space os ws) r)))
space-tells pasts k c p new made e j ps quiet r live (Gives o pointer said os ws) =
    let shows : AllTouch (plan_shows c (length made.kernel.journal) made.answer made.effect) = subst (λ a. AllTouch (plan_shows c (length made.kernel.journal) a made.effect)) (sym said) quiet in
    subst (λ z. KernelTold z (committed c made)) (sym (touches-keep (plan_shows c (length made.kernel.journal) made.answer made.effect) pasts shows))
    (commits-one pasts k c p new made e ps (λ n. ap (λ a. told_before a n) said) (given-moves p.space new.space o os ws)
    (subst (λ a. AnswerFits a (length (made.kernel.journal ++ journal_entry c made.answer ∷ [])) new.space) (sym said) tt) r)
space-tells pasts k c p new made e j ps quiet r live (Frees object o said is l os ws) =
    let put = rests-put pasts k.processes c.pid p new e (freed-moves p.space new.space object (length k.journal) o is l os ws) r in
    let now : fact new.space.objects object ≡ Some (killed (length k.journal) o) = ap (λ (xs : List ObjectFact). slice_get xs object) os ∙ killed_here p.space.objects object (length k.journal) o is in
    let laid = rests-change pasts (slice_set k.processes c.pid new) c.pid new (lays_out object (length k.journal)) (put-here k.processes c.pid p new e)
    (λ f. told-waiting (past_of pasts c.pid) new.space (length new.space.objects) object (length k.journal) (killed (length k.journal) o) now refl f) put in
    let shows : pasts_from pasts (plan_shows c (length made.kernel.journal) made.answer made.effect) ≡ change_past c.pid (lays_out object (length k.journal)) pasts =
    ap (λ a. pasts_from pasts (plan_shows c (length made.kernel.journal) a made.effect)) said ∙ ap (λ n. change_past c.pid (lays_out object n) pasts) (ap length j) in
    subst (λ z. KernelTold z (committed c made)) (sym shows)
    (commits-freed (change_past c.pid (lays_out object (length k.journal)) pasts) c made object said (subst (Rests (change_past c.pid (lays_out object (length k.journal)) pasts)) (sym ps) laid))
  where
    commits-freed : (pasts : List Past) (c : Calling) (made : Planned) (object : ℕ) → made.answer ≡ answer.Freed object → Rests pasts made.kernel.processes → KernelTold pasts (committed c made)
    commits-freed pasts c made object e r = record {
      count = r.count;
      each = λ pid p d. (let n = length p.space.objects in
          let said : (if c.pid == pid then told_before made.answer n else n) ≡ n = ap (λ z. if c.pid == pid then z else n) (ap (λ a. told_before a n) e) ∙ if-same (c.pid == pid) n in
          subst (λ z. PastFits p.space z (past_of pasts pid)) (sym said) (r.each pid p d));
      waits = r.waits;
      answer = λ done p d f. (let same : made.answer ≡ done.answer = grind (arith, d) in
          subst (λ a. AnswerFits a (length (made.kernel.journal ++ journal_entry c made.answer ∷ [])) p.space) (sym e ∙ same) tt);
    }
space-tells pasts k c p new made e j ps quiet r live (MovesOne object pointer o more said is l os ws) =
    let shows : pasts_from pasts (plan_shows c (length made.kernel.journal) made.answer made.effect) ≡ pasts = ap (λ a. pasts_from pasts (plan_shows c (length made.kernel.journal) a made.effect)) said in
    let was : fact (p.space.objects ++ more ∷ []) object ≡ Some o = get_append p.space.objects (more ∷ []) object o is in
    let now : fact new.space.objects object ≡ Some (killed (length k.journal) o) = ap (λ (xs : List ObjectFact). slice_get xs object) os ∙ killed_here (p.space.objects ++ more ∷ []) object (length k.journal) o was in
    let place : length k.journal ≡ length (made.kernel.journal ++ journal_entry c made.answer ∷ []) - 1 = sym (last-place made.kernel.journal (journal_entry c made.answer) ∙ ap length j) in
    let none : is_waiting new.space object ≡ false = ap (λ xs. list_any (λ waits. waits == object) xs) ws ∙ live object o is l in
    subst (λ z. KernelTold z (committed c made)) (sym shows)
    (commits-one pasts k c p new made e ps (λ n. ap (λ a. told_before a n) said) (moved-moves p.space new.space object (length k.journal) o more is l os ws)
    (subst (λ a. AnswerFits a (length (made.kernel.journal ++ journal_entry c made.answer ∷ [])) new.space) (sym said)
    (killed (length k.journal) o, now, ap (λ n. Dead n) place, none)) r)

-- a child
child-tells : (pasts : List Past) (k : KernelState) (c : Calling) (p child : Process) → process_at k c.pid ≡ Some p → child.space.objects ≡ p.space.objects → child.space.waiting ≡ p.space.waiting → Rests pasts k.processes
    → Rests (pasts ++ past_of pasts c.pid ∷ []) (k.processes ++ child ∷ [])
child-tells pasts k c p child e os ws r = record {
  count = length-append pasts (past_of pasts c.pid ∷ []) ∙ ap (λ n. n + 1) r.count ∙ sym (length-append k.processes (child ∷ []));
  each = λ pid x d. ⊎_elim
      (λ (q : slice_get k.processes pid ≡ Some x). (let l : pid < length pasts = subst (λ z. pid < z) (sym r.count) (slice_get_within k.processes pid x q) in
      subst (PastFits x.space (length x.space.objects)) (sym (past-added pasts (past_of pasts c.pid) pid l)) (r.each pid x q)))
      (λ (q : (pid ≡ length k.processes) × (child ≡ x)). (let at : length pasts ≡ pid = r.count ∙ sym q.0 in
      subst (λ (z : Process). PastFits z.space (length z.space.objects) (past_of (pasts ++ past_of pasts c.pid ∷ []) pid)) q.1
      (subst (λ z. PastFits child.space (length child.space.objects) (past_of (pasts ++ past_of pasts c.pid ∷ []) z)) at
      (subst (PastFits child.space (length child.space.objects)) (sym (past-new pasts (past_of pasts c.pid)))
      (past-all child.space (length p.space.objects) (past_of pasts c.pid) (past-moves p.space child.space (length p.space.objects) (past_of pasts c.pid) (same-moves p.space child.space os ws) (r.each c.pid p e)))))))
      (added-cases k.processes child pid x d);
  waits = λ pid object x d w. ⊎_elim
      (λ (q : slice_get k.processes pid ≡ Some x). r.waits pid object x q w)
      (λ (q : (pid ≡ length k.processes) × (child ≡ x)). subst (λ (z : Process). IsDead z.space.objects object) q.1
      (subst (λ (xs : List ObjectFact). IsDead xs object) (sym os)
      (r.waits c.pid object p e (ap (λ xs. list_any (λ waits. waits == object) xs) (sym ws) ∙ ap (λ (z : Process). is_waiting z.space object) q.1 ∙ w))))
      (added-cases k.processes child pid x d);
}

live-free : (pasts : List Past) (ps : List Process) (pid : ℕ) (p : Process) → slice_get ps pid ≡ Some p → Rests pasts ps → (object : ℕ) (o : ObjectFact) → fact p.space.objects object ≡ Some o → o.state ≡ Live → is_waiting p.space object ≡ false
live-free pasts ps pid p e r object o is l = go (is_waiting p.space object) refl
  where
    go : (b : Bool) → is_waiting p.space object ≡ b → is_waiting p.space object ≡ false
    go false w = w
    go true w = absurd (live-other p.space.objects object object o is l (r.waits pid object p e w) refl)

pub plan-tells : (pasts : List Past) (k : KernelState) (c : Calling) (p : Process) (made : Planned) → process_at k c.pid ≡ Some p → made.kernel.journal ≡ k.journal → Rests pasts k.processes
    → PlanGoes k c p (length made.kernel.journal) made → Commits pasts c (length made.kernel.journal) made
plan-tells pasts k c p made e j r (SameSpaces ps plain quiet) =
    subst (λ z. KernelTold z (committed c made)) (sym (touches-keep (plan_shows c (length made.kernel.journal) made.answer made.effect) pasts quiet))
    (commits-plain pasts c made plain (subst (Rests pasts) (sym ps) r))
plan-tells pasts k c p made e j r (EndsOne ps plain fault status shows) =
    let ended = rests-change pasts k.processes c.pid p (λ past. record past { waiting = [] }) e (λ f. told-end (past_of pasts c.pid) p.space (length p.space.objects) f) r in
    subst (λ z. KernelTold z (committed c made)) (sym (ap (λ labels. pasts_from pasts labels) shows))
    (commits-plain (change_past c.pid (λ past. record past { waiting = [] }) pasts) c made plain (subst (Rests (change_past c.pid (λ past. record past { waiting = [] }) pasts)) (sym ps) ended))
plan-tells pasts k c p made e j r (OneSpace new ps goes quiet) =
    space-tells pasts k c p new made e j ps quiet r (live-free pasts k.processes c.pid p e r) goes
plan-tells pasts k c p made e j r (AddsOne child ps os ws plain shows) =
    subst (λ z. KernelTold z (committed c made)) (sym (ap (λ labels. pasts_from pasts labels) shows))
    (commits-plain (pasts ++ past_of pasts c.pid ∷ []) c made plain (subst (Rests (pasts ++ past_of pasts c.pid ∷ [])) (sym ps) (child-tells pasts k c p child e os ws r)))
