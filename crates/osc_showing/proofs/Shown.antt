-- What the words show at the call's plan, and after each of its jobs.
use Rattle.std.proofs.Common.{ℕ, ◌*◌, ◌≡◌, ◌<◌, ◌==◌, ◌&&◌, ◌||◌, ◌⊎◌, inl, inr, ⊎_elim, cond, Bool, true, false, Option, Some, None, List, ◌∷◌, length, arith, refl, sym, ap, subst, ◌∙◌}
use Rattle.std.proofs.lemmas.Bool.Decides.{nat_tests}
use Rattle.std.proofs.lemmas.Option.{slice_get_within}
use Rattle.std.proofs.lemmas.List.{length-set}
use Rattle.osc_word.specs.declared.job_list.WordAt.{WordAt}
use Rattle.osc_word.specs.declared.job_list.Job.{Job}
use Rattle.osc_word.specs.declared.job_list.Job.TheVariants.{PutWord, ZeroWords, CopyWords, CopyPart, CopyTable, ClearBox, Tell, ToOut}
use Rattle.osc_sv39.specs.declared.entries.PteEntry.TheVariants.{Table}
use Rattle.osc_sv39.specs.Entries.{entry_of}
use Rattle.osc_sv39.specs.Walk.{word_at, put_word}
use Rattle.osc_paging.specs.declared.Piece.{Piece}
use Rattle.osc_paging.specs.KeptTables.{KeptTables, piece_of, word_in, kept_word}
use Rattle.osc_paging.specs.Agree.{Agrees}
use Rattle.osc_paging.specs.CopyLaws.{IsNoTable, IsTable}
use Rattle.osc_paging.specs.OtherLaws.{IsAnyTable}
use Rattle.osc_paging.proofs.WordLists.{put_word_at}
use Rattle.osc_showing.specs.Showing.{is_closed, is_wiped, AllDue, PutFits, Tidy, Turned, IsShown, Shows, IsQuiet}
use Rattle.osc_showing.proofs.Folds.{decodes, reads-zero, apart-frames}

pub tidy-of : (t : KeptTables) (free : List Bool) (words : List ℕ) → Agrees t free words → Tidy t free
tidy-of t free words a = record { small = a.small; apart = a.apart; taken = a.taken; spare = a.spare; leaves = a.leaves }

-- ---- the words of a table that agree
pub agreed-word : (t : KeptTables) (free : List Bool) (words : List ℕ) (f i : ℕ) → Agrees t free words → IsTable t f → i < 512 → word_at words f i ≡ kept_word t f i
agreed-word t free words f i a h l = go (piece_of t.tables f) refl
  where
    go : (o : Option Piece) → piece_of t.tables f ≡ o → word_at words f i ≡ word_in t o i
    go None e = absurd (h e)
    go (Some p) e = a.agree f i p l e

-- ---- at the plan
pub turns-show : (harts : ℕ) (old t : KeptTables) (before free : List Bool) (js : List Job) (words : List ℕ) → Agrees old before words → Turned old t free js → length words ≡ length free * 512 → AllDue harts js
    → Shows harts old t free js words
turns-show harts old t before free js words a k size due = record {
  size = size;
  tidy = k.tidy;
  olds = k.olds;
  made = k.made;
  jobs = k.jobs;
  shown = λ f i l h c. (let o = was f h c in let w = agreed-word old before words f i a o l in ⊎_elim
      (λ (e : kept_word t f i ≡ kept_word old f i). inl (w ∙ sym e))
      (λ (r : (kept_word old f i ≡ 0) ⊎ (is_wiped js f i ≡ true)). inr (⊎_elim (λ (z : kept_word old f i ≡ 0). inl (w ∙ z)) (λ (z : is_wiped js f i ≡ true). inr (w, z, due)) r))
      (k.kept f i o l));
  links = λ f i to l h c e. k.made to (decodes old before f i to (tidy-of old before words a) (subst (λ z. entry_of z ≡ Table to) (agreed-word old before words f i a (was f h c) l) e));
}
  where
    was : (f : ℕ) → IsAnyTable t f → is_closed js f ≡ false → IsTable old f
    was f h c = ⊎_elim (λ (d : is_closed js f ≡ true). absurd (let e : true ≡ false = sym d ∙ c in let b : ⊥ = grind (arith, e) in b)) (λ (o : IsTable old f). o) (k.news f h)

-- ---- words of tables that stay
pub same-shows : (harts : ℕ) (old t : KeptTables) (free : List Bool) (js : List Job) (words now : List ℕ) → Shows harts old t free js words → length now ≡ length words
    → ((f i : ℕ) → i < 512 → IsAnyTable t f → is_closed js f ≡ false → word_at now f i ≡ word_at words f i) → Shows harts old t free js now
same-shows harts old t free js words now s size same = record {
  size = size ∙ s.size;
  tidy = s.tidy;
  olds = s.olds;
  made = s.made;
  jobs = s.jobs;
  shown = λ f i l h c. subst (λ z. (z ≡ kept_word t f i) ⊎ ((z ≡ 0) ⊎ ((z ≡ kept_word old f i) × (is_wiped js f i ≡ true) × AllDue harts js))) (sym (same f i l h c)) (s.shown f i l h c);
  links = λ f i to l h c e. s.links f i to l h c (subst (λ z. entry_of z ≡ Table to) (same f i l h c) e);
}

-- ---- jobs that write no table
-- what is said of a table with the next job, without it
record Drops (harts : ℕ) (t : KeptTables) (job : Job) (rest : List Job) : Type 0 where
  closed : (f : ℕ) → is_closed (job ∷ rest) f ≡ false → is_closed rest f ≡ false
  opens : (f : ℕ) → IsAnyTable t f → is_closed rest f ≡ false → is_closed (job ∷ rest) f ≡ false
  wiped : (f i : ℕ) → IsAnyTable t f → is_wiped (job ∷ rest) f i ≡ true → is_wiped rest f i ≡ true
  due : AllDue harts (job ∷ rest) → AllDue harts rest

false-or : (a b : Bool) → (a || b) ≡ false → b ≡ false
false-or a b e = grind (arith, e)

or-false : (a b : Bool) → a ≡ false → b ≡ false → (a || b) ≡ false
or-false a b e f = grind (arith, e, f)

quiet-drops : (harts : ℕ) (t : KeptTables) (job : Job) (rest : List Job) → IsQuiet t job → Drops harts t job rest
quiet-drops harts t (CopyWords from to count) rest q = record { closed = λ f e. e; opens = λ f h e. e; wiped = λ f i h e. e; due = λ d hart l. d hart l }
quiet-drops harts t (CopyPart from to bytes) rest q = record { closed = λ f e. e; opens = λ f h e. e; wiped = λ f i h e. e; due = λ d hart l. d hart l }
quiet-drops harts t (CopyTable from to) rest q = record { closed = λ f e. false-or (to == f) (is_closed rest f) e; opens = λ f h e. or-false (to == f) (is_closed rest f) (apart-frames t f to h q) e; wiped = λ f i h e. e; due = λ d hart l. d hart l }
quiet-drops harts t (Tell hart) rest q = record { closed = λ f e. e; opens = λ f h e. e; wiped = λ f i h e. e; due = λ d hart l. d hart l }
quiet-drops harts t (ToOut at first count) rest q = record { closed = λ f e. e; opens = λ f h e. e; wiped = λ f i h e. e; due = λ d hart l. d hart l }
quiet-drops harts t (PutWord at value) rest q = absurd q
quiet-drops harts t (ZeroWords at count) rest q = absurd q
quiet-drops harts t (ClearBox hart) rest q = absurd q

pub quiet-shows : (harts : ℕ) (old t : KeptTables) (free : List Bool) (job : Job) (rest : List Job) (words : List ℕ) → IsQuiet t job → Shows harts old t free (job ∷ rest) words → Shows harts old t free rest words
quiet-shows harts old t free job rest words q s =
    let d = quiet-drops harts t job rest q in record {
      size = s.size;
      tidy = s.tidy;
      olds = s.olds;
      made = λ f h. d.closed f (s.made f h);
      jobs = s.jobs.1;
      shown = λ f i l h c. ⊎_elim
          (λ (e : word_at words f i ≡ kept_word t f i). inl e)
          (λ (r : (word_at words f i ≡ 0) ⊎ ((word_at words f i ≡ kept_word old f i) × (is_wiped (job ∷ rest) f i ≡ true) × AllDue harts (job ∷ rest))). inr (⊎_elim
          (λ (z : word_at words f i ≡ 0). inl z)
          (λ (z : (word_at words f i ≡ kept_word old f i) × (is_wiped (job ∷ rest) f i ≡ true) × AllDue harts (job ∷ rest)). inr (z.0, d.wiped f i h z.1, d.due z.2)) r))
          (s.shown f i l h (d.opens f h c));
      links = λ f i to l h c e. d.closed to (s.links f i to l h (d.opens f h c) e);
    }

-- ---- a cache is cleared: no old word is left by then
pub clear-shows : (harts : ℕ) (old t : KeptTables) (free : List Bool) (hart : ℕ) (rest : List Job) (words : List ℕ) → Shows harts old t free (ClearBox hart ∷ rest) words → Shows harts old t free rest words
clear-shows harts old t free hart rest words s = record {
  size = s.size;
  tidy = s.tidy;
  olds = s.olds;
  made = s.made;
  jobs = s.jobs.1;
  shown = λ f i l h c. ⊎_elim
      (λ (e : word_at words f i ≡ kept_word t f i). inl e)
      (λ (r : (word_at words f i ≡ 0) ⊎ ((word_at words f i ≡ kept_word old f i) × (is_wiped (ClearBox hart ∷ rest) f i ≡ true) × AllDue harts (ClearBox hart ∷ rest))). inr (inl (⊎_elim
      (λ (z : word_at words f i ≡ 0). z)
      (λ (z : (word_at words f i ≡ kept_word old f i) × (is_wiped (ClearBox hart ∷ rest) f i ≡ true) × AllDue harts (ClearBox hart ∷ rest)). absurd (let e : false ≡ true = z.1 in let b : ⊥ = grind (arith, e) in b)) r)))
      (s.shown f i l h c);
  links = s.links;
}

-- ---- a word is put
pub put-shows : (harts : ℕ) (old t : KeptTables) (free : List Bool) (at : WordAt) (value : ℕ) (rest : List Job) (words : List ℕ) → Shows harts old t free (PutWord at value ∷ rest) words
    → Shows harts old t free rest (put_word words at.frame at.index value)
put-shows harts old t free at value rest words s = record {
  size = length-set words _ value ∙ s.size;
  tidy = s.tidy;
  olds = s.olds;
  made = s.made;
  jobs = s.jobs.1;
  shown = λ f i l h c. subst (λ z. (z ≡ kept_word t f i) ⊎ ((z ≡ 0) ⊎ ((z ≡ kept_word old f i) × (is_wiped rest f i ≡ true) × AllDue harts rest))) (sym (word f i l)) (shown f i l h c ((f == at.frame) && (i == at.index)) refl);
  links = λ f i to l h c e. linked f i to l h c ((f == at.frame) && (i == at.index)) refl (subst (λ z. entry_of z ≡ Table to) (word f i l) e);
}
  where
    within : at.frame < length free
    within = slice_get_within free at.frame false s.jobs.0.0

    word : (f i : ℕ) → i < 512 → word_at (put_word words at.frame at.index value) f i ≡ cond ((f == at.frame) && (i == at.index)) value (word_at words f i)
    word f i l = put_word_at words at.frame at.index value f i (length free) s.size within s.jobs.0.1 l

    both : (a b : Bool) → (a && b) ≡ true → (a ≡ true) × (b ≡ true)
    both a b e = grind (arith, e)

    same_number : (a b : ℕ) → (a == b) ≡ true → a ≡ b
    same_number a b e = grind (arith, nat_tests, e)

    turned : (a b : ℕ) → (a == b) ≡ true → (b == a) ≡ false → ⊥
    turned a b e f = grind (arith, nat_tests, e, f)

    -- it is a table's
    fits : (f i : ℕ) → IsAnyTable t f → ((f == at.frame) && (i == at.index)) ≡ true → PutFits t rest at.frame at.index value
    fits f i h d = ⊎_elim
        (λ (none : IsNoTable t at.frame). absurd (turned f at.frame (both (f == at.frame) (i == at.index) d).0 (apart-frames t f at.frame h none)))
        (λ (p : PutFits t rest at.frame at.index value). p)
        s.jobs.0.2

    shown : (f i : ℕ) → i < 512 → IsAnyTable t f → is_closed rest f ≡ false → (b : Bool) → ((f == at.frame) && (i == at.index)) ≡ b
        → (cond b value (word_at words f i) ≡ kept_word t f i) ⊎ ((cond b value (word_at words f i) ≡ 0) ⊎ ((cond b value (word_at words f i) ≡ kept_word old f i) × (is_wiped rest f i ≡ true) × AllDue harts rest))
    shown f i l h c true d =
        let frame = same_number f at.frame (both (f == at.frame) (i == at.index) d).0 in
        let index = same_number i at.index (both (f == at.frame) (i == at.index) d).1 in
        let p = fits f i h d in
        ⊎_elim (λ (z : value ≡ 0). inr (inl z)) (λ (e : value ≡ kept_word t at.frame at.index). inl (e ∙ sym (ap (λ x. kept_word t x i) frame ∙ ap (kept_word t at.frame) index))) p.kept
    shown f i l h c false d = ⊎_elim
        (λ (e : word_at words f i ≡ kept_word t f i). inl e)
        (λ (r : (word_at words f i ≡ 0) ⊎ ((word_at words f i ≡ kept_word old f i) × (is_wiped (PutWord at value ∷ rest) f i ≡ true) × AllDue harts (PutWord at value ∷ rest))). inr (⊎_elim
        (λ (z : word_at words f i ≡ 0). inl z)
        (λ (z : (word_at words f i ≡ kept_word old f i) × (is_wiped (PutWord at value ∷ rest) f i ≡ true) × AllDue harts (PutWord at value ∷ rest)). inr (z.0, still z.1, λ hart m. z.2 hart m)) r))
        (s.shown f i l h c)
      where
        other : (a b c e : ℕ) → ((b == a) && (e == c)) ≡ false → ((a == b) && (c == e)) ≡ false
        other a b c e q = grind (arith, nat_tests, q)

        less : (a b c w : Bool) → (a && b) ≡ false → ((a && b && c) || w) ≡ true → w ≡ true
        less a b c w e f = grind (arith, e, f)

        still : is_wiped (PutWord at value ∷ rest) f i ≡ true → is_wiped rest f i ≡ true
        still e = less (at.frame == f) (at.index == i) (value == 0) (is_wiped rest f i) (other at.frame f at.index i d) e

    linked : (f i to : ℕ) → i < 512 → IsAnyTable t f → is_closed rest f ≡ false → (b : Bool) → ((f == at.frame) && (i == at.index)) ≡ b → entry_of (cond b value (word_at words f i)) ≡ Table to → is_closed rest to ≡ false
    linked f i to l h c true d e = (fits f i h d).opens to e
    linked f i to l h c false d e = s.links f i to l h c e

-- ---- a frame is made 0
pub zero-shows : (harts : ℕ) (old t : KeptTables) (free : List Bool) (at : WordAt) (count : ℕ) (rest : List Job) (words now : List ℕ) → Shows harts old t free (ZeroWords at count ∷ rest) words
    → length now ≡ length words
    → ((f i : ℕ) → i < 512 → (at.frame == f) ≡ false → word_at now f i ≡ word_at words f i)
    → ((i : ℕ) → i < 512 → IsAnyTable t at.frame → word_at now at.frame i ≡ 0)
    → Shows harts old t free rest now
zero-shows harts old t free at count rest words now s size same zero = record {
  size = size ∙ s.size;
  tidy = s.tidy;
  olds = s.olds;
  made = λ f h. false-or (at.frame == f) (is_closed rest f) (s.made f h);
  jobs = s.jobs.1;
  shown = λ f i l h c. shown f i l h c (at.frame == f) refl;
  links = λ f i to l h c e. linked f i to l h c e (at.frame == f) refl;
}
  where
    here : (f i : ℕ) → i < 512 → IsAnyTable t f → (at.frame == f) ≡ true → word_at now f i ≡ 0
    here f i l h d = let frame : at.frame ≡ f = grind (arith, nat_tests, d) in subst (λ x. word_at now x i ≡ 0) frame (zero i l (subst (IsAnyTable t) (sym frame) h))

    shown : (f i : ℕ) → i < 512 → IsAnyTable t f → is_closed rest f ≡ false → (b : Bool) → (at.frame == f) ≡ b → IsShown harts old t rest now f i
    shown f i l h c true d = inr (inl (here f i l h d))
    shown f i l h c false d = subst (λ z. (z ≡ kept_word t f i) ⊎ ((z ≡ 0) ⊎ ((z ≡ kept_word old f i) × (is_wiped rest f i ≡ true) × AllDue harts rest))) (sym (same f i l d)) (⊎_elim
        (λ (e : word_at words f i ≡ kept_word t f i). inl e)
        (λ (r : (word_at words f i ≡ 0) ⊎ ((word_at words f i ≡ kept_word old f i) × (is_wiped (ZeroWords at count ∷ rest) f i ≡ true) × AllDue harts (ZeroWords at count ∷ rest))). inr (⊎_elim
        (λ (z : word_at words f i ≡ 0). inl z)
        (λ (z : (word_at words f i ≡ kept_word old f i) × (is_wiped (ZeroWords at count ∷ rest) f i ≡ true) × AllDue harts (ZeroWords at count ∷ rest)). inr (z.0, z.1, λ hart m. z.2 hart m)) r))
        (s.shown f i l h (or-false (at.frame == f) (is_closed rest f) d c)))

    linked : (f i to : ℕ) → i < 512 → IsAnyTable t f → is_closed rest f ≡ false → entry_of (word_at now f i) ≡ Table to → (b : Bool) → (at.frame == f) ≡ b → is_closed rest to ≡ false
    linked f i to l h c e true d = absurd (reads-zero (word_at now f i) to (here f i l h d) e)
    linked f i to l h c e false d =
        false-or (at.frame == to) (is_closed rest to)
        (s.links f i to l h (or-false (at.frame == f) (is_closed rest f) d c) (subst (λ z. entry_of z ≡ Table to) (same f i l d) e))
