-- Pending jobs, and more of them.
use Rattle.std.proofs.Common.{ℕ, zero, suc, ◌+◌, ◌*◌, ◌≡◌, ◌≢◌, ◌<◌, ◌==◌, ◌||◌, ◌⊎◌, inl, inr, ⊎_elim, Bool, true, false, Option, Some, None, List, [], ◌∷◌, ◌++◌, slice_get, arith, refl, sym, subst, ◌∙◌}
use Rattle.std.specs.List.{list_any}
use Rattle.std.proofs.lemmas.Bool.Decides.{nat_tests}
use Rattle.std.proofs.lemmas.Option.{slice_get_within}
use Rattle.osc_word.specs.declared.job_list.Job.{Job}
use Rattle.osc_word.specs.declared.job_list.Job.TheVariants.{PutWord, ZeroWords, CopyWords, CopyPart, CopyTable, ClearBox, Tell, ToOut}
use Rattle.osc_sv39.specs.declared.entries.Mapping.{Mapping}
use Rattle.osc_sv39.specs.declared.entries.PteEntry.TheVariants.{Absent, Table, Leaf}
use Rattle.osc_sv39.specs.Entries.{entry_of, word_of}
use Rattle.osc_sv39.proofs.EntriesBack.{tables_read_back}
use Rattle.osc_paging.specs.declared.Piece.{Piece}
use Rattle.osc_paging.specs.KeptTables.{KeptTables, piece_of, frame_of, mapping_at, page_entry, link_entry, word_in, kept_word}
use Rattle.osc_paging.specs.CopyLaws.{IsNoTable, IsTable}
use Rattle.osc_paging.specs.OtherLaws.{IsAnyTable}
use Rattle.osc_paging.proofs.TableLists.{apart-found}
use Rattle.osc_parts.specs.Jobs.{AllWriteWhere}
use Rattle.osc_showing.specs.Showing.{is_closed, is_wiped, clears, PutFits, IsWhole, JobsFit, Tidy, IsPlain}

-- ---- folds over more jobs
pub closed-append : (xs ys : List Job) (f : ℕ) → is_closed (xs ++ ys) f ≡ (is_closed xs f || is_closed ys f)
closed-append [] ys f = refl
closed-append (x ∷ xs) ys f = let a = closed-append xs ys f in grind (arith, a)

pub wiped-more : (xs ys : List Job) (f i : ℕ) → is_wiped xs f i ≡ true → is_wiped (xs ++ ys) f i ≡ true
wiped-more [] ys f i e = absurd (let b : ⊥ = grind (arith, e) in b)
wiped-more (PutWord at value ∷ xs) ys f i e = let a = wiped-more xs ys f i in grind (arith, e, a)
wiped-more (ZeroWords at count ∷ xs) ys f i e = wiped-more xs ys f i e
wiped-more (CopyWords from to count ∷ xs) ys f i e = wiped-more xs ys f i e
wiped-more (CopyPart from to bytes ∷ xs) ys f i e = wiped-more xs ys f i e
wiped-more (CopyTable from to ∷ xs) ys f i e = wiped-more xs ys f i e
wiped-more (ClearBox hart ∷ xs) ys f i e = absurd (let b : ⊥ = grind (arith, e) in b)
wiped-more (Tell hart ∷ xs) ys f i e = wiped-more xs ys f i e
wiped-more (ToOut at first count ∷ xs) ys f i e = wiped-more xs ys f i e

pub due-more : (hart : ℕ) (xs ys : List Job) → list_any (clears hart) xs ≡ true → list_any (clears hart) (xs ++ ys) ≡ true
due-more hart [] ys e = absurd (let b : ⊥ = grind (arith, e) in b)
due-more hart (x ∷ xs) ys e = let a = due-more hart xs ys in grind (arith, e, a)

-- ---- jobs that clear words alone
abbrev pub AllZeros : List Bool → List Job → Type 0
AllZeros free [] = Unit {0}
AllZeros free (PutWord at value ∷ jobs) = (slice_get free at.frame ≡ Some false) × (at.index < 512) × (value ≡ 0) × AllZeros free jobs
AllZeros free (job ∷ jobs) = ⊥

pub zeros-append : (free : List Bool) (xs ys : List Job) → AllZeros free xs → AllZeros free ys → AllZeros free (xs ++ ys)
zeros-append free [] ys a b = b
zeros-append free (PutWord at value ∷ xs) ys a b = (a.0, a.1, a.2, zeros-append free xs ys a.3 b)
zeros-append free (ZeroWords at count ∷ xs) ys a b = absurd a
zeros-append free (CopyWords from to count ∷ xs) ys a b = absurd a
zeros-append free (CopyPart from to bytes ∷ xs) ys a b = absurd a
zeros-append free (CopyTable from to ∷ xs) ys a b = absurd a
zeros-append free (ClearBox hart ∷ xs) ys a b = absurd a
zeros-append free (Tell hart ∷ xs) ys a b = absurd a
zeros-append free (ToOut at first count ∷ xs) ys a b = absurd a

pub zeros-closed : (free : List Bool) (xs : List Job) (f : ℕ) → AllZeros free xs → is_closed xs f ≡ false
zeros-closed free [] f a = refl
zeros-closed free (PutWord at value ∷ xs) f a = zeros-closed free xs f a.3
zeros-closed free (ZeroWords at count ∷ xs) f a = absurd a
zeros-closed free (CopyWords from to count ∷ xs) f a = absurd a
zeros-closed free (CopyPart from to bytes ∷ xs) f a = absurd a
zeros-closed free (CopyTable from to ∷ xs) f a = absurd a
zeros-closed free (ClearBox hart ∷ xs) f a = absurd a
zeros-closed free (Tell hart ∷ xs) f a = absurd a
zeros-closed free (ToOut at first count ∷ xs) f a = absurd a

pub zeros-wiped : (free : List Bool) (xs ys : List Job) (f i : ℕ) → AllZeros free xs → is_wiped ys f i ≡ true → is_wiped (xs ++ ys) f i ≡ true
zeros-wiped free [] ys f i a e = e
zeros-wiped free (PutWord at value ∷ xs) ys f i a e = let h = zeros-wiped free xs ys f i a.3 e in grind (arith, h)
zeros-wiped free (ZeroWords at count ∷ xs) ys f i a e = absurd a
zeros-wiped free (CopyWords from to count ∷ xs) ys f i a e = absurd a
zeros-wiped free (CopyPart from to bytes ∷ xs) ys f i a e = absurd a
zeros-wiped free (CopyTable from to ∷ xs) ys f i a e = absurd a
zeros-wiped free (ClearBox hart ∷ xs) ys f i a e = absurd a
zeros-wiped free (Tell hart ∷ xs) ys f i a e = absurd a
zeros-wiped free (ToOut at first count ∷ xs) ys f i a e = absurd a

-- ---- what a kept word reads as
no-table : (to : ℕ) → entry_of 0 ≡ Table to → ⊥
no-table to e = let f : Absent ≡ Table to = e in grind (arith, f)

pub reads-zero : (value to : ℕ) → value ≡ 0 → entry_of value ≡ Table to → ⊥
reads-zero value to z e = no-table to (subst (λ v. entry_of v ≡ Table to) z e)

pub some-is : {A : Type 0} {x : Option A} {y : A} → x ≡ Some y → x ≢ None
some-is e n = let h = sym n ∙ e in let b : ⊥ = grind (arith, h) in b

pub small-frame : (t : KeptTables) (free : List Bool) (l n g : ℕ) → Tidy t free → frame_of t.tables l n ≡ Some g → g < 4294967296
small-frame t free l n g k e =
    let w = slice_get_within free g false (k.taken g _ (apart-found t.tables l n g k.apart e)) in
    let s = k.small in
    omega (arith, w, s)

-- a kept word that reads as a link leads to a table
pub decodes : (t : KeptTables) (free : List Bool) (f i to : ℕ) → Tidy t free → entry_of (kept_word t f i) ≡ Table to → IsTable t to
decodes t free f i to k = go (piece_of t.tables f)
  where
    at : (l n : ℕ) (o : Option ℕ) → frame_of t.tables l n ≡ o → entry_of (word_of (link_entry o)) ≡ Table to → IsTable t to
    at l n None d e = absurd (no-table to e)
    at l n (Some g) d e =
        let r = tables_read_back g (small-frame t free l n g k d) in
        let same : g ≡ to = (let h : Table g ≡ Table to = sym r ∙ e in grind (arith, h)) in
        subst (IsTable t) same (some-is (apart-found t.tables l n g k.apart d))

    leaf : (n : ℕ) (o : Option Mapping) → mapping_at t.pages n ≡ o → entry_of (word_of (page_entry o)) ≡ Table to → ⊥
    leaf n None d e = no-table to e
    leaf n (Some m) d e = (let r = k.leaves n m d in let h : Leaf m.frame m.bits ≡ Table to = sym r ∙ e in grind (arith, h))

    placed : (l n : ℕ) → entry_of (word_in t (Some (record { level = l; number = n })) i) ≡ Table to → IsTable t to
    placed zero n e = absurd (leaf (n * 512 + i) (mapping_at t.pages (n * 512 + i)) refl e)
    placed (suc l) n e = at l (n * 512 + i) (frame_of t.tables l (n * 512 + i)) refl e

    go : (o : Option Piece) → entry_of (word_in t o i) ≡ Table to → IsTable t to
    go None e = absurd (no-table to e)
    go (Some p) e = placed p.level p.number e

-- ---- a put of 0 fits any tables
pub zeros-fit : (t : KeptTables) (free : List Bool) (xs : List Job) → AllZeros free xs → JobsFit t free xs
zeros-fit t free [] a = tt
zeros-fit t free (PutWord at value ∷ xs) a =
    ((a.0, a.1, inr (record { kept = inl a.2; opens = λ to e. absurd (reads-zero value to a.2 e) })), zeros-fit t free xs a.3)
zeros-fit t free (ZeroWords at count ∷ xs) a = absurd a
zeros-fit t free (CopyWords from to count ∷ xs) a = absurd a
zeros-fit t free (CopyPart from to bytes ∷ xs) a = absurd a
zeros-fit t free (CopyTable from to ∷ xs) a = absurd a
zeros-fit t free (ClearBox hart ∷ xs) a = absurd a
zeros-fit t free (Tell hart ∷ xs) a = absurd a
zeros-fit t free (ToOut at first count ∷ xs) a = absurd a

-- ---- more tables, more taken frames and more jobs
pub record Grows (t : KeptTables) (free : List Bool) (u : KeptTables) (after : List Bool) (more : List Job) : Type 0 where
  pub taken : (f : ℕ) → slice_get free f ≡ Some false → slice_get after f ≡ Some false
  pub none : (f : ℕ) → IsNoTable t f → slice_get free f ≡ Some false → IsNoTable u f
  pub words : (f i : ℕ) → i < 512 → (kept_word u f i ≡ kept_word t f i) ⊎ (kept_word t f i ≡ 0)
  pub aside : (f : ℕ) → piece_of t.aside f ≡ None → piece_of u.aside f ≡ None
  pub closed : (f : ℕ) → IsAnyTable t f → is_closed more f ≡ false

both-false : (a b : Bool) → a ≡ false → b ≡ false → (a || b) ≡ false
both-false a b e f = grind (arith, e, f)

put-grows : (t u : KeptTables) (free after : List Bool) (more rest : List Job) (f i value : ℕ) → Tidy t free → Grows t free u after more → i < 512 → PutFits t rest f i value → PutFits u (rest ++ more) f i value
put-grows t u free after more rest f i value k g l p = record { kept = kept; opens = opens }
  where
    kept : (value ≡ 0) ⊎ (value ≡ kept_word u f i)
    kept = ⊎_elim (λ (z : value ≡ 0). inl z)
        (λ (e : value ≡ kept_word t f i). ⊎_elim (λ (same : kept_word u f i ≡ kept_word t f i). inr (e ∙ sym same)) (λ (z : kept_word t f i ≡ 0). inl (e ∙ z)) (g.words f i l))
        p.kept

    opens : (to : ℕ) → entry_of value ≡ Table to → is_closed (rest ++ more) to ≡ false
    opens to e =
        let table : IsTable t to = ⊎_elim (λ (z : value ≡ 0). absurd (reads-zero value to z e)) (λ (q : value ≡ kept_word t f i). decodes t free f i to k (subst (λ v. entry_of v ≡ Table to) q e)) p.kept in
        closed-append rest more to ∙ both-false (is_closed rest to) (is_closed more to) (p.opens to e) (g.closed to (inl table))

pub fit-grows : (t u : KeptTables) (free after : List Bool) (more jobs : List Job) → Tidy t free → Grows t free u after more → JobsFit u after more → JobsFit t free jobs → JobsFit u after (jobs ++ more)
fit-grows t u free after more [] k g m j = m
fit-grows t u free after more (PutWord at value ∷ jobs) k g m j = (
  (
    g.taken at.frame j.0.0,
    j.0.1,
    ⊎_elim
        (λ (none : IsNoTable t at.frame). inl (g.none at.frame none j.0.0))
        (λ (p : PutFits t jobs at.frame at.index value). inr (put-grows t u free after more jobs at.frame at.index value k g j.0.1 p)) j.0.2,
  ),
  fit-grows t u free after more jobs k g m j.1,
)
fit-grows t u free after more (ZeroWords at count ∷ jobs) k g m j = (
  (
    g.taken at.frame j.0.0,
    j.0.1,
    ⊎_elim
        (λ (none : IsNoTable t at.frame). inl (g.none at.frame none j.0.0))
        (λ (w : IsWhole t at.frame at.index count). inr (record { from = w.from; all = w.all; linked = g.aside at.frame w.linked })) j.0.2,
  ),
  fit-grows t u free after more jobs k g m j.1,
)
fit-grows t u free after more (CopyWords from to count ∷ jobs) k g m j = ((g.taken to.frame j.0.0, j.0.1, g.none to.frame j.0.2 j.0.0), fit-grows t u free after more jobs k g m j.1)
fit-grows t u free after more (CopyPart from to bytes ∷ jobs) k g m j = ((g.taken to.frame j.0.0, j.0.1, g.none to.frame j.0.2 j.0.0), fit-grows t u free after more jobs k g m j.1)
fit-grows t u free after more (CopyTable from to ∷ jobs) k g m j = ((g.taken to j.0.0, g.none to j.0.1 j.0.0), fit-grows t u free after more jobs k g m j.1)
fit-grows t u free after more (ClearBox hart ∷ jobs) k g m j = (tt, fit-grows t u free after more jobs k g m j.1)
fit-grows t u free after more (Tell hart ∷ jobs) k g m j = (tt, fit-grows t u free after more jobs k g m j.1)
fit-grows t u free after more (ToOut at first count ∷ jobs) k g m j = (tt, fit-grows t u free after more jobs k g m j.1)

-- ---- jobs in frames that are taken and no tables
pub plain-fit : (t : KeptTables) (free : List Bool) (jobs : List Job) → AllWriteWhere (IsPlain t free) jobs → JobsFit t free jobs
plain-fit t free [] a = tt
plain-fit t free (PutWord at value ∷ jobs) a = ((a.0.1.0, a.0.0, inl a.0.1.1), plain-fit t free jobs a.1)
plain-fit t free (ZeroWords at count ∷ jobs) a = ((a.0.1.0, a.0.0, inl a.0.1.1), plain-fit t free jobs a.1)
plain-fit t free (CopyWords from to count ∷ jobs) a = ((a.0.2.0, a.0.1, a.0.2.1), plain-fit t free jobs a.1)
plain-fit t free (CopyPart from to bytes ∷ jobs) a = ((a.0.1.0, a.0.0, a.0.1.1), plain-fit t free jobs a.1)
plain-fit t free (CopyTable from to ∷ jobs) a = (a.0, plain-fit t free jobs a.1)
plain-fit t free (ClearBox hart ∷ jobs) a = (tt, plain-fit t free jobs a.1)
plain-fit t free (Tell hart ∷ jobs) a = (tt, plain-fit t free jobs a.1)
plain-fit t free (ToOut at first count ∷ jobs) a = (tt, plain-fit t free jobs a.1)

pub apart-frames : (t : KeptTables) (f g : ℕ) → IsAnyTable t f → IsNoTable t g → (g == f) ≡ false
apart-frames t f g a n = go (g == f) refl
  where
    go : (b : Bool) → (g == f) ≡ b → b ≡ false
    go false e = refl
    go true e =
        let same : g ≡ f = grind (arith, nat_tests, e) in
        absurd (⊎_elim (λ (h : IsTable t f). h (subst (λ x. piece_of t.tables x ≡ None) same n.0)) (λ (h : piece_of t.aside f ≢ None). h (subst (λ x. piece_of t.aside x ≡ None) same n.1)) a)

pub plain-closed : (t : KeptTables) (free : List Bool) (jobs : List Job) (f : ℕ) → AllWriteWhere (IsPlain t free) jobs → IsAnyTable t f → is_closed jobs f ≡ false
plain-closed t free [] f a h = refl
plain-closed t free (PutWord at value ∷ jobs) f a h = plain-closed t free jobs f a.1 h
plain-closed t free (ZeroWords at count ∷ jobs) f a h = both-false _ _ (apart-frames t f at.frame h a.0.1.1) (plain-closed t free jobs f a.1 h)
plain-closed t free (CopyWords from to count ∷ jobs) f a h = plain-closed t free jobs f a.1 h
plain-closed t free (CopyPart from to bytes ∷ jobs) f a h = plain-closed t free jobs f a.1 h
plain-closed t free (CopyTable from to ∷ jobs) f a h = both-false _ _ (apart-frames t f to h a.0.1) (plain-closed t free jobs f a.1 h)
plain-closed t free (ClearBox hart ∷ jobs) f a h = plain-closed t free jobs f a.1 h
plain-closed t free (Tell hart ∷ jobs) f a h = plain-closed t free jobs f a.1 h
plain-closed t free (ToOut at first count ∷ jobs) f a h = plain-closed t free jobs f a.1 h
