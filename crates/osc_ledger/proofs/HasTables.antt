-- What tables there are, by the pages ever mapped and the leaves given up, as both change.
use Rattle.std.proofs.Common.{ℕ, zero, suc, ◌/◌, ◌≡◌, ◌<◌, ◌≤◌, ◌==◌, ◌&&◌, ◌||◌, not, Bool, true, false, Option, Some, None, is_some, List, [], ◌∷◌, arith, refl, sym, ap, subst, ◌∙◌}
use Rattle.std.specs.List.{list_any}
use Rattle.std.proofs.lemmas.Bool.Decides.{nat_tests}
use Rattle.osc_paging.specs.KeptTables.{KeptTables, frame_of}
use Rattle.osc_paging.specs.TableChanges.{Changed, leaf_cleared, without_page, unmap_page, unlinked, reclaim}
use Rattle.osc_space.specs.declared.ObjectFact.{ObjectFact}
use Rattle.osc_space.specs.Objects.{is_in_leaf, leaf_dead}
use Rattle.osc_space.specs.Space.{Draft}
use Rattle.osc_space.specs.Free.{unmap_all, reclaim_all, dead_leaves, flush}
use Rattle.osc_space.specs.PlanLaws.{table_after, is_given_up, LeavesStand}
use Rattle.osc_space.proofs.PlanLawProofs.{flush_gives_up}
use Rattle.osc_ledger.specs.Tables.{has_piece}
use Rattle.osc_ledger.proofs.AddedTables.{there, Adds}

-- `ever` tells of each piece whether a page in it was ever mapped, `given` of each leaf whether it was given up
pub record HasTables (ever : ℕ → ℕ → Bool) (given : ℕ → Bool) (t : KeptTables) : Type 0 where
  pub below : (level number : ℕ) → level < t.top → there t level number ≡ (ever level number && not ((level == 0) && given number))
  pub above : (level number : ℕ) → t.top ≤ level → there t level number ≡ ((t.top == level) && (0 == number))

-- ---- pages more
more-below : (T U P E z G : Bool) → T ≡ (E && not (z && G)) → (T ≡ true → U ≡ true) → (U ≡ true → (T || P) ≡ true) → (P ≡ true → U ≡ true) → (z ≡ true → P ≡ true → G ≡ false)
    → U ≡ ((P || E) && not (z && G))
more-below T U true E true G e a b c d = c refl ∙ sym (ap (λ g. not g) (d refl refl))
more-below T U true E false G e a b c d = c refl
more-below true true false E z G e a b c d = e
more-below false true false E z G e a b c d = absurd (let f = b refl in let w : ⊥ = grind (arith, f) in w)
more-below true false false E z G e a b c d = absurd (let f = a refl in let w : ⊥ = grind (arith, f) in w)
more-below false false false E z G e a b c d = e

pub added : (ever : ℕ → ℕ → Bool) (given : ℕ → Bool) (pages : List ℕ) (t u : KeptTables) → HasTables ever given t → Adds pages t u
    → ((level number : ℕ) → level < u.top → has_piece level number pages ≡ true → there u level number ≡ true) → ((number : ℕ) → has_piece 0 number pages ≡ true → given number ≡ false)
    → HasTables (λ level number. has_piece level number pages || ever level number) given u
added ever given pages t u h a over fresh = record {
  below = λ level number l.
      more-below (there t level number) (there u level number) (has_piece level number pages) (ever level number) (level == 0) (given number)
      (h.below level number (subst (λ x. level < x) a.top l)) (a.stays level number) (a.only level number) (over level number l)
      (λ z p. fresh number (subst (λ x. has_piece x number pages ≡ true) (let e : level ≡ 0 = grind (arith, nat_tests, z) in e) p));
  above = λ level number l.
      a.above level number (subst (λ x. x ≤ level) a.top l) ∙ h.above level number (subst (λ x. x ≤ level) a.top l) ∙ ap (λ x. (x == level) && (0 == number)) (sym a.top);
}

-- ---- the same tests
pub same-tests : (ever more : ℕ → ℕ → Bool) (given less : ℕ → Bool) (t : KeptTables) → ((level number : ℕ) → more level number ≡ ever level number) → ((number : ℕ) → less number ≡ given number)
    → HasTables ever given t → HasTables more less t
same-tests ever more given less t e f h = record {
  below = λ level number l. h.below level number l ∙ ap (λ x. x && not ((level == 0) && given number)) (sym (e level number)) ∙ ap (λ x. more level number && not ((level == 0) && x)) (sym (f number));
  above = h.above;
}

pub same-tables : (ever : ℕ → ℕ → Bool) (given : ℕ → Bool) (t u : KeptTables) → u.tables ≡ t.tables → u.top ≡ t.top → HasTables ever given t → HasTables ever given u
same-tables ever given t u e f h = record {
  below = λ level number l. ap (λ ts. is_some (frame_of ts level number)) e ∙ h.below level number (subst (λ x. level < x) f l);
  above = λ level number l. ap (λ ts. is_some (frame_of ts level number)) e ∙ h.above level number (subst (λ x. x ≤ level) f l) ∙ ap (λ x. (x == level) && (0 == number)) (sym f);
}

-- ---- unmapping leaves the tables
unmap-one : (page : ℕ) (o : Option ℕ) (c : Changed) → ((leaf_cleared page o (record c { tables = record (c.tables) { pages = without_page page c.tables.pages } })).tables.tables ≡ c.tables.tables)
    × ((leaf_cleared page o (record c { tables = record (c.tables) { pages = without_page page c.tables.pages } })).tables.top ≡ c.tables.top)
unmap-one page None c = (refl, refl)
unmap-one page (Some table) c = (refl, refl)

pub unmap-tables : (pages : List ℕ) (c : Changed) → ((unmap_all pages c).tables.tables ≡ c.tables.tables) × ((unmap_all pages c).tables.top ≡ c.tables.top)
unmap-tables [] c = (refl, refl)
unmap-tables (page ∷ pages) c =
    let one = unmap-one page (frame_of c.tables.tables 0 (page / 512)) c in
    let on = unmap-tables pages (unmap_page page c) in (on.0 ∙ one.0, on.1 ∙ one.1)

reclaim-top : (leaf : ℕ) (x y : Option ℕ) (c : Changed) → (unlinked leaf x y c).tables.top ≡ c.tables.top
reclaim-top leaf (Some frame) (Some parent) c = refl
reclaim-top leaf (Some frame) None c = refl
reclaim-top leaf None y c = refl

reclaims-top : (leaves : List ℕ) (c : Changed) → (reclaim_all leaves c).tables.top ≡ c.tables.top
reclaims-top [] c = refl
reclaims-top (leaf ∷ leaves) c = reclaims-top leaves (reclaim leaf c) ∙ reclaim-top leaf (frame_of c.tables.tables 0 leaf) (frame_of c.tables.tables 1 (leaf / 512)) c

pub flush-top : (harts : ℕ) (gone : List ObjectFact) (d : Draft) → (flush harts gone d).space.tables.top ≡ d.space.tables.top
flush-top harts gone d = reclaims-top (dead_leaves gone d.space) (record { tables = d.space.tables; free = d.free; jobs = d.jobs })

-- ---- a flush
after-some : (b : Bool) (x : Option ℕ) → is_some (table_after b x) ≡ (not b && is_some x)
after-some true x = refl
after-some false x = refl

gives : (T E D W : Bool) → T ≡ (E && not (D && not W)) → (not (T && (D && W)) && T) ≡ (E && not D)
gives T E D W e = subst (λ x. (not (x && (D && W)) && x) ≡ (E && not D)) (sym e) (all E D W)
  where
    all : (E D W : Bool) → (not ((E && not (D && not W)) && (D && W)) && (E && not (D && not W))) ≡ (E && not D)
    all true true true = refl
    all true true false = refl
    all true false true = refl
    all true false false = refl
    all false true true = refl
    all false true false = refl
    all false false true = refl
    all false false false = refl

-- of the leaves whose pages are dead those over what is gone are given up, and the others were
pub flushed : (ever : ℕ → ℕ → Bool) (waits : ℕ → Bool) (harts : ℕ) (gone : List ObjectFact) (d : Draft) → 0 < d.space.tables.top → LeavesStand d → ((leaf : ℕ) → list_any (is_in_leaf leaf) gone ≡ waits leaf)
    → HasTables ever (λ leaf. leaf_dead d.space.objects leaf && not (waits leaf)) d.space.tables
    → HasTables ever (λ leaf. leaf_dead d.space.objects leaf) (flush harts gone d).space.tables
flushed ever waits harts gone d deep stand is h = record {
  below = low;
  above = λ level number l. high level number (subst (λ x. x ≤ level) top l) ∙ ap (λ x. (x == level) && (0 == number)) (sym top);
}
  where
    top : (flush harts gone d).space.tables.top ≡ d.space.tables.top
    top = flush-top harts gone d

    leaf-there : (n : ℕ) → there (flush harts gone d).space.tables 0 n ≡ (not (there d.space.tables 0 n && (leaf_dead d.space.objects n && waits n)) && there d.space.tables 0 n)
    leaf-there n =
        ap (λ (o : Option ℕ). is_some o) ((flush_gives_up harts gone d).leaves stand n)
        ∙ after-some (is_given_up gone d n) (frame_of d.space.tables.tables 0 n)
        ∙ ap (λ w. not (there d.space.tables 0 n && (leaf_dead d.space.objects n && w)) && there d.space.tables 0 n) (is n)

    up : (level number : ℕ) → there (flush harts gone d).space.tables (suc level) number ≡ there d.space.tables (suc level) number
    up level number = ap (λ (o : Option ℕ). is_some o) ((flush_gives_up harts gone d).above level number)

    low : (level number : ℕ) → level < (flush harts gone d).space.tables.top → there (flush harts gone d).space.tables level number ≡ (ever level number && not ((level == 0) && leaf_dead d.space.objects number))
    low zero number l =
        let z : (zero == 0) ≡ true = grind (arith, nat_tests) in
        let was : there d.space.tables 0 number ≡ (ever 0 number && not (leaf_dead d.space.objects number && not (waits number))) =
        h.below 0 number (subst (λ x. 0 < x) top l) ∙ ap (λ b. ever 0 number && not (b && (leaf_dead d.space.objects number && not (waits number)))) z in
        leaf-there number ∙ gives (there d.space.tables 0 number) (ever 0 number) (leaf_dead d.space.objects number) (waits number) was
        ∙ sym (ap (λ b. ever 0 number && not (b && leaf_dead d.space.objects number)) z)
    low (suc level) number l =
        let z : (suc level == 0) ≡ false = grind (arith, nat_tests) in
        up level number ∙ h.below (suc level) number (subst (λ x. suc level < x) top l)
        ∙ ap (λ b. ever (suc level) number && not (b && (leaf_dead d.space.objects number && not (waits number)))) z
        ∙ sym (ap (λ b. ever (suc level) number && not (b && leaf_dead d.space.objects number)) z)

    high : (level number : ℕ) → d.space.tables.top ≤ level → there (flush harts gone d).space.tables level number ≡ ((d.space.tables.top == level) && (0 == number))
    high zero number l = absurd (let w : ⊥ = omega (arith, l, deep) in w)
    high (suc level) number l = up level number ∙ h.above (suc level) number l
