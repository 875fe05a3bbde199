-- The frames that pages and the stack need, counted page by page.
use Rattle.std.proofs.Common.{ℕ, suc, ◌≡◌, ◌+◌, ◌-◌, ◌/◌, ◌<◌, ◌≤◌, ◌==◌, arith, refl, ◌∙◌, ap, true, false, ◌⊎◌, inl, inr, List, [], ◌∷◌, ◌++◌, length, map}
use Rattle.std.proofs.Math.Nat.{div-mul-le_self}
use Rattle.std.proofs.lemmas.Nat.{le-div}
use Rattle.std.specs.List.{list_any}
use Rattle.std.proofs.lemmas.Bool.Decides.{nat_tests}
use Rattle.std.proofs.lemmas.List.Folds.{list_any-append}
use Rattle.osc_sv39.specs.declared.flags.PteBits.{PteBits}
use Rattle.osc_sv39.specs.Walk.{piece, IsLevels}
use Rattle.osc_image.specs.Frames.{different, stack_pages, tables_below, table_count}
use Rattle.osc_calls.specs.Open.{OpenPage}
use Rattle.osc_open.specs.Laying.{AreImagePages, frames_for, number_of_page, pages_of}
use Rattle.osc_open.proofs.Different.{different-more}

-- the tables so far are those below `next`, and the one before it is the last
pub record Counted (tables : List ℕ) (count next : ℕ) : Type 0 where
  pub count_is : count ≡ different tables
  pub below : (n : ℕ) → next ≤ n → list_any (λ y. y == n) tables ≡ false
  pub last : 0 < next → list_any (λ y. y == next - 1) tables ≡ true

counted-new : (tables : List ℕ) (count next table : ℕ) → next ≤ table → Counted tables count next
    → Counted (tables ++ table ∷ []) (count + 1) (table + 1)
counted-new tables count next table above counted = record {
  count_is = rw (different-more tables table, counted.below table above) (omega (arith, counted.count_is));
  below = λ n far. rw (list_any-append (λ y. y == n) tables (table ∷ []), counted.below n (omega arith)) (grind (arith, nat_tests));
  last = λ some. rw (list_any-append (λ y. y == table + 1 - 1) tables (table ∷ [])) (grind (arith, nat_tests));
}

counted-same : (tables : List ℕ) (count next table : ℕ) → next ≡ table + 1 → Counted tables count next
    → Counted (tables ++ table ∷ []) count next
counted-same tables count next table is counted =
    let last : list_any (λ y. y == table) tables ≡ true =
    ap (λ n. list_any (λ y. y == n) tables) (omega arith) ∙ counted.last (omega arith) in
    record {
      count_is = rw (different-more tables table, last) (omega (arith, counted.count_is));
      below = λ n far. rw (list_any-append (λ y. y == n) tables (table ∷ []), counted.below n far) (grind (arith, nat_tests));
      last = λ some. rw (list_any-append (λ y. y == next - 1) tables (table ∷ []), counted.last some) refl;
    }

-- ---- page by page
abbrev pub tables_of : ℕ → List (ℕ × PteBits) → List ℕ
tables_of size pages = map (λ (page : ℕ). page / size) (map number_of_page (pages_of pages))

-- the first pages are counted, and the others follow
pub record Counting (size : ℕ) (done rest : List (ℕ × PteBits)) (count next : ℕ) : Type 0 where
  pub low : ℕ
  pub pages : AreImagePages low (pages_of rest)
  pub near : next ≤ low / size + 1
  pub counted : Counted (tables_of size done) count next
  pub few : count ≤ length done

pub counting_none : (size : ℕ) (pages : List (ℕ × PteBits)) → AreImagePages 16 (pages_of pages) → Counting size [] pages 0 0
counting_none size pages are = record {
  low = 16;
  pages = are;
  near = omega arith;
  counted = record { count_is = refl; below = λ n above. refl; last = λ some. absurd (omega arith) };
  few = omega arith;
}

later : (size low page : ℕ) → 0 < size → low ≤ page → low / size ≤ page / size
later size low page some l = le-div (low / size) page size some (omega (arith, div-mul-le_self low size))

tables-more : (size : ℕ) (done : List (ℕ × PteBits)) (p : ℕ × PteBits) → tables_of size (done ++ p ∷ []) ≡ tables_of size done ++ (p.0 / size) ∷ []
tables-more size [] p = refl
tables-more size (q ∷ done) p = ap (λ xs. (q.0 / size) ∷ xs) (tables-more size done p)

length-more : (done : List (ℕ × PteBits)) (p : ℕ × PteBits) → length (done ++ p ∷ []) ≡ suc (length done)
length-more [] p = refl
length-more (q ∷ done) p = ap suc (length-more done p)

pub counting_new : (size : ℕ) (done rest : List (ℕ × PteBits)) (p : ℕ × PteBits) (count next : ℕ) → 0 < size → next ≤ p.0 / size
    → Counting size done (p ∷ rest) count next → Counting size (done ++ p ∷ []) rest (count + 1) (p.0 / size + 1)
counting_new size done rest p count next some l c =
    let on = later size p.0 (suc p.0) some (omega arith) in
    let long = length-more done p in
    let few = c.few in
    record {
      low = suc p.0;
      pages = c.pages.3;
      near = omega (arith, on);
      counted = rw (tables-more size done p) (counted-new (tables_of size done) count next (p.0 / size) l c.counted);
      few = omega (arith, long, few);
    }

pub counting_same : (size : ℕ) (done rest : List (ℕ × PteBits)) (p : ℕ × PteBits) (count next : ℕ) → 0 < size → p.0 / size < next
    → Counting size done (p ∷ rest) count next → Counting size (done ++ p ∷ []) rest count next
counting_same size done rest p count next some l c =
    let on = later size p.0 (suc p.0) some (omega arith) in
    let before = later size c.low p.0 some c.pages.0 in
    let near = c.near in
    let long = length-more done p in
    let few = c.few in
    record {
      low = suc p.0;
      pages = c.pages.3;
      near = omega (arith, on, before, near, l);
      counted = rw (tables-more size done p) (counted-same (tables_of size done) count next (p.0 / size) (omega (arith, before, near, l)) c.counted);
      few = omega (arith, long, few);
    }

pub length-pages : (pages : List (ℕ × PteBits)) → length (pages_of pages) ≡ length pages
length-pages [] = refl
length-pages (p ∷ pages) = ap suc (length-pages pages)

-- ---- the stack's tables are none of an image's
apart : (size table low : ℕ) (ps : List OpenPage) → ((page : ℕ) → page < 1048576 → page / size < table) → AreImagePages low ps
    → list_any (λ y. y == table) (map (λ (page : ℕ). page / size) (map number_of_page ps)) ≡ false
apart size table low [] small are = refl
apart size table low (p ∷ ps) small are =
    let other : (p.page / size == table) ≡ false = (let l = small p.page are.1 in grind (arith, nat_tests, l)) in
    rw (other, apart size table (suc p.page) ps small are.3) refl

directories : (used : List ℕ) → map (piece 2) used ≡ map (λ (page : ℕ). page / 262144) used
directories [] = refl
directories (page ∷ used) =
    let same : page / 512 / 512 ≡ page / 262144 = omega arith in rw (same, directories used) refl

-- ---- with four levels all lie in one table of the level below the topmost one
top_tables : (low : ℕ) (ps : List OpenPage) (xs : List ℕ) → AreImagePages low ps → different (0 ∷ map (piece 3) (map number_of_page ps)) ≡ 1
top_tables low [] xs are = refl
top_tables low (p ∷ ps) xs are =
    let z : p.page / 512 / 512 / 512 ≡ 0 = (let l = are.1 in omega (arith, l)) in
    let on = top_tables (suc p.page) ps xs are.3 in
    rw z (omega (arith, on))

-- ---- the frames
lower : (low : ℕ) (ps : List OpenPage) → AreImagePages low ps → tables_below 2 (stack_pages ++ map number_of_page ps)
    ≡ 2 + (different (map (λ (page : ℕ). page / 262144) (map number_of_page ps)) + different (map (λ (page : ℕ). page / 512) (map number_of_page ps)))
unfolding tables_below
lower low ps are =
    rw (directories (map number_of_page ps), apart 262144 4 low ps (λ page l. omega arith) are, apart 512 2048 low ps (λ page l. omega arith) are)
    (omega arith)

upper : (low : ℕ) (ps : List OpenPage) → AreImagePages low ps → tables_below 3 (stack_pages ++ map number_of_page ps)
    ≡ 3 + (different (map (λ (page : ℕ). page / 262144) (map number_of_page ps)) + different (map (λ (page : ℕ). page / 512) (map number_of_page ps)))
unfolding tables_below
upper low ps are = rw (top_tables low ps [] are, lower low ps are) (omega arith)

pub length-numbers : (ps : List OpenPage) → length (map number_of_page ps) ≡ length ps
length-numbers [] = refl
length-numbers (p ∷ ps) = ap suc (length-numbers ps)

pub frames-are : (levels low : ℕ) (ps : List OpenPage) → IsLevels levels → AreImagePages low ps → frames_for levels ps
    ≡ length ps + 16 + levels + (different (map (λ (page : ℕ). page / 262144) (map number_of_page ps)) + different (map (λ (page : ℕ). page / 512) (map number_of_page ps)))
unfolding frames_for
frames-are levels low ps l are = pick (which l)
  where
    which : IsLevels levels → (levels ≡ 3) ⊎ (levels ≡ 4)
    which l = grind arith

    pick : (levels ≡ 3) ⊎ (levels ≡ 4) → length (stack_pages ++ map number_of_page ps) + table_count levels (stack_pages ++ map number_of_page ps)
        ≡ length ps + 16 + levels + (different (map (λ (page : ℕ). page / 262144) (map number_of_page ps)) + different (map (λ (page : ℕ). page / 512) (map number_of_page ps)))
    pick (inl three) = rw three (omega (arith, lower low ps are, length-numbers ps))
    pick (inr four) = rw four (omega (arith, upper low ps are, length-numbers ps))
