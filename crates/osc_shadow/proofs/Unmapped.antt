-- One page more is unmapped.
use Rattle.std.proofs.Common.{ℕ, suc, ◌+◌, ◌-◌, ◌/◌, ◌^◌, ◌≡◌, ◌<◌, ◌≤◌, ◌==◌, Bool, true, false, cond, List, [], ◌∷◌, Option, Some, None, arith, refl, ap, sym, subst, ◌∙◌, length}
use Rattle.std.specs.Prelude.{IsSome}
use Rattle.std.specs.List.{range_with_len}
use Rattle.std.proofs.lemmas.Bool.Decides.{nat_tests}
use Rattle.std.proofs.lemmas.List.{length-append}
use Rattle.osc_word.specs.AddressMap.{is_within}
use Rattle.osc_word.specs.JobList.{JobList, spare}
use Rattle.osc_sv39.specs.Walk.{number_of}
use Rattle.osc_sv39.specs.declared.entries.Mapping.{Mapping}
use Rattle.osc_paging.specs.KeptTables.{KeptTables, levels_of, mapping_at, mapping_of, frame_of}
use Rattle.osc_paging.specs.TableChanges.{Changed, leaf_cleared, unmap_page, without_page}
use Rattle.osc_paging.proofs.TableLists.{mapping_at-without_page}
use Rattle.osc_tables.specs.Calls.{changed}
use Rattle.osc_tables.specs.Inside.{IsTop}
use Rattle.osc_space.specs.Free.{unmap_all}
use Rattle.osc_shadow.specs.Unmapping.{CanUnmap, AreUnmapped}
use Rattle.osc_shadow.proofs.LowPages.{is_low, low_mapping}

-- ---- what an unmapping changes
cleared_tables : (n : ℕ) (x : Option ℕ) (c : Changed) → (leaf_cleared n x c).tables ≡ c.tables
cleared_tables n None c = refl
cleared_tables n (Some table) c = refl

cleared_jobs : (n : ℕ) (x : Option ℕ) (c : Changed) → length (leaf_cleared n x c).jobs ≤ length c.jobs + 1
cleared_jobs n None c = omega arith
cleared_jobs n (Some table) c = rw (length-append c.jobs) (omega arith)

pub unmap_tables : (n : ℕ) (c : Changed) → (unmap_page n c).tables ≡ record (c.tables) { pages = without_page n c.tables.pages }
unmap_tables n c = cleared_tables n (frame_of c.tables.tables 0 (n / 512)) (record c { tables = record (c.tables) { pages = without_page n c.tables.pages } })

pub unmap_jobs : (n : ℕ) (c : Changed) → length (unmap_page n c).jobs ≤ length c.jobs + 1
unmap_jobs n c = cleared_jobs n (frame_of c.tables.tables 0 (n / 512)) (record c { tables = record (c.tables) { pages = without_page n c.tables.pages } })

-- ---- so many pages were unmapped
pub record Unmapping (t u : KeptTables) (jobs now : JobList) (first done count : ℕ) : Type 0 where
  pub next : (free : List Bool) → unmap_all (range_with_len (first + done) (count - done)) (changed u free now.pushed) ≡ unmap_all (range_with_len first count) (changed t free jobs.pushed)
  pub tables : u ≡ record t { pages = u.pages }
  pub pages : AreUnmapped first done t u
  pub few : length now.pushed ≤ length jobs.pushed + done
  pub room : now.room ≡ jobs.room

pub unmapping_none : (t : KeptTables) (jobs : JobList) (first count : ℕ) → Unmapping t t jobs jobs first 0 count
unmapping_none t jobs first count = record {
  next = λ free. (let a : first + 0 ≡ first = omega arith in let b : count - 0 ≡ count = omega arith in rw (a, b) refl);
  tables = refl;
  pages = λ page. (let out : is_within first (first + 0) page ≡ false = grind (arith, nat_tests) in rw out refl);
  few = omega arith;
  room = refl;
}

-- what the unmapping of the next page asks for
pub still_mapped : (t u : KeptTables) (jobs now : JobList) (first done count : ℕ) → CanUnmap t jobs first count → Unmapping t u jobs now first done count → done < count
    → IsSome (mapping_of u (first + done)) × (1 ≤ spare now) × (number_of (levels_of u) (first + done) ≡ first + done)
still_mapped t u jobs now first done count can so l =
    let low = can.low in
    let room = can.spare in
    let few = so.few in
    let same = so.room in
    let small : first + done < 2 ^ 26 = omega arith in
    let top_is : u.top ≡ t.top = ap (λ (x : KeptTables). x.top) so.tables in
    let top : IsTop u.top = subst IsTop (sym top_is) can.top in
    let here = low_mapping u (first + done) top small in
    let out : is_within first (first + done) (first + done) ≡ false = grind (arith, nat_tests) in
    let was = so.pages (first + done) in
    let mapped = can.mapped (first + done) (omega arith) (omega arith) in
    let is : mapping_at u.pages (first + done) ≡ mapping_at t.pages (first + done) = was ∙ ap (λ b. cond b None (mapping_at t.pages (first + done))) out in
    (rw (here, is) mapped, omega arith, (is_low u.top (first + done) top small).1)

range_next : (first count done : ℕ) → done < count → range_with_len (first + done) (count - done) ≡ (first + done) ∷ range_with_len (first + (done + 1)) (count - (done + 1))
range_next first count done l =
    let e : count - done ≡ suc (count - (done + 1)) = omega arith in
    let f : first + done + 1 ≡ first + (done + 1) = omega arith in
    rw e (rw f refl)

both : (first done page : ℕ) (x : Option Mapping) → cond (first + done == page) None (cond (is_within first (first + done) page) None x) ≡ cond (is_within first (first + (done + 1)) page) None x
both first done page x = go (first + done == page) (is_within first (first + done) page) (is_within first (first + (done + 1)) page) refl refl refl
  where
    go : (a b d : Bool) → (first + done == page) ≡ a → is_within first (first + done) page ≡ b → is_within first (first + (done + 1)) page ≡ d → cond a None (cond b None x) ≡ cond d None x
    go true b true e f g = refl
    go true b false e f g = grind (arith, nat_tests, e, g)
    go false true true e f g = refl
    go false true false e f g = grind (arith, nat_tests, e, f, g)
    go false false true e f g = grind (arith, nat_tests, e, f, g)
    go false false false e f g = refl

pub unmapping_more : (t u v : KeptTables) (jobs now after : JobList) (first done count n : ℕ) → Unmapping t u jobs now first done count → done < count → n ≡ first + done
    → ((free : List Bool) → changed v free after.pushed ≡ unmap_page n (changed u free now.pushed)) → after.room ≡ now.room
    → Unmapping t v jobs after first (done + 1) count
unmapping_more t u v jobs now after first done count n so l n_is made room =
    let put : changed v [] after.pushed ≡ unmap_page (first + done) (changed u [] now.pushed) = made [] ∙ ap (λ k. unmap_page k (changed u [] now.pushed)) n_is in
    let tables_are : v ≡ record u { pages = without_page (first + done) u.pages } = ap (λ (c : Changed). c.tables) put ∙ unmap_tables (first + done) (changed u [] now.pushed) in
    let jobs_are = ap (λ (c : Changed). length c.jobs) put in
    let one = unmap_jobs (first + done) (changed u [] now.pushed) in
    let few = so.few in
    let pages_are : v.pages ≡ without_page (first + done) u.pages = ap (λ (x : KeptTables). x.pages) tables_are in
    record {
      next = λ free. ap (λ c. unmap_all (range_with_len (first + (done + 1)) (count - (done + 1))) c) (made free ∙ ap (λ k. unmap_page k (changed u free now.pushed)) n_is)
          ∙ ap (λ ps. unmap_all ps (changed u free now.pushed)) (sym (range_next first count done l)) ∙ so.next free;
      tables = tables_are ∙ ap (λ ps. record u { pages = ps }) (sym pages_are) ∙ ap (λ (x : KeptTables). record x { pages = v.pages }) so.tables;
      pages = λ page. ap (λ ms. mapping_at ms page) pages_are ∙ mapping_at-without_page u.pages (first + done) page
          ∙ ap (λ x. cond (first + done == page) None x) (so.pages page) ∙ both first done page (mapping_at t.pages page);
      few = omega arith;
      room = room ∙ so.room;
    }
