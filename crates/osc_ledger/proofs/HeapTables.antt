-- The tables of a process after a call on the heap with shadows are those that the journal tells.
use Rattle.std.proofs.Common.{ℕ, suc, ◌+◌, ◌*◌, ◌/◌, ◌≡◌, ◌≢◌, ◌<◌, ◌≤◌, ◌==◌, ◌&&◌, ◌||◌, nat_lt, nat_le, not, Bool, true, false, Option, Some, None, is_some, List, [], ◌∷◌, ◌++◌, arith, refl, sym, ap, subst, ◌∙◌}
use Rattle.std.specs.List.{list_any, range_with_len}
use Rattle.std.proofs.lemmas.Bool.Decides.{nat_tests}
use Rattle.std.proofs.lemmas.List.Folds.{list_any-append}
use Rattle.osc_word.specs.declared.settings.HeapKind.TheVariants.{Oscar}
use Rattle.osc_word.specs.AddressMap.{first_shared_page, first_shadow_page, is_shadow}
use Rattle.osc_sv39.specs.Walk.{piece}
use Rattle.osc_image.specs.Frames.{stack_pages}
use Rattle.osc_slot.specs.declared.Block.{Block}
use Rattle.osc_paging.specs.KeptTables.{KeptTables, mapping_at}
use Rattle.osc_space.specs.declared.ObjectFact.{ObjectFact}
use Rattle.osc_space.specs.Objects.{mark, next_page, granted_at, is_live, has_page, is_live_page, is_in_leaf, is_leaf_granted, leaf_dead}
use Rattle.osc_space.specs.Agree.{HeapAgrees, ObjectsAgree}
use Rattle.osc_space.specs.Space.{Draft, Closing, Keeps, GivesBack}
use Rattle.osc_space.specs.Finish.{give_blocks, finished}
use Rattle.osc_calls.specs.Kernel.{KernelState, Process, process_at}
use Rattle.osc_settled.specs.Memory.{at_rest}
use Rattle.osc_settled.specs.UnderWay.{closing_of}
use Rattle.osc_settled.specs.KernelFits.{KernelFits}
use Rattle.osc_machine.specs.Replay.{Ledger}
use Rattle.osc_machine.specs.Refusals.{Setting, region_pages, ever_mapped}
use Rattle.osc_ledger.specs.Tables.{has_piece}
use Rattle.osc_ledger.proofs.AddedTables.{any-range}

-- ---- what a return leaves
gave-tables : (blocks : List Block) (d : Draft) → (give_blocks blocks d).space.tables ≡ d.space.tables
gave-tables [] d = refl
gave-tables (block ∷ blocks) d = gave-tables blocks _

gave-objects : (blocks : List Block) (d : Draft) → (give_blocks blocks d).space.objects ≡ d.space.objects
gave-objects [] d = refl
gave-objects (block ∷ blocks) d = gave-objects blocks _

finished-pages : (closing : Closing) (d : Draft) → (finished closing d).space.tables.pages ≡ d.space.tables.pages
unfolding finished
finished-pages Keeps d = refl
finished-pages (GivesBack blocks) d = ap (λ (t : KeptTables). t.pages) (gave-tables blocks d)

finished-objects : (closing : Closing) (d : Draft) → (finished closing d).space.objects ≡ d.space.objects
unfolding finished
finished-objects Keeps d = refl
finished-objects (GivesBack blocks) d = gave-objects blocks d

-- ---- the pages of a live object are mapped
pub live-mapped : (words : List ℕ) (k : KernelState) (pid : ℕ) (q : Process) → KernelFits words k → k.config.heap ≡ Oscar → process_at k pid ≡ Some q → q.status ≡ None
    → (page : ℕ) → first_shadow_page ≤ page → page < next_page q.space.objects → is_live_page q.space.objects page ≡ true → mapping_at q.space.tables.pages page ≢ None
live-mapped words k pid q fits heap here lives page low high live none =
    let was = fits.memory.spaces pid q here lives in
    let closing = closing_of k.under_way pid in
    let d = at_rest q.space k.free in
    let parts = was.returns.parts in
    let o : ObjectsAgree (finished closing d).space = subst (λ h. HeapAgrees h (finished closing d).space) heap parts.agrees.heap in
    let limit = o.limit in
    let shadows = parts.shadows in
    let objects = ap (λ os. mark os) (finished-objects closing d) in
    let within : is_shadow page ≡ true = grind (arith, nat_tests, low, (let z : page < 0x2000000 = omega (arith, limit, shadows, objects, high) in z)) in
    let mapped : is_some (mapping_at (finished closing d).space.tables.pages page) ≡ true =
    o.shadows page within ∙ ap (λ os. is_live_page os page) (finished-objects closing d) ∙ live in
    let gone : is_some (mapping_at (finished closing d).space.tables.pages page) ≡ false =
    ap (λ ms. is_some (mapping_at ms page)) (finished-pages closing d) ∙ ap (λ (x : Option _). is_some x) none in
    (let z : true ≡ false = sym mapped ∙ gone in (let w : ⊥ = grind (arith, z) in w))

-- the last object that was granted lives on its pages
pub last-live : (before : List ObjectFact) (first pages size canon page : ℕ) → first ≤ page → page < first + pages → is_live_page (before ++ granted_at first pages size canon ∷ []) page ≡ true
last-live before first pages size canon page low high =
    list_any-append (λ o. is_live o && has_page page o) before (granted_at first pages size canon ∷ [])
    ∙ ap (λ b. list_any (λ o. is_live o && has_page page o) before || (b || false)) (let z : (nat_le first page && nat_lt page (first + pages)) ≡ true = grind (arith, nat_tests, low, high) in z)
    ∙ last (list_any (λ o. is_live o && has_page page o) before)
  where
    last : (b : Bool) → (b || (true || false)) ≡ true
    last true = refl
    last false = refl

-- and no leaf with one of them is dead
pub last-leaf : (before : List ObjectFact) (first pages size canon leaf page : ℕ) → first ≤ page → page < first + pages → page / 512 ≡ leaf
    → leaf_dead (before ++ granted_at first pages size canon ∷ []) leaf ≡ false
last-leaf before first pages size canon leaf page low high on =
    let within : (nat_lt first (512 * leaf + 512) && nat_lt (512 * leaf) (first + pages)) ≡ true = grind (arith, nat_tests, low, high, (let a : 512 * leaf ≤ page = omega (arith, on) in a), (let b : page < 512 * leaf + 512 = omega (arith, on) in b)) in
    let any : list_any (λ o. is_live o && is_in_leaf leaf o) (before ++ granted_at first pages size canon ∷ []) ≡ true =
    list_any-append (λ o. is_live o && is_in_leaf leaf o) before (granted_at first pages size canon ∷ [])
    ∙ ap (λ b. list_any (λ o. is_live o && is_in_leaf leaf o) before || (b || false)) within ∙ last (list_any (λ o. is_live o && is_in_leaf leaf o) before) in
    ap (λ b. is_leaf_granted (before ++ granted_at first pages size canon ∷ []) leaf && not b) any ∙ none (is_leaf_granted (before ++ granted_at first pages size canon ∷ []) leaf)
  where
    last : (b : Bool) → (b || (true || false)) ≡ true
    last true = refl
    last false = refl

    none : (b : Bool) → (b && not true) ≡ false
    none true = refl
    none false = refl

-- ---- the pages ever mapped
nested : (test : ℕ → Bool) (a b c d e : List ℕ)
    → list_any test (a ++ b ++ c ++ d ++ e) ≡ ((((list_any test a || list_any test b) || list_any test c) || list_any test d) || list_any test e)
nested test a b c d e =
    list_any-append test (a ++ b ++ c ++ d) e
    ∙ ap (λ x. x || list_any test e)
    (list_any-append test (a ++ b ++ c) d ∙ ap (λ x. x || list_any test d) (list_any-append test (a ++ b) c ∙ ap (λ x. x || list_any test c) (list_any-append test a b)))

pull : (a n b c d e : Bool) → (((((a || n) || b) || c) || d) || e) ≡ (n || ((((a || b) || c) || d) || e))
pull true true b c d e = refl
pull true false b c d e = refl
pull false true b c d e = refl
pull false false b c d e = refl

-- once so many shadow pages more were granted
pub ever-granted : (s : Setting) (l m : Ledger) (count : ℕ) → mark m.objects ≡ mark l.objects + count → m.regions ≡ l.regions → m.canonical ≡ l.canonical → (level number : ℕ)
    → has_piece level number (ever_mapped s m) ≡ (has_piece level number (range_with_len (next_page l.objects) count) || has_piece level number (ever_mapped s l))
ever-granted s l m count e f g level number = more (λ page. piece (suc level) page == number)
  where
    more : (test : ℕ → Bool) → list_any test (ever_mapped s m) ≡ (list_any test (range_with_len (next_page l.objects) count) || list_any test (ever_mapped s l))
    more test =
        let shared = range_with_len first_shared_page (region_pages l.regions) in
        let was = range_with_len first_shadow_page (mark l.objects) in
        let new = range_with_len (next_page l.objects) count in
        (λ i. list_any test (range_with_len first_shadow_page (e i) ++ range_with_len first_shared_page (region_pages (f i)) ++ g i ++ stack_pages ++ s.image))
        ∙ nested test (range_with_len first_shadow_page (mark l.objects + count)) shared l.canonical stack_pages s.image
        ∙ ap (λ x. (((x || list_any test shared) || list_any test l.canonical) || list_any test stack_pages) || list_any test s.image) (any-range test first_shadow_page (mark l.objects) count)
        ∙ pull (list_any test was) (list_any test new) (list_any test shared) (list_any test l.canonical) (list_any test stack_pages) (list_any test s.image)
        ∙ ap (λ b. list_any test new || b) (sym (nested test was shared l.canonical stack_pages s.image))

-- and where none was
pub ever-same : (s : Setting) (l m : Ledger) → mark m.objects ≡ mark l.objects → m.regions ≡ l.regions → m.canonical ≡ l.canonical → (level number : ℕ)
    → has_piece level number (ever_mapped s m) ≡ has_piece level number (ever_mapped s l)
ever-same s l m e f g level number =
    λ i. has_piece level number (range_with_len first_shadow_page (e i) ++ range_with_len first_shared_page (region_pages (f i)) ++ g i ++ stack_pages ++ s.image)
