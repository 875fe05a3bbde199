-- The tables after a malloc, a free and a realloc of the heap with shadows.
use Rattle.std.proofs.Common.{ℕ, zero, suc, ◌+◌, ◌/◌, ◌≡◌, ◌≢◌, ◌<◌, ◌≤◌, ◌==◌, ◌&&◌, ◌||◌, not, Bool, true, false, Some, None, List, [], ◌∷◌, ◌++◌, length, slice_get, arith, refl, sym, ap, subst, ◌∙◌}
use Rattle.std.specs.List.{list_any, range_with_len}
use Rattle.std.proofs.lemmas.Bool.Decides.{nat_tests}
use Rattle.std.proofs.lemmas.List.Folds.{list_any-append}
use Rattle.std.proofs.lemmas.List.FromFn.{length-map-range_with_len}
use Rattle.osc_word.specs.AddressMap.{first_shadow_page}
use Rattle.osc_word.specs.WaitingList.{with_waiting}
use Rattle.osc_sv39.specs.Walk.{piece}
use Rattle.osc_class.specs.Rooms.{shadow_pages}
use Rattle.osc_slot.specs.declared.Block.{Block}
use Rattle.osc_paging.specs.KeptTables.{KeptTables, mapping_at}
use Rattle.osc_paging.specs.Agree.{Agrees}
use Rattle.osc_space.specs.declared.ObjectFact.{ObjectFact}
use Rattle.osc_space.specs.Objects.{mark, next_page, fact, facts, granted_at, grant, kill, is_live, is_in_leaf, leaf_dead, leaf_given_up}
use Rattle.osc_space.specs.Space.{Draft}
use Rattle.osc_space.specs.BlockWords.{block_mappings, frame_at}
use Rattle.osc_space.specs.LeafFlags.{read_write_at}
use Rattle.osc_space.specs.Malloc.{map_shadows}
use Rattle.osc_space.specs.Free.{waiting_facts, flush}
use Rattle.osc_space.specs.PlanLaws.{LeavesStand}
use Rattle.osc_space.proofs.ObjectLawProofs.{mark-kill, mark-grant}
use Rattle.osc_machine.specs.Replay.{Ledger}
use Rattle.osc_machine.specs.Refusals.{Setting, ever_mapped}
use Rattle.osc_ledger.specs.Tables.{has_piece}
use Rattle.osc_ledger.proofs.Accounts.{kill-grant}
use Rattle.osc_ledger.proofs.GivenUp.{grant-given, wait-given, waits-more, kill-facts}
use Rattle.osc_ledger.proofs.AddedTables.{Adds, pages-add, in-range, all-over}
use Rattle.osc_ledger.proofs.HasTables.{HasTables, added, same-tests, same-tables, flushed}
use Rattle.osc_ledger.proofs.HeapTables.{last-leaf, ever-granted, ever-same}

-- the tables that a ledger tells
abbrev pub Has : Setting → Ledger → KeptTables → Type 0
Has s l t = HasTables (λ level number. has_piece level number (ever_mapped s l)) (λ leaf. leaf_given_up l.objects l.waiting leaf) t

-- shadow pages that map a block are added
abbrev shadow-range : ℕ → Block → List ℕ
shadow-range first block = range_with_len first (shadow_pages block.room)

pub shadows-add : (first : ℕ) (block : Block) (d : Draft) → Adds (shadow-range first block) d.space.tables (map_shadows first block d).space.tables
shadows-add first block d =
    subst (λ n. Adds (range_with_len first n) d.space.tables (map_shadows first block d).space.tables) (length-map-range_with_len (λ page. read_write_at (frame_at d.space.heap.pages page)) (block.start / 4096) (shadow_pages block.room))
    (pages-add first (block_mappings d.space.heap.pages block) (record { tables = d.space.tables; free = d.free; jobs = d.jobs }))

-- a page of the new object's is in no leaf that is dead
fresh-leaf : (before : List ObjectFact) (first pages size canon leaf : ℕ) → has_piece 0 leaf (range_with_len first pages) ≡ true
    → leaf_dead (before ++ granted_at first pages size canon ∷ []) leaf ≡ false
fresh-leaf before first pages size canon leaf e =
    let r = in-range (λ page. piece 1 page == leaf) first pages e in
    let passes = r.passes in
    last-leaf before first pages size canon leaf r.page r.low r.high (let z : r.page / 512 ≡ leaf = grind (arith, nat_tests, passes) in z)

not-given : (objects : List ObjectFact) (waiting : List ℕ) (leaf : ℕ) → leaf_dead objects leaf ≡ false → leaf_given_up objects waiting leaf ≡ false
not-given objects waiting leaf e = ap (λ b. b && not (list_any (is_in_leaf leaf) (facts objects waiting))) e

-- ---- a malloc: `t` are the tables before, `u` those after
pub malloc-has : (s : Setting) (l m : Ledger) (pages size canon : ℕ) (t u : KeptTables) (free : List Bool) (words : List ℕ)
    → m.objects ≡ grant pages size canon l.objects → m.waiting ≡ l.waiting → m.regions ≡ l.regions → m.canonical ≡ l.canonical
    → ((w : ℕ) → list_any (λ x. x == w) l.waiting ≡ true → w < length l.objects)
    → Adds (range_with_len (next_page l.objects) pages) t u → Agrees u free words
    → ((page : ℕ) → next_page l.objects ≤ page → page < next_page l.objects + pages → mapping_at u.pages page ≢ None)
    → Has s l t → Has s m u
malloc-has s l m pages size canon t u free words objects waiting regions canonical known adds agrees mapped h =
    same-tests (λ level number. has_piece level number (range_with_len (next_page l.objects) pages) || has_piece level number (ever_mapped s l)) (λ level number. has_piece level number (ever_mapped s m))
    (λ leaf. leaf_given_up l.objects l.waiting leaf) (λ leaf. leaf_given_up m.objects m.waiting leaf) u
    (ever-granted s l m pages (ap (λ os. mark os) objects ∙ mark-grant pages size canon l.objects) regions canonical)
    (λ leaf. ap (λ os. leaf_given_up os m.waiting leaf) objects ∙ ap (λ ws. leaf_given_up (grant pages size canon l.objects) ws leaf) waiting ∙ grant-given pages size canon leaf l.objects l.waiting known)
    (added (λ level number. has_piece level number (ever_mapped s l)) (λ leaf. leaf_given_up l.objects l.waiting leaf) (range_with_len (next_page l.objects) pages) t u h adds
    (λ level number low e. all-over u free words (next_page l.objects) pages level number agrees mapped (omega (arith, low)) e)
    (λ leaf e. sym (grant-given pages size canon leaf l.objects l.waiting known) ∙ not-given (grant pages size canon l.objects) l.waiting leaf (fresh-leaf l.objects (next_page l.objects) pages size canon leaf e)))

-- ---- an object is dead and waits
pub wait-has : (s : Setting) (l m : Ledger) (object call : ℕ) (o : ObjectFact) (t : KeptTables)
    → m.objects ≡ kill object call l.objects → m.waiting ≡ with_waiting l.waiting object → m.regions ≡ l.regions → m.canonical ≡ l.canonical
    → fact l.objects object ≡ Some o → is_live o ≡ true → Has s l t → Has s m t
wait-has s l m object call o t objects waiting regions canonical at alive h =
    same-tests (λ level number. has_piece level number (ever_mapped s l)) (λ level number. has_piece level number (ever_mapped s m))
    (λ leaf. leaf_given_up l.objects l.waiting leaf) (λ leaf. leaf_given_up m.objects m.waiting leaf) t
    (ever-same s l m (ap (λ os. mark os) objects ∙ mark-kill object call l.objects) regions canonical)
    (λ leaf. ap (λ os. leaf_given_up os m.waiting leaf) objects ∙ ap (λ ws. leaf_given_up (kill object call l.objects) ws leaf) waiting ∙ wait-given leaf object call o l.objects l.waiting at alive) h

-- ---- none waits any more
none-waits : (objects : List ObjectFact) (leaf : ℕ) → leaf_given_up objects [] leaf ≡ leaf_dead objects leaf
none-waits objects leaf = go (leaf_dead objects leaf)
  where
    go : (b : Bool) → (b && not (list_any (is_in_leaf leaf) (facts objects []))) ≡ b
    go true = refl
    go false = refl

-- a batch is let go
pub flush-has : (s : Setting) (l m : Ledger) (harts : ℕ) (d : Draft) → d.space.objects ≡ l.objects → d.space.waiting ≡ l.waiting
    → m.objects ≡ l.objects → m.waiting ≡ [] → m.regions ≡ l.regions → m.canonical ≡ l.canonical
    → 0 < d.space.tables.top → LeavesStand d → Has s l d.space.tables → Has s m (flush harts (waiting_facts d.space) d).space.tables
flush-has s l m harts d kept waits objects none regions canonical deep stand h =
    same-tests (λ level number. has_piece level number (ever_mapped s l)) (λ level number. has_piece level number (ever_mapped s m))
    (λ leaf. leaf_dead d.space.objects leaf) (λ leaf. leaf_given_up m.objects m.waiting leaf) (flush harts (waiting_facts d.space) d).space.tables
    (ever-same s l m (ap (λ os. mark os) objects) regions canonical)
    (λ leaf. ap (λ os. leaf_given_up os m.waiting leaf) (objects ∙ sym kept) ∙ ap (λ ws. leaf_given_up d.space.objects ws leaf) none ∙ none-waits d.space.objects leaf)
    (flushed (λ level number. has_piece level number (ever_mapped s l)) (λ leaf. list_any (is_in_leaf leaf) (waiting_facts d.space)) harts (waiting_facts d.space) d deep stand (λ leaf. refl)
    (same-tests (λ level number. has_piece level number (ever_mapped s l)) (λ level number. has_piece level number (ever_mapped s l))
    (λ leaf. leaf_given_up l.objects l.waiting leaf) (λ leaf. leaf_given_up d.space.objects d.space.waiting leaf) d.space.tables (λ level number. refl)
    (λ leaf. ap (λ os. leaf_given_up os d.space.waiting leaf) kept ∙ ap (λ ws. leaf_given_up l.objects ws leaf) waits) h))

-- ---- a realloc: `e` is the draft at its flush, and `u` are the tables at last
pub realloc-has : (s : Setting) (l m : Ledger) (object call pages size canon harts : ℕ) (o : ObjectFact) (t u : KeptTables) (e : Draft) (free : List Bool) (words : List ℕ)
    → e.space.objects ≡ kill object call (grant pages size canon l.objects) → e.space.waiting ≡ l.waiting → e.space.tables.tables ≡ t.tables → e.space.tables.top ≡ t.top
    → m.objects ≡ kill object call (grant pages size canon l.objects) → m.waiting ≡ [] → m.regions ≡ l.regions → m.canonical ≡ l.canonical
    → fact l.objects object ≡ Some o → is_live o ≡ true → object < length l.objects
    → ((w : ℕ) → list_any (λ x. x == w) l.waiting ≡ true → w < length l.objects)
    → 0 < e.space.tables.top → LeavesStand e
    → Adds (range_with_len (next_page l.objects) pages) (flush harts (waiting_facts e.space ++ o ∷ []) e).space.tables u → Agrees u free words
    → ((page : ℕ) → next_page l.objects ≤ page → page < next_page l.objects + pages → mapping_at u.pages page ≢ None)
    → Has s l t → Has s m u
realloc-has s l m object call pages size canon harts o t u e free words kept waits tables top objects none regions canonical at alive within known deep stand adds agrees mapped h =
    same-tests (λ level number. has_piece level number (range_with_len (next_page l.objects) pages) || has_piece level number (ever_mapped s l)) (λ level number. has_piece level number (ever_mapped s m))
    (λ leaf. leaf_dead e.space.objects leaf) (λ leaf. leaf_given_up m.objects m.waiting leaf) u
    (ever-granted s l m pages (ap (λ os. mark os) objects ∙ mark-kill object call granted ∙ mark-grant pages size canon l.objects) regions canonical)
    (λ leaf. ap (λ os. leaf_given_up os m.waiting leaf) (objects ∙ sym kept) ∙ ap (λ ws. leaf_given_up e.space.objects ws leaf) none ∙ none-waits e.space.objects leaf)
    (added (λ level number. has_piece level number (ever_mapped s l)) (λ leaf. leaf_dead e.space.objects leaf) (range_with_len (next_page l.objects) pages) (flush harts (waiting_facts e.space ++ o ∷ []) e).space.tables u
    given-up adds (λ level number low f. all-over u free words (next_page l.objects) pages level number agrees mapped (omega (arith, low)) f) fresh)
  where
    granted : List ObjectFact
    granted = grant pages size canon l.objects

    at-granted : fact granted object ≡ Some o
    at-granted = still l.objects object at
      where
        still : (xs : List ObjectFact) (i : ℕ) → slice_get xs i ≡ Some o → slice_get (xs ++ granted_at (next_page l.objects) pages size canon ∷ []) i ≡ Some o
        still [] i f = absurd (let z : ⊥ = grind (arith, f) in z)
        still (x ∷ xs) zero f = f
        still (x ∷ xs) (suc i) f = still xs i f

    over-gone : (leaf : ℕ) → list_any (is_in_leaf leaf) (waiting_facts e.space ++ o ∷ []) ≡ list_any (is_in_leaf leaf) (facts (kill object call granted) (l.waiting ++ object ∷ []))
    over-gone leaf =
        list_any-append (is_in_leaf leaf) (waiting_facts e.space) (o ∷ [])
        ∙ ap (λ os. list_any (is_in_leaf leaf) (facts os e.space.waiting) || (is_in_leaf leaf o || false)) kept
        ∙ ap (λ ws. list_any (is_in_leaf leaf) (facts (kill object call granted) ws) || (is_in_leaf leaf o || false)) waits
        ∙ ap (λ b. b || (is_in_leaf leaf o || false)) (kill-facts leaf object call granted l.waiting)
        ∙ ap (λ b. list_any (is_in_leaf leaf) (facts granted l.waiting) || b) (last (is_in_leaf leaf o))
        ∙ sym (waits-more leaf object call o granted l.waiting at-granted)
      where
        last : (b : Bool) → (b || false) ≡ b
        last true = refl
        last false = refl

    given-up : HasTables (λ level number. has_piece level number (ever_mapped s l)) (λ leaf. leaf_dead e.space.objects leaf) (flush harts (waiting_facts e.space ++ o ∷ []) e).space.tables
    given-up =
        flushed (λ level number. has_piece level number (ever_mapped s l)) (λ leaf. list_any (is_in_leaf leaf) (facts (kill object call granted) (l.waiting ++ object ∷ []))) harts (waiting_facts e.space ++ o ∷ []) e deep stand over-gone
        (same-tables (λ level number. has_piece level number (ever_mapped s l)) (λ leaf. leaf_dead e.space.objects leaf && not (list_any (is_in_leaf leaf) (facts (kill object call granted) (l.waiting ++ object ∷ [])))) t e.space.tables tables top
        (same-tests (λ level number. has_piece level number (ever_mapped s l)) (λ level number. has_piece level number (ever_mapped s l)) (λ leaf. leaf_given_up l.objects l.waiting leaf)
        (λ leaf. leaf_dead e.space.objects leaf && not (list_any (is_in_leaf leaf) (facts (kill object call granted) (l.waiting ++ object ∷ [])))) t (λ level number. refl)
        (λ leaf. ap (λ os. leaf_dead os leaf && not (list_any (is_in_leaf leaf) (facts (kill object call granted) (l.waiting ++ object ∷ [])))) kept
        ∙ wait-given leaf object call o granted l.waiting at-granted alive ∙ grant-given pages size canon leaf l.objects l.waiting known) h))

    fresh : (leaf : ℕ) → has_piece 0 leaf (range_with_len (next_page l.objects) pages) ≡ true → leaf_dead e.space.objects leaf ≡ false
    fresh leaf f =
        ap (λ os. leaf_dead os leaf) (kept ∙ kill-grant object call pages size canon l.objects within)
        ∙ fresh-leaf (kill object call l.objects) (next_page (kill object call l.objects)) pages size canon leaf
        (subst (λ n. has_piece 0 leaf (range_with_len (first_shadow_page + n) pages) ≡ true) (sym (mark-kill object call l.objects)) f)
