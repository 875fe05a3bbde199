-- The first page from another on leads the pages from there on.
use Rattle.std.proofs.Common.{ℕ, suc, ◌≡◌, ◌≢◌, ◌<◌, ◌≤◌, ◌==◌, Bool, true, false, List, [], ◌∷◌, Option, Some, None, arith, refl, sym, ◌∙◌, add-one}
use Rattle.std.specs.Prelude.{IsSome, filter}
use Rattle.std.proofs.lemmas.Bool.Decides.{nat_tests}
use Rattle.osc_word.specs.AddressMap.{is_within, first_shadow_page}
use Rattle.osc_sv39.specs.declared.entries.Mapping.{Mapping}
use Rattle.osc_paging.specs.declared.Mapped.{Mapped}
use Rattle.osc_paging.specs.KeptTables.{KeptTables, mapping_at, mapping_of}
use Rattle.osc_tables.specs.Inside.{IsTop, AscendFrom}
use Rattle.osc_tables.specs.Calls.{IsNextPage, IsOrdered}
use Rattle.osc_share.proofs.Low.{low_page}
use Rattle.osc_share.specs.Walk.{IsFirst, pages_from}

-- a page below the shadows is canonical, and is its own number
pub low_mapping : (t : KeptTables) (q : ℕ) → IsTop t.top → q < first_shadow_page → mapping_of t q ≡ mapping_at t.pages q
low_mapping t q range s = let h = low_page t.top q range (omega (arith, s)) in rw (h.canonical, h.number) refl

abbrev sieve : ℕ → List Mapped → List Mapped
sieve from ms = filter (λ (m : Mapped). is_within from first_shadow_page m.number) ms

none_there : (x : Option Mapping) → (IsSome x → ⊥) → x ≡ None
none_there None h = refl
none_there (Some m) h = absurd (h refl)

-- ---- no page is left
none_left : (from : ℕ) (ms : List Mapped) → ((q : ℕ) → from ≤ q → q < first_shadow_page → mapping_at ms q ≡ None) → sieve from ms ≡ []
none_left from [] h = refl
none_left from (m ∷ ms) h = pick (is_within from first_shadow_page m.number) refl (none_left from ms)
  where
    later : (q : ℕ) (b : Bool) → (m.number == q) ≡ b → mapping_at (m ∷ ms) q ≡ None → mapping_at ms q ≡ None
    later q true e f = let g = rw e at f in cc
    later q false e f = rw e at f

    pick : (b : Bool) → is_within from first_shadow_page m.number ≡ b → (((q : ℕ) → from ≤ q → q < first_shadow_page → mapping_at ms q ≡ None) → sieve from ms ≡ []) → sieve from (m ∷ ms) ≡ []
    pick true e go =
        let up : from ≤ m.number = grind (arith, nat_tests, e) in
        let low : m.number < first_shadow_page = grind (arith, nat_tests, e) in
        let same : (m.number == m.number) ≡ true = grind (arith, nat_tests) in
        let f = rw same at (h m.number up low) in
        cc
    pick false e go = rw e (go (λ q s l. later q (m.number == q) refl (h q s l)))

pub no_page_left : (from : ℕ) (t : KeptTables) → IsTop t.top → ((q : ℕ) → from ≤ q → q < first_shadow_page → mapping_of t q ≡ None) → pages_from from t ≡ []
no_page_left from t range h = none_left from t.pages (λ q s l. sym (low_mapping t q range l) ∙ h q s l)

pub none_before : (from page : ℕ) (t : KeptTables) → IsNextPage t from page → first_shadow_page ≤ page → (q : ℕ) → from ≤ q → q < first_shadow_page → mapping_of t q ≡ None
none_before from page t next past q s l = none_there _ (λ there. (let h = next.least q s there in absurd (omega arith)))

-- ---- a first page
above_all : (low from page : ℕ) (ms : List Mapped) → AscendFrom low ms → from ≤ low → page ≤ low → sieve from ms ≡ sieve page ms
above_all low from page [] a s l = refl
above_all low from page (m ∷ ms) a s l =
    let same : is_within from first_shadow_page m.number ≡ is_within page first_shadow_page m.number = grind (arith, nat_tests, a.0, s, l) in
    let rest = above_all (suc m.number) from page ms a.1 (let h = a.0 in omega arith) (let h = a.0 in omega arith) in
    rw (same, rest) refl

not_below : (low q : ℕ) (ms : List Mapped) (x : Mapping) → AscendFrom low ms → mapping_at ms q ≡ Some x → low ≤ q
not_below low q [] x a e = cc
not_below low q (m ∷ ms) x a e = pick (m.number == q) refl (not_below (suc m.number) q ms x a.1)
  where
    pick : (b : Bool) → (m.number == q) ≡ b → (mapping_at ms q ≡ Some x → suc m.number ≤ q) → low ≤ q
    pick true f go = let d : m.number ≡ q = grind (arith, nat_tests, f) in omega (arith, a.0)
    pick false f go = let d = go (rw f at e) in omega (arith, a.0)

here_is : (m : Mapped) (page : ℕ) (x : Mapping) (rest : List Mapped) → m.number ≡ page → m.mapping ≡ x → m ∷ rest ≡ record { number = page; mapping = x } ∷ rest
here_is m page x rest d e = rw (← d, ← e) refl

first : (low from page : ℕ) (x : Mapping) (ms : List Mapped) → AscendFrom low ms → from ≤ page → page < first_shadow_page → mapping_at ms page ≡ Some x → ((q : ℕ) → from ≤ q → q < first_shadow_page → mapping_at ms q ≢ None → page ≤ q) → sieve from ms ≡ record { number = page; mapping = x } ∷ sieve (suc page) ms
first low from page x [] a s l e least = cc
first low from page x (m ∷ ms) a s l e least = pick (m.number == page) refl (first (suc m.number) from page x ms a.1 s l)
  where
    later : (q : ℕ) (b : Bool) → (m.number == q) ≡ b → from ≤ q → q < first_shadow_page → mapping_at ms q ≢ None → mapping_at (m ∷ ms) q ≢ None
    later q true f s l h = rw f (λ g. cc)
    later q false f s l h = rw f h

    pick : (b : Bool) → (m.number == page) ≡ b → (mapping_at ms page ≡ Some x → ((q : ℕ) → from ≤ q → q < first_shadow_page → mapping_at ms q ≢ None → page ≤ q) → sieve from ms ≡ record { number = page; mapping = x } ∷ sieve (suc page) ms) → sieve from (m ∷ ms) ≡ record { number = page; mapping = x } ∷ sieve (suc page) (m ∷ ms)
    pick true f go =
        let d : m.number ≡ page = grind (arith, nat_tests, f) in
        let g : m.mapping ≡ x = (let h = rw f at e in cc) in
        let here : is_within from first_shadow_page m.number ≡ true = grind (arith, nat_tests, d, s, l) in
        let past : is_within (suc page) first_shadow_page m.number ≡ false = grind (arith, nat_tests, d) in
        let rest = above_all (suc m.number) from (suc page) ms a.1 (omega arith) (omega arith) in
        rw (here, past, rest) (here_is m page x (sieve (suc page) ms) d g)
    pick false f go =
        let on = rw f at e in
        let up = not_below (suc m.number) page ms x a.1 on in
        let same : (m.number == m.number) ≡ true = grind (arith, nat_tests) in
        let there : mapping_at (m ∷ ms) m.number ≢ None = rw same (λ g. cc) in
        let out : is_within from first_shadow_page m.number ≡ false = outside (is_within from first_shadow_page m.number) refl there up in
        let past : is_within (suc page) first_shadow_page m.number ≡ false = grind (arith, nat_tests, up) in
        rw (out, past) (go on (λ q s l h. least q s l (later q (m.number == q) refl s l h)))
      where
        outside : (b : Bool) → is_within from first_shadow_page m.number ≡ b → mapping_at (m ∷ ms) m.number ≢ None → suc m.number ≤ page → b ≡ false
        outside false g there up = refl
        outside true g there up =
            let high : from ≤ m.number = grind (arith, nat_tests, g) in
            let low : m.number < first_shadow_page = grind (arith, nat_tests, g) in
            let h = least m.number high low there in
            absurd (omega arith)

some_of : (x : Option Mapping) → x ≢ None → IsSome x
some_of None h = absurd (h refl)
some_of (Some m) h = refl

pub first_page : (from page : ℕ) (x : Mapping) (t : KeptTables) → IsOrdered t → IsNextPage t from page → page < first_shadow_page → mapping_of t page ≡ Some x → IsFirst from t (record { number = page; mapping = x })
first_page from page x t order next low e = record {
  above = next.above;
  below = low;
  rest = rw add-one (first 0 from page x t.pages order.ascend next.above low (sym (low_mapping t page order.range low) ∙ e)
      (λ q s l h. next.least q s (some_of _ (rw (low_mapping t q order.range l) h))));
}
