-- The slots of pages: looks, changes at the place of a number, and closed gaps.
use Rattle.std.proofs.Common.{ℕ, zero, suc, ◌≡◌, ◌≢◌, ◌<◌, ◌≤◌, ◌+◌, ◌-◌, ◌==◌, ltb, Bool, true, false, cond, is_some, is_none, List, [], ◌∷◌, Option, Some, None, IsSome, IfSome, All, arith, refl, ap, sym, ◌∙◌, subst, drop, take, set, insert, filter, length, get_or}
use Rattle.std.specs.Prelude.{map}
use Rattle.std.proofs.lemmas.Bool.Decides.{nat_tests}
use Rattle.std.proofs.lemmas.List.Elements.{All-head, All-tail}
use Rattle.osc_sv39.specs.declared.entries.Mapping.{Mapping}
use Rattle.osc_paging.specs.declared.Mapped.{Mapped}
use Rattle.osc_paging.specs.KeptTables.{mapping_at}
use Rattle.osc_paging.specs.TableChanges.{with_page, without_page, renamed_page}
use Rattle.osc_tables.specs.declared.page_list.Slot.{Slot}
use Rattle.osc_tables.specs.Listed.{first_number, least_number}
use Rattle.osc_tables.specs.Slots.{page_before, pages_in, is_gap, SlotsAscend, slot_place, renamed_slot, renamed_mapping}

abbrev pub page_slot : ℕ → Mapping → Slot
page_slot q m = record { number = q; mapping = Some m }

abbrev pub gap_slot : ℕ → Slot
gap_slot q = record { number = q; mapping = None }

abbrev page : ℕ → Mapping → Mapped
page q m = record { number = q; mapping = m }

-- ---- the place
pub slot_place-le-length : (q : ℕ) (ss : List Slot) → slot_place q ss ≤ length ss
slot_place-le-length q [] = omega arith
slot_place-le-length q (s ∷ ss) = grind (arith, nat_tests, slot_place-le-length q ss)

ascend_more : (low lower : ℕ) (ss : List Slot) → SlotsAscend low ss → lower ≤ low → SlotsAscend lower ss
ascend_more low lower [] a l = tt
ascend_more low lower (s ∷ ss) a l = (omega (arith, a.0), a.1)

ascends-low : (low : ℕ) (ss : List Slot) (i : ℕ) (d : Slot) → SlotsAscend low ss → i < length ss → low ≤ (get_or ss i d).number
ascends-low low [] i d a l = absurd (omega arith)
ascends-low low (s ∷ ss) zero d a l = a.0
ascends-low low (s ∷ ss) (suc i) d a l = let h = ascends-low (suc s.number) ss i d a.1 (omega arith) in omega (arith, a.0)

-- a slot of a lower number stands before the place, and one of no lower number not
passed : (low q : ℕ) (ss : List Slot) (i : ℕ) (d : Slot) → SlotsAscend low ss → i < length ss → (get_or ss i d).number < q → i < slot_place q ss
passed low q [] i d a l h = absurd (omega arith)
passed low q (s ∷ ss) zero d a l h = grind (arith, nat_tests, h)
passed low q (s ∷ ss) (suc i) d a l h =
    let more = ascends-low (suc s.number) ss i d a.1 (omega arith) in
    let on = passed (suc s.number) q ss i d a.1 (omega arith) h in
    let first : s.number < q = omega arith in
    grind (arith, nat_tests, first, on)

pub slot_place-passed : (q : ℕ) (ss : List Slot) (i : ℕ) (d : Slot) → SlotsAscend 0 ss → i < length ss → (get_or ss i d).number < q → i < slot_place q ss
slot_place-passed q ss i d a l h = passed 0 q ss i d a l h

pub slot_place-stops : (q : ℕ) (ss : List Slot) (i : ℕ) (d : Slot) → i < length ss → q ≤ (get_or ss i d).number → slot_place q ss ≤ i
slot_place-stops q [] i d l h = absurd (omega arith)
slot_place-stops q (s ∷ ss) zero d l h = grind (arith, nat_tests, h)
slot_place-stops q (s ∷ ss) (suc i) d l h = grind (arith, nat_tests, slot_place-stops q ss i d (omega arith) h)

-- ---- gaps
pub is_gap-at : (ss : List Slot) (i : ℕ) (d : Slot) → i < length ss → is_gap ss i ≡ is_none (get_or ss i d).mapping
is_gap-at [] i d l = absurd (omega arith)
is_gap-at (s ∷ ss) zero d l = refl
is_gap-at (s ∷ ss) (suc i) d l = is_gap-at ss i d (omega arith)

pub is_gap-past : (ss : List Slot) (i : ℕ) → length ss ≤ i → is_gap ss i ≡ false
is_gap-past [] i l = refl
is_gap-past (s ∷ ss) zero l = absurd (omega arith)
is_gap-past (s ∷ ss) (suc i) l = is_gap-past ss i (omega arith)

none_of : (x : Option Mapping) → is_none x ≡ true → x ≡ None
none_of None e = refl
none_of (Some m) e = cc

pub none_unless : (x : Option Mapping) → is_some x ≡ false → x ≡ None
none_unless None e = refl
none_unless (Some m) e = cc

-- ---- the page of a number
looked_other : (n q : ℕ) (x : Option Mapping) (ms : List Mapped) → (n == q) ≡ false → mapping_at (page_before n x ms) q ≡ mapping_at ms q
looked_other n q None ms e = refl
looked_other n q (Some m) ms e = rw e refl

looked_here : (q : ℕ) (x : Option Mapping) (ms : List Mapped) → mapping_at ms q ≡ None → mapping_at (page_before q x ms) q ≡ x
looked_here q None ms e = e
looked_here q (Some m) ms e = let same : (q == q) ≡ true = grind (arith, nat_tests) in rw same refl

none_above : (low q : ℕ) (ss : List Slot) → SlotsAscend low ss → q < low → mapping_at (pages_in ss) q ≡ None
none_above low q [] a l = refl
none_above low q (s ∷ ss) a l =
    let other : (s.number == q) ≡ false = grind (arith, nat_tests, a.0, l) in
    looked_other s.number q s.mapping (pages_in ss) other ∙ none_above (suc s.number) q ss a.1 (omega (arith, a.0))

found : (low q : ℕ) (ss : List Slot) (i : ℕ) (d : Slot) → SlotsAscend low ss → i < length ss → (get_or ss i d).number ≡ q → mapping_at (pages_in ss) q ≡ (get_or ss i d).mapping
found low q [] i d a l e = absurd (omega arith)
found low q (s ∷ ss) zero d a l e =
    let none = none_above (suc s.number) q ss a.1 (omega arith) in
    subst (λ n. mapping_at (page_before n s.mapping (pages_in ss)) q ≡ s.mapping) (sym e) (looked_here q s.mapping (pages_in ss) none)
found low q (s ∷ ss) (suc i) d a l e =
    let more = ascends-low (suc s.number) ss i d a.1 (omega arith) in
    let other : (s.number == q) ≡ false = grind (arith, nat_tests, more, e) in
    looked_other s.number q s.mapping (pages_in ss) other ∙ found (suc s.number) q ss i d a.1 (omega arith) e

pub mapping_at-found : (q : ℕ) (ss : List Slot) (i : ℕ) (d : Slot) → SlotsAscend 0 ss → i < length ss → (get_or ss i d).number ≡ q → mapping_at (pages_in ss) q ≡ (get_or ss i d).mapping
mapping_at-found q ss i d a l e = found 0 q ss i d a l e

missed : (low q : ℕ) (ss : List Slot) (d : Slot) → SlotsAscend low ss → (slot_place q ss < length ss → (get_or ss (slot_place q ss) d).number ≢ q) → mapping_at (pages_in ss) q ≡ None
missed low q [] d a h = refl
missed low q (s ∷ ss) d a h = go (ltb s.number q) refl (missed (suc s.number) q ss d a.1)
  where
    go : (b : Bool) → ltb s.number q ≡ b → ((slot_place q ss < length ss → (get_or ss (slot_place q ss) d).number ≢ q) → mapping_at (pages_in ss) q ≡ None) → mapping_at (pages_in (s ∷ ss)) q ≡ None
    go true e on =
        let here : slot_place q (s ∷ ss) ≡ suc (slot_place q ss) = rw e refl in
        let none = on (λ l. rw here at h (omega arith)) in
        let other : (s.number == q) ≡ false = grind (arith, nat_tests, e) in
        looked_other s.number q s.mapping (pages_in ss) other ∙ none
    go false e on =
        let here : slot_place q (s ∷ ss) ≡ 0 = rw e refl in
        let not : s.number ≢ q = rw here at h (omega arith) in
        let other : (s.number == q) ≡ false = grind (arith, nat_tests, not) in
        let above : q < suc s.number = grind (arith, nat_tests, e) in
        looked_other s.number q s.mapping (pages_in ss) other ∙ none_above (suc s.number) q ss a.1 above

pub mapping_at-missed : (q : ℕ) (ss : List Slot) (i : ℕ) (d : Slot) → SlotsAscend 0 ss → i ≡ slot_place q ss → (i < length ss → (get_or ss i d).number ≢ q) → mapping_at (pages_in ss) q ≡ None
mapping_at-missed q ss i d a e h = missed 0 q ss d a (rw e at h)

-- ---- a page more
-- no slot has this number
abbrev Apart : ℕ → List Slot → Type 0
Apart q ss = (d : Slot) → slot_place q ss < length ss → (get_or ss (slot_place q ss) d).number ≢ q

apart : (q : ℕ) (ss : List Slot) → SlotsAscend 0 ss → mapping_at (pages_in ss) q ≡ None → is_gap ss (slot_place q ss) ≡ false → Apart q ss
apart q ss a none full d l e =
    let same = mapping_at-found q ss (slot_place q ss) d a l e in
    let gap = is_gap-at ss (slot_place q ss) d l in
    let empty : is_none (get_or ss (slot_place q ss) d).mapping ≡ true = rw (← same, none) refl in
    cc

apart_tail : (q : ℕ) (s : Slot) (ss : List Slot) → ltb s.number q ≡ true → Apart q (s ∷ ss) → Apart q ss
apart_tail q s ss e h d l =
    let here : slot_place q (s ∷ ss) ≡ suc (slot_place q ss) = rw e refl in
    let g = rw here at (h d) in
    g (omega arith)

ascend_past : (low q : ℕ) (ss : List Slot) → SlotsAscend low ss → slot_place q ss ≡ 0 → Apart q ss → SlotsAscend (suc q) ss
ascend_past low q [] a e h = tt
ascend_past low q (s ∷ ss) a e h = go (ltb s.number q) refl
  where
    go : (b : Bool) → ltb s.number q ≡ b → SlotsAscend (suc q) (s ∷ ss)
    go true f = absurd (let g = rw f at e in omega (arith, g))
    go false f =
        let other : s.number ≢ q = (let g = rw e at (h s) in g (omega arith)) in
        (grind (arith, nat_tests, f, other), a.1)

with_after : (q : ℕ) (m : Mapping) (n : ℕ) (x : Option Mapping) (ms : List Mapped) → ltb n q ≡ true → with_page q m (page_before n x ms) ≡ page_before n x (with_page q m ms)
with_after q m n None ms e = refl
with_after q m n (Some k) ms e = rw e refl

with_first : (low q : ℕ) (m : Mapping) (ss : List Slot) → SlotsAscend low ss → q ≤ low → with_page q m (pages_in ss) ≡ page q m ∷ pages_in ss
with_first low q m [] a l = refl
with_first low q m (s ∷ ss) a l = go s.mapping (with_first (suc s.number) q m ss a.1 (omega (arith, a.0)))
  where
    after : ltb s.number q ≡ false
    after = grind (arith, nat_tests, a.0, l)

    go : (x : Option Mapping) → with_page q m (pages_in ss) ≡ page q m ∷ pages_in ss → with_page q m (page_before s.number x (pages_in ss)) ≡ page q m ∷ page_before s.number x (pages_in ss)
    go None on = on
    go (Some k) on = rw after refl

pub record Puts (low q : ℕ) (m : Mapping) (old new : List Slot) : Type 0 where
  pub pages : pages_in new ≡ with_page q m (pages_in old)
  pub ascend : SlotsAscend low new

puts_after : (low q : ℕ) (m : Mapping) (s : Slot) (old new : List Slot) → low ≤ s.number → ltb s.number q ≡ true → Puts (suc s.number) q m old new → Puts low q m (s ∷ old) (s ∷ new)
puts_after low q m s old new l e p = record {
  pages = ap (page_before s.number s.mapping) p.pages ∙ sym (with_after q m s.number s.mapping (pages_in old) e);
  ascend = (l, p.ascend);
}

-- into the gap at its place
gap_filled : (low q : ℕ) (m : Mapping) (ss : List Slot) → SlotsAscend low ss → low ≤ q → is_gap ss (slot_place q ss) ≡ true → Puts low q m ss (set ss (slot_place q ss) (page_slot q m))
gap_filled low q m [] a l g = cc
gap_filled low q m (s ∷ ss) a l g = go (ltb s.number q) refl (gap_filled (suc s.number) q m ss a.1)
  where
    go : (b : Bool) → ltb s.number q ≡ b → (suc s.number ≤ q → is_gap ss (slot_place q ss) ≡ true → Puts (suc s.number) q m ss (set ss (slot_place q ss) (page_slot q m))) → Puts low q m (s ∷ ss) (set (s ∷ ss) (slot_place q (s ∷ ss)) (page_slot q m))
    go true e on = rw e (puts_after low q m s ss _ a.0 e (on (grind (arith, nat_tests, e)) (rw e at g)))
    go false e on =
        let empty : s.mapping ≡ None = none_of s.mapping (rw e at g) in
        let reached : q ≤ s.number = grind (arith, nat_tests, e) in
        rw e
        (record {
          pages = sym (with_first (suc s.number) q m ss a.1 (omega arith)) ∙ sym (rw empty refl);
          ascend = (l, ascend_more (suc s.number) (suc q) ss a.1 (omega arith));
        })

pub filled_gap : (q : ℕ) (m : Mapping) (ss : List Slot) (i : ℕ) → i ≡ slot_place q ss → SlotsAscend 0 ss → is_gap ss i ≡ true → Puts 0 q m ss (set ss i (page_slot q m))
filled_gap q m ss i e a g = rw e (gap_filled 0 q m ss a (omega arith) (rw e at g))

-- into the gap before its place
gap_moved : (low q : ℕ) (m : Mapping) (ss : List Slot) (i : ℕ) → SlotsAscend low ss → low ≤ q → slot_place q ss ≡ suc i → is_gap ss i ≡ true → Apart q ss → Puts low q m ss (set ss i (page_slot q m))
gap_moved low q m [] i a l p g h = cc
gap_moved low q m (s ∷ ss) i a l p g h = go (ltb s.number q) refl (gap_moved (suc s.number) q m ss) i p g
  where
    go : (b : Bool) → ltb s.number q ≡ b → ((i : ℕ) → SlotsAscend (suc s.number) ss → suc s.number ≤ q → slot_place q ss ≡ suc i → is_gap ss i ≡ true → Apart q ss → Puts (suc s.number) q m ss (set ss i (page_slot q m))) → (i : ℕ) → slot_place q (s ∷ ss) ≡ suc i → is_gap (s ∷ ss) i ≡ true → Puts low q m (s ∷ ss) (set (s ∷ ss) i (page_slot q m))
    go false e on i p g = absurd (let d = rw e at p in omega (arith, d))
    go true e on zero p g =
        let none : slot_place q ss ≡ 0 = (let d = rw e at p in omega (arith, d)) in
        let empty : s.mapping ≡ None = none_of s.mapping g in
        let rest = ascend_past (suc s.number) q ss a.1 none (apart_tail q s ss e h) in
        record {
          pages = sym (with_first (suc q) q m ss rest (omega arith)) ∙ sym (rw empty refl);
          ascend = (l, rest);
        }
    go true e on (suc i) p g =
        let next : slot_place q ss ≡ suc i = (let d = rw e at p in omega (arith, d)) in
        puts_after low q m s ss _ a.0 e (on i a.1 (grind (arith, nat_tests, e)) next g (apart_tail q s ss e h))

pub moved_gap : (q : ℕ) (m : Mapping) (ss : List Slot) (i : ℕ) → i ≡ slot_place q ss → SlotsAscend 0 ss → mapping_at (pages_in ss) q ≡ None → is_gap ss i ≡ false → 0 < i → is_gap ss (i - 1) ≡ true → Puts 0 q m ss (set ss (i - 1) (page_slot q m))
moved_gap q m ss i e a none full l g = gap_moved 0 q m ss (i - 1) a (omega arith) (omega arith) g (apart q ss a none (rw e at full))

-- between its neighbours
slot_inserted : (low q : ℕ) (m : Mapping) (ss : List Slot) → SlotsAscend low ss → low ≤ q → Apart q ss → Puts low q m ss (insert ss (slot_place q ss) (page_slot q m))
slot_inserted low q m [] a l h = record { pages = refl; ascend = (l, tt) }
slot_inserted low q m (s ∷ ss) a l h = go (ltb s.number q) refl (slot_inserted (suc s.number) q m ss a.1)
  where
    go : (b : Bool) → ltb s.number q ≡ b → (suc s.number ≤ q → Apart q ss → Puts (suc s.number) q m ss (insert ss (slot_place q ss) (page_slot q m))) → Puts low q m (s ∷ ss) (insert (s ∷ ss) (slot_place q (s ∷ ss)) (page_slot q m))
    go true e on = rw e (puts_after low q m s ss _ a.0 e (on (grind (arith, nat_tests, e)) (apart_tail q s ss e h)))
    go false e on =
        let here : slot_place q (s ∷ ss) ≡ 0 = rw e refl in
        let reached : q ≤ s.number = grind (arith, nat_tests, e) in
        rw e
        (record {
          pages = sym (with_first s.number q m (s ∷ ss) (omega arith, a.1) reached);
          ascend = (l, ascend_past low q (s ∷ ss) a here h);
        })

pub inserted_slot : (q : ℕ) (m : Mapping) (ss : List Slot) (i : ℕ) → i ≡ slot_place q ss → SlotsAscend 0 ss → mapping_at (pages_in ss) q ≡ None → is_gap ss i ≡ false → Puts 0 q m ss (insert ss i (page_slot q m))
inserted_slot q m ss i e a none full = rw e (slot_inserted 0 q m ss a (omega arith) (apart q ss a none (rw e at full)))

-- ---- a page less
without_other : (n q : ℕ) (x : Option Mapping) (ms : List Mapped) → (n == q) ≡ false → without_page q (page_before n x ms) ≡ page_before n x (without_page q ms)
without_other n q None ms e = refl
without_other n q (Some m) ms e = rw e refl

without_above : (low q : ℕ) (ss : List Slot) → SlotsAscend low ss → q < low → without_page q (pages_in ss) ≡ pages_in ss
without_above low q [] a l = refl
without_above low q (s ∷ ss) a l =
    let other : (s.number == q) ≡ false = grind (arith, nat_tests, a.0, l) in
    without_other s.number q s.mapping (pages_in ss) other ∙ ap (page_before s.number s.mapping) (without_above (suc s.number) q ss a.1 (omega (arith, a.0)))

pub without_page-none : (q : ℕ) (ms : List Mapped) → mapping_at ms q ≡ None → without_page q ms ≡ ms
without_page-none q [] e = refl
without_page-none q (m ∷ ms) e = grind (arith, nat_tests, e, without_page-none q ms)

length-page_before : (n : ℕ) (x : Option Mapping) (ms ks : List Mapped) → length ms + 1 ≡ length ks → length (page_before n x ms) + 1 ≡ length (page_before n x ks)
length-page_before n None ms ks e = e
length-page_before n (Some m) ms ks e = omega arith

pub record Takes (low q : ℕ) (old new : List Slot) : Type 0 where
  pub pages : pages_in new ≡ without_page q (pages_in old)
  pub fewer : length (pages_in new) + 1 ≡ length (pages_in old)
  pub ascend : SlotsAscend low new

some_none : (x : Option Mapping) → x ≡ None → IsSome x → ⊥
some_none None e h = cc
some_none (Some m) e h = cc

gap_made : (low q : ℕ) (ss : List Slot) → SlotsAscend low ss → IsSome (mapping_at (pages_in ss) q) → Takes low q ss (set ss (slot_place q ss) (gap_slot q))
gap_made low q [] a h = absurd (some_none None refl h)
gap_made low q (s ∷ ss) a h = go (ltb s.number q) refl (s.number == q) refl (gap_made (suc s.number) q ss a.1)
  where
    go : (b : Bool) → ltb s.number q ≡ b → (c : Bool) → (s.number == q) ≡ c → (IsSome (mapping_at (pages_in ss) q) → Takes (suc s.number) q ss (set ss (slot_place q ss) (gap_slot q))) → Takes low q (s ∷ ss) (set (s ∷ ss) (slot_place q (s ∷ ss)) (gap_slot q))
    go true e true f on = absurd (grind (arith, nat_tests, e, f))
    go true e false f on =
        let less = on (rw (looked_other s.number q s.mapping (pages_in ss) f) at h) in
        rw e
        (record {
          pages = ap (page_before s.number s.mapping) less.pages ∙ sym (without_other s.number q s.mapping (pages_in ss) f);
          fewer = length-page_before s.number s.mapping _ _ less.fewer;
          ascend = (a.0, less.ascend);
        })
    go false e false f on =
        let above : q < s.number = grind (arith, nat_tests, e, f) in
        absurd (some_none _ (none_above s.number q (s ∷ ss) (omega arith, a.1) above) h)
    go false e true f on =
        let same : s.number ≡ q = grind (arith, nat_tests, f) in
        let rest : SlotsAscend (suc q) ss = subst (λ n. SlotsAscend (suc n) ss) same a.1 in
        rw e
        (record {
          pages = taken s.mapping;
          fewer = one s.mapping (rw (looked_here q s.mapping (pages_in ss) (none_above (suc q) q ss rest (omega arith))) at (subst (λ n. IsSome (mapping_at (page_before n s.mapping (pages_in ss)) q)) same h));
          ascend = (omega (arith, a.0), rest);
        })
      where
        taken : (x : Option Mapping) → pages_in ss ≡ without_page q (page_before s.number x (pages_in ss))
        taken None = sym (without_above (suc s.number) q ss a.1 (grind (arith, nat_tests, f)))
        taken (Some m) = rw f (sym (without_above (suc s.number) q ss a.1 (grind (arith, nat_tests, f))))

        one : (x : Option Mapping) → IsSome x → length (pages_in ss) + 1 ≡ length (page_before s.number x (pages_in ss))
        one None g = absurd (some_none None refl g)
        one (Some m) g = omega arith

pub made_gap : (q : ℕ) (ss : List Slot) (i : ℕ) → i ≡ slot_place q ss → SlotsAscend 0 ss → IsSome (mapping_at (pages_in ss) q) → Takes 0 q ss (set ss i (gap_slot q))
made_gap q ss i e a h = rw e (gap_made 0 q ss a h)

-- the page that is there stands within the list
pub stands_within : (q : ℕ) (ss : List Slot) (i : ℕ) → i ≡ slot_place q ss → SlotsAscend 0 ss → IsSome (mapping_at (pages_in ss) q) → i < length ss
stands_within q ss i e a h = go (ltb i (length ss)) refl
  where
    go : (b : Bool) → ltb i (length ss) ≡ b → i < length ss
    go true f = grind (arith, nat_tests, f)
    go false f = absurd (some_none _ (mapping_at-missed q ss i (gap_slot 0) a e (λ l. grind (arith, nat_tests, f, l))) h)

-- ---- gaps at the end
take_gap : (ss : List Slot) (i : ℕ) → is_gap ss i ≡ true → pages_in (take (suc i) ss) ≡ pages_in (take i ss)
take_gap [] i g = cc
take_gap (s ∷ ss) zero g = let empty : s.mapping ≡ None = none_of s.mapping g in rw empty refl
take_gap (s ∷ ss) (suc i) g = ap (page_before s.number s.mapping) (take_gap ss i g)

pub pages_in-take_gap : (ss : List Slot) (n : ℕ) → 0 < n → is_gap ss (n - 1) ≡ true → pages_in (take (n - 1) ss) ≡ pages_in (take n ss)
pages_in-take_gap ss zero l g = absurd (omega arith)
pages_in-take_gap ss (suc i) l g = let e : suc i - 1 ≡ i = omega arith in rw e (sym (take_gap ss i (rw e at g)))

take_ascends : (low : ℕ) (ss : List Slot) (n : ℕ) → SlotsAscend low ss → SlotsAscend low (take n ss)
take_ascends low [] zero a = tt
take_ascends low [] (suc n) a = tt
take_ascends low (s ∷ ss) zero a = tt
take_ascends low (s ∷ ss) (suc n) a = (a.0, take_ascends (suc s.number) ss n a.1)

pub SlotsAscend-take : (ss : List Slot) (n : ℕ) → SlotsAscend 0 ss → SlotsAscend 0 (take n ss)
SlotsAscend-take ss n a = take_ascends 0 ss n a

-- ---- closed gaps
abbrev pub is_page : Slot → Bool
is_page s = is_some s.mapping

pub pages_in-closed : (ss : List Slot) → pages_in (filter is_page ss) ≡ pages_in ss
pages_in-closed [] = refl
pages_in-closed (s ∷ ss) = go s.mapping refl (pages_in-closed ss)
  where
    go : (x : Option Mapping) → s.mapping ≡ x → pages_in (filter is_page ss) ≡ pages_in ss → pages_in (filter is_page (s ∷ ss)) ≡ pages_in (s ∷ ss)
    go None e on = rw e on
    go (Some m) e on = rw e (ap (λ ms. page s.number m ∷ ms) on)

pub length-closed : (ss : List Slot) → length (filter is_page ss) ≡ length (pages_in ss)
length-closed [] = refl
length-closed (s ∷ ss) = go s.mapping refl (length-closed ss)
  where
    go : (x : Option Mapping) → s.mapping ≡ x → length (filter is_page ss) ≡ length (pages_in ss) → length (filter is_page (s ∷ ss)) ≡ length (pages_in (s ∷ ss))
    go None e on = rw e on
    go (Some m) e on = rw e (ap suc on)

closed_ascends : (low : ℕ) (ss : List Slot) → SlotsAscend low ss → SlotsAscend low (filter is_page ss)
closed_ascends low [] a = tt
closed_ascends low (s ∷ ss) a = go (is_page s) (closed_ascends (suc s.number) ss a.1)
  where
    go : (b : Bool) → SlotsAscend (suc s.number) (filter is_page ss) → SlotsAscend low (cond b (s ∷ filter is_page ss) (filter is_page ss))
    go true on = (a.0, on)
    go false on = ascend_more (suc s.number) low (filter is_page ss) on (omega (arith, a.0))

pub SlotsAscend-closed : (ss : List Slot) → SlotsAscend 0 ss → SlotsAscend 0 (filter is_page ss)
SlotsAscend-closed ss a = closed_ascends 0 ss a

-- ---- the first page from a place on
least_first : (low q : ℕ) (ss : List Slot) → SlotsAscend low ss → q ≤ low → first_number (pages_in ss) ≡ least_number q (pages_in ss)
least_first low q [] a l = refl
least_first low q (s ∷ ss) a l = go s.mapping (least_first (suc s.number) q ss a.1 (omega (arith, a.0)))
  where
    after : ltb s.number q ≡ false
    after = grind (arith, nat_tests, a.0, l)

    go : (x : Option Mapping) → first_number (pages_in ss) ≡ least_number q (pages_in ss) → first_number (page_before s.number x (pages_in ss)) ≡ least_number q (page_before s.number x (pages_in ss))
    go None on = on
    go (Some m) on = rw after refl

least_from_place : (low q : ℕ) (ss : List Slot) → SlotsAscend low ss → first_number (pages_in (drop (slot_place q ss) ss)) ≡ least_number q (pages_in ss)
least_from_place low q [] a = refl
least_from_place low q (s ∷ ss) a = go (ltb s.number q) refl (least_from_place (suc s.number) q ss a.1)
  where
    lower : ltb s.number q ≡ true → (x : Option Mapping) → least_number q (page_before s.number x (pages_in ss)) ≡ least_number q (pages_in ss)
    lower e None = refl
    lower e (Some m) = rw e refl

    go : (b : Bool) → ltb s.number q ≡ b → first_number (pages_in (drop (slot_place q ss) ss)) ≡ least_number q (pages_in ss) → first_number (pages_in (drop (slot_place q (s ∷ ss)) (s ∷ ss))) ≡ least_number q (pages_in (s ∷ ss))
    go true e on = rw e (on ∙ sym (lower e s.mapping))
    go false e on = rw e (least_first s.number q (s ∷ ss) (omega arith, a.1) (grind (arith, nat_tests, e)))

pub first_number-drop : (q : ℕ) (ss : List Slot) (i : ℕ) → i ≡ slot_place q ss → SlotsAscend 0 ss → first_number (pages_in (drop i ss)) ≡ least_number q (pages_in ss)
first_number-drop q ss i e a = rw e (least_from_place 0 q ss a)

-- ---- a copy under new names
pub pages_in-renamed : (names : List ℕ) (ss : List Slot) → pages_in (map (renamed_slot names) ss) ≡ map (renamed_page names) (pages_in ss)
pages_in-renamed names [] = refl
pages_in-renamed names (s ∷ ss) = go s.mapping (pages_in-renamed names ss)
  where
    go : (x : Option Mapping) → pages_in (map (renamed_slot names) ss) ≡ map (renamed_page names) (pages_in ss) → page_before s.number (renamed_mapping names x) (pages_in (map (renamed_slot names) ss)) ≡ map (renamed_page names) (page_before s.number x (pages_in ss))
    go None on = on
    go (Some m) on = ap (λ ms. renamed_page names (page s.number m) ∷ ms) on

renamed_ascends : (names : List ℕ) (low : ℕ) (ss : List Slot) → SlotsAscend low ss → SlotsAscend low (map (renamed_slot names) ss)
renamed_ascends names low [] a = tt
renamed_ascends names low (s ∷ ss) a = (a.0, renamed_ascends names (suc s.number) ss a.1)

pub SlotsAscend-renamed : (names : List ℕ) (ss : List Slot) → SlotsAscend 0 ss → SlotsAscend 0 (map (renamed_slot names) ss)
SlotsAscend-renamed names ss a = renamed_ascends names 0 ss a

pub length-mapped : {X Y : Type 0} (f : X → Y) (xs : List X) → length (map f xs) ≡ length xs
length-mapped f [] = refl
length-mapped f (x ∷ xs) = ap suc (length-mapped f xs)

pub length-renamed : (names : List ℕ) (ms : List Mapped) → length (map (renamed_page names) ms) ≡ length ms
length-renamed names ms = length-mapped (renamed_page names) ms

pub frame_within : (high : ℕ) (ss : List Slot) (i : ℕ) (d : Slot) → All (λ (m : Mapped). m.mapping.frame < high) (pages_in ss) → i < length ss → IfSome (get_or ss i d).mapping (λ (m : Mapping). m.frame < high)
frame_within high [] i d h l = absurd (omega arith)
frame_within high (s ∷ ss) zero d h l = go s.mapping h
  where
    go : (x : Option Mapping) → All (λ (m : Mapped). m.mapping.frame < high) (page_before s.number x (pages_in ss)) → IfSome x (λ (m : Mapping). m.frame < high)
    go None h = tt
    go (Some m) h = All-head (λ (m : Mapped). m.mapping.frame < high) (page s.number m) (pages_in ss) h
frame_within high (s ∷ ss) (suc i) d h l = frame_within high ss i d (go s.mapping h) (omega arith)
  where
    go : (x : Option Mapping) → All (λ (m : Mapped). m.mapping.frame < high) (page_before s.number x (pages_in ss)) → All (λ (m : Mapped). m.mapping.frame < high) (pages_in ss)
    go None h = h
    go (Some m) h = All-tail (λ (m : Mapped). m.mapping.frame < high) (page s.number m) (pages_in ss) h

pub nothing : {X : Type 0} (xs : List X) → length xs ≤ 0 → xs ≡ []
nothing [] l = refl
nothing (x ∷ xs) l = absurd (omega arith)

pub ruleset page_places = (slot_place-le-length, slot_place-passed, slot_place-stops, is_gap-at, is_gap-past, nat_tests)
