-- What a grant and a death make of the counts.
use Rattle.std.proofs.Common.{ℕ, zero, suc, ◌+◌, ◌-◌, ◌*◌, ◌/◌, ◌≡◌, ◌<◌, ◌≤◌, Bool, true, false, not, ◌&&◌, List, [], ◌∷◌, length, get_or, set, arith, refl, ap, ◌∙◌}
use Rattle.std.specs.Prelude.{nat_eq}
use Rattle.std.specs.List.{list_any}
use Rattle.std.proofs.lemmas.Bool.Decides.{nat_tests}
use Rattle.std.proofs.lemmas.Grind.{get_or_default_zero}
use Rattle.std.proofs.lemmas.List.Sums.{sum_by-cons, sum_by_push}
use Rattle.osc_space.specs.declared.ObjectFact.{ObjectFact}
use Rattle.osc_word.specs.AddressMap.{first_shadow_page}
use Rattle.osc_space.specs.Objects.{GrantedFrom, mark, fact, next_page, granted_at, grant, kill, killed, is_live, is_in_leaf, is_leaf_granted, leaf_dead}
use Rattle.osc_space.proofs.ObjectLawProofs.{grants_keep}
use Rattle.osc_mark.specs.Grants.{lives}
use Rattle.osc_mark.specs.Leaves.{first_leaf, pages_under, live_pages_of, live_pages, AreParts, AreRaised, AreLowered}
use Rattle.osc_mark.proofs.ObjectPlaces.{lies, length-le-mark}

live-cons : (leaf : ℕ) (o : ObjectFact) (os : List ObjectFact) → live_pages leaf (o ∷ os) ≡ live_pages_of leaf o + live_pages leaf os
live-cons leaf o os = sum_by-cons (live_pages_of leaf) o os

mark-cons : (o : ObjectFact) (os : List ObjectFact) → mark (o ∷ os) ≡ o.pages + mark os
mark-cons o os = sum_by-cons (λ (o : ObjectFact). o.pages) o os

under-le : (leaf first pages : ℕ) → pages_under leaf first pages ≤ pages
under-le leaf first pages = omega arith

of-le : (leaf : ℕ) (o : ObjectFact) → live_pages_of leaf o ≤ o.pages
of-le leaf o = go (is_live o) refl
  where
    go : (b : Bool) → is_live o ≡ b → live_pages_of leaf o ≤ o.pages
    go true e = rw e (under-le leaf o.first o.pages)
    go false e = rw e (omega arith)

pub live-le-mark : (leaf : ℕ) (os : List ObjectFact) → live_pages leaf os ≤ mark os
live-le-mark leaf [] = omega arith
live-le-mark leaf (o ∷ os) =
    let a = live-cons leaf o os in
    let b = mark-cons o os in
    let c = live-le-mark leaf os in
    let d = of-le leaf o in
    omega arith

-- ---- a death
pub kill-set : (object call : ℕ) (os : List ObjectFact) (d : ObjectFact) → object < length os → kill object call os ≡ set os object (killed call (get_or os object d))
kill-set object call [] d l = absurd (omega arith)
kill-set zero call (o ∷ os) d l = refl
kill-set (suc object) call (o ∷ os) d l = ap (λ xs. o ∷ xs) (kill-set object call os d (omega arith))

pub lives-within : (object : ℕ) (os : List ObjectFact) → lives (fact os object) ≡ true → object < length os
lives-within object [] e = cc
lives-within zero (o ∷ os) e = omega arith
lives-within (suc object) (o ∷ os) e = let l = lives-within object os e in omega arith

pub live-kill : (leaf object call : ℕ) (os : List ObjectFact) (d : ObjectFact) → lives (fact os object) ≡ true
    → live_pages leaf (kill object call os) + pages_under leaf (get_or os object d).first (get_or os object d).pages ≡ live_pages leaf os
live-kill leaf object call [] d e = cc
live-kill leaf zero call (o ∷ os) d e =
    let a = live-cons leaf o os in
    let b = live-cons leaf (killed call o) os in
    let c : live_pages_of leaf o ≡ pages_under leaf o.first o.pages = rw e refl in
    omega (arith, a, b, c)
live-kill leaf (suc object) call (o ∷ os) d e =
    let a = live-cons leaf o os in
    let b = live-cons leaf o (kill object call os) in
    let c = live-kill leaf object call os d e in
    omega (arith, a, b, c)

-- ---- a grant
pub live-grant : (leaf pages size canon : ℕ) (os : List ObjectFact) → live_pages leaf (grant pages size canon os) ≡ live_pages leaf os + pages_under leaf (next_page os) pages
live-grant leaf pages size canon os = sum_by_push (live_pages_of leaf) os (granted_at (next_page os) pages size canon)

-- ---- a leaf without a live page
none-live : (page leaf : ℕ) (os : List ObjectFact) → GrantedFrom page os → live_pages leaf os ≡ 0 → list_any (λ o. is_live o && is_in_leaf leaf o) os ≡ false
none-live page leaf [] g e = refl
none-live page leaf (o ∷ os) g e =
    let a = live-cons leaf o os in
    let on = none-live (page + o.pages) leaf os g.3 (omega arith) in
    let none : live_pages_of leaf o ≡ 0 = omega arith in
    go (is_live o) refl on none
  where
    go : (b : Bool) → is_live o ≡ b → list_any (λ o. is_live o && is_in_leaf leaf o) os ≡ false → live_pages_of leaf o ≡ 0 → list_any (λ o. is_live o && is_in_leaf leaf o) (o ∷ os) ≡ false
    go true l on none =
        let few : pages_under leaf o.first o.pages ≡ 0 = rw l at none in
        let some = g.1 in
        let out : is_in_leaf leaf o ≡ false = grind (arith, nat_tests) in
        rw (l, out) on
    go false l on none = rw l on

some-live : (leaf : ℕ) (os : List ObjectFact) → 0 < live_pages leaf os → list_any (λ o. is_live o && is_in_leaf leaf o) os ≡ true
some-live leaf [] l = absurd (omega arith)
some-live leaf (o ∷ os) l = go (is_live o) refl (live-cons leaf o os) (some-live leaf os)
  where
    go : (b : Bool) → is_live o ≡ b → live_pages leaf (o ∷ os) ≡ live_pages_of leaf o + live_pages leaf os
        → (0 < live_pages leaf os → list_any (λ o. is_live o && is_in_leaf leaf o) os ≡ true)
        → list_any (λ o. is_live o && is_in_leaf leaf o) (o ∷ os) ≡ true
    go true e a on = grind (arith, nat_tests, e, a, l, on)
    go false e a on = grind (arith, nat_tests, e, a, l, on)

-- ---- the parts
pub few : (os : List ObjectFact) (limit : ℕ) (cs : List ℕ) (granted room : ℕ) → AreParts os limit cs granted room
    → (length os ≤ granted) × (granted ≤ limit) × (limit ≤ 16777216)
few os limit cs granted room p =
    let a = length-le-mark first_shadow_page os p.are_marked.granted in
    let b = p.are_marked.mark in
    let c = p.is_mark in
    (omega arith, omega arith, p.are_marked.most)

pub counts_small : (os : List ObjectFact) (limit : ℕ) (cs : List ℕ) (granted room : ℕ) → AreParts os limit cs granted room
    → (i : ℕ) → i < length cs → get_or cs i 0 ≤ 16777216
counts_small os limit cs granted room p i l =
    let a = live-le-mark (first_leaf + i) os in
    let b = p.are_counts.each i l in
    let c = p.are_marked.mark in
    let d = p.are_marked.most in
    omega arith

pub after_grant : (os : List ObjectFact) (limit : ℕ) (cs new : List ℕ) (granted room more pages size canon : ℕ) → AreParts os limit cs granted room
    → 0 < pages → pages ≤ limit - mark os → AreRaised (first_leaf + length cs) (next_page os) pages cs new → room ≤ more
    → AreParts (grant pages size canon os) limit new (granted + pages) more
after_grant os limit cs new granted room more pages size canon p some fits r m =
    let raised = grants_keep.raised pages size canon os in
    let below = p.are_marked.mark in
    let is = p.is_mark in
    let has = p.has_room in
    record {
      are_marked = record {
        granted = grants_keep.granted pages size canon os some p.are_marked.granted;
        mark = omega arith;
        most = p.are_marked.most;
      };
      are_counts = record {
        size = r.size ∙ p.are_counts.size;
        each = λ i l.
            let s = r.size in
            let old = p.are_counts.each i (omega arith) in
            let now = r.each i (omega arith) in
            let g = live-grant (first_leaf + i) pages size canon os in
            let inside : first_leaf + i < first_leaf + length cs = omega arith in
            grind (arith, nat_tests, old, now, g, inside);
      };
      is_mark = omega arith;
      has_room = omega arith;
    }

pub kill_within : (os : List ObjectFact) (limit : ℕ) (cs : List ℕ) (granted room object : ℕ) (d : ObjectFact) → AreParts os limit cs granted room
    → lives (fact os object) ≡ true
    → (16777216 ≤ (get_or os object d).first) × ((get_or os object d).first + (get_or os object d).pages ≤ 16777216 + 512 * length cs)
kill_within os limit cs granted room object d p e =
    let l = lies first_shadow_page os object d p.are_marked.granted (lives-within object os e) in
    let s = p.are_counts.size in
    let m = p.are_marked.mark in
    let from = l.from in
    let to = l.to in
    (omega arith, omega arith)

pub kill_held : (os : List ObjectFact) (limit : ℕ) (cs : List ℕ) (granted room object : ℕ) (d : ObjectFact) → AreParts os limit cs granted room
    → lives (fact os object) ≡ true
    → (i : ℕ) → i < length cs → pages_under (first_leaf + i) (get_or os object d).first (get_or os object d).pages ≤ get_or cs i 0
kill_held os limit cs granted room object d p e i l =
    let a = live-kill (first_leaf + i) object 0 os d e in
    let b = p.are_counts.each i l in
    omega (arith, a, b)

pub after_kill : (os : List ObjectFact) (limit : ℕ) (cs new : List ℕ) (granted room object call : ℕ) (o : ObjectFact) → AreParts os limit cs granted room
    → lives (fact os object) ≡ true → o ≡ get_or os object o → AreLowered (first_leaf + length cs) o.first o.pages cs new
    → AreParts (kill object call os) limit new granted room
after_kill os limit cs new granted room object call o p e same r =
    let stays = grants_keep.stays object call os in
    record {
      are_marked = record {
        granted = grants_keep.killed object call os p.are_marked.granted;
        mark = rw stays p.are_marked.mark;
        most = p.are_marked.most;
      };
      are_counts = record {
        size = r.size ∙ p.are_counts.size;
        each = λ i l.
            let s = r.size in
            let old = p.are_counts.each i (omega arith) in
            let now = r.each i (omega arith) in
            let g = rw (← same) at (live-kill (first_leaf + i) object call os o e) in
            let inside : first_leaf + i < first_leaf + length cs = omega arith in
            grind (arith, nat_tests, old, now, g, inside);
      };
      is_mark = rw stays p.is_mark;
      has_room = p.has_room;
    }

dead_is : (os : List ObjectFact) (limit : ℕ) (cs : List ℕ) (granted room leaf : ℕ) → AreParts os limit cs granted room
    → first_leaf ≤ leaf → leaf < first_leaf + granted / 512 → nat_eq (get_or cs (leaf - first_leaf) 0) 0 ≡ leaf_dead os leaf
dead_is os limit cs granted room leaf p low high =
    let s = p.are_counts.size in
    let m = p.are_marked.mark in
    let is = p.is_mark in
    let all : is_leaf_granted os leaf ≡ true = grind (arith, nat_tests) in
    let back : first_leaf + (leaf - first_leaf) ≡ leaf = omega arith in
    let at : get_or cs (leaf - first_leaf) 0 ≡ live_pages leaf os = rw back at (p.are_counts.each (leaf - first_leaf) (omega arith)) in
    rw (all, at) (go (live_pages leaf os) refl)
  where
    go : (n : ℕ) → live_pages leaf os ≡ n → nat_eq n 0 ≡ not (list_any (λ o. is_live o && is_in_leaf leaf o) os)
    go zero e = rw (none-live first_shadow_page leaf os p.are_marked.granted e) refl
    go (suc n) e = rw (some-live leaf os (omega arith)) (grind (arith, nat_tests))

pub dead_at : (os : List ObjectFact) (limit : ℕ) (cs : List ℕ) (granted room leaf n : ℕ) → AreParts os limit cs granted room
    → first_leaf ≤ leaf → leaf < first_leaf + granted / 512 → n ≡ get_or cs (leaf - first_leaf) n → nat_eq n 0 ≡ leaf_dead os leaf
dead_at os limit cs granted room leaf n p low high e =
    let s = p.are_counts.size in
    let m = p.are_marked.mark in
    let is = p.is_mark in
    let at : n ≡ get_or cs (leaf - first_leaf) 0 = e ∙ get_or_default_zero cs (leaf - first_leaf) n (omega arith) in
    rw at (dead_is os limit cs granted room leaf p low high)
