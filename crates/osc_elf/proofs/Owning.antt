-- Which segment has an address, by the borders around it.
use Rattle.std.proofs.Common.{ℕ, ◌≡◌, ◌+◌, ◌<◌, ◌≤◌, arith, refl, sym, ◌∙◌, ap, subst, Bool, true, false, ◌&&◌, List, [], ◌∷◌, ◌++◌, length, get_or, reverse, take, drop, Option, Some, None, inl, inr}
use Rattle.std.specs.Prelude.{nat_le, nat_lt, not, if◌then◌else◌, slice_get}
use Rattle.std.specs.List.{All, Contains, find}
use Rattle.std.specs.List.Sorted.{IsNonDecreasing}
use Rattle.std.specs.Option.{option_or, option_map, option_map_or}
use Rattle.std.proofs.lemmas.Bool.{cases_lt}
use Rattle.std.proofs.lemmas.Bool.Decides.{nat_tests}
use Rattle.std.proofs.lemmas.Grind.{common_steps}
use Rattle.std.proofs.lemmas.List.{get_or_default}
use Rattle.std.proofs.lemmas.Option.{same_Some, slice_get-get_or}
use Rattle.osc_elf.specs.Painting.{painted}
use Rattle.std.proofs.lemmas.List.Elements.{All-tail, All-more, All-weaker, Contains-append_left, Contains-push}
use Rattle.std.proofs.lemmas.List.Folds.{find-append}
use mathlib.Core.List.{reverse-cons}
use Rattle.osc_image.specs.Image.{covers, byte_in, laid_byte}
use Rattle.osc_elf.specs.declared.segment.Segment.{Segment}
use Rattle.osc_elf.specs.Segments.{shown, all_shown}
use Rattle.osc_elf.specs.Pieces.{last_owner, IsOwner, HasBorders, ArePieces, IsIn}
use Rattle.osc_elf.proofs.Laying.{last-covering}

-- ---- the last owner is the segment that was laid last
find-last : (address : ℕ) (ss : List Segment) → find (λ s. covers address (shown [] s)) (reverse ss) ≡ last_owner ss address
find-last address [] = refl
find-last address (s ∷ ss) =
    ap (find (λ t. covers address (shown [] t))) (reverse-cons s ss)
    ∙ (find-append (λ t. covers address (shown [] t)) (reverse ss) (s ∷ [])
    ∙ ap (λ o. option_or o (if covers address (shown [] s) then Some s else None)) (find-last address ss))

laid_byte-owner : (file : List ℕ) (ss : List Segment) (address : ℕ)
    → laid_byte (all_shown file ss) address ≡ option_map_or (byte_in address) (option_map (shown file) (last_owner ss address)) 0
laid_byte-owner file ss address =
    last-covering file ss address ∙ ap (λ o. option_map_or (byte_in address) (option_map (shown file) o) 0) (find-last address ss)

-- ---- addresses between two borders
pub border-at : (borders : List ℕ) (b : ℕ) → Contains borders b → (k : ℕ) × (k < length borders) × (get_or borders k 0 ≡ b)
border-at borders b (k, inside, is) = (k, inside, get_or_default borders k 0 b inside ∙ is)

border-same : (borders : List ℕ) (piece address b : ℕ) → IsNonDecreasing borders → IsIn borders piece address → Contains borders b
    → nat_le b address ≡ nat_le b (get_or borders piece 0)
border-same borders piece address b rising lies contains = at (border-at borders b contains)
  where
    at : (k : ℕ) × (k < length borders) × (get_or borders k 0 ≡ b) → nat_le b address ≡ nat_le b (get_or borders piece 0)
    at (k, inside, is) =
        elim (cases_lt piece k) [
          | inl before ↦
              let up = rising (piece + 1) k 0 (omega arith) inside in
              let high = lies.high (omega arith) in grind (arith, nat_tests, up, high, is, lies.low)
          | inr after ↦ let up = rising k piece 0 after lies.inside in grind (arith, nat_tests, up, is, lies.low)
        ]

not_le : (a b : ℕ) → nat_lt a b ≡ not (nat_le b a)
not_le a b = grind (arith, nat_tests)

covers-same : (borders : List ℕ) (piece address : ℕ) (s : Segment) → IsNonDecreasing borders → IsIn borders piece address
    → HasBorders borders s → covers address (shown [] s) ≡ covers (get_or borders piece 0) (shown [] s)
covers-same borders piece address s rising lies both =
    rw (
      not_le address (s.address + s.size),
      not_le (get_or borders piece 0) (s.address + s.size),
      border-same borders piece address s.address rising lies both.0,
      border-same borders piece address (s.address + s.size) rising lies both.1,
    )
    refl

last_owner-same : (borders : List ℕ) (piece address : ℕ) (ss : List Segment) → IsNonDecreasing borders → IsIn borders piece address
    → All (HasBorders borders) ss → last_owner ss address ≡ last_owner ss (get_or borders piece 0)
last_owner-same borders piece address [] rising lies both = refl
last_owner-same borders piece address (s ∷ ss) rising lies both =
    rw (
      last_owner-same borders piece address ss rising lies (All-tail (HasBorders borders) s ss both),
      covers-same borders piece address s rising lies (both 0 s (omega arith)),
    )
    refl

-- ---- the byte at an address
pub owner-here : (ss : List Segment) (borders : List ℕ) (owners : List (Option ℕ)) (piece address : ℕ) (owner : Option ℕ)
    → ArePieces ss borders owners → IsIn borders piece address → get_or owners piece None ≡ owner → IsOwner ss ss address owner
owner-here ss borders owners piece address owner pieces lies is =
    subst (IsOwner ss ss address) is
    (moved (get_or owners piece None) (last_owner-same borders piece address ss pieces.rising lies pieces.both) (pieces.owned piece lies.inside))
  where
    moved : (o : Option ℕ) → last_owner ss address ≡ last_owner ss (get_or borders piece 0) → IsOwner ss ss (get_or borders piece 0) o → IsOwner ss ss address o
    moved None same owns = same ∙ owns
    moved (Some index) same owns = (owns.0, same ∙ owns.1)

last_owner-covers : (ss : List Segment) (address : ℕ) (s : Segment) → last_owner ss address ≡ Some s → covers address (shown [] s) ≡ true
last_owner-covers [] address s is = cc
last_owner-covers (t ∷ ss) address s is =
    at (last_owner ss address) (covers address (shown [] t)) (last_owner-covers ss address s) refl refl is
  where
    at : (o : Option Segment) (b : Bool) → (last_owner ss address ≡ Some s → covers address (shown [] s) ≡ true) → last_owner ss address ≡ o → covers address (shown [] t) ≡ b
        → option_or o (if b then Some t else None) ≡ Some s → covers address (shown [] s) ≡ true
    at (Some u) b rest o_is b_is e = rest (o_is ∙ e)
    at None true rest o_is b_is e = ap (λ u. covers address (shown [] u)) (sym (same_Some t s e)) ∙ b_is
    at None false rest o_is b_is e = cc

pub byte-owned : (file : List ℕ) (ss : List Segment) (address index : ℕ) (s : Segment) → IsOwner ss ss address (Some index)
    → s ≡ get_or ss index s → (byte_in address (shown file s) ≡ laid_byte (all_shown file ss) address) × (s.address ≤ address)
byte-owned file ss address index s owns is =
    let found : last_owner ss address ≡ Some s = owns.1 ∙ (slice_get-get_or ss index s owns.0 ∙ ap Some (sym is)) in
    let covered = last_owner-covers ss address s found in (
      sym (laid_byte-owner file ss address ∙ ap (λ o. option_map_or (byte_in address) (option_map (shown file) o) 0) found),
      grind (arith, nat_tests, covered),
    )

pub byte-unowned : (file : List ℕ) (ss : List Segment) (address : ℕ) → IsOwner ss ss address None
    → 0 ≡ laid_byte (all_shown file ss) address
byte-unowned file ss address owns =
    sym (laid_byte-owner file ss address ∙ ap (λ o. option_map_or (byte_in address) (option_map (shown file) o) 0) owns)

-- ---- a segment is painted over the borders that have no owner yet
pub owner-painted : (all ss : List Segment) (s : Segment) (index from to border k : ℕ) (was : Option ℕ)
    → index < length all → slice_get all index ≡ Some s → (k < from → border < s.address) → (from ≤ k → s.address ≤ border)
    → (k < to → border < s.address + s.size) → (to ≤ k → s.address + s.size ≤ border)
    → IsOwner all ss border was → IsOwner all (s ∷ ss) border (painted from to index was k)
owner-painted all ss s index from to border k was inside is below above before after owns =
    at was (nat_le from k && nat_lt k to) owns covered
  where
    covered : covers border (shown [] s) ≡ (nat_le from k && nat_lt k to)
    covered = grind (arith, nat_tests, below, above, before, after)

    owned : (o p q : Option Segment) (t : Segment) → o ≡ p → p ≡ Some t → option_or o q ≡ p
    owned None p q t e f = cc
    owned (Some x) p q t e f = e

    at : (was : Option ℕ) (b : Bool) → IsOwner all ss border was → covers border (shown [] s) ≡ b
        → IsOwner all (s ∷ ss) border (option_or was (if b then Some index else None))
    at None true owns e = (inside, rw (owns, e) (sym is))
    at None false owns e = rw (owns, e) refl
    at (Some j) b owns e = (owns.0, owned (last_owner ss border) (slice_get all j) _ (get_or all j s) owns.1 (slice_get-get_or all j s owns.0))

-- ---- borders are collected
pub borders-more : (borders more further : List ℕ) (ss : List Segment) (i : ℕ) (s : Segment) → more ≡ borders ++ s.address ∷ []
    → further ≡ more ++ (s.address + s.size) ∷ [] → i < length ss → s ≡ get_or ss i s → Contains borders 0
    → All (HasBorders borders) (take i ss) → Contains further 0 × All (HasBorders further) (take (i + 1) ss)
borders-more borders more further ss i s more_is further_is inside is none both =
    let grown : (x : ℕ) → Contains more x → Contains further x = λ x h. rw further_is (Contains-append_left more ((s.address + s.size) ∷ []) x h) in
    let kept : (x : ℕ) → Contains borders x → Contains further x =
    λ x h. grown x (rw more_is (Contains-append_left borders (s.address ∷ []) x h)) in
    let address : Contains further s.address = grown s.address (rw more_is (Contains-push borders s.address)) in
    let end : Contains further (s.address + s.size) = rw further_is (Contains-push more (s.address + s.size)) in
    let here : HasBorders further (get_or ss i s) = subst (HasBorders further) is (address, end) in (
      kept 0 none,
      All-more (HasBorders further) ss i s inside
          (All-weaker (HasBorders borders) (HasBorders further) (λ t h. (kept t.address h.0, kept (t.address + t.size) h.1)) (take i ss) both)
          here,
    )

-- ---- owners are found from the last segment to the first
pub owner-next : (all : List Segment) (s : Segment) (index next from to border k : ℕ) (was : Option ℕ)
    → next ≡ index + 1 → index < length all → s ≡ get_or all index s → (k < from → border < s.address)
    → (from ≤ k → s.address ≤ border) → (k < to → border < s.address + s.size) → (to ≤ k → s.address + s.size ≤ border)
    → IsOwner all (drop next all) border was → IsOwner all (drop index all) border (painted from to index was k)
owner-next all s index next from to border k was more inside is below above before after owns =
    let split : drop index all ≡ s ∷ drop next all = grind (arith, common_steps, inside, is, more) in
    rw split
    (owner-painted all (drop next all) s index from to border k was inside (slice_get-get_or all index s inside ∙ ap Some (sym is)) below
    above before after owns)

-- the owner that stands in the tables of an image
pub owner-read : (ss ss' : List Segment) (borders borders' : List ℕ) (owners : List (Option ℕ)) (piece address : ℕ) (owner : Option ℕ)
    → ss' ≡ ss → borders' ≡ borders → ArePieces ss borders owners → IsIn borders' piece address → owner ≡ get_or owners piece owner
    → IsOwner ss' ss' address owner
owner-read ss ss' borders borders' owners piece address owner same_segments same_borders pieces lies is =
    let lies_here : IsIn borders piece address = subst (λ bs. IsIn bs piece address) same_borders lies in
    let read : get_or owners piece None ≡ owner =
    get_or_default owners piece None owner (omega (arith, pieces.len, lies_here.inside)) ∙ sym is in
    subst (λ all. IsOwner all all address owner) (sym same_segments) (owner-here ss borders owners piece address owner pieces lies_here read)
