-- The laws of tables.
use Rattle.std.proofs.Common.{ℕ, zero, suc, ◌≡◌, ◌≢◌, ◌<◌, ◌≤◌, ◌/◌, ◌^◌, ◌-◌, ◌*◌, ◌+◌, Bool, true, false, List, [], ◌∷◌, Option, Some, None, arith, refl, ap, ◌∙◌, subst, length, slice_get, cond}
use Rattle.std.proofs.lemmas.Bool.Decides.{nat_tests}
use Rattle.std.proofs.lemmas.List.{length-set}
use Rattle.std.proofs.Math.Nat.{pow-succ', mod-lt}
use Rattle.osc_sv39.specs.declared.entries.Mapping.{Mapping}
use Rattle.osc_sv39.specs.declared.entries.PteEntry.TheVariants.{Absent}
use Rattle.osc_sv39.specs.Entries.{word_of}
use Rattle.osc_sv39.specs.Walk.{piece, word_at, put_word, is_canonical, frame_allowed, number_of}
use Rattle.osc_paging.specs.declared.Piece.{Piece}
use Rattle.osc_paging.specs.declared.TableFrame.{TableFrame}
use Rattle.osc_paging.specs.JobWords.{zeroed}
use Rattle.osc_paging.specs.KeptTables.{KeptTables, page_entry, link_entry, mapping_at, frame_of, piece_of, levels_of, child, closed, need_below, missing}
use Rattle.osc_paging.specs.TableChanges.{Changed, opened, unlinked, leaf_put, link_all, map_page}
use Rattle.osc_paging.specs.Agree.{Agrees, AgreesAfter}
use Rattle.osc_paging.specs.TableLaws.{WalkGivesMapping, OpeningAgrees, MappingKeeps, UnmappingKeeps, ReclaimingKeeps, GivingKeeps, MappingTakesNeed, MappingsTakeNeed, MappingsMapPages, NeedSplits, StoresElsewhereKeep, TablesStandAbove}
use Rattle.osc_paging.proofs.WordLists.{get_or-set, zeroed_at, length-zeroed}
use Rattle.osc_paging.proofs.Kept.{put-agrees, gone-agrees, leaf_taken, take-agrees, unlinked-agrees, give-agrees, link_all-agrees}
use Rattle.osc_paging.proofs.Walked.{walks}
use Rattle.osc_paging.proofs.Needed.{maps, maps_all, needs_apart}

piece-div : (l n : ℕ) → piece (suc l) n ≡ piece l (n / 512)
piece-div zero n = refl
piece-div (suc l) n = ap (λ k. k / 512) (piece-div l n)

pub piece-top : (l n : ℕ) → n < 512 ^ l → piece l n ≡ 0
piece-top zero n s = omega arith
piece-top (suc l) n s =
    let p : n < 512 * 512 ^ l = rw pow-succ' at s in
    piece-div l n ∙ piece-top l (n / 512) (omega arith)

pub positive : (l : ℕ) → 0 < 512 ^ l
positive zero = omega arith
positive (suc l) = rw pow-succ' (let h = positive l in omega arith)

pub walk_gives_mapping : WalkGivesMapping
walk_gives_mapping t free words root address access g e =
    let top = t.top in
    let page = address / 4096 in
    let under : suc top - 1 ≡ top = omega arith in
    let low : number_of (suc top) page < 512 ^ suc top = mod-lt page (positive (suc top)) in
    let here : frame_of t.tables top (piece (suc top) (number_of (suc top) page)) ≡ Some root = rw (piece-top (suc top) (number_of (suc top) page) low) e in
    rw (under, walks t free words top (number_of (suc top) page) root g (omega arith) here) (chosen (is_canonical (suc top) page) (mapping_at t.pages (number_of (suc top) page)))
  where
    chosen : (b : Bool) (found : Option Mapping) → cond b (frame_allowed access found) None ≡ frame_allowed access (cond b found None)
    chosen true found = refl
    chosen false found = refl

pub opening_agrees : OpeningAgrees
opening_agrees levels count room root free words size small taken zeros = record {
  size = size;
  small = small;
  apart = (refl, refl, tt);
  taken = λ f p e. taken_at f p e;
  parents = parents;
  leaves = λ n m e. cc;
  agree = agree;
  spare = λ f p e. cc;
  zeros = λ f i p s e. cc;
}
  where
    top : ℕ
    top = levels - 1

    t : KeptTables
    t = opened root (closed levels count room)

    only : (f : ℕ) (p : Piece) → piece_of t.tables f ≡ Some p → (root ≡ f) × (record { level = top; number = 0 } ≡ p)
    only f p e = grind (arith, nat_tests, e)

    taken_at : (f : ℕ) (p : Piece) → piece_of t.tables f ≡ Some p → slice_get free f ≡ Some false
    taken_at f p e = subst (λ g. slice_get free g ≡ Some false) (only f p e).0 taken

    childless : (l n : ℕ) → l ≤ top → child t l n ≡ Absent
    childless zero n s = refl
    childless (suc l) n s = grind (arith, nat_tests)

    parents : (l n : ℕ) → l ≤ top → child t l n ≢ Absent → frame_of t.tables l (n / 512) ≢ None
    parents l n s h = absurd (h (childless l n s))

    agree : (f i : ℕ) (p : Piece) → i < 512 → piece_of t.tables f ≡ Some p → word_at words f i ≡ word_of (child t p.level (p.number * 512 + i))
    agree f i p s e =
        let o = only f p e in
        let here : word_at words root i ≡ word_of (child t top (0 * 512 + i)) = rw (childless top (0 * 512 + i) (omega arith)) (zeros i s) in
        subst (λ (q : Piece). word_at words f i ≡ word_of (child t q.level (q.number * 512 + i))) o.1
        (subst (λ g. word_at words g i ≡ word_of (child t top (0 * 512 + i))) o.0 here)

pub mapping_keeps : MappingKeeps
mapping_keeps entries words c number m reads g = go _ refl
  where
    top : ℕ
    top = c.tables.top

    d : Changed
    d = link_all top number c

    go : (x : Option ℕ) → frame_of d.tables.tables 0 (number / 512) ≡ x → AgreesAfter entries words (leaf_put number m x d)
    go None e = link_all-agrees entries c words top number (omega arith) g
    go (Some t) e = put-agrees entries d words number m t reads e (link_all-agrees entries c words top number (omega arith) g)

pub unmapping_keeps : UnmappingKeeps
unmapping_keeps entries words c number g = go _ refl
  where
    go : (x : Option ℕ) → frame_of c.tables.tables 0 (number / 512) ≡ x → AgreesAfter entries words (leaf_taken number x c)
    go None e = gone-agrees entries c words number e g
    go (Some t) e = take-agrees entries c words number t e g

pub reclaiming_keeps : ReclaimingKeeps
reclaiming_keeps entries words c leaf s empty g = go _ _ refl refl
  where
    go : (x y : Option ℕ) → frame_of c.tables.tables 0 leaf ≡ x → frame_of c.tables.tables 1 (leaf / 512) ≡ y → AgreesAfter entries words (unlinked leaf x y c)
    go None y e f = g
    go (Some t) None e f = g
    go (Some t) (Some p) e f = unlinked-agrees entries c words leaf t p s empty e f g

pub giving_keeps : GivingKeeps
giving_keeps entries words c g = give-agrees entries c words g

pub mapping_takes_need : MappingTakesNeed
mapping_takes_need number root m c e s n = maps number root m c (rw (piece-top (levels_of c.tables) number s) e) n

pub none_needed : (ts : List TableFrame) (l number : ℕ) → need_below ts l number 0 ≡ 0
unfolding need_below missing
none_needed ts zero number = refl
none_needed ts (suc l) number = let h = none_needed ts l number in omega arith

pub mappings_take_need : MappingsTakeNeed
mappings_take_need number root [] c e s n = rw (none_needed c.tables.tables c.tables.top number) (omega arith)
mappings_take_need number root (m ∷ ms) c e s n = (maps_all number root m ms c e (piece-top (levels_of c.tables) (number + length ms) (omega arith)) n).taken

pub mappings_map_pages : MappingsMapPages
mappings_map_pages number root [] c e s n = record { root = refl; top = refl; pages = λ q. grind (arith, nat_tests) }
mappings_map_pages number root (m ∷ ms) c e s n = (maps_all number root m ms c e (piece-top (levels_of c.tables) (number + length ms) (omega arith)) n).pages

pub need_splits : NeedSplits
need_splits number root zero m c e s n = let none = none_needed (map_page number m c).tables.tables (map_page number m c).tables.top (number + 1) in omega arith
need_splits number root (suc more) m c e s n = needs_apart number root more m c e (piece-top (levels_of c.tables) (number + more) (omega arith)) n

-- words that are the same at all tables agree
same-agrees : (t : KeptTables) (free : List Bool) (words now : List ℕ) (g : ℕ) → Agrees t free words → length now ≡ length words → piece_of t.tables g ≡ None → piece_of t.aside g ≡ None → ((f i : ℕ) → i < 512 → f ≢ g → word_at now f i ≡ word_at words f i) → Agrees t free now
same-agrees t free words now g k l none out same = record {
  size = l ∙ k.size;
  small = k.small;
  apart = k.apart;
  taken = k.taken;
  parents = k.parents;
  leaves = k.leaves;
  agree = λ f i p s e. same f i s (λ d. (let h = subst (λ x. piece_of t.tables x ≡ Some p) d e in cc)) ∙ k.agree f i p s e;
  spare = k.spare;
  zeros = λ f i p s e. same f i s (λ d. (let h = subst (λ x. piece_of t.aside x ≡ Some p) d e in cc)) ∙ k.zeros f i p s e;
}

pub stores_elsewhere_keep : StoresElsewhereKeep
stores_elsewhere_keep t free words g k none out = record {
  stored = λ i v s. same-agrees t free words (put_word words g i v) g k (length-set words _ v) none out (λ f j q d. grind (arith, nat_tests, get_or-set words (g * 512 + i) (f * 512 + j) v));
  zeroed = λ i count s. same-agrees t free words (zeroed (g * 512 + i) count words) g k (length-zeroed count _ words) none out (λ f j q d. grind (arith, nat_tests, zeroed_at count (g * 512 + i) words (f * 512 + j)));
}

pub tables_stand_above : TablesStandAbove
tables_stand_above t free words g = record {
  pages = λ n h. g.parents 0 n (omega arith) (mapped _ h);
  tables = λ l n s h. g.parents (suc l) n s (linked _ h);
}
  where
    mapped : (x : Option Mapping) → x ≢ None → page_entry x ≢ Absent
    mapped None h = absurd (h refl)
    mapped (Some m) h = λ d. cc

    linked : (x : Option ℕ) → x ≢ None → link_entry x ≢ Absent
    linked None h = absurd (h refl)
    linked (Some f) h = λ d. cc
