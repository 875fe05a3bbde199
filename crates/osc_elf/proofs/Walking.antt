-- The program headers are read one after the other.
use Rattle.std.proofs.Common.{ℕ, ◌≡◌, ◌+◌, ◌<◌, arith, refl, sym, ◌∙◌, ap, List, [], ◌∷◌, ◌++◌, append-nil, Some, None}
use Rattle.std.specs.Prelude.{option_map}
use Rattle.std.specs.List.{range_with_len, filter_map}
use Rattle.std.proofs.lemmas.List.Elements.{filter_map-append}
use Rattle.std.proofs.lemmas.Grind.{common_steps}
use Rattle.osc_image.specs.declared.ImageFault.TheVariants as fault
use Rattle.osc_image.specs.declared.SegmentWhy.{SegmentWhy}
use Rattle.osc_image.specs.Image as image
use Rattle.osc_image.specs.Form.{e_phnum, segment_why, segment_fault, table_fault, laid_segment, segments_of}
use Rattle.osc_elf.specs.declared.segment.Segment.{Segment}
use Rattle.osc_elf.specs.Segments.{shown, all_shown}
use Rattle.osc_elf.proofs.Ranges.{range-more, first-none, first-some}

pub segments_of-start : (file : List ℕ) → segments_of file 0 ≡ []
unfolding segments_of
segments_of-start file = refl

segments_of-more : (file : List ℕ) (count : ℕ)
    → segments_of file (count + 1) ≡ segments_of file count ++ filter_map (laid_segment file) (count ∷ [])
unfolding segments_of
segments_of-more file count =
    ap (filter_map (laid_segment file)) (range-more 0 count ∙ ap (λ x. range_with_len 0 count ++ x ∷ []) (omega arith))
    ∙ filter_map-append (laid_segment file) (range_with_len 0 count) (count ∷ [])

-- a header that lays nothing, and one that lays a segment
pub segments_of-none : (file : List ℕ) (count : ℕ) → laid_segment file count ≡ None
    → segments_of file (count + 1) ≡ segments_of file count
segments_of-none file count none = segments_of-more file count ∙ rw none (simp (append-nil))

pub segments_of-some : (file : List ℕ) (count : ℕ) (s : image.Segment) → laid_segment file count ≡ Some s
    → segments_of file (count + 1) ≡ segments_of file count ++ s ∷ []
segments_of-some file count s some = segments_of-more file count ∙ rw some refl

pub all_shown-more : (file : List ℕ) (ss : List Segment) (s : Segment)
    → all_shown file (ss ++ s ∷ []) ≡ all_shown file ss ++ shown file s ∷ []
all_shown-more file [] s = refl
all_shown-more file (t ∷ ss) s = ap (λ xs. shown file t ∷ xs) (all_shown-more file ss s)

-- the table is refused where a header is
pub table_fault-none : (file : List ℕ) (count : ℕ) → count ≡ e_phnum file → ((k : ℕ) → k < count → segment_why file k ≡ None)
    → table_fault file ≡ None
unfolding table_fault
table_fault-none file count all none =
    rw (sym all)
    (first-none (segment_fault file) 0 count
    (λ k low high. ap (λ why. option_map (λ w. fault.Segment k w) why) (none k (omega arith))))

pub table_fault-some : (file : List ℕ) (index : ℕ) (why : SegmentWhy) → index < e_phnum file
    → ((k : ℕ) → k < index → segment_why file k ≡ None) → segment_why file index ≡ Some why
    → table_fault file ≡ Some (fault.Segment index why)
unfolding table_fault
table_fault-some file index why inside none some =
    first-some (segment_fault file) 0 (e_phnum file) index (fault.Segment index why) (omega arith) (omega arith)
    (λ k low high. ap (λ why. option_map (λ w. fault.Segment k w) why) (none k high))
    (ap (λ why. option_map (λ w. fault.Segment index w) why) some)

pub ruleset walk_steps = (common_steps, segments_of-start, segments_of-none, segments_of-some, all_shown-more, table_fault-none, table_fault-some)
