-- How many frames are free once one of them is taken or given.
use Rattle.std.proofs.Common.{ℕ, ◌≡◌, ◌+◌, Bool, true, false, cond, List, Some, slice_get, set, sym, ap, ◌∙◌, refl}
use Rattle.std.proofs.lemmas.List.Sums.{sum_by-set}
use Rattle.std.proofs.lemmas.List.Quantifiers.{position-Some}
use Rattle.std.proofs.lemmas.Option.{slice_get-get_or, slice_get_within, get_or_from_slice_get}
use Rattle.osc_frames.specs.Free.{free_count, least_free}
use Rattle.osc_frames.specs.Words.{digit}

pub free_count-set : (frames : List Bool) (i : ℕ) (was now : Bool) → slice_get frames i ≡ Some was → free_count (set frames i now) + digit was ≡ free_count frames + digit now
free_count-set frames i was now e =
    let same = get_or_from_slice_get frames i was false e in
    let sums = sum_by-set (λ (b : Bool). cond b 1 0) frames i now false (slice_get_within frames i was e) in
    ap (λ (b : Bool). free_count (set frames i now) + digit b) (sym same) ∙ sums

pub least_is_free : (frames : List Bool) (i : ℕ) → Some i ≡ least_free frames → slice_get frames i ≡ Some true
least_is_free frames i e =
    let at = position-Some (λ b. b) frames i false (sym e) in
    slice_get-get_or frames i false at.0 ∙ rw at.1 refl
