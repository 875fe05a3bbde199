-- A process maps no more pages of regions than the machine has frames.
use Rattle.std.proofs.Common.{ℕ, ◌+◌, ◌≡◌, ◌≤◌, Bool, true, List, [], ◌∷◌, length, slice_set, arith}
use Rattle.osc_slot.specs.Heap.{free_count}
use Rattle.osc_slot.proofs.Backing.{free_count-give, free_count-le}
use Rattle.osc_space.specs.Space.{Space}
use Rattle.osc_space.specs.Fork.{frame_of_page, set_free}
use Rattle.osc_space.specs.Share.{shared_pages, shared_frames}
use Rattle.osc_space.specs.Agree.{AreApart, AllTaken}
use Rattle.osc_parts.specs.Frames.{FramesFit}
use Rattle.osc_parts.proofs.Counts.{once_apart, all_taken, taken_but, given_length}
use Rattle.osc_parts.proofs.Trading.{held_once, held_taken}
use Rattle.osc_parts.proofs.JobCounts.{length-mapped}

-- frames that are taken and of which no two are one are as many more free ones once they are given back
given-count : (xs : List ℕ) (free : List Bool) → AreApart xs → AllTaken free xs → free_count (set_free true xs free) ≡ length xs + free_count free
given-count [] free a t = omega arith
given-count (x ∷ xs) free a t =
    let here = free_count-give free x t.0 in
    let later = given-count xs (slice_set free x true) a.1 (taken_but free x xs a.0 t.1) in
    omega (arith, here, later)

pub shared-few : (s : Space) (free : List Bool) → FramesFit s free → length (shared_pages s.tables) ≤ length free
shared-few s free fits =
    let xs = shared_frames s.tables in
    let same = length-mapped frame_of_page (shared_pages s.tables) in
    let count = given-count xs free (once_apart xs (λ f. (let o = held_once s free f fits in omega (arith, o))))
    (all_taken free xs (λ f l. held_taken s free f fits (omega (arith, l)))) in
    let few = free_count-le (set_free true xs free) in
    let size = given_length xs free in
    omega (arith, same, count, few, size)
