-- No frame that one process holds alone is another's.
use Rattle.std.proofs.Common.{ℕ, zero, suc, ◌+◌, ◌≡◌, ◌≢◌, ◌<◌, ◌≤◌, Bool, false, Some, List, length, slice_get, arith, refl}
use Rattle.std.proofs.lemmas.Option.{slice_get_within}
use Rattle.osc_space.specs.Share.{Regions, holders, shared_frames}
use Rattle.osc_parts.specs.Frames.{among, vacant, frames_held, frames_mapped, FramesFit}
use Rattle.osc_parts.specs.OthersFit.{HoldsApart}
use Rattle.osc_parts.proofs.Counts.{among-append}
use Rattle.osc_parts.proofs.Trading.{held_once, held_taken}
use Rattle.osc_calls.specs.Kernel.{Process}
use Rattle.osc_settled.specs.Memory.{held_by, shared_by, held, shared, one_if}
use Rattle.osc_settled.proofs.Lists.{one_within, two_within}
use Rattle.osc_settled.proofs.Memories.{UsedOnce}

-- no frame that one process holds alone is another's, whatever a call under way has made of them
pub holds_apart : (processes : List Process) (regions : Regions) (free : List Bool) (a b : ℕ) (p q : Process)
    → UsedOnce processes regions free → a ≢ b → slice_get processes a ≡ Some p → slice_get processes b ≡ Some q → FramesFit p.space free → FramesFit q.space free
    → HoldsApart p.space q.space
holds_apart processes regions free a b p q u n e g k h f = go (among f (frames_held p.space)) refl
  where
    mapped : among f (frames_mapped q.space) ≡ among f (frames_held q.space) + among f (shared_frames q.space.tables)
    mapped = among-append f (frames_held q.space) (shared_frames q.space.tables)

    none : (x : ℕ) → vacant free f + held f processes + one_if x ≡ 1 → 0 < held f processes → x ≡ 0
    none zero e l = refl
    none (suc x) e l = absurd (omega (arith, e, l))

    go : (x : ℕ) → among f (frames_held p.space) ≡ x → among f (frames_held p.space) + among f (frames_mapped q.space) ≤ 1
    go zero is = let once = held_once q.space free f h in omega (arith, is, once, mapped)
    go (suc x) is =
        let within : f < length free = slice_get_within free f false (held_taken p.space free f k (omega (arith, is))) in
        let once_used = u.uses f within in
        let both : held_by f p + held_by f q ≤ held f processes = two_within (held_by f) processes a b p q n e g in
        let other : shared_by f q ≤ shared f processes = one_within (shared_by f) processes b q g in
        let sum = u.holders f in
        let zero_holders = none (holders regions f) once_used (omega (arith, both, is)) in
        omega (arith, is, once_used, both, other, sum, zero_holders, mapped)
