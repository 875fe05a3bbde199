-- What one read gives and what one write takes. This project's own.
use Rattle.std.specs.Prelude.{◌≡◌, ℕ, ◌<◌, ◌≤◌, List, length, take, IfOk, MatchResult}
use Rattle.std.specs.declared.option.Option.{Option}
use Rattle.std.specs.declared.result.Result.{Result}
use Rattle.osc_outside.specs.Bytes.{Consumes, Appends, IsAtEnd}

-- a read gives no more than its buffer has place for
abbrev pub ReadsAtMost : {E : Type 0} → Result ℕ E → List ℕ → Type 0
ReadsAtMost result buffer = IfOk result (λ count. count ≤ length buffer)

-- the buffer's first bytes are the first that were left, and none into a buffer with place is the end;
-- a read that fails takes nothing
abbrev pub ReadConsumes : {E : Type 0} → Option (List ℕ) → Option (List ℕ) → Result ℕ E → List ℕ → Type 0
ReadConsumes before after result buffer =
    MatchResult result
    (λ count. Consumes before after (take count buffer) × (count ≡ 0 → 0 < length buffer → IsAtEnd after))
    (λ _. after ≡ before)

-- a write takes no more than its piece has
abbrev pub WritesAtMost : {E : Type 0} → Result ℕ E → List ℕ → Type 0
WritesAtMost result piece = IfOk result (λ count. count ≤ length piece)

-- a write takes at least one byte of a piece that has one
abbrev pub TakesSome : {E : Type 0} → Result ℕ E → List ℕ → Type 0
TakesSome result piece = IfOk result (λ count. 0 < length piece → 0 < count)

-- the piece's first bytes are appended; a write that fails appends nothing
abbrev pub WriteAppends : {E : Type 0} → Option (List ℕ) → Option (List ℕ) → Result ℕ E → List ℕ → Type 0
WriteAppends before after result piece =
    MatchResult result (λ count. Appends before after (take count piece)) (λ _. after ≡ before)
