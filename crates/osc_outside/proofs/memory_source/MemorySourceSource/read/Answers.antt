-- What a read gave and what it left are what there was before, and nothing into a buffer with place is the end.
use Rattle.std.proofs.Common.{arith, ◌≡◌, ℕ, ◌+◌, ◌≤◌, List, ◌++◌, take, drop, length, ap, Some}
use Rattle.std.proofs.lemmas.Grind.{common_steps}
use Rattle.std.proofs.lemmas.List.{nil_from_length, drop-drop}
use Rattle.osc_outside.proofs.memory_source.MemorySourceSource.read.Goals as goal

-- the front of the buffer, and then the bytes that follow, are what was left
joined : (bytes left into front : List ℕ) (given count : ℕ) → left ≡ drop given bytes → front ≡ take count left
    → count ≤ length left → left ≡ take count (front ++ drop count into) ++ drop (given + count) bytes
joined bytes left into front given count rest copied within =
    rw (← drop-drop count given bytes) (grind (arith, common_steps))

pub returns-clause-bytes : goal.returns-clause-bytes
returns-clause-bytes c = (
  rw (← c.self.view_is) (ap Some
      (joined _ _ _ _ c.self.inside.given c.min-count.result
      (grind (arith, common_steps)) (grind (arith, common_steps)) (grind (arith, common_steps)))),
  λ none place. nil_from_length _ (grind (arith, common_steps)),
)
