-- What a source has left and what a sink holds, before and after, where they tell it. This project's own.
-- `Some bytes` is told, `None` is not, and what is not told stays so.
use Rattle.std.specs.Prelude.{◌≡◌, ℕ, List, [], ◌++◌, IfSome}
use Rattle.std.specs.Option.{option_map}
use Rattle.std.specs.declared.option.Option.{Option}

-- the source had the bytes, and after them what it has left now
abbrev pub Consumes : Option (List ℕ) → Option (List ℕ) → List ℕ → Type 0
Consumes before after bytes = before ≡ option_map (λ left. bytes ++ left) after

-- the sink holds what it held, and after that the bytes
abbrev pub Appends : Option (List ℕ) → Option (List ℕ) → List ℕ → Type 0
Appends before after bytes = after ≡ option_map (λ held. held ++ bytes) before

-- where the source tells what is left, nothing is
abbrev pub IsAtEnd : Option (List ℕ) → Type 0
IsAtEnd left = IfSome left (λ bytes. bytes ≡ [])
