-- What reading a source to its end comes to. This project's own.
use Rattle.std.specs.Prelude.{◌≡◌, ℕ, ◌<◌, ◌≤◌, List, length, take, Option, Result, Ok, Err, Vec}
use Rattle.std.specs.declared.alloc.Global.{Global}
use Rattle.osc_outside.specs.Bytes.{Consumes, IsAtEnd}
use Rattle.osc_top.specs.declared.outcome.Refusal.{Refusal}
use Rattle.osc_top.specs.declared.outcome.Refusal.TheVariants as refusal

-- the most bytes that are read: one more than the longest file
abbrev pub longest_read : ℕ
longest_read = 16777217

-- only the front of what the source had was taken
abbrev pub TakesPart : Option (List ℕ) → Option (List ℕ) → Type 0
TakesPart before after = (taken : List ℕ) × Consumes before after taken

-- the front of the buffer has the first bytes that were left, and none is the end
abbrev pub ReadsFront : {E : Type 0} → Option (List ℕ) → Option (List ℕ) → Result ℕ E → List ℕ → Type 0
ReadsFront before after (Ok count) buffer = Consumes before after (take count buffer) × (count ≡ 0 → IsAtEnd after)
ReadsFront before after (Err fault) buffer = after ≡ before

-- the file was taken from the source, which has nothing left unless the file has the most bytes
pub record IsLoaded (before after : Option (List ℕ)) (file : List ℕ) : Type 0 where
  pub taken : Consumes before after file
  pub bound : length file ≤ longest_read
  pub ends : length file < longest_read → IsAtEnd after

-- a refusal, where the source's count rose or memory ran out
abbrev pub StopsAt : Type 0 → Refusal → Type 0
StopsAt rose refusal.Source = rose
StopsAt rose refusal.Memory = Unit {0}

abbrev pub Loads : Option (List ℕ) → Option (List ℕ) → Type 0 → Result (Vec ℕ Global) Refusal → Type 0
Loads before after rose (Ok file) = IsLoaded before after file.items
Loads before after rose (Err why) = StopsAt rose why × TakesPart before after

-- only a fault of the source lets its count rise
abbrev pub IsQuietRead : {T : Type 0} → ℕ → ℕ → Result T Refusal → Type 0
IsQuietRead before after (Ok read) = after ≡ before
IsQuietRead before after (Err refusal.Source) = Unit {0}
IsQuietRead before after (Err refusal.Memory) = after ≡ before
