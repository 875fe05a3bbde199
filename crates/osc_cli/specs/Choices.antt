-- The options whose value is a name. This project's own.
use Rattle.std.specs.Prelude.{Bool, true, false, if◌then◌else◌, List, [], ◌∷◌, codes, Option, Some, None, find, option_map}
use Rattle.std.specs.Str.{bytes_eq}
use Rattle.clap.specs.Words.{Text}
use Rattle.osc_word.specs.declared.settings.HeapKind.{HeapKind}
use Rattle.osc_word.specs.declared.settings.HeapKind.TheVariants.{Oscar, Plain}
use Rattle.osc_cli.specs.declared.task.Mode.{Mode}
use Rattle.osc_cli.specs.declared.task.Mode.TheVariants.{Run, Seed, Object, Gen, Asm, Disasm}

-- what a text names
abbrev pub named : {T : Type 0} → List (Text × T) → Text → Option T
named names text = option_map (λ name. name.1) (find (λ name. bytes_eq text name.0) names)

-- the names of the modes that the program has
abbrev pub modes : List (Text × Mode)
modes =
    (codes "seed", Seed)
    ∷ (codes "object", Object)
    ∷ (codes "gen", Gen)
    ∷ (codes "asm", Asm)
    ∷ (codes "disasm", Disasm)
    ∷ []

unfoldable pub mode_of : Option Text → Option Mode
mode_of None = Some Seed
mode_of (Some text) = named modes text

-- the modes that the plain heap may be given to
abbrev pub has_plain : Mode → Bool
has_plain Run = true
has_plain Seed = true
has_plain Object = false
has_plain Gen = true
has_plain Asm = true
has_plain Disasm = true

abbrev pub heaps : Mode → List (Text × HeapKind)
heaps mode = (codes "oscar", Oscar) ∷ (if has_plain mode then (codes "plain", Plain) ∷ [] else [])

unfoldable pub heap_of : Mode → Option Text → Option HeapKind
heap_of mode None = Some Oscar
heap_of mode (Some text) = named (heaps mode) text
