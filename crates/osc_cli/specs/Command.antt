-- The command: the options of the table, and no others. This project's own; how words are read by
-- the options of a command is stated with `clap`.
use Rattle.std.specs.Prelude.{Bool, true, false, List, [], ◌∷◌, map, fold, codes, Some, ℕ, slice_index_or}
use Rattle.clap.specs.Words.{App, Kinds, Row, Rule, Text, fault_of, matches_of, new_app, new_rule, with_rule}
use Rattle.clap.specs.declared.error.kind.ErrorKind.{ErrorKind}
use Rattle.clap.specs.declared.error.kind.ErrorKind.TheVariants.{OutOfMemory}
use Rattle.osc_cli.specs.declared.task.WordsFault.{WordsFault}
use Rattle.osc_cli.specs.declared.task.WordsFault.TheVariants.{Words, Memory}
use Rattle.osc_cli.specs.Numbers.{number_options}

-- an option with a long name and one value
abbrev pub ruled : Text → Rule
ruled name = record (new_rule name) { long = Some name }

-- the names of the options, in the table's order
abbrev pub names : List Text
names = codes "mode" ∷ codes "heap" ∷ map (λ o. o.name) number_options

-- the name of the option at a place of the table, the first place being 0
abbrev pub name_at : ℕ → Text
name_at place = slice_index_or names place []

unfoldable pub command : App
command = fold (λ app name. with_rule app (ruled name)) (new_app (codes "oscar")) names

abbrev pub has_any : Kinds → Bool
has_any [] = false
has_any (_ ∷ _) = true

-- the command refuses the words, for another cause than memory
unfoldable pub is_refused : List Text → Bool
is_refused words = has_any (fault_of command words)

-- what the words give to the options
unfoldable pub given : List Text → List Row
given words = matches_of command words

-- a refusal of the command by its kind
abbrev pub told : ErrorKind → WordsFault
told OutOfMemory = Memory
told _ = Words
