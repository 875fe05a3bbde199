-- What the command's answer says of the words.
use Rattle.std.proofs.Common.{◌≡◌, ◌∙◌, ◌⊎◌, inl, inr, true, cond, refl, sym, ap, List, [], ◌∷◌, Result, Err}
use Rattle.clap.specs.Words.{App, Row, Text, HasKind, IsAmong, Kinds, fault_of, is_simple, is_simple_and_free, kind_of, matches_of}
use Rattle.clap.specs.declared.error.Error.{Error}
use Rattle.clap.specs.declared.error.kind.ErrorKind.{ErrorKind}
use Rattle.clap.specs.declared.error.kind.ErrorKind.TheVariants.{OutOfMemory}
use Rattle.clap.proofs.OnLiterals.{clap_on_literals}
use Rattle.osc_cli.specs.declared.task.Task.{Task}
use Rattle.osc_cli.specs.declared.task.WordsFault.{WordsFault}
use Rattle.osc_cli.specs.declared.task.WordsFault.TheVariants.{Words, Memory}
use Rattle.osc_cli.specs.Command.{command, has_any, is_refused, given, told}
use Rattle.osc_cli.specs.Words.{Says, chosen}

simple : is_simple command ≡ true
unfolding command clap_on_literals
simple = refl

free : is_simple_and_free command ≡ true
unfolding command clap_on_literals
free = refl

pub taken : (made : App) (words : List Text) (rows : List Row) (answer : Result Task WordsFault) → made ≡ command
    → (is_simple made ≡ true → rows ≡ matches_of made words) → (is_simple_and_free made ≡ true → fault_of made words ≡ [])
    → answer ≡ chosen rows → Says words answer
unfolding is_refused given
taken made words rows answer is same none said =
    let rows_are : rows ≡ matches_of command words = same (ap is_simple is ∙ simple) ∙ ap (λ a. matches_of a words) is in
    let no_fault : fault_of command words ≡ [] = ap (λ a. fault_of a words) (sym is) ∙ none (ap is_simple_and_free is ∙ free) in
    let asked : chosen (matches_of command words) ≡ cond (has_any (fault_of command words)) (Err Words) (chosen (matches_of command words)) =
    rw no_fault refl in
    inr (said ∙ ap chosen rows_are ∙ asked)

among : (kind : ErrorKind) (kinds : Kinds) → IsAmong kind kinds → has_any kinds ≡ true
among kind [] h = absurd h
among kind (k ∷ ks) h = refl

either : (kind : ErrorKind) → (told kind ≡ Memory) ⊎ (told kind ≡ Words)
either OutOfMemory = inl refl
either _ = inr refl

pub refused : (made : App) (words : List Text) (error : Error) (fault : WordsFault) → made ≡ command
    → (is_simple_and_free made ≡ true → HasKind (fault_of made words) error) → fault ≡ told (kind_of error) → Says words (Err fault)
unfolding is_refused
refused made words error fault is fails said = go (fails (ap is_simple_and_free is ∙ free)) (either (kind_of error))
  where
    go : HasKind (fault_of made words) error → (told (kind_of error) ≡ Memory) ⊎ (told (kind_of error) ≡ Words) → Says words (Err fault)
    go h (inl e) = inl (ap Err (said ∙ e))
    go (inl h) (inr e) = inl (ap Err (said ∙ ap told h))
    go (inr h) (inr e) =
        let some : has_any (fault_of command words) ≡ true =
        ap (λ a. has_any (fault_of a words)) (sym is) ∙ among (kind_of error) (fault_of made words) h in
        inr (rw some (ap Err (said ∙ e)))
