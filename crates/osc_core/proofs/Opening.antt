-- Gates and their words.
use Rattle.std.proofs.Common.{ℕ, ◌≡◌, ◌+◌, ◌%◌, ◌<◌, ◌≤◌, nat_le, Bool, true, false, Option, Some, None, IfSome, List, map, option_map, if◌then◌else◌, slice_get, slice_set, arith, refl, sym, ◌∙◌, ap}
use Rattle.std.proofs.lemmas.Bool.Decides.{nat_tests}
use Rattle.std.proofs.lemmas.List.{map-set}
use Rattle.std.proofs.lemmas.Option.{slice_get-map}
use Rattle.osc_guest.specs.Fits.{last_version}
use Rattle.osc_machine.specs.declared.HartAsk.TheVariants as does
use Rattle.osc_machine.specs.Parts.{Gate}
use Rattle.osc_machine.specs.Turns.{HartTold, Busy, OldVersion}
use Rattle.osc_machine.specs.Turns as told
use Rattle.osc_machine.specs.Step.{is_shut, is_wanted}
use Rattle.osc_turns.specs.Answers.{AnswerFits}
use Rattle.osc_core.specs.Shared.{gate_of}
use Rattle.osc_core.specs.Acting.{gate_told, gates_told, takes_gate}

pub opened : (version : ℕ) → version ≤ last_version → gate_of version ≡ record { version = version; taken = false }
opened version l =
    let small : version % 9223372036854775808 ≡ version = omega arith in
    let not_taken : nat_le 9223372036854775808 version ≡ false = grind (arith, nat_tests, l) in
    rw (small, not_taken) refl

pub shut : (word : ℕ) → word < last_version → gate_of (word + 9223372036854775808) ≡ record { version = word; taken = true }
shut word l =
    let small : (word + 9223372036854775808) % 9223372036854775808 ≡ word = omega arith in
    let taken : nat_le 9223372036854775808 (word + 9223372036854775808) ≡ true = grind (arith, nat_tests, l) in
    rw (small, taken) refl

told_version : (only : Option ℕ) (g : Gate) (v : ℕ) → Some (told.Gate v) ≡ gate_told only (Some g) → v ≡ g.version
told_version only g v e = go (is_shut g) (is_wanted only g.version) e
  where
    go : (shut wanted : Bool) → Some (told.Gate v) ≡ (if shut then None else if wanted then Some (told.Gate g.version) else Some OldVersion) → v ≡ g.version
    go true wanted e = absurd (let z : ⊥ = grind (arith, e) in z)
    go false true e = grind (arith, e)
    go false false e = absurd (let z : ⊥ = grind (arith, e) in z)

pub set_open : (words : List ℕ) (frame version : ℕ) → version ≤ last_version
    → map gate_of (slice_set words frame version) ≡ slice_set (map gate_of words) frame (record { version = version; taken = false })
set_open words frame version l = map-set gate_of words frame version ∙ ap (λ g. slice_set (map gate_of words) frame g) (opened version l)

-- the gate of a frame
pub gate_at : (words : List ℕ) (frame word : ℕ) (only : Option ℕ) → slice_get words frame ≡ Some word
    → gate_told only (Some (gate_of word)) ≡ gate_told only (slice_get (map gate_of words) frame)
gate_at words frame word only e = ap (gate_told only) (sym (slice_get-map gate_of words frame ∙ ap (option_map gate_of) e))

set_taken_by : (words : List ℕ) (frame word v : ℕ) (only : Option ℕ) → slice_get words frame ≡ Some word → word < last_version
    → Some (told.Gate v) ≡ gate_told only (slice_get (map gate_of words) frame)
    → map gate_of (slice_set words frame (word + 9223372036854775808)) ≡ gates_told (map gate_of words) frame (gate_told only (slice_get (map gate_of words) frame))
set_taken_by words frame word v only at l is =
    let small : word % 9223372036854775808 ≡ word = omega arith in
    let same : v ≡ word = told_version only (gate_of word) v (is ∙ sym (gate_at words frame word only at)) ∙ small in
    rw (← is, same) (map-set gate_of words frame (word + 9223372036854775808) ∙ ap (λ g. slice_set (map gate_of words) frame g) (shut word l))

pub set_taken : (words : List ℕ) (frame word : ℕ) (only : Option ℕ) (t : Option HartTold) → slice_get words frame ≡ Some word → (takes_gate t ≡ true → word < last_version)
    → t ≡ gate_told only (slice_get (map gate_of words) frame) → takes_gate t ≡ true
    → map gate_of (slice_set words frame (word + 9223372036854775808)) ≡ gates_told (map gate_of words) frame (gate_told only (slice_get (map gate_of words) frame))
set_taken words frame word only (Some (told.Gate v)) at l is takes = set_taken_by words frame word v only at (l refl) is
set_taken words frame word only _ at l is takes = absurd (let z : ⊥ = grind (arith, takes) in z)

pub left_open : (gates : List Gate) (frame : ℕ) (t : Option HartTold) → takes_gate t ≡ false → gates ≡ gates_told gates frame t
left_open gates frame (Some (told.Gate v)) takes = absurd (let z : ⊥ = grind (arith, takes) in z)
left_open gates frame _ takes = refl

-- ---- what is told of it fits
wanted_version : (only : Option ℕ) (version : ℕ) (frame count : ℕ) → is_wanted only version ≡ true → version < last_version
    → AnswerFits count (does.TakeGate frame only) (told.Gate version)
wanted_version None version frame count w l = l
wanted_version (Some only) version frame count w l = (grind (arith, w), l)

gate_fits : (gate : Gate) (only : Option ℕ) (frame count : ℕ) → gate.version ≤ last_version
    → IfSome (gate_told only (Some gate)) (AnswerFits count (does.TakeGate frame only))
gate_fits gate only frame count small = go (is_shut gate) (is_wanted only gate.version) refl refl
  where
    other : (only : Option ℕ) → is_wanted only gate.version ≡ false → AnswerFits count (does.TakeGate frame only) told.OldVersion
    other None e = absurd (let z : ⊥ = grind (arith, e) in z)
    other (Some x) e = tt

    go : (shut wanted : Bool) → is_shut gate ≡ shut → is_wanted only gate.version ≡ wanted
        → IfSome (if shut then None else if wanted then Some (told.Gate gate.version) else Some told.OldVersion) (AnswerFits count (does.TakeGate frame only))
    go true wanted a b = tt
    go false true a b = wanted_version only gate.version frame count b (grind (arith, a, small))
    go false false a b = other only b

abbrev version_in : Option Gate → ℕ
version_in None = 0
version_in (Some gate) = gate.version

pub gate_fits_at : (words : List ℕ) (gate : Option Gate) (only : Option ℕ) (frame count : ℕ) → slice_get (map gate_of words) frame ≡ gate
    → IfSome (gate_told only gate) (AnswerFits count (does.TakeGate frame only))
gate_fits_at words None only frame count e = tt
gate_fits_at words (Some gate) only frame count e = gate_fits gate only frame count (small (slice_get words frame) (sym (slice_get-map gate_of words frame) ∙ e))
  where
    small : (o : Option ℕ) → option_map gate_of o ≡ Some gate → gate.version ≤ last_version
    small None e = absurd (let z : ⊥ = grind (arith, e) in z)
    small (Some word) e =
        let is : word % 9223372036854775808 ≡ gate.version = ap version_in e in
        grind (arith, is)

pub told_fits : (words : List ℕ) (only : Option ℕ) (frame count : ℕ)
    → IfSome (gate_told only (slice_get (map gate_of words) frame)) (AnswerFits count (does.TakeGate frame only))
told_fits words only frame count = gate_fits_at words (slice_get (map gate_of words) frame) only frame count refl
