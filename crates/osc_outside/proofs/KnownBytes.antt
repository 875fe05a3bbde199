-- How what is read and written adds up over several calls, told or not.
use Rattle.std.proofs.Common.{◌≡◌, ℕ, ◌+◌, List, [], ◌++◌, take, drop, None, Some, refl, sym, ◌∙◌, ap, append_assoc, append-nil}
use Rattle.std.specs.declared.option.Option.{Option}
use Rattle.std.specs.Option.{option_map}
use Rattle.osc_outside.specs.Bytes.{Consumes, Appends}
pub use Rattle.std.proofs.Math.Seq.{take-add}

pub Consumes-none : (left : Option (List ℕ)) → Consumes left left []
Consumes-none None = refl
Consumes-none (Some bytes) = refl

pub Appends-none : (held : Option (List ℕ)) → Appends held held []
Appends-none None = refl
Appends-none (Some bytes) = ap Some (sym (append-nil bytes))

pub Consumes-trans : (a b c : Option (List ℕ)) (x y : List ℕ) → Consumes a b x → Consumes b c y → Consumes a c (x ++ y)
Consumes-trans a b None x y first second = first ∙ ap (option_map (λ left. x ++ left)) second
Consumes-trans a b (Some left) x y first second =
    first ∙ (ap (option_map (λ left. x ++ left)) second ∙ ap Some (sym (append_assoc x y left)))

pub Appends-trans : (a b c : Option (List ℕ)) (x y : List ℕ) → Appends a b x → Appends b c y → Appends a c (x ++ y)
Appends-trans None b c x y first second = second ∙ ap (option_map (λ held. held ++ y)) first
Appends-trans (Some held) b c x y first second =
    second ∙ (ap (option_map (λ held. held ++ y)) first ∙ ap Some (append_assoc held x y))

-- what a source that tells its bytes has left after a read is told too
pub Consumes-told : (before : List ℕ) (after : Option (List ℕ)) (bytes : List ℕ) → Consumes (Some before) after bytes
    → (left : List ℕ) × (after ≡ Some left) × (before ≡ bytes ++ left)
Consumes-told before None bytes fact = cc
Consumes-told before (Some left) bytes fact = (left, refl, cc)

-- the first `done` bytes of a text were appended, and then the first `count` of those that follow
pub Appends-take : (a b c : Option (List ℕ)) (text : List ℕ) (done count : ℕ)
    → Appends a b (take done text) → Appends b c (take count (drop done text)) → Appends a c (take (done + count) text)
Appends-take a b c text done count first second =
    rw take-add (Appends-trans a b c (take done text) (take count (drop done text)) first second)
