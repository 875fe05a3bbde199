-- Where the first blocks of a class lie.
use Rattle.std.proofs.Common.{◌≡◌, ℕ, zero, suc, ◌+◌, ◌*◌, ◌/◌, Bool, false, not, ◌&&◌, [], None, refl, ap}
use Rattle.osc_class.specs.declared.Room.TheVariants.{Small}
use Rattle.osc_slot.specs.Least.{least, any}
use Rattle.osc_slot.specs.Areas.{slots_of}
use Rattle.osc_slot.specs.Slots.{has_block, beside, holds_in}

none-least : (test : ℕ → Bool) (from count : ℕ) → ((n : ℕ) → test n ≡ false) → least test from count ≡ None
unfolding least
none-least test from zero none = refl
none-least test from (suc count) none = rw (none from) (none-least test (from + 1) count none)

none-any : (test : ℕ → Bool) (from count : ℕ) → ((n : ℕ) → test n ≡ false) → any test from count ≡ false
unfolding any
none-any test from zero none = refl
none-any test from (suc count) none = rw (none from) (none-any test (from + 1) count none)

pub nothing-beside : (frames class : ℕ) → beside frames (holds_in frames []) class ≡ None
unfolding beside
nothing-beside frames class =
    none-least (λ slot. has_block (holds_in frames []) class (slot / slots_of class) && not (holds_in frames [] (Small class) slot)) 0 (frames * slots_of class)
    (λ slot. ap (λ b. b && not (holds_in frames [] (Small class) slot)) (none-any (λ slot. holds_in frames [] (Small class) slot) (slot / slots_of class * slots_of class) (slots_of class) (λ n. refl)))
