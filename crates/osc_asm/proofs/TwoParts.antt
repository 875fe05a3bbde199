-- lui and addi leave the number.
use Rattle.std.proofs.Common.{ℕ, ◌≡◌, ◌+◌, ◌*◌, ◌/◌, ◌%◌, ◌<◌, arith, refl, ◌∙◌, ap, false, get_or}
use Rattle.std.specs.Prelude.{◌==◌, set}
use Rattle.std.proofs.lemmas.List.{get_or-set_same, set-set}
use Rattle.std.proofs.lemmas.Bool.Decides.{nat_tests}
use Rattle.osc_isa.specs.Numbers.{wrapped, extended}
use Rattle.osc_asm.specs.Numbers.{high_part, low_part, Loads}

high : (number : ℕ) → number < 2147481600 → high_part number * 4096 ≡ (number + 2048) / 4096 * 4096
high number small = omega arith

upper : (number : ℕ) → number < 2147481600 → extended 32 (high_part number * 4096) ≡ (number + 2048) / 4096 * 4096
upper number small = let e = high number small in grind (arith, nat_tests)

lower : (number low : ℕ) → low ≡ number % 4096 → number < 2147481600
    → wrapped ((number + 2048) / 4096 * 4096 + extended 12 low) ≡ number
lower number low is small = grind (arith, nat_tests)

both : (number : ℕ) → number < 2147481600 → wrapped (extended 32 (high_part number * 4096) + extended 12 (low_part number)) ≡ number
both number small =
    ap (λ u. wrapped (u + extended 12 (low_part number))) (upper number small) ∙ lower number (low_part number) refl small

pub loads : (rd number : ℕ) → number < 2147481600 → Loads rd number
loads rd number small regs pc len some few =
    let value = extended 32 (high_part number * 4096) in
    let named : (rd == 0) ≡ false = grind (arith, nat_tests) in
    let sum : wrapped (get_or (set regs rd value) rd 0 + extended 12 (low_part number)) ≡ number =
    ap (λ v. wrapped (v + extended 12 (low_part number))) (get_or-set_same regs rd value 0 (omega arith)) ∙ both number small in
    rw named (ap (set (set regs rd value) rd) sum ∙ set-set regs rd value number)
