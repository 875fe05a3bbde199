use Rattle.std.proofs.Common.{ℕ, ◌≡◌, ◌≤◌, cond, nat_lt, ap, ◌∙◌, arith}
use Rattle.osc_frames.specs.Words.{digit}
use Rattle.osc_frames.proofs.Rows.{row_below, numbers_below}
use Rattle.osc_frames.proofs.words.BitRow.new.Goals.{then-full, else-full}
use Rattle.osc_frames.proofs.words.BitRow.new.Goals as goal

pub invariant_of-result : goal.invariant_of-result
invariant_of-result c =
    let within : c.if-full.within ≤ c.args.count = elim c.if-full.branch [ then-full w ↦ omega (arith, w.within-is) | else-full w ↦ omega (arith, w.within-is) ] in
    row_below c.args.count c.if-full.within c.low_ones.result c.in_ok-groups_below.field-0.items (c.in_ok-groups_below.ensures) within c.requires (λ j l. c.low_ones.ensures j l ∙ ap (λ (n : ℕ). digit (nat_lt j n)) c.div_ceil.ensures)

pub returns : goal.returns
returns c =
    let within : c.if-full.within ≡ cond c.args.full c.args.count 0 = elim c.if-full.branch [ then-full w ↦ rw w.if-full.true w.within-is | else-full w ↦ rw w.if-full.false w.within-is ] in
    numbers_below c.args.count c.if-full.within c.args.full c.in_ok-groups_below.field-0.items (c.in_ok-groups_below.ensures) within c.requires
