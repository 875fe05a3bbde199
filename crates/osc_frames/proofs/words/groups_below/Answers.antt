use Rattle.std.proofs.Common.{ℕ, ◌≡◌, nat_lt, replicate, ap, ◌∙◌, arith, rules}
use Rattle.osc_frames.specs.Words.{digit}
use Rattle.osc_frames.proofs.Rows.{none_done, one_done, all_done}
use Rattle.osc_frames.proofs.words.groups_below.Goals as goal

pub loop-i-init : goal.loop-i-init
loop-i-init c =
    let zeros : c.in_ok-groups.groups.items ≡ replicate 64 0 = search rules in
    rw zeros (none_done c.args.count)

pub loop-i-preserved : goal.loop-i-preserved
loop-i-preserved c = one_done c.args.count c.loop-i.i c.low_ones.result c.loop-i.groups.items c.loop-i.invariant c.loop-i-test.true c.low_ones.type_inv (λ j l. c.low_ones.ensures j l ∙ ap (λ (n : ℕ). digit (nat_lt j n)) c.saturating_sub.ensures)

pub returns : goal.returns
returns c =
    let end : c.loop-i.i ≡ 64 = omega (arith, c.loop-i-test.false, c.loop-i.auto.i-end) in
    all_done c.args.count c.loop-i.groups.items (rw (← end) c.loop-i.invariant)

pub index_mut-requires : goal.index_mut-requires
index_mut-requires c = let words = c.loop-i.invariant.words in omega (arith, c.loop-i.groups.ok.0, c.loop-i-test.true)
