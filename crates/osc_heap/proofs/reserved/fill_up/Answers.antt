-- Each value that is pushed is the one that nothing has set.
use Rattle.std.proofs.Common.{◌≡◌, ◌≤◌, ◌+◌, ◌++◌, ◌∷◌, [], length, max, get_or, refl, sym, ap, ◌∙◌, arith, rules}
use Rattle.std.specs.Vec.{vec_len, vec_capacity}
use Rattle.osc_heap.proofs.Filling.{same_filled}
use Rattle.osc_heap.proofs.reserved.fill_up.Goals as goal

pub loop-at-init : goal.loop-at-init
loop-at-init g c =
    let len = c.len-at.ensures in
    record { same = λ at. refl; filled = sym len; from = omega arith; to = omega arith; room = omega arith }

pub unwrap-requires : goal.unwrap-requires
unwrap-requires g c =
    let room = c.requires in
    let i = c.loop-at.invariant in
    let l = c.loop-at-test.true in
    c.push.ensures.succeeds (omega (arith, i.filled, i.room))

pub loop-at-preserved : goal.loop-at-preserved
loop-at-preserved g c =
    let i = c.loop-at.invariant in
    let l = c.loop-at-test.true in
    let items : c.push.new.self.items ≡ c.loop-at.items.items ++ c.args.unset ∷ [] = search rules in
    let len : vec_len c.push.new.self ≡ vec_len c.loop-at.items + 1 = search rules in
    record {
      same = λ at. ap (λ xs. get_or xs at c.args.unset) items ∙ same_filled c.loop-at.items.items at c.args.unset ∙ i.same at;
      filled = omega (arith, i.filled);
      from = omega (arith, i.from);
      to = omega arith;
      room = omega (arith, i.room, c.push.ensures.capacity);
    }

pub returns-clause-same : goal.returns-clause-same
returns-clause-same g c = c.loop-at.invariant.same

pub returns-clause-count : goal.returns-clause-count
returns-clause-count g c =
    let i = c.loop-at.invariant in
    let past = c.loop-at-test.false in
    let long = c.loop-at.items.ok.0 in
    let size = c.args.items.now.ok.0 in
    omega (arith, i.filled, i.from, i.to)

pub returns-clause-room : goal.returns-clause-room
returns-clause-room g c = c.loop-at.invariant.room
