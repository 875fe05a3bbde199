-- All are 0.
use Rattle.std.proofs.Common.{◌≡◌, ◌+◌, ◌-◌, ◌*◌, ◌∙◌, ap, sym, arith}
use Rattle.osc_paging.specs.JobWords.{zeroed}
use Rattle.osc_core.proofs.Puts.{zeroed-none}
use Rattle.osc_core.proofs.laying.zero.Goals as goal

pub returns : goal.returns
returns c =
    let from = c.args.at.frame * 512 + c.args.at.index in
    let end : c.args.count - c.loop-past.past ≡ 0 = omega arith in
    sym (ap (λ n. zeroed (from + c.loop-past.past) n c.loop-past.words) end ∙ zeroed-none (from + c.loop-past.past) c.loop-past.words)
    ∙ c.loop-past.invariant
    ∙ ap (λ k. zeroed k (c.args.count - 0) c.args.words.now) (let z : from + 0 ≡ from = omega arith in z)
    ∙ ap (λ n. zeroed from n c.args.words.now) (let z : c.args.count - 0 ≡ c.args.count = omega arith in z)
