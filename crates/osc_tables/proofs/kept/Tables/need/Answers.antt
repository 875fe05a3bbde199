-- No page needs no table, and many canonical pages lie in one half.
use Rattle.std.proofs.Common.{sym, ◌<◌, ◌≤◌, ◌^◌, suc, arith}
use Rattle.osc_paging.proofs.TableLawProofs.{none_needed}
use Rattle.osc_tables.proofs.Canonical.{one_half}
use Rattle.osc_tables.proofs.KeptFacts.{at_top}
use Rattle.osc_tables.proofs.kept.Tables.need.Goals as goal

pub returns-then-count-eq0 : goal.returns-then-count-eq0
returns-then-count-eq0 c = rw c.if-count-eq0.true (sym (none_needed _ c.args.self.now.top _))

pub need_below-requires-clause-range : goal.need_below-requires-clause-range
need_below-requires-clause-range c =
    let some : 0 < c.args.count = omega arith in
    let range = c.self.invariant.0.range in
    let all = rw (← c.self.view_is) at c.requires in
    let fits = one_half c.self.inside.top c.args.first c.args.count range some all in
    let most : 512 ^ suc c.self.inside.top ≤ 68719476736 = at_top (λ t. 512 ^ suc t ≤ 68719476736) c.self.inside.top range (omega arith) (omega arith) in
    rw c.number_of.ensures (omega arith)
