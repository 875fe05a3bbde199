-- A buffer that can be read ends before the last page of all addresses.
use Rattle.std.proofs.Common.{◌≤◌, ◌∙◌, sym, arith}
use Rattle.osc_write.proofs.Reading.{ends_below}
use Rattle.osc_write.proofs.Plans.{few_jobs}
use Rattle.osc_write.proofs.plan_write.Goals as goal

pub push_words-requires-clause-end : goal.push_words-requires-clause-end
push_words-requires-clause-end c =
    let few : c.min-count.result ≤ 4194304 = omega (arith, c.min-count.ensures, c.from.ensures, c.saturating_sub.ensures) in
    ends_below c.args.tables.now c.args.buf c.min-count.result c.requires.last (sym c.first_unreadable.ensures ∙ c.in_default.is) (omega arith) few

pub push_words-requires-clause-room : goal.push_words-requires-clause-room
push_words-requires-clause-room c =
    let few : c.min-count.result ≤ 4194304 = omega (arith, c.min-count.ensures, c.from.ensures, c.saturating_sub.ensures) in
    omega (arith, few_jobs c.args.tables.now c.args.buf c.min-count.result few, c.requires.spare)
