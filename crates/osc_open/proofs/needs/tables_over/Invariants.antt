use Rattle.std.proofs.Common.{take, drop}
use Rattle.osc_open.proofs.Counted.{Counting}
use Rattle.osc_open.proofs.needs.tables_over.Given as goal

-- the pages before this one are counted
abbrev pub invariant-loop-page : goal.invariant-loop-page
invariant-loop-page l = Counting l.size (take l.page-index l.pages) (drop l.page-index l.pages) l.count l.next
