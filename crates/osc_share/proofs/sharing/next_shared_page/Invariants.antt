use Rattle.std.proofs.Common.{◌≤◌, ◌+◌, ◌-◌}
use Rattle.osc_word.specs.AddressMap.{first_shared_page}
use Rattle.osc_space.specs.Share.{next_shared_page}
use Rattle.osc_tables.specs.Calls.{IsOrdered}
use Rattle.osc_share.proofs.sharing.next_shared_page.Given as goal

-- the page lies between the two
abbrev pub invariant-loop-low : goal.invariant-loop-low
invariant-loop-low l = record {
  above : l.low ≤ next_shared_page l.tables;
  below : next_shared_page l.tables ≤ l.high;
  start : first_shared_page ≤ l.low;
  end : l.high ≤ first_shared_page + 4096;
  order : IsOrdered l.tables;
}

abbrev pub decreases-loop-low : goal.decreases-loop-low
decreases-loop-low l = l.high - l.low
