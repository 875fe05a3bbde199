-- A process that is settled has parts that agree.
use Rattle.osc_plain.proofs.tests.realloc.Goals as goal

pub plain_realloc-got-requires-clause-agree : goal.plain_realloc-got-requires-clause-agree
plain_realloc-got-requires-clause-agree g c = record {
  few = c.requires.settled.settled.tables.small;
  shadows = 8;
  regions = c.requires.settled.regions;
  agrees = c.requires.settled.settled.parts.agrees;
}
