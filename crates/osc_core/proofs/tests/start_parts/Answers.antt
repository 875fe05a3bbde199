-- A machine at its start is all at home.
use Rattle.osc_core.proofs.tests.start_parts.Goals as goal

pub into_parts-requires : goal.into_parts-requires
into_parts-requires c = record { home = c.starts_home.ensures _ _ _ _ c.in_ok-booted.ensures.begins.starts }
