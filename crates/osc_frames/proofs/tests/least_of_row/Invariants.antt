use Rattle.osc_frames.proofs.tests.least_of_row.Given as goal

abbrev pub ghosts-counted_least : goal.ghosts-counted_least
ghosts-counted_least a = record { name = a.blank.name; parts = a.blank.parts }
