use Rattle.osc_frames.proofs.Frames.take.Given as goal

abbrev pub ghosts-least_of : goal.ghosts-least_of
ghosts-least_of a = record { name = a.blank.name; parts = a.blank.parts }
