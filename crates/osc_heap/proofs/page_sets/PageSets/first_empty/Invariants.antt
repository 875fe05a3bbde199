use Rattle.osc_heap.proofs.page_sets.PageSets.first_empty.Given as goal

abbrev pub ghosts-least_of : goal.ghosts-least_of
ghosts-least_of a = record { name = a.blank.name; parts = a.blank.parts }
