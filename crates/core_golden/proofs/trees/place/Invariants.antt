use Rattle.core_golden.proofs.trees.place.Given as goal

abbrev pub ghosts-place : goal.ghosts-place
ghosts-place a = record { name = a.blank.name; parts = a.blank.parts }
