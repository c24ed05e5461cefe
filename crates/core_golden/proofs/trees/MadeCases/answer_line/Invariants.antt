use Rattle.core_golden.proofs.trees.MadeCases.answer_line.Given as goal

abbrev pub ghosts-compare_tables : goal.ghosts-compare_tables
ghosts-compare_tables a = record { name = a.blank.name; parts = a.blank.parts }
