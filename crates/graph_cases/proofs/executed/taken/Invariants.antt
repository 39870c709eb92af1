use Rattle.graph_cases.proofs.executed.taken.Given as goal

abbrev pub ghosts-taken_beside : goal.ghosts-taken_beside
ghosts-taken_beside a = record { name = a.blank.name; parts = a.blank.parts }
