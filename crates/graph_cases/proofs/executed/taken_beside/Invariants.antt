use Rattle.graph_cases.proofs.executed.taken_beside.Given as goal

abbrev pub ghosts-taken_by : goal.ghosts-taken_by
ghosts-taken_by g a = record { name = a.blank.name; parts = a.blank.parts }
