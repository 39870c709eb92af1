use Rattle.graph_cases.proofs.executed.rows.Given as goal

abbrev pub ghosts-counted : goal.ghosts-counted
ghosts-counted a = record { name = a.blank.name; parts = a.blank.parts }

abbrev pub ghosts-plain_rows : goal.ghosts-plain_rows
ghosts-plain_rows a = record { name = a.blank.name; parts = a.blank.parts }
