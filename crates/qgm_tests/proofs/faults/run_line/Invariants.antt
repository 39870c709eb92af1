use Rattle.qgm_tests.proofs.faults.run_line.Given as goal

abbrev pub ghosts-run : goal.ghosts-run
ghosts-run a = record { name = a.blank.name; parts = a.blank.parts }
