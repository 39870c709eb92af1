use Rattle.sql_parser.proofs.text.+nested.Given as goal

abbrev pub decreases-nested : goal.decreases-nested
decreases-nested l = l.depth
