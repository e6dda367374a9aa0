use Rattle.dsec_group_tests.proofs.checks.check.Given as goal

abbrev pub ghosts-check_by : goal.ghosts-check_by
ghosts-check_by g a = record { name = a.blank.name; parts = a.blank.parts }
