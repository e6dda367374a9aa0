use Rattle.dsec_tests.proofs.counted.checks.Given as goal

abbrev pub ghosts-verdict_on : goal.ghosts-verdict_on
ghosts-verdict_on a = record { name = a.blank.name; parts = a.blank.parts }
