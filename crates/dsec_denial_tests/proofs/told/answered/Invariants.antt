use Rattle.dsec_denial_tests.proofs.told.answered.Given as goal

abbrev pub ghosts-walked : goal.ghosts-walked
ghosts-walked a = record { name = a.blank.name; parts = a.blank.parts }
