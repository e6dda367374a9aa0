use Rattle.dsec_group.proofs.group.Group.check_sig_cached.Given as goal

abbrev pub ghosts-check_once : goal.ghosts-check_once
ghosts-check_once g a = record { name = a.blank.name; parts = a.blank.parts }
