use Rattle.dsec_single.proofs.call.validate_with_vc.Given as goal

abbrev pub ghosts-counted : goal.ghosts-counted
ghosts-counted g a = record { name = a.blank.name; parts = a.blank.parts }
