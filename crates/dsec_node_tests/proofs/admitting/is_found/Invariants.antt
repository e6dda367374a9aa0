use Rattle.dsec_node_tests.proofs.admitting.is_found.Given as goal

abbrev pub ghosts-found_in : goal.ghosts-found_in
ghosts-found_in a = record { name = a.blank.name; parts = a.blank.parts }
