use Rattle.dsec_by_node.proofs.by_node.validate_with_node.Given as goal

abbrev pub ghosts-counted : goal.ghosts-counted
ghosts-counted g a = record { name = a.blank.name; parts = a.blank.parts }
