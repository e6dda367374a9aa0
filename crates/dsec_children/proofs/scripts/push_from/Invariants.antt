use Rattle.dsec_children.proofs.scripts.push_from.Given as goal

abbrev pub ghosts-push_way : goal.ghosts-push_way
ghosts-push_way a = record { name = a.blank.name; parts = a.blank.parts }
