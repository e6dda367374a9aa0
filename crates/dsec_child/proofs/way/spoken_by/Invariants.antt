use Rattle.dsec_child.proofs.way.spoken_by.Given as goal

abbrev pub ghosts-counted_search : goal.ghosts-counted_search
ghosts-counted_search a = record { name = a.blank.name; parts = a.blank.parts }
