use Rattle.dsec_node_tests.proofs.admitting.is_admitted_by_anchors.Given as goal

abbrev pub ghosts-by_anchors : goal.ghosts-by_anchors
ghosts-by_anchors a = record { name = a.blank.name; parts = a.blank.parts }
