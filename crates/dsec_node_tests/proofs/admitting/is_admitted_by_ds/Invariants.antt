use Rattle.dsec_node_tests.proofs.admitting.is_admitted_by_ds.Given as goal

abbrev pub ghosts-by_ds : goal.ghosts-by_ds
ghosts-by_ds a = record { name = a.blank.name; parts = a.blank.parts }
