use Rattle.dsec_denial_tests.proofs.reply.section.Given as goal

abbrev pub ghosts-judged : goal.ghosts-judged
ghosts-judged a = record { name = a.blank.name; parts = a.blank.parts }
