use Rattle.dsec_builder.proofs.BuildingLemmas.{has_room, all_ok, question_pushed}
use Rattle.dsec_builder.proofs.building.push_question.Goals as goal

pub count_question-requires-clause-header : goal.count_question-requires-clause-header
count_question-requires-clause-header c = (has_room c.args.octets.now.items c.requires.built).header

pub count_question-requires-clause-low : goal.count_question-requires-clause-low
count_question-requires-clause-low c = (has_room c.args.octets.now.items c.requires.built).questions

pub returns-clause-ok : goal.returns-clause-ok
returns-clause-ok c =
    all_ok c.count_question.result _ _ _ _ c.count_question.ensures.ok c.count_question.ensures.good c.count_question.ensures.fits
    (λ is good fits. rw is (question_pushed c.args.octets.now.items c.args.question.now c.requires good fits))
