use Rattle.dsec_builder.proofs.BuildingLemmas.{has_room, all_ok, additional_pushed}
use Rattle.dsec_builder.proofs.building.push_additional.Goals as goal

pub count_record-requires-clause-header : goal.count_record-requires-clause-header
count_record-requires-clause-header c = (has_room c.args.octets.now.items c.requires).header

pub count_record-requires-clause-low : goal.count_record-requires-clause-low
count_record-requires-clause-low c = (has_room c.args.octets.now.items c.requires).additionals

pub returns-clause-ok : goal.returns-clause-ok
returns-clause-ok c =
    all_ok c.count_record.result _ _ _ _ c.count_record.ensures.ok c.count_record.ensures.good c.count_record.ensures.fits
    (λ is good fits. rw is (additional_pushed c.args.octets.now.items c.args.additional.now c.requires good fits))
