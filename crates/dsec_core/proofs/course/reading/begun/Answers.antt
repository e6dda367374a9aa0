use Rattle.std.proofs.Common.{Option, Some, refl, ap, ◌∙◌}
use Rattle.std.proofs.lemmas.Result.{err_from_is_err_and}
use Rattle.dsec_spec.specs.Messages.{header_of, rcode_of}
use Rattle.dsec_spec.specs.Reading.{◌>>=◌}
use Rattle.dsec_message.specs.declared.sections.Sections.{Sections}
use Rattle.dsec_message.specs.MessageSections.{SectionsRead}
use Rattle.dsec_group.specs.Hashing.{message_seed}
use Rattle.dsec_group.proofs.ReadingLaws.{from_groups}
use Rattle.dsec_core.proofs.ReadSteps.{begun_read, refused}
use Rattle.dsec_core.proofs.course.reading.begun.Goals as goal

pub returns-in_err-sections : goal.returns-in_err-sections
returns-in_err-sections g c =
    let p = err_from_is_err_and c.from_residual-in_err-sections.result c.from_residual-in_err-sections.ensures.1 in
    rw (p.1, p.2) (refused c.args.anchors.now c.args.most c.args.message.now c.in_err-sections.field-0.0 c.in_err-sections.ensures)

pub by_groups-requires : goal.by_groups-requires
by_groups-requires g c =
    let has = from_groups c.args.message.now (c.in_ok-sections.sections, c.in_ok-sections.at) c.in_ok-sections.ensures in
    ap rcode_of c.in_ok-octets.ensures ∙ c.in_ok-rcode.ensures (has.sections, c.in_ok-sections.at) has.whole refl

pub returns : goal.returns
returns g c =
    let has = from_groups c.args.message.now (c.in_ok-sections.sections, c.in_ok-sections.at) c.in_ok-sections.ensures in
    begun_read c.args.anchors.now c.args.most c.args.message.now c.in_ok-octets.octets.items has.sections c.in_ok-by_groups.field-0 c.in_ok-octets.ensures
    (ap (λ (o : Option SectionsRead). ◌>>=◌ {A = SectionsRead} {B = Sections} o (λ all. Some all.0)) has.whole) (c.in_ok-by_groups.ensures (message_seed c.args.message.now (header_of c.args.message.now)) has.sections has.grouped)
