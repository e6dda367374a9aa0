use Rattle.std.proofs.Common.{refl, sym, ap, ◌∙◌}
use Rattle.std.specs.Option.{option_map}
use Rattle.dsec_spec.specs.Names.{Labels, place}
use Rattle.dsec_spec.specs.SignedBytes.{rightmost}
use Rattle.dsec_nsec3.specs.HashedAnswers.{next_closer, type_by_hash}
use Rattle.dsec_nsec3.specs.HashedDenials.{wildcard_type_gone}
use Rattle.dsec_nsec3.specs.Openings.{by_opt_out}
use Rattle.dsec_nsec3_calls.specs.Sources.{limits_view, source_view}
use Rattle.dsec_nsec3_calls.proofs.AnswerLaws.{of_star, type_uses}
use Rattle.dsec_nsec3_calls.proofs.nodata.type_at_star.Goals as goal

pub returns : goal.returns
returns g c = λ walk e.
    let source = c.args.source.now in
    let gone = c.args.gone.now in
    let n = place c.args.target.now in
    let encloser = place (rightmost gone.labels c.args.target.now) in
    of_star n (λ star. type_by_hash (limits_view source) (source_view source) star c.args.rtype) wildcard_type_gone walk c.args.target.now gone.labels gone.at_encloser gone.around gone.opt_out e
    (place c.in-Some.star) c.of_both.result (sym (ap (option_map (λ (name : Labels). place name)) c.in-Some.is) ∙ c.in_ok-star.ensures.place)
    (c.of_both.ensures (type_by_hash (limits_view source) (source_view source) (place c.in-Some.star) c.args.rtype) (wildcard_type_gone encloser gone.at_encloser gone.around)
    (by_opt_out gone.around (next_closer n encloser)) c.type_by_hash-told.ensures refl (type_uses encloser gone.at_encloser gone.around))
