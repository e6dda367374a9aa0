use Rattle.std.proofs.Common.{refl, sym, ap, ◌∙◌}
use Rattle.std.specs.Option.{option_map}
use Rattle.dsec_spec.specs.Names.{Labels, place}
use Rattle.dsec_spec.specs.SignedBytes.{rightmost}
use Rattle.dsec_nsec3.specs.HashedAnswers.{next_closer, nsec3_for_not_exists_no_ce}
use Rattle.dsec_nsec3.specs.HashedDenials.{name_gone}
use Rattle.dsec_nsec3.specs.Openings.{by_opt_out}
use Rattle.dsec_nsec3_calls.specs.Sources.{limits_view, source_view}
use Rattle.dsec_nsec3_calls.proofs.AnswerLaws.{of_star, name_uses}
use Rattle.dsec_nsec3_calls.proofs.nxdomain.name_at_star.Goals as goal

pub returns : goal.returns
returns g c = λ walk e.
    let source = c.args.source.now in
    let gone = c.args.gone.now in
    let n = place c.args.target.now in
    let encloser = place (rightmost gone.labels c.args.target.now) in
    of_star n (λ star. nsec3_for_not_exists_no_ce (limits_view source) (source_view source) star) name_gone walk c.args.target.now gone.labels gone.at_encloser gone.around gone.opt_out e
    (place c.in-Some.star) c.of_both.result (sym (ap (option_map (λ (name : Labels). place name)) c.in-Some.is) ∙ c.in_ok-star.ensures.place)
    (c.of_both.ensures (nsec3_for_not_exists_no_ce (limits_view source) (source_view source) (place c.in-Some.star)) (name_gone encloser gone.at_encloser gone.around)
    (by_opt_out gone.around (next_closer n encloser)) c.search_cover-told.ensures refl (name_uses encloser gone.at_encloser gone.around))
