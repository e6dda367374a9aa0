use Rattle.std.proofs.Common.{◌≡◌, ◌+◌, ℕ, take, refl, sym, ap, ◌∙◌}
use Rattle.dsec_spec.specs.Names.{place}
use Rattle.dsec_spec.proofs.PlaceLemmas.{front_of_place, length_of_place}
use Rattle.dsec_nsec3.specs.HashedAnswers.{as_told, next_closer, nsec3_for_not_exists_no_ce}
use Rattle.dsec_nsec3.specs.HashedDenials.{closer_gone}
use Rattle.dsec_nsec3_calls.specs.Sources.{limits_view, source_view}
use Rattle.dsec_nsec3_calls.proofs.ToldLaws.{closer_elsewhere, closer_within}
use Rattle.dsec_nsec3_calls.proofs.conclusion.closer_by_hash.Goals as goal

pub returns-then-not-is_below : goal.returns-then-not-is_below
returns-then-not-is_below g c =
    let source = c.args.source.now in
    let n = place c.args.name.now in
    let encloser = c.args.closest_encloser.now in
    let next : place c.in_ok-next.next ≡ next_closer n (place encloser) =
    ap place c.in_ok-next.ensures ∙ (front_of_place c.label_count.result c.args.name.now
    ∙ ap (λ (k : ℕ). take k n) (c.label_count.ensures ∙ ap (λ (k : ℕ). k + 1) (sym (length_of_place encloser)))) in
    closer_elsewhere (limits_view source) (source_view source) n (place encloser) (place c.in_ok-next.next) next (sym c.is_below.ensures ∙ c.if-not-is_below.true)

pub returns : goal.returns
returns g c =
    let source = c.args.source.now in
    let n = place c.args.name.now in
    let encloser = c.args.closest_encloser.now in
    let next : place c.in_ok-next.next ≡ next_closer n (place encloser) =
    ap place c.in_ok-next.ensures ∙ (front_of_place c.label_count.result c.args.name.now
    ∙ ap (λ (k : ℕ). take k n) (c.label_count.ensures ∙ ap (λ (k : ℕ). k + 1) (sym (length_of_place encloser)))) in
    let told = nsec3_for_not_exists_no_ce (limits_view source) (source_view source) (place c.in_ok-next.next) in
    closer_within (limits_view source) (source_view source) n (place encloser) (place c.in_ok-next.next) next c.without_cause.result (sym c.is_below.ensures ∙ c.if-not-is_below.false)
    (c.without_cause.ensures (as_told (closer_gone (place encloser)) told) (c.answered.ensures told (closer_gone (place encloser)) c.search_cover-told.ensures (λ i. refl)))
