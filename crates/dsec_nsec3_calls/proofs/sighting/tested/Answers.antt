use Rattle.std.proofs.Common.{List, ℕ, map, sym, ap, ◌∙◌, arith}
use Rattle.std.specs.Char.{to_ascii_lowercase}
use Rattle.dsec_spec.specs.Names.{canonical_octets, lower, place, wire_octets}
use Rattle.dsec_wire.specs.DataViews.{nsec3_view}
use Rattle.dsec_nsec3.specs.Counting.{by_label}
use Rattle.dsec_nsec3_calls.specs.Sightings.{test_view}
use Rattle.dsec_nsec3_calls.specs.Views.{hash_limits}
use Rattle.dsec_nsec3_calls.proofs.LabelLaws.{elsewhere, above}
use Rattle.dsec_nsec3_calls.proofs.OctetLaws.{first_label}
use Rattle.dsec_nsec3_calls.proofs.sighting.tested.Goals as goal

pub returns-then-not-is_label_above : goal.returns-then-not-is_label_above
returns-then-not-is_label_above c =
    elsewhere (hash_limits c.args.limits.now) (place c.args.signer.now) (nsec3_view c.args.nsec3.now) c.args.owner.now (sym c.is_label_above.ensures ∙ c.if-not-is_label_above.true)

pub returns : goal.returns
returns c =
    let limits = hash_limits c.args.limits.now in
    let zone = place c.args.signer.now in
    let says = nsec3_view c.args.nsec3.now in
    above limits zone says c.args.owner.now (test_view zone says c.tested_label.result) (sym c.is_label_above.ensures ∙ c.if-not-is_label_above.false)
    (λ label rest e.
    c.tested_label.ensures zone (let short = c.first_label.ensures.short in let fits = c.as_slice.ensures.fits in omega (arith, short, fits))
    ∙ ap (λ (text : List ℕ). by_label limits zone text says)
    (c.first_label.ensures.label (map to_ascii_lowercase label) (wire_octets (lower rest)) (c.as_slice.ensures.value ∙ (c.canonical_octets-octets.ensures ∙ (ap canonical_octets e ∙ first_label (map to_ascii_lowercase label) (lower rest))))))
