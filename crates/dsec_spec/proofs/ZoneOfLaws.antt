-- The zone that records make: its names are at or below the apex, and it begins where the SOA record stands.
use Rattle.std.proofs.Common.{◌≡◌, ℕ, Bool, true, false, ◌&&◌, ◌==◌, List, [], ◌∷◌, refl, sym, ap, subst}
use Rattle.std.specs.Prelude.{Contains, filter}
use Rattle.std.proofs.lemmas.Bool.{eqb-true}
use Rattle.dsec_spec.specs.Names.{Place, place, same_place, is_below, is_strictly_below, IsAtOrBelow, IsStrictlyBelow}
use Rattle.dsec_spec.specs.Numbers.{NS, SOA}
use Rattle.dsec_spec.specs.Records.{Record}
use Rattle.dsec_spec.specs.Zones.{Owns, Stands}
use Rattle.dsec_spec.specs.ZonesOfRecords.{is_cut, is_delegation, is_cut_off, is_inside, is_own, is_of_zone, set_key, zone_of, is_soa_at, soas_at}
use Rattle.dsec_spec.proofs.CanonicalNames.{same_place_decides}
use Rattle.dsec_spec.proofs.SignedTests.{below_decides, strictly_below_decides}
use Rattle.dsec_spec.proofs.NamesBelow.{below_itself, not_strictly_itself, not_both_below, at_or_below}
use Rattle.dsec_spec.proofs.Members.{first_in, from_map, from_filter, in_map, in_filter, some_passes}
use Rattle.dsec_spec.proofs.Choosing.{both}

-- what stands in the zone is at or below its apex
pub zone_within : (apex : Place) (records : List Record) (n : Place) (t : ℕ) → Owns (zone_of apex records) n t → IsAtOrBelow n apex
zone_within apex records n t h =
    let m = from_map set_key (filter (is_of_zone apex records) records) (n, t) h in
    let f = from_filter (is_of_zone apex records) records m.0 m.1 in
    let inside = both (is_inside apex records (place m.0.owner)) (is_own (is_delegation apex records (place m.0.owner)) m.0) f.0 in
    let below = both (is_below (place m.0.owner) apex) _ inside.0 in
    subst (λ (p : Place). IsAtOrBelow p apex) (ap (λ (q : Place × ℕ). q.0) m.2) ((below_decides (place m.0.owner) apex).0 below.0)

-- a test is false where its truth leads nowhere
is_false : (b : Bool) → (b ≡ true → ⊥) → b ≡ false
is_false true out = absurd (out refl)
is_false false out = refl

cut_below : (apex : Place) (r : Record) → is_cut apex r ≡ true → IsStrictlyBelow (place r.owner) apex
cut_below apex r h = (strictly_below_decides (place r.owner) apex).0 (both (r.rtype == NS) (is_strictly_below (place r.owner) apex) h).1

-- no delegation stands at or above the apex
apex_no_delegation : (apex : Place) (records : List Record) → is_delegation apex records apex ≡ false
apex_no_delegation apex records = is_false (is_delegation apex records apex) (λ h.
    let f = some_passes (λ r. is_cut apex r && same_place (place r.owner) apex) records h in
    let b = both (is_cut apex f.0) (same_place (place f.0.owner) apex) f.2 in
    not_strictly_itself apex (subst (λ (p : Place). IsStrictlyBelow p apex) ((same_place_decides (place f.0.owner) apex).0 b.1) (cut_below apex f.0 b.0)))

apex_not_cut_off : (apex : Place) (records : List Record) → is_cut_off apex records apex ≡ false
apex_not_cut_off apex records = is_false (is_cut_off apex records apex) (λ h.
    let f = some_passes (λ r. is_cut apex r && is_strictly_below apex (place r.owner)) records h in
    let b = both (is_cut apex f.0) (is_strictly_below apex (place f.0.owner)) f.2 in
    not_both_below apex (place f.0.owner) ((strictly_below_decides apex (place f.0.owner)).0 b.1) (at_or_below (place f.0.owner) apex (cut_below apex f.0 b.0)))

-- the apex of records is in their zone
pub apex_inside : (apex : Place) (records : List Record) → is_inside apex records apex ≡ true
apex_inside apex records = rw ((below_decides apex apex).1 (below_itself apex), apex_not_cut_off apex records) refl

-- where a record says where the zone starts, SOA stands at its apex
pub apex_owns : (apex : Place) (records : List Record) (soa : Record) → soas_at apex records ≡ soa ∷ [] → Owns (zone_of apex records) apex SOA
apex_owns apex records soa one =
    let f = from_filter (is_soa_at apex) records soa (subst (λ (xs : List Record). Contains xs soa) (sym one) (first_in soa [])) in
    let b = both (soa.rtype == SOA) (same_place (place soa.owner) apex) f.0 in
    let at : place soa.owner ≡ apex = (same_place_decides (place soa.owner) apex).0 b.1 in
    let kind : soa.rtype ≡ SOA = eqb-true soa.rtype SOA b.0 in
    let own : is_of_zone apex records soa ≡ true = rw (at, apex_inside apex records, apex_no_delegation apex records, kind) refl in
    subst (λ (k : Place × ℕ). Contains (zone_of apex records).sets k) (rw (at, kind) refl)
    (in_map set_key (filter (is_of_zone apex records) records) soa (in_filter (is_of_zone apex records) records soa f.1 own))

pub apex_stands : (apex : Place) (records : List Record) (soa : Record) → soas_at apex records ≡ soa ∷ [] → Stands (zone_of apex records) apex
apex_stands apex records soa one = (SOA, apex_owns apex records soa one)
