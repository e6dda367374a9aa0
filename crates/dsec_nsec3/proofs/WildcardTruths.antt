-- Where the next closer name is missing and a set stands at the wildcard under the encloser, that one can stand for the name (RFC 4592 3.3.1,
-- RFC 5155 8.8).
use Rattle.std.proofs.Common.{[], ◌∷◌, sym, ap, subst, inl, inr, arith, length, length-append, refl}
use Rattle.dsec_spec.specs.Names.{Place, IsAtOrBelow, IsStrictlyBelow, asterisk}
use Rattle.dsec_spec.specs.Numbers.{NS, DNAME}
use Rattle.dsec_spec.specs.Zones.{Zone, IsZone, Stands, Exists, IsClosestEncloser, IsNextCloser, wildcard}
use Rattle.dsec_spec.proofs.NamesBelow.{at_or_below, same_or_below, strictly_below_trans, ancestors_comparable, below_itself}
use Rattle.dsec_spec.proofs.ZoneLaws.{standing_exists, closest_by_closer, missing_by_closer, closer_missing, strictly_below}
use Rattle.dsec_absence.specs.Owning.{OwnsNoCloser}
use Rattle.dsec_nsec3.proofs.HashTruths.{apex_exists}

-- a wildcard is under what its name is at or below
star_under : (c d : Place) → IsAtOrBelow c d → IsStrictlyBelow (wildcard c) d
star_under c d h = strictly_below_trans (wildcard c) c d (record { next = asterisk; under = []; is = refl }) h

module _ (z : Zone) (iz : IsZone z) (n c next : Place) (nc : IsNextCloser n c next) (within : IsAtOrBelow next z.apex) (gone : Exists z next → ⊥) where
  below_cut_short : IsStrictlyBelow z.apex c → IsStrictlyBelow next z.apex → ⊥
  below_cut_short up down =
      let a = ap length up.is in let b = ap length down.is in let d = ap length nc.is in
      absurd (omega (arith, a, b, d, length-append c (up.next ∷ up.under), length-append z.apex (down.next ∷ down.under), length-append c (nc.label ∷ [])))

  -- the encloser is in the zone
  encloser_within : IsAtOrBelow c z.apex
  encloser_within = elim (ancestors_comparable next c z.apex (at_or_below next c (strictly_below n c next nc)) within) [
    | inl h ↦ h
    | inr up ↦ elim (same_or_below next z.apex within) [
      | inl same ↦ absurd (gone (subst (λ (x : Place). Exists z x) (sym same) (apex_exists z iz)))
      | inr down ↦ absurd (below_cut_short up down)
    ]
  ]

  module _ (star : Stands z (wildcard c)) where
    encloser_exists : Exists z c
    encloser_exists = record { within = encloser_within; owner = wildcard c; stands = star; at_or_below = at_or_below (wildcard c) c (star_under c c (below_itself c)) }

    closest : IsClosestEncloser z n c
    closest = closest_by_closer z n c next nc encloser_exists gone

    pub under_wildcard : OwnsNoCloser z n c
    under_wildcard =
        let missing = missing_by_closer z n c next nc encloser_within gone in
        record {
          no_such = record {
            no_name = missing;
            no_closer = closer_missing z n missing;
            no_cut = λ d above cut.
                iz.nothing_below_cuts d (wildcard c) cut (star_under c d (closest.longest d above (standing_exists z iz d NS cut.ns))) star;
            no_redirection = λ r.
                r.alone (wildcard c) (star_under c r.from (closest.longest r.from r.above (standing_exists z iz r.from DNAME r.dname))) star;
          };
          closest = closest;
        }
