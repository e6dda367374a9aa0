-- From which anchor a set is judged, and which zone is to have signed it (RFC 4033 2, RFC 4035 2.4, 5.3.1).
use Rattle.std.specs.Prelude.{ℕ, ◌-◌, ◌==◌, ◌&&◌, nat_lt, List, [], ◌∷◌, length, take, map, filter, find, filter_map, Bool, false, Option, Some, None, unwrap_or, if◌then◌else◌}
use Rattle.std.specs.Option.{option_map}
use Rattle.std.proofs.Math.Bool.{not}
use Rattle.dsec_spec.specs.Names.{Place, place, is_below, is_strictly_below}
use Rattle.dsec_spec.specs.Numbers.{DS}
use Rattle.dsec_spec.specs.Records.{Record, rrsig_of}
use Rattle.dsec_spec.specs.Groups.{Group}

-- where a set of this type is looked for: at the parent for a DS set, which stands in the zone above, but at the root (RFC 4035 2.4)
abbrev pub looked_for_at : Place → ℕ → Place
looked_for_at name rtype = if rtype == DS then take (length name - 1) name else name

-- the longer of a place and one that may be there, the first where they are as long
abbrev pub longer : Place → Option Place → Place
longer p None = p
longer p (Some q) = if nat_lt (length p) (length q) then q else p

-- the longest of places
unfoldable pub longest : List Place → Option Place
longest [] = None
longest (p ∷ ps) = Some (longer p (longest ps))

-- the island of a name and type: the place of the longest anchor at or above where it is looked for (RFC 4033 2, island of security);
-- each record among the anchors counts, whatever its type and class
abbrev pub island : List Record → Place → ℕ → Option Place
island anchors name rtype = longest (filter (is_below (looked_for_at name rtype)) (map (λ anchor. place anchor.owner) anchors))

-- whether a place is strictly above the island, where there is one
abbrev pub is_above : Option Place → Place → Bool
is_above None p = false
is_above (Some top) p = is_strictly_below top p

-- whether a signature with this signer can be the set's: the signer is at or above where the set is looked for, and not above its island
-- (RFC 4035 5.3.1)
abbrev pub is_usable : Option Place → Place → Place → Bool
is_usable top from signer = is_below from signer && not (is_above top signer)

-- the signers that a group's signatures name, in order
abbrev pub signers : Group → List Place
signers group = filter_map (λ signature. option_map (λ sig. place sig.signer) (rrsig_of signature.rdata)) group.signatures

-- the zone that is to have signed a set: the signer of the first usable signature, or where the set is looked for
abbrev pub target : Option Place → Place → List Place → Place
target top from named = unwrap_or (find (is_usable top from) named) from
