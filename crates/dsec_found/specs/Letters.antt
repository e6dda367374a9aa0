-- In which letters the zone that is to have signed a group is told: as they came (RFC 4034 3.1.7, RFC 4035 5.3.1).
use Rattle.std.specs.Prelude.{ℕ, ◌==◌, List, [], length, drop, find, filter_map, Option, unwrap_or, if◌then◌else◌}
use Rattle.std.specs.Option.{option_map}
use Rattle.dsec_spec.specs.Names.{Labels, Place, place}
use Rattle.dsec_spec.specs.Numbers.{DS}
use Rattle.dsec_spec.specs.Records.{Record, rrsig_of}
use Rattle.dsec_spec.specs.Groups.{Group}
use Rattle.dsec_spec.specs.Islands.{is_usable, island}

-- the name at which a set is looked for: of a DS set, which stands in the zone above, the owner without its first label, but at the root (RFC 4035 2.4)
abbrev pub told_looked_for : Labels → ℕ → Labels
told_looked_for owner rtype = if rtype == DS then drop 1 owner else owner

-- the signers that a group's signatures name, in order, as each writes it (RFC 4034 3.1.7)
abbrev pub told_signers : Group → List Labels
told_signers group = filter_map (λ signature. option_map (λ sig. sig.signer) (rrsig_of signature.rdata)) group.signatures

-- the first of these signers that can be that of a set which is looked for at a name and has this island, or else the name
abbrev pub told_among : Option Place → Labels → List Labels → Labels
told_among top from named = unwrap_or (find (λ signer. is_usable top (place from) (place signer)) named) from

-- the zone that is to have signed a group whose island is this: the signer of the first usable signature, as that writes it, or the name where the
-- group is looked for, in its owner's letters (RFC 4035 5.3.1)
abbrev pub told_zone : Group → Option Place → Labels
told_zone group top = told_among top (told_looked_for group.owner group.rtype) (told_signers group)

-- and by these anchors; the root for a group of signatures alone
abbrev pub told_zone_for : List Record → Group → Labels
told_zone_for anchors group =
    if length group.records == 0 then [] else told_zone group (island anchors (place group.owner) group.rtype)
