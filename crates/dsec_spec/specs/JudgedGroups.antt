-- Groups that are Secure, and why (RFC 4033 5, RFC 4035 5.3).
use Rattle.std.specs.Prelude.{◌≡◌, ◌≢◌, ℕ, List, [], ◌∷◌, ◌++◌, Contains, Option, Some, None, if◌then◌else◌}
use Rattle.dsec_spec.specs.Accepts.{Accepts}
use Rattle.dsec_spec.specs.Answering.{is_expansion}
use Rattle.dsec_spec.specs.Chain.{Link, Holds}
use Rattle.dsec_spec.specs.Groups.{Group, set_in}
use Rattle.dsec_spec.specs.Lasting.{adjusted_ttl, ttl_for_sig}
use Rattle.dsec_spec.specs.Names.{Labels, Place, place}
use Rattle.dsec_spec.specs.Records.{Record, Rrsig, rrsig_of}
use Rattle.dsec_spec.specs.SignedBytes.{rightmost}

-- the closest encloser of a wildcard's expansion, by the labels that its signature counts; none where the set isn't one (RFC 4035 5.3.4)
abbrev pub encloser_in : ℕ → Labels → Option Labels
encloser_in labels owner = if is_expansion labels owner then Some (rightmost labels owner) else None

-- The links show the group's set at the moment t, from the anchor: the last is the group's own, with the key that signed it, and by one of
-- the group's signatures, whose signer is the zone; by it the group is an expansion with this closest encloser, or none, and its TTLs
-- are cut to these seconds, or stay. It has a record.
pub record ShowsGroup (accepts : Accepts) (anchor : Record) (links : List Link) (t : ℕ) (group : Group) (zone : Place)
    (closest_encloser : Option Labels) (adjusted : Option ℕ) : Type 0 where
  pub has_records : group.records ≢ []
  pub holds : Holds accepts (anchor ∷ []) links (set_in group) t
  pub before : List Link
  pub last : Link
  pub ends : links ≡ before ++ last ∷ []
  pub signature : Record
  pub beside : Contains group.signatures signature
  pub says : signature.rdata ≡ last.rrsig
  pub rrsig : Rrsig
  pub reads : rrsig_of last.rrsig ≡ Some rrsig
  pub by_zone : place rrsig.signer ≡ zone
  pub expands : closest_encloser ≡ encloser_in rrsig.labels group.owner
  pub cut : adjusted ≡ adjusted_ttl group (ttl_for_sig signature t)
