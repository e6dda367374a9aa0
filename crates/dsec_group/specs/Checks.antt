-- What a group comes to under the keys of a zone (RFC 4035 5.3).
use Rattle.std.specs.Prelude.{◌≡◌, ℕ, List, slice_get, Option, Some, None}
use Rattle.dsec_cause.specs.declared.cause.Cause.{Cause}
use Rattle.dsec_cause.specs.declared.cause.Cause.TheVariants.{NoSignature, BadSignature, TooManyBadSignatures}
use Rattle.dsec_spec.specs.Accepts.{Accepts}
use Rattle.dsec_spec.specs.Groups.{Group, set_in}
use Rattle.dsec_spec.specs.KeyTag.{key_tag as tag_of}
use Rattle.dsec_spec.specs.Names.{Labels, Place, place}
use Rattle.dsec_spec.specs.Numbers.{RRSIG}
use Rattle.dsec_spec.specs.Records.{Record, Key, Rrsig, rrsig_of}
use Rattle.dsec_spec.specs.Signed.{Signed}
use Rattle.dsec_spec.specs.Trying.{Tried, good, nothing, all_bad, too_many_bad}
use Rattle.dsec_link.specs.Signing.{encloser_of}
use Rattle.dsec_group.specs.declared.check.KeyCheck.{KeyCheck}
use Rattle.dsec_group.specs.declared.state.ValidationState.{ValidationState}
use Rattle.dsec_group.specs.declared.state.ValidationState.TheVariants.{Secure, Bogus}

-- the record stands at the group's owner and class, and the key at the zone's name, with this tag
pub record IsOfKey (g : Group) (r : Record) (zone : Place) (key : Key) (key_place : Place) (tag : ℕ) : Type 0 where
  pub owner : place r.owner ≡ place g.owner
  pub class : r.class ≡ g.class
  pub of_zone : key_place ≡ zone
  pub its_tag : tag ≡ tag_of key

-- the record is a signature over the group's records, and counts at the moment t as the key's for the zone, at whose name the key stands
pub record IsSignedBy (accepts : Accepts) (g : Group) (r : Record) (zone : Place) (key : Key) (key_place : Place) (tag : ℕ) (t : ℕ) : Type 0 where
  pub sig : Rrsig
  pub is_signature : r.rtype ≡ RRSIG
  pub says : rrsig_of r.rdata ≡ Some sig
  pub signed : Signed accepts (set_in g) (record { owner = r.owner; class = r.class; rrsig = sig }) key zone t
  pub of_zone : key_place ≡ zone
  pub its_tag : tag ≡ tag_of key

-- secure where a pair is good, and bogus otherwise
abbrev pub state_of : {P : Type 0} → Tried P → ValidationState
state_of (good p) = Secure
state_of nothing = Bogus
state_of all_bad = Bogus
state_of too_many_bad = Bogus

-- why no pair is good
abbrev pub cause_of : {P : Type 0} → Tried P → Option Cause
cause_of (good p) = None
cause_of nothing = Some NoSignature
cause_of all_bad = Some BadSignature
cause_of too_many_bad = Some TooManyBadSignatures

-- the owner's rightmost labels that the signature counts, where the owner has more: of an expansion its closest encloser, of a wildcard's own set
-- what the wildcard stands below (RFC 4035 5.3.4)
abbrev pub encloser_by : Labels → Option Rrsig → Option Labels
encloser_by owner (Some sig) = encloser_of sig.labels owner
encloser_by owner None = None

-- the same, by the good pair
abbrev pub closest_encloser_of : Labels → Tried (Record × Key) → Option Labels
closest_encloser_of owner (good p) = encloser_by owner (rrsig_of p.0.rdata)
closest_encloser_of owner nothing = None
closest_encloser_of owner all_bad = None
closest_encloser_of owner too_many_bad = None

-- the good pair stands at these indexes; there are none where there is no such pair
abbrev pub StandsAt : List Record → List Key → Option ℕ → Option ℕ → Tried (Record × Key) → Type 0
StandsAt signatures keys i j (good p) =
    (m : ℕ) × (n : ℕ) × (i ≡ Some m) × (j ≡ Some n) × (slice_get signatures m ≡ Some p.0) × (slice_get keys n ≡ Some p.1)
StandsAt signatures keys i j nothing = (i ≡ None) × (j ≡ None)
StandsAt signatures keys i j all_bad = (i ≡ None) × (j ≡ None)
StandsAt signatures keys i j too_many_bad = (i ≡ None) × (j ≡ None)

-- the check says what trying the pairs came to
pub record IsCheck (g : Group) (keys : List Key) (check : KeyCheck) (tried : Tried (Record × Key)) : Type 0 where
  pub state : check.state ≡ state_of tried
  pub cause : check.cause ≡ cause_of tried
  pub closest_encloser : check.closest_encloser ≡ closest_encloser_of g.owner tried
  pub indexes : StandsAt g.signatures keys check.signature check.key tried
