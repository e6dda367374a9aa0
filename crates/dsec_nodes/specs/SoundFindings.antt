-- What is found of a message's groups is so: links show a set, a signed record shows that no chain leads to its zone, or no anchor stands
-- above it (RFC 4033 2, 5, RFC 4035 5).
use Rattle.std.specs.Prelude.{◌≡◌, ◌≢◌, ◌⊎◌, ℕ, List, [], ◌∷◌, ◌++◌, Contains, Option, Some, None}
use Rattle.dsec_spec.specs.Names.{Place, place, IsAtOrBelow, IsStrictlyBelow}
use Rattle.dsec_spec.specs.Records.{Record, Rrsig, rrsig_of}
use Rattle.dsec_spec.specs.SignedBytes.{rightmost, IsExpansion}
use Rattle.dsec_spec.specs.Groups.{Group, set_in}
use Rattle.dsec_spec.specs.Islands.{island}
use Rattle.dsec_spec.specs.Chain.{Link, Holds, IsChain}
use Rattle.dsec_spec.specs.AtQuestion.{IsIsland}
use Rattle.dsec_nodes.specs.World.{World, moment}
use Rattle.dsec_nodes.specs.Causes.{Cause}
use Rattle.dsec_nodes.specs.Nodes.{SignedCause, IsSignedCause, cause_by}
use Rattle.dsec_nodes.specs.Judging.{Finding, is_shown, has_no_set, is_insecure, is_bogus, is_indeterminate, Judged, target_of}

-- links begin with the set at this place (RFC 4033 2)
pub record BeginsAt (links : List Link) (p : Place) : Type 0 where
  pub first : Link
  pub others : List Link
  pub are : links ≡ first ∷ others
  pub at : place first.records.owner ≡ p

-- The links show a judged group's set at the moment of judging: they lead from an anchor at its island to the zone that is to have signed it,
-- and the last has the data of the signature, which stands beside the set (RFC 4033 2, RFC 4035 5)
pub record IsShownSet (w : World) (j : Judged) (links : List Link) (last : Link) (signature : Record) : Type 0 where
  pub has_records : j.group.records ≢ []
  pub holds : Holds w.accepts w.anchors (links ++ last ∷ []) (set_in j.group) (moment w)
  pub zone_is : holds.zone ≡ j.signer
  pub island : Place
  pub is_island : IsIsland w.anchors (place j.group.owner) j.group.rtype island
  pub begins : BeginsAt links island
  pub beside : Contains j.group.signatures signature
  pub says : signature.rdata ≡ last.rrsig

-- a signed cause holds at the moment of judging, from an anchor at the group's island, of a name strictly below the island, and at or above
-- the zone that is to have signed the group; the cause that is told is the signed record's (RFC 4035 5.2, RFC 8914 4)
pub record IsShownInsecure (w : World) (group : Group) (cause : Option Cause) (signed : SignedCause) : Type 0 where
  pub top : Place
  pub is_island : IsIsland w.anchors (place group.owner) group.rtype top
  pub anchor : Record
  pub is_listed : Contains w.anchors anchor
  pub at : place anchor.owner ≡ top
  pub name : Place
  pub below_island : IsStrictlyBelow name top
  pub over : IsAtOrBelow (target_of group (Some top)) name
  pub shows : IsSignedCause w.accepts w.bounds anchor name signed (moment w)
  pub told : cause ≡ cause_by signed.basis

-- the links lead from one of the anchors to the zone's keys at the moment of judging, or there are none (RFC 4033 5, RFC 4035 5)
abbrev pub LeadTo : World → List Link → Place → Type 0
LeadTo w links zone = (links ≡ []) ⊎ ((keys : List (List ℕ)) × IsChain w.accepts w.anchors links zone keys (moment w))

-- what was found of a group is so: links show its set, it has no record, a signed record shows that no chain leads to its zone, or no anchor
-- stands above it; the links of a bogus one are those to its zone, or none (RFC 4033 5)
abbrev pub Justifies : World → Judged → Finding → Type 0
Justifies w j (is_shown links last signature) = IsShownSet w j links last signature
Justifies w j has_no_set = j.group.records ≡ []
Justifies w j (is_insecure cause signed) = IsShownInsecure w j.group cause signed
Justifies w j (is_bogus cause links) = LeadTo w links j.signer
Justifies w j is_indeterminate = island w.anchors (place j.group.owner) j.group.rtype ≡ None

abbrev pub IsFound : World → Judged → Type 0
IsFound w j = Justifies w j j.finding

-- what was found isn't bogus (RFC 4033 5)
abbrev pub IsSure : Finding → Type 0
IsSure (is_shown links last signature) = Unit {0}
IsSure has_no_set = Unit {0}
IsSure (is_insecure cause signed) = Unit {0}
IsSure (is_bogus cause links) = ⊥
IsSure is_indeterminate = Unit {0}

-- links were found that show a judged group's set (RFC 4035 5)
pub record IsShown (w : World) (j : Judged) : Type 0 where
  pub links : List Link
  pub last : Link
  pub signature : Record
  pub found : j.finding ≡ is_shown links last signature
  pub set : IsShownSet w j links last signature

-- by a signature that makes it no expansion of a wildcard (RFC 4035 5.3.4)
pub record IsShownItself (w : World) (j : Judged) : Type 0 where
  pub shown : IsShown w j
  pub no_expansion : (rrsig : Rrsig) → rrsig_of shown.signature.rdata ≡ Some rrsig → IsExpansion rrsig.labels j.group.owner → ⊥

-- by one that makes it an expansion of the wildcard under this name (RFC 4035 5.3.4)
pub record IsShownFrom (w : World) (j : Judged) (encloser : Place) : Type 0 where
  pub shown : IsShown w j
  pub rrsig : Rrsig
  pub reads : rrsig_of shown.signature.rdata ≡ Some rrsig
  pub expansion : IsExpansion rrsig.labels j.group.owner
  pub under : encloser ≡ place (rightmost rrsig.labels j.group.owner)
