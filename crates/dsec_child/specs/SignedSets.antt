-- Sets under the keys of a zone, as the code finds them (RFC 4035 5.3).
use Rattle.std.specs.Prelude.{◌≡◌, List, slice_get, true, false, Some}
use Rattle.dsec_spec.specs.Groups.{Group}
use Rattle.dsec_spec.specs.Records.{Record, Key}
use Rattle.dsec_spec.specs.Trying.{Tried, good}
use Rattle.dsec_group.specs.Checks.{cause_of}
use Rattle.dsec_nodes.specs.Signing.{is_expanded}
use Rattle.dsec_child.specs.declared.signed_set.SignedBy.{SignedBy}
use Rattle.dsec_child.specs.declared.signed_set.SignedSet.{SignedSet}
use Rattle.dsec_child.specs.declared.signed_set.SignedSet.TheVariants.{Signed, Expanded, Refused}

-- the signature and the key stand at these indexes
pub record IsPairAt (group : Group) (keys : List Key) (by : SignedBy) (p : Record × Key) : Type 0 where
  pub signature_there : slice_get group.signatures by.signature ≡ Some p.0
  pub key_there : slice_get keys by.key ≡ Some p.1

-- the code says what trying came to: a pair by which the set is signed and no expansion, one by which it is one, or why none is good
abbrev pub ComesTo : Group → List Key → SignedSet → Tried (Record × Key) → Type 0
ComesTo group keys (Signed by) tried = (p : Record × Key) × (tried ≡ good p) × IsPairAt group keys by p × (is_expanded group p.0 ≡ false)
ComesTo group keys Expanded tried = (p : Record × Key) × (tried ≡ good p) × (is_expanded group p.0 ≡ true)
ComesTo group keys (Refused cause) tried = cause_of tried ≡ Some cause
