-- Ordinary replies from a zone at an anchor, which are to be secure (RFC 4035 5).
use Rattle.std.specs.Prelude.{◌≡◌, ◌≢◌, ℕ, ◌<◌, List, [], ◌∷◌, length, filter, find, Contains, Some}
use Rattle.dsec_spec.specs.Names.{Place, place, IsAtOrBelow}
use Rattle.dsec_spec.specs.Numbers.{IN, DS, DNSKEY, ANY}
use Rattle.dsec_spec.specs.Records.{Record, Key, key_of, Rrsig, rrsig_of, beside}
use Rattle.dsec_spec.specs.Messages.{Question, rcode_of}
use Rattle.dsec_spec.specs.SignedBytes.{IsExpansion}
use Rattle.dsec_spec.specs.Signed.{Signed}
use Rattle.dsec_spec.specs.Groups.{Group, groups_of, set_in}
use Rattle.dsec_spec.specs.Trying.{pair_matches}
use Rattle.dsec_spec.specs.Islands.{looked_for_at}
use Rattle.dsec_spec.specs.AtQuestion.{IsAtQuestion}
use Rattle.dsec_nodes.specs.World.{World, Replies, moment}
use Rattle.dsec_nodes.specs.Signing.{keys_of, is_set_at}
use Rattle.dsec_nodes.specs.Replies.{sections, read_reply}
use Rattle.dsec_nodes.specs.Alone.{sections_of}

-- a group has one signature, the zone's, by one of these keys, and no other of them matches it by algorithm and tag (RFC 4035 5.3.1)
pub record IsSignedOnce (w : World) (group : Group) (zone : Place) (keys : List Key) : Type 0 where
  pub signature : Record
  pub one : group.signatures ≡ signature ∷ []
  pub rrsig : Rrsig
  pub reads : rrsig_of signature.rdata ≡ Some rrsig
  pub public_key : Key
  pub matches_one : filter (λ other. pair_matches zone (signature, other)) keys ≡ public_key ∷ []
  pub signed : Signed w.accepts (set_in group) (beside (set_in group) rrsig) public_key zone (moment w)

-- the only anchor is a DNSKEY record of class IN, and the reply to its question has its key set, with that key, signed once by it (RFC 4035 5)
pub record HasPlainKeys (w : World) (replies : Replies) (keys : Group) : Type 0 where
  pub anchor : Record
  pub only : w.anchors ≡ anchor ∷ []
  pub of_class : anchor.class ≡ IN
  pub of_type : anchor.rtype ≡ DNSKEY
  pub answers : List Group
  pub authorities : List Group
  pub replied : read_reply (replies (place anchor.owner) DNSKEY) ≡ sections answers authorities
  pub found : find (is_set_at (place anchor.owner) DNSKEY) answers ≡ Some keys
  pub its_own : Contains (set_in keys).datas anchor.rdata
  pub anchor_key : Key
  pub reads : key_of anchor.rdata ≡ Some anchor_key
  pub signed : IsSignedOnce w keys (place anchor.owner) (anchor_key ∷ [])

-- A message with one question, no error, and one group, which is at the question and is signed once by one of the anchor's zone's keys, and
-- isn't made from a wildcard; a DS set is looked for at or below the anchor, as any other set is that the zone has signed (RFC 4035 2.4, 5.3)
pub record IsPlainAnswer (w : World) (replies : Replies) (message : List ℕ) : Type 0 where
  pub keys : Group
  pub has_keys : HasPlainKeys w replies keys
  pub question : Question
  pub section : List Record
  pub read : sections_of message ≡ Some (question ∷ [], section, [])
  pub no_error : rcode_of message ≡ Some 0
  pub group : Group
  pub one_group : groups_of section ≡ group ∷ []
  pub at_question : IsAtQuestion question group
  pub asks_for_a_set : question.rtype ≢ ANY
  pub has_records : 0 < length group.records
  pub of_ds : group.rtype ≡ DS → IsAtOrBelow (looked_for_at (place group.owner) DS) (place has_keys.anchor.owner)
  pub signed : IsSignedOnce w group (place has_keys.anchor.owner) (keys_of (set_in keys).datas)
  pub no_expansion : IsExpansion signed.rrsig.labels group.owner → ⊥
