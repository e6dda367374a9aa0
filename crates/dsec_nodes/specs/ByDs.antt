-- What is known of a name below a zone, by the DS set and the DNSKEY set for it (RFC 4035 5.2).
use Rattle.std.specs.Prelude.{ℕ, ◌==◌, ◌&&◌, nat_lt, min, List, [], ◌∷◌, ◌++◌, length, take, filter, find, Bool, false, Option, Some, None, if◌then◌else◌}
use Rattle.dsec_spec.specs.Names.{Place}
use Rattle.dsec_spec.specs.Numbers.{CNAME, DS, DNSKEY}
use Rattle.dsec_spec.specs.Algorithms.{is_supported_algorithm}
use Rattle.dsec_spec.specs.Digests.{is_supported_digest}
use Rattle.dsec_spec.specs.Records.{Record, Key, Ds, ds_of}
use Rattle.dsec_spec.specs.Groups.{Group, set_in}
use Rattle.dsec_spec.specs.Trying.{Tried, good, nothing, all_bad, too_many_bad}
use Rattle.dsec_spec.specs.Lasting.{least_ttl, ttl_for_sig}
use Rattle.dsec_spec.specs.Chain as chain
use Rattle.dsec_nodes.specs.World.{World, moment}
use Rattle.dsec_nodes.specs.Causes.{Cause, NoSignature, BadSignature, TooManyBadSignatures, RequestFailed, RequestUnreadable, NoDnskey, TooManyDsRecords, NoSupportedDs, TooManyBadSignaturesForDnskey, BadSignatureForDnskey}
use Rattle.dsec_nodes.specs.Nodes.{Node, apex, ds_not_supported}
use Rattle.dsec_nodes.specs.Signing.{under_keys, link_under, is_expanded, is_set_at, kept_for}
use Rattle.dsec_nodes.specs.Admission.{Admitted, tried_by, cause_among, admitted_link, ds_search}
use Rattle.dsec_nodes.specs.Replies.{Reply, failed, unreadable, sections}
use Rattle.dsec_nodes.specs.MissingDs.{bogus_at, within_by, insecure_by, missing_ds}

-- whether a DS record is of a known algorithm and digest, if data say one: the test of `IsSupported` (RFC 4035 5.2)
abbrev pub is_supported : Option Ds → Bool
is_supported None = false
is_supported (Some ds) = is_supported_algorithm ds.algorithm && is_supported_digest ds.digest_type

-- whether DS data can be used (RFC 4035 5.2)
abbrev pub is_usable : List ℕ → Bool
is_usable ds_data = is_supported (ds_of ds_data)

-- the DS data that can be used, in order; those of SHA-1 count beside those of stronger digests (RFC 4035 5.2, RFC 4509 3)
abbrev pub usable : List (List ℕ) → List (List ℕ)
usable datas = filter is_usable datas

-- a DS set that the zone has signed, at a name whose DNSKEY set is to be asked for: its link, and for how many seconds it may be kept
-- (RFC 4035 5.2)
pub record Pending : Type 0 where
  pub name : Place
  pub link : chain.Link
  pub valid_for : ℕ

-- what the reply to the question for a name's DS set comes to: a node, or the question for its DNSKEY set (RFC 4035 5.2)
pub data Below : Type 0 where
  made : Node → Below
  asks : Pending → Below

-- what a group comes to where a zone's keys have signed it; a bogus node where they haven't (RFC 4035 5.3)
abbrev pub if_one : World → Place → Tried (Record × Key) → (Record × Key → Below) → Below
if_one w name (good p) by = by p
if_one w name nothing by = made (bogus_at w name NoSignature)
if_one w name all_bad by = made (bogus_at w name BadSignature)
if_one w name too_many_bad by = made (bogus_at w name TooManyBadSignatures)

-- a signed CNAME record at the name, alone in its set and no expansion of a wildcard, shows that no zone begins there (RFC 1034 3.6.2);
-- any other is passed over
abbrev pub by_alias : World → Node → List (List ℕ) → Place → List Group → Option Group → Below
by_alias w zone keys name authorities None = made (missing_ds w zone keys name authorities)
by_alias w zone keys name authorities (Some group) =
    if length group.records == 1 then if_one w name (under_keys w zone.signer keys group) (λ p.
    if is_expanded group p.0 then made (missing_ds w zone keys name authorities) else made (within_by w zone keys name group p))
    else made (missing_ds w zone keys name authorities)

-- a reply whose answer section has no DS set that counts (RFC 4035 5.2)
abbrev pub without_ds : World → Node → List (List ℕ) → Place → List Group → List Group → Below
without_ds w zone keys name answers authorities = by_alias w zone keys name authorities (find (is_set_at name CNAME) answers)

-- the DS set by which the next zone's keys are to be admitted (RFC 4035 5.2)
abbrev pub pending_by : World → Node → List (List ℕ) → Place → Group → Record × Key → Pending
pending_by w zone keys name group p = record { name = name; link = link_under chain.ds keys group p; valid_for = kept_for w zone group p.0 }

-- a DS set that the zone's keys have signed, and no expansion: if none of its records can be used, no chain leads on (RFC 4035 5.2)
abbrev pub by_signed_ds : World → Node → List (List ℕ) → Place → Group → Record × Key → Below
by_signed_ds w zone keys name group p =
    if length (usable (set_in group).datas) == 0 then made (insecure_by w zone keys name (Some NoSupportedDs) ds_not_supported group p)
    else asks (pending_by w zone keys name group p)

-- a DS set at the name; one that is a wildcard's expansion counts as absent (RFC 4035 5.3.4)
abbrev pub by_ds_set : World → Node → List (List ℕ) → Place → List Group → List Group → Option Group → Below
by_ds_set w zone keys name answers authorities None = without_ds w zone keys name answers authorities
by_ds_set w zone keys name answers authorities (Some group) =
    if_one w name (under_keys w zone.signer keys group) (λ p.
    if is_expanded group p.0 then without_ds w zone keys name answers authorities else by_signed_ds w zone keys name group p)

-- what the reply to the question for a name's DS set comes to, below a zone with these keys (RFC 4035 5.2)
abbrev pub by_ds_reply : World → Node → List (List ℕ) → Place → Reply → Below
by_ds_reply w zone keys name failed = made (bogus_at w name RequestFailed)
by_ds_reply w zone keys name unreadable = made (bogus_at w name RequestUnreadable)
by_ds_reply w zone keys name (sections answers authorities) = by_ds_set w zone keys name answers authorities (find (is_set_at name DS) answers)

-- the DS data that are tried: of those that can be used the first so many (RFC 4035 5.2)
abbrev pub ways : World → Pending → List (List ℕ)
ways w pending = take w.bounds.max_ds_records (usable pending.link.records.datas)

-- a zone, by a DNSKEY set that its DS set admits: the chain goes on by the DS set's link and the key set's (RFC 4035 5.2)
abbrev pub apex_by : World → Node → Pending → Group → Record × Admitted (List ℕ) → Node
apex_by w zone pending group p = record {
  name = pending.name;
  made = w.now;
  valid_for = min pending.valid_for (min (least_ttl group.records) (ttl_for_sig p.0 (moment w)));
  anchor = zone.anchor;
  signer = pending.name;
  links = zone.links ++ pending.link ∷ admitted_link chain.key p.1.way group p ∷ [];
  standing = apex (set_in group).datas;
  bounds = w.bounds;
}

-- why none is good: there are more than are tried, or else the first cause (RFC 8914 4)
abbrev pub none_by : World → Pending → Cause → Cause
none_by w pending cause = if nat_lt w.bounds.max_ds_records (length (usable pending.link.records.datas)) then TooManyDsRecords else cause

-- a bogus node, where none is good (RFC 4035 5.2)
abbrev pub not_admitted : World → Pending → Group → Node
not_admitted w pending group =
    bogus_at w pending.name (none_by w pending (cause_among BadSignatureForDnskey group (ds_search w.bounds.max_keys_for_ds group) (ways w pending)))

-- the node, by what trying the keys that the DS set admits came to (RFC 4035 5.2)
abbrev pub by_tried : World → Node → Pending → Group → Tried (Record × Admitted (List ℕ)) → Node
by_tried w zone pending group (good p) = apex_by w zone pending group p
by_tried w zone pending group nothing = not_admitted w pending group
by_tried w zone pending group all_bad = not_admitted w pending group
by_tried w zone pending group too_many_bad = bogus_at w pending.name TooManyBadSignaturesForDnskey

-- the node, by the DNSKEY set at the name, if there is one (RFC 4035 5.2)
abbrev pub by_key_set : World → Node → Pending → Option Group → Node
by_key_set w zone pending None = bogus_at w pending.name NoDnskey
by_key_set w zone pending (Some group) = by_tried w zone pending group (tried_by w group (ds_search w.bounds.max_keys_for_ds group) (ways w pending))

-- what the reply to the question for a name's DNSKEY set comes to (RFC 4035 5.2)
abbrev pub by_key_reply : World → Node → Pending → Reply → Node
by_key_reply w zone pending failed = bogus_at w pending.name RequestFailed
by_key_reply w zone pending unreadable = bogus_at w pending.name RequestUnreadable
by_key_reply w zone pending (sections answers authorities) = by_key_set w zone pending (find (is_set_at pending.name DNSKEY) answers)
