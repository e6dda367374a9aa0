-- From an island's anchor down to a name (RFC 4033 3.1, RFC 4035 5.2).
use Rattle.std.specs.Prelude.{ℕ, zero, suc, ◌+◌, ◌-◌, ◌==◌, ◌&&◌, ◌||◌, min, List, [], ◌∷◌, length, take, find, Bool, true, false, Option, Some, None, if◌then◌else◌}
use Rattle.std.proofs.Math.Bool.{not}
use Rattle.dsec_spec.specs.Names.{Place, place, same_place}
use Rattle.dsec_spec.specs.Numbers.{DS, DNSKEY, NSEC, NSEC3, DNAME}
use Rattle.dsec_spec.specs.Records.{Record, RecordSet}
use Rattle.dsec_spec.specs.RecordViews.{Nsec, nsec_of, Nsec3, nsec3_of}
use Rattle.dsec_spec.specs.TypeBitmaps.{has_type}
use Rattle.dsec_spec.specs.Groups.{Group, set_in}
use Rattle.dsec_spec.specs.Trying.{Tried, good, nothing, all_bad, too_many_bad}
use Rattle.dsec_spec.specs.Lasting.{least_ttl, ttl_for_sig}
use Rattle.dsec_spec.specs.Chain as chain
use Rattle.dsec_nodes.specs.World.{World, Replies, moment}
use Rattle.dsec_nodes.specs.Causes.{NoDnskeyForAnchor, BadSignature, TooManyBadSignaturesForDnskey}
use Rattle.dsec_nodes.specs.Nodes.{Node, Standing, apex, within, insecure, bogus}
use Rattle.dsec_nodes.specs.Signing.{is_set_at}
use Rattle.dsec_nodes.specs.Admission.{Admitted, tried_by, cause_among, admitted_link, anchor_search}
use Rattle.dsec_nodes.specs.Replies.{Reply, failed, unreadable, sections, read_reply}
use Rattle.dsec_nodes.specs.MissingDs.{bogus_at}
use Rattle.dsec_nodes.specs.ByDs.{Below, made, asks, by_ds_reply, by_key_reply}

-- what a link is that rests on an anchor: by its DS record, or by its key (RFC 4033 2, trust anchor)
abbrev pub anchor_kind : Record → chain.LinkKind
anchor_kind anchor = if anchor.rtype == DS then chain.anchor_ds else chain.anchor_key

-- the node of an island: a zone, by a DNSKEY set that an anchor admits (RFC 4033 2, island of security, RFC 4035 5)
abbrev pub anchored : World → Place → Group → Record × Admitted Record → Node
anchored w top group p = record {
  name = top;
  made = w.now;
  valid_for = min w.bounds.max_validity (min (least_ttl group.records) (ttl_for_sig p.0 (moment w)));
  anchor = Some p.1.way;
  signer = top;
  links = admitted_link (anchor_kind p.1.way) p.1.way.rdata group p ∷ [];
  standing = apex (set_in group).datas;
  bounds = w.bounds;
}

-- the node, by what trying the keys that the anchors admit came to (RFC 4035 5)
abbrev pub anchored_by : World → Place → Group → Tried (Record × Admitted Record) → Node
anchored_by w top group (good p) = anchored w top group p
anchored_by w top group nothing = bogus_at w top (cause_among BadSignature group (anchor_search w.bounds.max_keys_for_ds group) w.anchors)
anchored_by w top group all_bad = bogus_at w top (cause_among BadSignature group (anchor_search w.bounds.max_keys_for_ds group) w.anchors)
anchored_by w top group too_many_bad = bogus_at w top TooManyBadSignaturesForDnskey

-- the node, by the DNSKEY set at the island, if there is one (RFC 4035 5)
abbrev pub anchored_in : World → Place → Option Group → Node
anchored_in w top None = bogus_at w top NoDnskeyForAnchor
anchored_in w top (Some group) = anchored_by w top group (tried_by w group (anchor_search w.bounds.max_keys_for_ds group) w.anchors)

-- what the reply to the question for an island's DNSKEY set comes to (RFC 4035 5)
abbrev pub by_anchor_reply : World → Place → Reply → Node
by_anchor_reply w top failed = bogus_at w top NoDnskeyForAnchor
by_anchor_reply w top unreadable = bogus_at w top NoDnskeyForAnchor
by_anchor_reply w top (sections answers authorities) = anchored_in w top (find (is_set_at top DNSKEY) answers)

-- the node of an island, by these replies (RFC 4035 5)
abbrev pub at_anchor : World → Replies → Place → Node
at_anchor w replies top = by_anchor_reply w top (read_reply (replies top DNSKEY))

-- the node that a DS reply came to, or that of the DNSKEY reply that follows it (RFC 4035 5.2)
abbrev pub finished : World → Replies → Node → Place → Below → Node
finished w replies zone name (made n) = n
finished w replies zone name (asks pending) = by_key_reply w zone pending (read_reply (replies name DNSKEY))

-- the node of a name below a zone with these keys, by these replies (RFC 4035 5.2)
abbrev pub child : World → Replies → Node → List (List ℕ) → Place → Node
child w replies zone keys name = finished w replies zone name (by_ds_reply w zone keys name (read_reply (replies name DS)))

-- how far a walk has come: the last zone on the way, and the last node (RFC 4033 2, authentication chain)
pub record Reached : Type 0 where
  pub zone : Node
  pub node : Node

-- the keys that a node holds: those of a zone (RFC 4034 2)
abbrev pub held_keys : Standing → List (List ℕ)
held_keys (apex keys) = keys
held_keys _ = []

-- what is reached with a node that was made below a zone: a zone of its own takes the place of the one above (RFC 4035 5.2)
abbrev pub after : Node → Node → Standing → Reached
after zone n (apex keys) = record { zone = n; node = n }
after zone n _ = record { zone = zone; node = n }

-- whether a name's own record lists DNAME (RFC 4034 4.1.2, RFC 5155 3.2.1)
abbrev pub nsec_lists_dname : Option Nsec → Bool
nsec_lists_dname None = false
nsec_lists_dname (Some nsec) = has_type nsec.types DNAME

abbrev pub nsec3_lists_dname : Option Nsec3 → Bool
nsec3_lists_dname None = false
nsec3_lists_dname (Some nsec3) = has_type nsec3.types DNAME

-- whether data of this type are those of an NSEC or NSEC3 record that lists DNAME
abbrev pub lists_dname : ℕ → List ℕ → Bool
lists_dname rtype rdata =
    nsec3_lists_dname (if rtype == NSEC3 then nsec3_of rdata else None) || nsec_lists_dname (if rtype == NSEC then nsec_of rdata else None)

-- whether these are the data of one such record, and of no other: a name has one (RFC 4034 4, RFC 5155 7.1)
abbrev pub one_lists_dname : ℕ → List (List ℕ) → Bool
one_lists_dname rtype (rdata ∷ []) = lists_dname rtype rdata
one_lists_dname rtype _ = false

-- whether a set that shows the name within a zone is the name's own: an NSEC record of another owner shows it as an empty non-terminal
-- (RFC 4592 2.2.2)
abbrev pub is_own : Place → RecordSet → Bool
is_own name set = (set.rtype == NSEC3) || same_place (place set.owner) name

-- whether a set that shows the name within a zone shows too that the name redirects what is below it, so that nothing stands there
-- (RFC 5155 8.3, RFC 6672 2.4, RFC 6840 4.1)
abbrev pub redirects_below : Place → RecordSet → Bool
redirects_below name set = is_own name set && one_lists_dname set.rtype set.datas

-- whether a walk goes on below a name of which this is known: below a zone, and below what is within one unless it redirects what is below it,
-- and nowhere else (RFC 4033 5)
abbrev pub goes_on_at : Place → Standing → Bool
goes_on_at name (apex keys) = true
goes_on_at name (within last) = not (redirects_below name last.records)
goes_on_at name (insecure cause signed) = false
goes_on_at name (bogus cause) = false

abbrev pub goes_on : Node → Bool
goes_on n = goes_on_at n.name n.standing

-- the node of the next name, made below the last zone and with its keys (RFC 4035 5.2)
abbrev pub next : World → Replies → Reached → Place → Node
next w replies r name = child w replies r.zone (held_keys r.zone.standing) name

-- one name further, where the walk goes on (RFC 4033 2)
abbrev pub onward : World → Replies → Reached → Place → Reached
onward w replies r name = if goes_on r.node then after r.zone (next w replies r name) (next w replies r name).standing else r

-- what is reached so many labels below the island, on the way to a name (RFC 4035 5)
abbrev pub way : World → Replies → Place → Place → ℕ → Reached
way w replies top name zero = record { zone = at_anchor w replies top; node = at_anchor w replies top }
way w replies top name (suc k) = onward w replies (way w replies top name k) (take (length top + suc k) name)

-- the node of a name under an island: its own, or that of the name above it at which the walk ended (RFC 4035 5)
abbrev pub node_of : World → Replies → Place → Place → Node
node_of w replies top name = (way w replies top name (length name - length top)).node

-- whether a walk that has reached this can stand on a node: it doesn't begin at one that is within a zone, whose zone it doesn't know
-- (RFC 4033 2)
abbrev pub may_stand : Option Reached → Standing → Bool
may_stand None (within last) = false
may_stand None _ = true
may_stand (Some r) _ = true
