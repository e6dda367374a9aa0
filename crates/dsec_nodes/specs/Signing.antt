-- Sets that a zone's keys have signed, and for how long (RFC 4035 5.3).
use Rattle.std.specs.Prelude.{ℕ, ◌+◌, ◌-◌, ◌==◌, ◌&&◌, min, List, [], find, filter_map, unwrap_or, Bool, false, Option, Some, None}
use Rattle.std.specs.Str.{bytes_eq}
use Rattle.dsec_spec.specs.Names.{Place, place, same_place}
use Rattle.dsec_spec.specs.Numbers.{IN}
use Rattle.dsec_spec.specs.Records.{Record, Key, key_of, rrsig_of}
use Rattle.dsec_spec.specs.Groups.{Group, set_in}
use Rattle.dsec_spec.specs.Trying.{Tried, of_signature, checked}
use Rattle.dsec_spec.specs.Answering.{is_expansion}
use Rattle.dsec_spec.specs.Lasting.{least_ttl, ttl_for_sig}
use Rattle.dsec_spec.specs.Chain.{Link, LinkKind}
use Rattle.dsec_nodes.specs.World.{World, moment}
use Rattle.dsec_nodes.specs.Nodes.{Node}

-- whether DNSKEY data say this key (RFC 4034 2.1)
abbrev pub says_key : Key → Option Key → Bool
says_key key None = false
says_key key (Some other) =
    (other.flags == key.flags) && (other.protocol == key.protocol) && (other.algorithm == key.algorithm) && bytes_eq other.public_key key.public_key

-- the keys that DNSKEY data say (RFC 4034 2.1)
abbrev pub keys_of : List (List ℕ) → List Key
keys_of datas = filter_map key_of datas

-- the first DNSKEY data that say a key (RFC 4034 2.1)
abbrev pub data_of : List (List ℕ) → Key → List ℕ
data_of datas key = unwrap_or (find (λ rdata. says_key key (key_of rdata)) datas) []

-- what trying a zone's keys over a group comes to (RFC 4035 5.3.1)
abbrev pub under_keys : World → Place → List (List ℕ) → Group → Tried (Record × Key)
under_keys w zone keys group = checked w.accepts group zone (keys_of keys) w.bounds.room (moment w)

-- the link of a group's set, which a key that these data say has signed (RFC 4033 2, authentication chain)
abbrev pub link_under : LinkKind → List (List ℕ) → Group → Record × Key → Link
link_under kind keys group p = record { kind = kind; records = set_in group; via = None; signing_key = data_of keys p.1; rrsig = p.0.rdata }

-- whether a group's set is an expansion of a wildcard, by its good signature (RFC 4035 5.3.4)
abbrev pub is_expanded : Group → Record → Bool
is_expanded group signature = of_signature (λ sig. is_expansion sig.labels group.owner) (rrsig_of signature.rdata)

-- whether a group is the set of class IN of this type at a place (RFC 2181 5)
abbrev pub is_set_at : Place → ℕ → Group → Bool
is_set_at name rtype group = same_place (place group.owner) name && (group.class == IN) && (group.rtype == rtype)

-- how many seconds a node is still kept (RFC 4035 4.5)
abbrev pub time_left : World → Node → ℕ
time_left w n = n.made + n.valid_for - w.now

-- for how long what a signed group shows is kept below a zone: no longer than the zone, its least TTL, and what its signature allows
-- (RFC 4035 5.3.3)
abbrev pub kept_for : World → Node → Group → Record → ℕ
kept_for w zone group signature = min (time_left w zone) (min (least_ttl group.records) (ttl_for_sig signature (moment w)))
