-- What replies to the question for the DS set of `sub.example.` come to below `example.`: names that are insecure, within the zone, bogus, or
-- whose key set is asked for.
use Rattle.std.proofs.Common.{◌≡◌, ℕ, false, List, [], ◌∷◌, ◌++◌, Option, Some, None, refl}
use Rattle.dsec_spec.specs.Names.{place, wire_octets}
use Rattle.dsec_spec.specs.RecordData.{labels_in, name_in, blocks_in}
use Rattle.dsec_spec.specs.Records.{key_octets, Record, rrsig_octets, rrsig_of}
use Rattle.dsec_spec.specs.Signed.{signs}
use Rattle.dsec_spec.specs.Groups.{Group}
use Rattle.dsec_spec.specs.Lasting.{least_ttl}
use Rattle.dsec_spec.specs.Chain as chain
use Rattle.dsec_spec.proofs.ChainExample.{example as parent, zone_key}
use Rattle.dsec_spec.proofs.DelegationExample.{child, accepts_nine, sig_over}
use Rattle.dsec_nodes.specs.World.{World}
use Rattle.dsec_nodes.specs.Causes.{Cause, NsecForDsFromWildcard, NsecProvesDs, NoSupportedDs, NoProofForMissingDs, BadSignature}
use Rattle.dsec_nodes.specs.Nodes.{Node, Standing, apex, within, insecure, bogus, Ground, nsec_without_ds, ds_not_supported}
use Rattle.dsec_nodes.specs.Replies.{sections}
use Rattle.dsec_nodes.specs.MissingDs.{looked_among}
use Rattle.dsec_nodes.specs.ByDs.{Below, made, asks, by_ds_reply}

abbrev pub w : World
w = record {
  accepts = accepts_nine;
  anchors = [];
  bounds = record {
    room = 2;
    max_validity = 600;
    max_bogus_validity = 30;
    max_ds_records = 20;
    max_keys_for_ds = 4;
    iterations_insecure = 100;
    iterations_bogus = 500;
    most_hashes = 60;
  };
  now = 500;
}

abbrev pub zone : Node
zone = record {
  name = place parent;
  made = 400;
  valid_for = 600;
  anchor = None;
  signer = place parent;
  links = [];
  standing = apex (key_octets zone_key ∷ []);
  bounds = w.bounds;
}

-- a signature by the key of `example.`, over so many labels
abbrev pub signed : ℕ → ℕ → Record
signed covered labels = record { owner = child; class = 1; rtype = 46; ttl = 300; rdata = rrsig_octets (sig_over covered labels parent) }

-- one record of `sub.example.` with its signature
abbrev set_of_one : ℕ → List ℕ → Record → Group
set_of_one rtype rdata signature = record {
  owner = child;
  class = 1;
  rtype = rtype;
  records = record { owner = child; class = 1; rtype = rtype; ttl = 200; rdata = rdata } ∷ [];
  signatures = signature ∷ [];
  extra = [];
  had_duplicate = false;
}

-- an NSEC record's data: the next name `example.`, and the types of one octet of bits
abbrev nsec_data : ℕ → List ℕ
nsec_data bits = wire_octets parent ++ 0 ∷ 1 ∷ bits ∷ []

-- what a reply with these sections comes to
abbrev pub comes_to : List Group → List Group → Below
comes_to answers authorities = by_ds_reply w zone (key_octets zone_key ∷ []) (place child) (sections answers authorities)

-- the standing of a node that was made
abbrev pub standing_of : Below → Option Standing
standing_of (made n) = Some n.standing
standing_of (asks pending) = None

-- which signed cause makes it insecure, and the cause that is told
abbrev pub basis_in : Option Standing → Option (Option Cause × Ground)
basis_in (Some (insecure cause signed)) = Some (cause, signed.basis)
basis_in (Some (apex keys)) = None
basis_in (Some (within last)) = None
basis_in (Some (bogus cause)) = None
basis_in None = None

-- for how many seconds it is kept
abbrev kept_of : Below → ℕ
kept_of (made n) = n.valid_for
kept_of (asks pending) = pending.valid_for

-- an NSEC record with NS makes the name insecure, for as long as its TTL says
insecure_for : kept_of (comes_to [] (set_of_one 47 (nsec_data 32) (signed 47 2) ∷ [])) ≡ 200
unfolding looked_among rrsig_of name_in labels_in blocks_in signs least_ttl
insecure_for = refl

insecure_by_nsec : basis_in (standing_of (comes_to [] (set_of_one 47 (nsec_data 32) (signed 47 2) ∷ []))) ≡ Some (None, nsec_without_ds)
unfolding looked_among rrsig_of name_in labels_in blocks_in signs least_ttl
insecure_by_nsec = refl

-- an expansion of a wildcard doesn't
expanded_nsec : standing_of (comes_to [] (set_of_one 47 (nsec_data 32) (signed 47 1) ∷ [])) ≡ Some (bogus NsecForDsFromWildcard)
unfolding looked_among rrsig_of name_in labels_in blocks_in signs least_ttl
expanded_nsec = refl

-- an NSEC record without NS makes it a name within the zone, and is kept
within_zone : standing_of (comes_to [] (set_of_one 47 (nsec_data 64) (signed 47 2) ∷ [])) ≡ Some (within (record {
  kind = chain.set;
  records = record { owner = child; class = 1; rtype = 47; datas = nsec_data 64 ∷ [] };
  via = None;
  signing_key = key_octets zone_key;
  rrsig = (signed 47 2).rdata;
}))
unfolding looked_among rrsig_of name_in labels_in blocks_in signs least_ttl
within_zone = refl

-- so does a CNAME record
alias_within : standing_of (comes_to (set_of_one 5 (wire_octets parent) (signed 5 2) ∷ []) []) ≡ Some (within (record {
  kind = chain.set;
  records = record { owner = child; class = 1; rtype = 5; datas = wire_octets parent ∷ [] };
  via = None;
  signing_key = key_octets zone_key;
  rrsig = (signed 5 2).rdata;
}))
unfolding looked_among rrsig_of name_in labels_in blocks_in signs least_ttl
alias_within = refl

-- but not an expansion of a wildcard
expanded_alias : standing_of (comes_to (set_of_one 5 (wire_octets parent) (signed 5 1) ∷ []) []) ≡ Some (bogus NoProofForMissingDs)
unfolding looked_among rrsig_of name_in labels_in blocks_in signs least_ttl
expanded_alias = refl

-- a DS set with a record of a known algorithm and digest asks for the key set, and may be kept for as long as its TTL says
asks_for_keys : comes_to (set_of_one 43 (5 ∷ 16 ∷ 13 ∷ 2 ∷ 7 ∷ []) (signed 43 2) ∷ []) [] ≡ asks (record {
  name = place child;
  link = record {
    kind = chain.ds;
    records = record { owner = child; class = 1; rtype = 43; datas = (5 ∷ 16 ∷ 13 ∷ 2 ∷ 7 ∷ []) ∷ [] };
    via = None;
    signing_key = key_octets zone_key;
    rrsig = (signed 43 2).rdata;
  };
  valid_for = 200;
})
unfolding looked_among rrsig_of name_in labels_in blocks_in signs least_ttl
asks_for_keys = refl

-- one of an unknown algorithm makes the name insecure
unsupported : kept_of (comes_to (set_of_one 43 (5 ∷ 16 ∷ 99 ∷ 2 ∷ 7 ∷ []) (signed 43 2) ∷ []) []) ≡ 200
unfolding looked_among rrsig_of name_in labels_in blocks_in signs least_ttl
unsupported = refl

insecure_by_ds : basis_in (standing_of (comes_to (set_of_one 43 (5 ∷ 16 ∷ 99 ∷ 2 ∷ 7 ∷ []) (signed 43 2) ∷ []) [])) ≡ Some (Some NoSupportedDs, ds_not_supported)
unfolding looked_among rrsig_of name_in labels_in blocks_in signs least_ttl
insecure_by_ds = refl

-- but not as an expansion of a wildcard
expanded_unsupported : standing_of (comes_to (set_of_one 43 (5 ∷ 16 ∷ 99 ∷ 2 ∷ 7 ∷ []) (signed 43 1) ∷ []) []) ≡ Some (bogus NoProofForMissingDs)
unfolding looked_among rrsig_of name_in labels_in blocks_in signs least_ttl
expanded_unsupported = refl

-- an NSEC record with DS proves that there is a DS set
nsec_with_ds : standing_of (comes_to [] (set_of_one 47 (wire_octets parent ++ 0 ∷ 6 ∷ 32 ∷ 0 ∷ 0 ∷ 0 ∷ 0 ∷ 16 ∷ []) (signed 47 2) ∷ [])) ≡ Some (bogus NsecProvesDs)
unfolding looked_among rrsig_of name_in labels_in blocks_in signs least_ttl
nsec_with_ds = refl

-- a DS set without a good signature is bogus
bad_signature : standing_of (by_ds_reply (record { accepts = λ _ _ _ _ _ _. false; anchors = []; bounds = w.bounds; now = 500 }) zone (key_octets zone_key ∷ [])
    (place child) (sections (set_of_one 43 (5 ∷ 16 ∷ 13 ∷ 2 ∷ 7 ∷ []) (signed 43 2) ∷ []) [])) ≡ Some (bogus BadSignature)
unfolding looked_among rrsig_of name_in labels_in blocks_in signs least_ttl
bad_signature = refl
