-- What replies with DNSKEY sets come to: a zone begins where a DS set speaks of one of the keys, or an anchor is one of them.
use Rattle.std.proofs.Common.{◌≡◌, ℕ, ◌+◌, Bool, true, false, cond, List, [], ◌∷◌, ◌++◌, length, take, None, refl, ap, ◌||◌}
use Rattle.std.specs.Prelude.{nat_lt, unwrap_or}
use Rattle.std.specs.List.{list_any, position_or_len}
use Rattle.std.proofs.Math.Bool.{not}
use Rattle.std.proofs.lemmas.Bool.{false≢true}
use Rattle.dsec_spec.specs.Names.{place, canonical_octets}
use Rattle.dsec_spec.specs.RecordData.{labels_in, name_in}
use Rattle.dsec_spec.specs.Records.{key_octets, Record, Ds, rrsig_octets, rrsig_of}
use Rattle.dsec_spec.specs.Digests.{digest_by}
use Rattle.dsec_spec.specs.DelegationSigner.{speaks_of}
use Rattle.dsec_spec.specs.KeySearch.{KeySearch, found_at, not_found, too_many, search_in, is_named, is_spoken_of}
use Rattle.dsec_spec.specs.Signed.{signs}
use Rattle.dsec_spec.specs.Groups.{Group}
use Rattle.dsec_spec.specs.Lasting.{least_ttl}
use Rattle.dsec_spec.specs.Trying.{tried}
use Rattle.dsec_spec.specs.Chain as chain
use Rattle.dsec_spec.proofs.DelegationLaws.{speaks_decides}
use Rattle.dsec_spec.proofs.ChainExample.{example as parent, zone_key}
use Rattle.dsec_spec.proofs.DelegationExample.{child}
use Rattle.dsec_nodes.specs.World.{World, moment}
use Rattle.dsec_nodes.specs.Nodes.{Node, apex, bogus}
use Rattle.dsec_nodes.specs.Admission.{matching, admitted_at, admitted_signs, ds_search}
use Rattle.dsec_nodes.specs.Causes.{NoSignature}
use Rattle.dsec_nodes.specs.Walk.{by_anchor_reply}
use Rattle.dsec_nodes.specs.Replies.{sections}
use Rattle.dsec_nodes.specs.ByDs.{Pending, by_tried, by_key_reply}
use Rattle.dsec_nodes.proofs.NodeExamples.{w, zone}

-- the digest of the child's key by SHA-256
abbrev digest : List ℕ
digest = unwrap_or (digest_by 2 (canonical_octets child ++ key_octets zone_key)) []

-- a DS record for the key: tag 1296, algorithm 13, SHA-256
abbrev ds_record : Ds
ds_record = record { tag = 1296; algorithm = 13; digest_type = 2; digest = digest }

abbrev ds_data : List ℕ
ds_data = 5 ∷ 16 ∷ 13 ∷ 2 ∷ digest

-- the DS set of `sub.example.`, which the zone above has signed
abbrev pending : Pending
pending = record {
  name = place child;
  link = record {
    kind = chain.ds;
    records = record { owner = child; class = 1; rtype = 43; datas = ds_data ∷ [] };
    via = None;
    signing_key = key_octets zone_key;
    rrsig = [];
  };
  valid_for = 200;
}

-- a signature from 0 to 1000 by the key of `sub.example.`
abbrev own_signature : Record
own_signature = record {
  owner = child;
  class = 1;
  rtype = 46;
  ttl = 150;
  rdata = rrsig_octets (record {
    covered = 48;
    algorithm = 13;
    labels = 2;
    original_ttl = 3600;
    expiration = 1000;
    inception = 0;
    tag = 1296;
    signer = child;
    signature = 9 ∷ [];
  });
}

-- the DNSKEY set of `sub.example.`
abbrev keys : Group
keys = record {
  owner = child;
  class = 1;
  rtype = 48;
  records = record { owner = child; class = 1; rtype = 48; ttl = 200; rdata = key_octets zone_key } ∷ [];
  signatures = own_signature ∷ [];
  extra = [];
  had_duplicate = false;
}

-- the search among one thing that passes both tests finds it
search_one : {A : Type 0} (is_candidate is_it : A → Bool) (x : A) → is_candidate x ≡ true → is_it x ≡ true
    → search_in is_candidate is_it 4 (x ∷ []) ≡ found_at 0
search_one {A} is_candidate is_it x c i = outer (is_candidate x) c
  where
    inner : (b : Bool) → b ≡ true
        → cond (b || false) (found_at (cond (not b) (1 + 0) 0)) (cond (nat_lt 4 1) too_many not_found) ≡ found_at 0
    inner true e = refl
    inner false e = absurd (false≢true e)

    outer : (a : Bool) → a ≡ true
        → cond (list_any is_it (take 4 (cond a (x ∷ []) []))) (found_at (position_or_len is_it (x ∷ [])))
        (cond (nat_lt 4 (length (cond a (x ∷ []) []))) too_many not_found) ≡ found_at 0
    outer true e = inner (is_it x) i
    outer false e = absurd (false≢true e)

-- the DS record speaks of the key
speaks : speaks_of ds_record child zone_key ≡ true
speaks = (speaks_decides ds_record child zone_key).1 (record { same_algorithm = refl; same_tag = refl; same_digest = refl })

-- so its search finds it
found : ds_search 4 keys ds_data ≡ found_at 0
found = search_one (is_named ds_record) (is_spoken_of ds_record child) (key_octets zone_key) refl speaks

-- the reply makes a node of a zone with these keys, kept for as long as its signature's TTL says
abbrev made_with : KeySearch → Node
made_with search =
    by_tried w zone pending keys (tried (admitted_signs w.accepts keys (moment w)) w.bounds.room (matching keys (admitted_at keys ds_data search) ++ []))

zone_begins : (by_key_reply w zone pending (sections (keys ∷ []) [])).standing ≡ apex (key_octets zone_key ∷ [])
unfolding rrsig_of name_in labels_in signs least_ttl
zone_begins = ap (λ (search : KeySearch). (made_with search).standing) found

zone_kept_for : (by_key_reply w zone pending (sections (keys ∷ []) [])).valid_for ≡ 150
unfolding rrsig_of name_in labels_in signs least_ttl
zone_kept_for = ap (λ (search : KeySearch). (made_with search).valid_for) found

-- an anchor: the DNSKEY record of `example.`
abbrev anchor : Record
anchor = record { owner = parent; class = 1; rtype = 48; ttl = 0; rdata = key_octets zone_key }

abbrev anchored_world : World
anchored_world = record { accepts = w.accepts; anchors = anchor ∷ []; bounds = w.bounds; now = 500 }

-- the DNSKEY set of `example.`, signed by its key
abbrev island_keys : Group
island_keys = record {
  owner = parent;
  class = 1;
  rtype = 48;
  records = record { owner = parent; class = 1; rtype = 48; ttl = 900; rdata = key_octets zone_key } ∷ [];
  signatures = record {
    owner = parent;
    class = 1;
    rtype = 46;
    ttl = 900;
    rdata = rrsig_octets (record {
      covered = 48;
      algorithm = 13;
      labels = 1;
      original_ttl = 3600;
      expiration = 1100;
      inception = 0;
      tag = 1296;
      signer = parent;
      signature = 9 ∷ [];
    });
  } ∷ [];
  extra = [];
  had_duplicate = false;
}

-- at an island the anchor's own key makes a zone, kept for no longer than what is left of the signature's period, or than the most
island : (by_anchor_reply anchored_world (place parent) (sections (island_keys ∷ []) [])).standing ≡ apex (key_octets zone_key ∷ [])
unfolding rrsig_of name_in labels_in signs least_ttl
island = refl

island_kept_for : (by_anchor_reply anchored_world (place parent) (sections (island_keys ∷ []) [])).valid_for ≡ 600
unfolding rrsig_of name_in labels_in signs least_ttl
island_kept_for = refl

-- and by another anchor none
elsewhere : (by_anchor_reply w (place parent) (sections (island_keys ∷ []) [])).standing ≡ bogus NoSignature
unfolding rrsig_of name_in labels_in signs least_ttl
elsewhere = refl
