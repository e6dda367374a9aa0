-- A chain that holds through a zone cut: an anchor's DS record for `example.`, the DS set of `sub.example.`, the child's keys, and an address there.
use Rattle.std.proofs.Common.{◌≡◌, ℕ, List, [], ◌∷◌, ◌++◌, refl, inr, arith, rules, ◌&&◌}
use Rattle.std.specs.Prelude.{codes, None, Some}
use Rattle.std.specs.Str.{bytes_eq}
use Rattle.sha2.specs.Sha256.{sha256}
use Rattle.dsec_spec.specs.Names.{Labels, place, canonical_octets}
use Rattle.dsec_spec.specs.RecordData.{labels_in, name_in}
use Rattle.dsec_spec.specs.Records.{key_octets, Record, Rrsig, rrsig_octets, rrsig_of, RecordSet, beside}
use Rattle.dsec_spec.specs.Accepts.{Accepts}
use Rattle.dsec_spec.specs.Signed.{Signed}
use Rattle.dsec_spec.specs.Chain.{Link, anchor_ds, ds, key, set, IsAnchorDsLink, IsDsLink, IsKeyLink, IsSetLink, Holds}
use Rattle.dsec_spec.proofs.ChainExample.{example as parent, zone_key, sig_by, signed_by}

abbrev pub child : Labels
child = codes "sub" ∷ codes "example" ∷ []

-- a DS record's data for the key under this owner: tag 1296, algorithm 13, SHA-256
abbrev ds_data : Labels → List ℕ
ds_data owner = 5 ∷ 16 ∷ 13 ∷ 2 ∷ sha256 (canonical_octets owner ++ key_octets zone_key)

-- a signature by the key of a zone
abbrev pub sig_over : ℕ → ℕ → Labels → Rrsig
sig_over covered labels zone = sig_by zone (9 ∷ []) covered labels

-- a verifier that accepts one signature by the key, over any message
abbrev pub accepts_nine : Accepts
accepts_nine flags protocol algorithm octets message signature = bytes_eq octets (1 ∷ 2 ∷ []) && bytes_eq signature (9 ∷ [])

abbrev keys_of : Labels → RecordSet
keys_of owner = record { owner = owner; class = 1; rtype = 48; datas = key_octets zone_key ∷ [] }

abbrev ds_set : RecordSet
ds_set = record { owner = child; class = 1; rtype = 43; datas = ds_data child ∷ [] }

abbrev address_set : RecordSet
address_set = record { owner = child; class = 1; rtype = 1; datas = (192 ∷ 0 ∷ 2 ∷ 1 ∷ []) ∷ [] }

abbrev anchor : Record
anchor = record { owner = parent; class = 1; rtype = 43; ttl = 3600; rdata = ds_data parent }

abbrev parent_link : Link
parent_link = record { kind = anchor_ds; records = keys_of parent; via = Some (ds_data parent); signing_key = key_octets zone_key; rrsig = rrsig_octets (sig_over 48 1 parent) }

abbrev ds_link : Link
ds_link = record { kind = ds; records = ds_set; via = None; signing_key = key_octets zone_key; rrsig = rrsig_octets (sig_over 43 2 parent) }

abbrev child_link : Link
child_link = record { kind = key; records = keys_of child; via = Some (ds_data child); signing_key = key_octets zone_key; rrsig = rrsig_octets (sig_over 48 2 child) }

abbrev address_link : Link
address_link = record { kind = set; records = address_set; via = None; signing_key = key_octets zone_key; rrsig = rrsig_octets (sig_over 1 2 child) }

-- the RRSIGs' data say them
parent_sig_read : rrsig_of (rrsig_octets (sig_over 48 1 parent)) ≡ Some (sig_over 48 1 parent)
unfolding rrsig_of name_in labels_in
parent_sig_read = refl

ds_sig_read : rrsig_of (rrsig_octets (sig_over 43 2 parent)) ≡ Some (sig_over 43 2 parent)
unfolding rrsig_of name_in labels_in
ds_sig_read = refl

child_sig_read : rrsig_of (rrsig_octets (sig_over 48 2 child)) ≡ Some (sig_over 48 2 child)
unfolding rrsig_of name_in labels_in
child_sig_read = refl

address_sig_read : rrsig_of (rrsig_octets (sig_over 1 2 child)) ≡ Some (sig_over 1 2 child)
unfolding rrsig_of name_in labels_in
address_sig_read = refl

parent_signed : Signed accepts_nine (keys_of parent) (beside (keys_of parent) (sig_over 48 1 parent)) zone_key (place parent) 500
parent_signed = signed_by accepts_nine (keys_of parent) parent (9 ∷ []) 1 (record { under = []; is = refl }) (omega arith) refl

ds_signed : Signed accepts_nine ds_set (beside ds_set (sig_over 43 2 parent)) zone_key (place parent) 500
ds_signed = signed_by accepts_nine ds_set parent (9 ∷ []) 2 (record { under = codes "sub" ∷ []; is = refl }) (omega arith) refl

child_signed : Signed accepts_nine (keys_of child) (beside (keys_of child) (sig_over 48 2 child)) zone_key (place child) 500
child_signed = signed_by accepts_nine (keys_of child) child (9 ∷ []) 2 (record { under = []; is = refl }) (omega arith) refl

address_signed : Signed accepts_nine address_set (beside address_set (sig_over 1 2 child)) zone_key (place child) 500
address_signed = signed_by accepts_nine address_set child (9 ∷ []) 2 (record { under = []; is = refl }) (omega arith) refl

parent_link_holds : IsAnchorDsLink accepts_nine (anchor ∷ []) parent_link 500
parent_link_holds = record {
  of_kind = refl;
  key_set = record {
    of_class = refl;
    of_type = refl;
    its_own = search rules;
    signed = record { public_key = zone_key; reads = refl; signature = sig_over 48 1 parent; reads_signature = parent_sig_read; signed = parent_signed };
  };
  ds_data = ds_data parent;
  by_way_of = refl;
  anchored = record { anchor = anchor; listed = search rules; of_class = refl; of_type = refl; stands_at = refl; says = refl };
  speaks = record {
    ds_record = record { tag = 1296; algorithm = 13; digest_type = 2; digest = sha256 (canonical_octets parent ++ key_octets zone_key) };
    public_key = zone_key;
    reads_ds = refl;
    reads_key = refl;
    matches = record { same_algorithm = refl; same_tag = refl; same_digest = refl };
  };
}

ds_link_holds : IsDsLink accepts_nine (place parent) (key_octets zone_key ∷ []) ds_link 500
ds_link_holds = record {
  of_kind = refl;
  of_class = refl;
  of_type = refl;
  below = record { next = codes "sub"; under = []; is = refl };
  by_held = search rules;
  signed = record { public_key = zone_key; reads = refl; signature = sig_over 43 2 parent; reads_signature = ds_sig_read; signed = ds_signed };
  no_expansion = λ h. let few = h.fewer in omega (arith, few);
}

child_link_holds : IsKeyLink accepts_nine ds_link child_link 500
child_link_holds = record {
  of_kind = refl;
  key_set = record {
    of_class = refl;
    of_type = refl;
    its_own = search rules;
    signed = record { public_key = zone_key; reads = refl; signature = sig_over 48 2 child; reads_signature = child_sig_read; signed = child_signed };
  };
  same_owner = refl;
  ds_data = ds_data child;
  by_way_of = refl;
  in_ds_set = search rules;
  speaks = record {
    ds_record = record { tag = 1296; algorithm = 13; digest_type = 2; digest = sha256 (canonical_octets child ++ key_octets zone_key) };
    public_key = zone_key;
    reads_ds = refl;
    reads_key = refl;
    matches = record { same_algorithm = refl; same_tag = refl; same_digest = refl };
  };
  supported = record { known_algorithm = refl; known_digest = refl };
}

address_link_holds : IsSetLink accepts_nine (place child) (key_octets zone_key ∷ []) address_link 500
address_link_holds = record {
  of_kind = refl;
  within = record { under = []; is = refl };
  ds_above = λ is_ds not_root. absurd (omega (arith, is_ds));
  by_held = search rules;
  signed = record { public_key = zone_key; reads = refl; signature = sig_over 1 2 child; reads_signature = address_sig_read; signed = address_signed };
}

-- the four links show the address at the moment 500
pub address_holds : Holds accepts_nine (anchor ∷ []) (parent_link ∷ ds_link ∷ child_link ∷ address_link ∷ []) address_set 500
address_holds = record {
  chain = parent_link ∷ ds_link ∷ child_link ∷ [];
  last = address_link;
  zone = place child;
  keys = key_octets zone_key ∷ [];
  are = refl;
  leads = (inr parent_link_holds, (ds_link_holds, child_link_holds, (refl, refl)));
  shows = address_link_holds;
  same = refl;
}
