-- A chain that holds: the key of `example.` as an anchor, its DNSKEY set, and the address of `www.example.`.
use Rattle.std.proofs.Common.{◌≡◌, ℕ, List, [], ◌∷◌, ◌++◌, refl, sym, ap, ◌∙◌, subst, inl, arith, rules, ◌&&◌, ◌||◌}
use Rattle.std.specs.Prelude.{codes, length, IsTrue, None, Some, ◌≤◌}
use Rattle.std.specs.Str.{bytes_eq}
use Rattle.std.proofs.lemmas.Option.{same_Some}
use Rattle.dsec_spec.specs.Names.{Labels, place, wire_octets, IsAtOrBelow}
use Rattle.dsec_spec.specs.RecordData.{parts_in, labels_in, name_in}
use Rattle.dsec_spec.specs.Records.{Key, Record, Rrsig, rrsig_octets, rrsig_of, RecordSet, beside}
use Rattle.dsec_spec.specs.Period.{InPeriod}
use Rattle.dsec_spec.specs.SignedBytes.{inserted, ascending, signed_bytes}
use Rattle.dsec_spec.specs.Accepts.{Accepts}
use Rattle.dsec_spec.specs.Signed.{Signed}
use Rattle.dsec_spec.specs.Chain.{Link, anchor_key, set, IsAnchorKeyLink, IsSetLink, Holds}

abbrev pub example : Labels
example = codes "example" ∷ []

abbrev pub www : Labels
www = codes "www" ∷ codes "example" ∷ []

abbrev pub zone_key : Key
zone_key = record { flags = 257; protocol = 3; algorithm = 13; public_key = 1 ∷ 2 ∷ [] }

abbrev pub key_data : List ℕ
key_data = 1 ∷ 1 ∷ 3 ∷ 13 ∷ 1 ∷ 2 ∷ []

-- a signature of a zone by the key, from 0 to 1000
abbrev pub sig_by : Labels → List ℕ → ℕ → ℕ → Rrsig
sig_by zone signature covered labels = record {
  covered = covered;
  algorithm = 13;
  labels = labels;
  original_ttl = 3600;
  expiration = 1000;
  inception = 0;
  tag = 1296;
  signer = zone;
  signature = signature;
}

abbrev pub key_set_sig : Rrsig
key_set_sig = sig_by example (7 ∷ []) 48 1

abbrev pub address_sig : Rrsig
address_sig = sig_by example (8 ∷ []) 1 2

abbrev key_set : RecordSet
key_set = record { owner = example; class = 1; rtype = 48; datas = key_data ∷ [] }

abbrev address_set : RecordSet
address_set = record { owner = www; class = 1; rtype = 1; datas = (192 ∷ 0 ∷ 2 ∷ 1 ∷ []) ∷ [] }

-- what is signed of the DNSKEY set, in octets
abbrev key_message : List ℕ
key_message =
    0 ∷ 48 ∷ 13 ∷ 1 ∷ 0 ∷ 0 ∷ 14 ∷ 16 ∷ 0 ∷ 0 ∷ 3 ∷ 232 ∷ 0 ∷ 0 ∷ 0 ∷ 0 ∷ 5 ∷ 16 ∷ wire_octets example
    ++ wire_octets example ++ 0 ∷ 48 ∷ 0 ∷ 1 ∷ 0 ∷ 0 ∷ 14 ∷ 16 ∷ 0 ∷ 6 ∷ key_data

-- what is signed of the address
abbrev address_message : List ℕ
address_message =
    0 ∷ 1 ∷ 13 ∷ 2 ∷ 0 ∷ 0 ∷ 14 ∷ 16 ∷ 0 ∷ 0 ∷ 3 ∷ 232 ∷ 0 ∷ 0 ∷ 0 ∷ 0 ∷ 5 ∷ 16 ∷ wire_octets example
    ++ wire_octets www ++ 0 ∷ 1 ∷ 0 ∷ 1 ∷ 0 ∷ 0 ∷ 14 ∷ 16 ∷ 0 ∷ 4 ∷ 192 ∷ 0 ∷ 2 ∷ 1 ∷ []

-- a verifier that accepts one signature, an octet, over each of these
abbrev pub accepts_two : Accepts
accepts_two flags protocol algorithm key message signature =
    (bytes_eq message key_message && bytes_eq signature (7 ∷ [])) || (bytes_eq message address_message && bytes_eq signature (8 ∷ []))

abbrev pub anchor : Record
anchor = record { owner = example; class = 1; rtype = 48; ttl = 3600; rdata = key_data }

abbrev anchor_link : Link
anchor_link = record { kind = anchor_key; records = key_set; via = Some key_data; signing_key = key_data; rrsig = rrsig_octets key_set_sig }

abbrev address_link : Link
address_link = record { kind = set; records = address_set; via = None; signing_key = key_data; rrsig = rrsig_octets address_sig }

-- the RRSIGs' data say them
pub key_set_sig_read : rrsig_of (rrsig_octets key_set_sig) ≡ Some key_set_sig
unfolding rrsig_of name_in labels_in
key_set_sig_read = refl

pub address_sig_read : rrsig_of (rrsig_octets address_sig) ≡ Some address_sig
unfolding rrsig_of name_in labels_in
address_sig_read = refl

-- the key has signed a set of the zone, at the moment 500, where a verifier accepts the signature
pub signed_by : (accepts : Accepts) (records : RecordSet) (zone : Labels) (signature : List ℕ) (labels : ℕ) → IsAtOrBelow (place records.owner) (place zone)
    → labels ≤ length records.owner → IsTrue (accepts 257 3 13 (1 ∷ 2 ∷ []) (signed_bytes (sig_by zone signature records.rtype labels) records) signature)
    → Signed accepts records (beside records (sig_by zone signature records.rtype labels)) zone_key (place zone) 500
signed_by accepts records zone signature labels within fits accepted = record {
  same_owner = refl;
  same_class = refl;
  covers = refl;
  signer = refl;
  within = within;
  labels = fits;
  algorithm = refl;
  tag = refl;
  zone_key = record { flag = refl; of_dnssec = refl };
  period = record { ordered = omega arith; within = omega arith };
  accepted = accepted;
}

pub key_set_signed : Signed accepts_two key_set (beside key_set key_set_sig) zone_key (place example) 500
unfolding inserted ascending parts_in
key_set_signed = signed_by accepts_two key_set example (7 ∷ []) 1 (record { under = []; is = refl }) (omega arith) refl

pub address_signed : Signed accepts_two address_set (beside address_set address_sig) zone_key (place example) 500
unfolding inserted ascending parts_in
address_signed = signed_by accepts_two address_set example (8 ∷ []) 2 (record { under = codes "www" ∷ []; is = refl }) (omega arith) refl

-- the first link's set is signed by the anchor itself
anchor_link_holds : IsAnchorKeyLink accepts_two (anchor ∷ []) anchor_link 500
anchor_link_holds = record {
  of_kind = refl;
  key_set = record {
    of_class = refl;
    of_type = refl;
    its_own = search rules;
    signed = record { public_key = zone_key; reads = refl; signature = key_set_sig; reads_signature = key_set_sig_read; signed = key_set_signed };
  };
  by_way_of = refl;
  anchored = record { anchor = anchor; listed = search rules; of_class = refl; of_type = refl; stands_at = refl; says = refl };
}

-- and the last link's by the same key
address_link_holds : IsSetLink accepts_two example (key_data ∷ []) address_link 500
address_link_holds = record {
  of_kind = refl;
  within = record { under = codes "www" ∷ []; is = refl };
  ds_above = λ is_ds not_root. record { next = codes "www"; under = []; is = refl };
  by_held = search rules;
  signed = record { public_key = zone_key; reads = refl; signature = address_sig; reads_signature = address_sig_read; signed = address_signed };
}

-- the two links show the address at the moment 500
pub address_holds : Holds accepts_two (anchor ∷ []) (anchor_link ∷ address_link ∷ []) address_set 500
address_holds = record {
  chain = anchor_link ∷ [];
  last = address_link;
  zone = example;
  keys = key_data ∷ [];
  are = refl;
  leads = (inl anchor_link_holds, (refl, refl));
  shows = address_link_holds;
  same = refl;
}

-- the last of some links, or this one
abbrev last_of : Link → List Link → Link
last_of link [] = link
last_of link (first ∷ links) = last_of first links

last_of-append : (link last : Link) (links : List Link) → last_of link (links ++ last ∷ []) ≡ last
last_of-append link last [] = refl
last_of-append link last (first ∷ links) = last_of-append first last links

-- after the period they don't
pub address_fails_later : Holds accepts_two (anchor ∷ []) (anchor_link ∷ address_link ∷ []) address_set 1001 → ⊥
address_fails_later h =
    let is_last : address_link ≡ h.last = ap (last_of anchor_link) h.are ∙ last_of-append anchor_link h.last h.chain in
    let is_read : address_sig ≡ h.shows.signed.signature =
    same_Some _ _ (sym address_sig_read ∙ (ap (λ (link : Link). rrsig_of link.rrsig) is_last ∙ h.shows.signed.reads_signature)) in
    let at_end : InPeriod 0 1000 1001 = subst (λ (sig : Rrsig). InPeriod sig.inception sig.expiration 1001) (sym is_read) h.shows.signed.signed.period in
    let late = at_end.within in
    absurd (omega (arith, late))
