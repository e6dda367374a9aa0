-- The data of DNSKEY, DS and RRSIG records, read back.
use Rattle.std.proofs.Common.{◌≡◌, ℕ, ◌+◌, ◌*◌, ◌^◌, ◌/◌, ◌%◌, ◌<◌, ◌≤◌, List, [], ◌∷◌, ◌++◌, length, take, drop, get_or, append_assoc, Some, refl, sym, ap, ◌∙◌, subst, arith}
use Rattle.std.specs.Prelude.{All}
use Rattle.std.specs.Int.{w16, w32, to_be_bytes, from_be_bytes}
use Rattle.std.proofs.lemmas.Nat.{from_be_bytes-to_be_bytes_2}
use Rattle.std.proofs.lemmas.List.{append-nil}
use Rattle.std.proofs.lemmas.Option.{same_Some}
use Rattle.std.proofs.lemmas.Nat.{from_be_bytes-to_be_bytes_4}
use Rattle.dsec_spec.specs.Numbers.{DS, RRSIG, DNSKEY}
use Rattle.dsec_spec.specs.Names.{IsName, wire_octets, canonical_octets}
use Rattle.dsec_spec.specs.Layouts.{Field, octets, rest, layout_of}
use Rattle.dsec_spec.specs.RecordData.{lowered, plain, AllFit, IsData, IsReadable, parts_in, canonical_data}
use Rattle.dsec_spec.specs.Records.{ds_octets, Key, key_octets, key_of, Ds, ds_of, Rrsig, fixed_octets, rrsig_octets}
use Rattle.dsec_spec.proofs.WireNameLemmas.{same_names}
use Rattle.dsec_spec.proofs.RecordDataLemmas.{unreadable}
use Rattle.dsec_spec.proofs.CanonicalDataLemmas.{canonical_data-data}
use Rattle.dsec_spec.proofs.ReadingLemmas.{read_as}

-- a number below 2 ^ 16 from its two octets
number_again : (n : ℕ) → n < 2 ^ 16 → n / 256 % 256 * 256 + n % 256 ≡ n
number_again n small = omega arith

-- two octets from the number that they are
octets_again : (high low : ℕ) (x : List ℕ) → high < 256 → low < 256 → to_be_bytes w16 (high * 256 + low) ++ x ≡ high ∷ low ∷ x
octets_again high low x h l =
    let a : (high * 256 + low) / 256 % 256 ≡ high = omega arith in
    let b : (high * 256 + low) % 256 ≡ low = omega arith in
    rw (a, b) refl

-- the octets of a key say the key
pub key_of-key_octets : (key : Key) → key.flags < 2 ^ 16 → key_of (key_octets key) ≡ Some key
key_of-key_octets key small = rw (number_again key.flags small) refl

-- data that say a key are the key's octets
pub key_octets-key_of : (rdata : List ℕ) (key : Key) → All (λ o. o < 256) rdata → key_of rdata ≡ Some key → key_octets key ≡ rdata
key_octets-key_of (high ∷ low ∷ protocol ∷ algorithm ∷ public_key) key small e =
    let x = high ∷ low ∷ protocol ∷ algorithm ∷ public_key in
    read_as (λ (k : Key). key_octets k ≡ x) _ key e
    (octets_again high low (protocol ∷ algorithm ∷ public_key) (small 0 0 (omega arith)) (small 1 0 (omega arith)))
key_octets-key_of _ key small e = absurd cc

-- the octets of a DS record say what it does
pub ds_of-ds_octets : (ds : Ds) → ds.tag < 2 ^ 16 → ds_of (ds_octets ds) ≡ Some ds
ds_of-ds_octets ds small = rw (number_again ds.tag small) refl

-- data that say a DS record are its octets
pub ds_octets-ds_of : (rdata : List ℕ) (ds : Ds) → All (λ o. o < 256) rdata → ds_of rdata ≡ Some ds → ds_octets ds ≡ rdata
ds_octets-ds_of (high ∷ low ∷ algorithm ∷ digest_type ∷ digest) ds small e =
    let x = high ∷ low ∷ algorithm ∷ digest_type ∷ digest in
    read_as (λ (d : Ds). ds_octets d ≡ x) _ ds e
    (octets_again high low (algorithm ∷ digest_type ∷ digest) (small 0 0 (omega arith)) (small 1 0 (omega arith)))
ds_octets-ds_of _ ds small e = absurd cc

-- keys with the same octets are the same
pub same_keys : (a b : Key) → a.flags < 2 ^ 16 → b.flags < 2 ^ 16 → key_octets a ≡ key_octets b → a ≡ b
same_keys a b ha hb e = same_Some a b (sym (key_of-key_octets a ha) ∙ ap key_of e ∙ key_of-key_octets b hb)

-- DS records with the same octets say the same
pub same_ds : (a b : Ds) → a.tag < 2 ^ 16 → b.tag < 2 ^ 16 → ds_octets a ≡ ds_octets b → a ≡ b
same_ds a b ha hb e = same_Some a b (sym (ds_of-ds_octets a ha) ∙ ap ds_of e ∙ ds_of-ds_octets b hb)

-- readable data of a DNSKEY record say a key
pub key_from_readable : (rdata : List ℕ) → IsReadable DNSKEY rdata → (key : Key) × (key_of rdata ≡ Some key)
unfolding parts_in
key_from_readable [] readable = absurd (unreadable DNSKEY [] refl readable)
key_from_readable (a ∷ []) readable = absurd (unreadable DNSKEY (a ∷ []) refl readable)
key_from_readable (a ∷ b ∷ []) readable = absurd (unreadable DNSKEY (a ∷ b ∷ []) refl readable)
key_from_readable (a ∷ b ∷ c ∷ []) readable = absurd (unreadable DNSKEY (a ∷ b ∷ c ∷ []) refl readable)
key_from_readable (high ∷ low ∷ protocol ∷ algorithm ∷ public_key) readable = (_, refl)

-- four octets and what follows them
four_and_rest : (rtype a b c d : ℕ) (x : List ℕ) → layout_of rtype ≡ octets 4 ∷ rest ∷ [] → length x ≤ 65531 → IsReadable rtype (a ∷ b ∷ c ∷ d ∷ x)
four_and_rest rtype a b c d x layout most =
    let parts = plain (a ∷ b ∷ c ∷ d ∷ []) ∷ plain x ∷ [] in
    record {
      parts = parts;
      are = record {
        fit = subst (λ (fields : List Field). AllFit fields parts) (sym layout) (refl, (tt, tt));
        is = ap (λ (z : List ℕ). a ∷ b ∷ c ∷ d ∷ z) (sym (append-nil x));
      };
      at_most = omega arith;
    }

-- data that say a key are readable
pub readable_from_key : (rdata : List ℕ) (key : Key) → key_of rdata ≡ Some key → length rdata ≤ 65535 → IsReadable DNSKEY rdata
readable_from_key (high ∷ low ∷ protocol ∷ algorithm ∷ public_key) key e most =
    four_and_rest DNSKEY high low protocol algorithm public_key refl (omega arith)
readable_from_key _ key e most = absurd cc

-- readable data of a DS record say what it does
pub ds_from_readable : (rdata : List ℕ) → IsReadable DS rdata → (ds : Ds) × (ds_of rdata ≡ Some ds)
unfolding parts_in
ds_from_readable [] readable = absurd (unreadable DS [] refl readable)
ds_from_readable (a ∷ []) readable = absurd (unreadable DS (a ∷ []) refl readable)
ds_from_readable (a ∷ b ∷ []) readable = absurd (unreadable DS (a ∷ b ∷ []) refl readable)
ds_from_readable (a ∷ b ∷ c ∷ []) readable = absurd (unreadable DS (a ∷ b ∷ c ∷ []) refl readable)
ds_from_readable (high ∷ low ∷ algorithm ∷ digest_type ∷ digest) readable = (_, refl)

-- data that say a DS record are readable
pub readable_from_ds : (rdata : List ℕ) (ds : Ds) → ds_of rdata ≡ Some ds → length rdata ≤ 65535 → IsReadable DS rdata
readable_from_ds (high ∷ low ∷ algorithm ∷ digest_type ∷ digest) ds e most =
    four_and_rest DS high low algorithm digest_type digest refl (omega arith)
readable_from_ds _ ds e most = absurd cc

-- the numbers of an RRSIG record fit their octets, and its signer is a name
pub record IsRrsig (sig : Rrsig) : Type 0 where
  pub covered : sig.covered < 2 ^ 16
  pub original_ttl : sig.original_ttl < 2 ^ 32
  pub expiration : sig.expiration < 2 ^ 32
  pub inception : sig.inception < 2 ^ 32
  pub tag : sig.tag < 2 ^ 16
  pub signer : IsName sig.signer

-- the octets of an RRSIG record are its data: 18 octets, the signer's name and the signature
pub IsData-rrsig_octets : (sig : Rrsig) → IsName sig.signer → IsData RRSIG (plain (fixed_octets sig) ∷ lowered sig.signer ∷ plain sig.signature ∷ []) (rrsig_octets sig)
IsData-rrsig_octets sig is = record {
  fit = (refl, (is, (tt, tt)));
  is = append_assoc (fixed_octets sig) (wire_octets sig.signer) sig.signature ∙ ap (λ (z : List ℕ). fixed_octets sig ++ (wire_octets sig.signer ++ z)) (sym (append-nil sig.signature));
}

-- canonical data of an RRSIG record have the signer's name in lower case
pub canonical_data-rrsig : (sig : Rrsig) → IsName sig.signer → canonical_data RRSIG (rrsig_octets sig) ≡ fixed_octets sig ++ canonical_octets sig.signer ++ sig.signature
canonical_data-rrsig sig is =
    canonical_data-data RRSIG _ (rrsig_octets sig) (IsData-rrsig_octets sig is)
    ∙ sym (append_assoc (fixed_octets sig) (canonical_octets sig.signer) sig.signature ∙ ap (λ (z : List ℕ). fixed_octets sig ++ (canonical_octets sig.signer ++ z)) (sym (append-nil sig.signature)))

-- numbers with the same two octets are the same
same_number_2 : (m n : ℕ) → m < 2 ^ 16 → n < 2 ^ 16 → to_be_bytes w16 m ≡ to_be_bytes w16 n → m ≡ n
same_number_2 m n hm hn e = sym (from_be_bytes-to_be_bytes_2 m hm) ∙ ap (from_be_bytes w16) e ∙ from_be_bytes-to_be_bytes_2 n hn

-- numbers with the same four octets are the same
same_number_4 : (m n : ℕ) → m < 2 ^ 32 → n < 2 ^ 32 → to_be_bytes w32 m ≡ to_be_bytes w32 n → m ≡ n
same_number_4 m n hm hn e = sym (from_be_bytes-to_be_bytes_4 m hm) ∙ ap (from_be_bytes w32) e ∙ from_be_bytes-to_be_bytes_4 n hn

-- RRSIG records whose parts are the same are the same
same_fields : (a b : Rrsig) → a.covered ≡ b.covered → a.algorithm ≡ b.algorithm → a.labels ≡ b.labels → a.original_ttl ≡ b.original_ttl → a.expiration ≡ b.expiration → a.inception ≡ b.inception → a.tag ≡ b.tag → a.signer ≡ b.signer → a.signature ≡ b.signature → a ≡ b
same_fields a b covered algorithm labels ttl expiration inception tag signer signature = λ i. record {
  covered = covered i;
  algorithm = algorithm i;
  labels = labels i;
  original_ttl = ttl i;
  expiration = expiration i;
  inception = inception i;
  tag = tag i;
  signer = signer i;
  signature = signature i;
}

-- RRSIG records with the same octets say the same
pub same_rrsig : (a b : Rrsig) → IsRrsig a → IsRrsig b → rrsig_octets a ≡ rrsig_octets b → a ≡ b
same_rrsig a b ha hb e =
    let end = same_names a.signer b.signer a.signature b.signature ha.signer hb.signer (ap (drop 18) e) in
    same_fields a b
    (same_number_2 a.covered b.covered ha.covered hb.covered (ap (take 2) e))
    (ap (λ (x : List ℕ). get_or x 2 0) e)
    (ap (λ (x : List ℕ). get_or x 3 0) e)
    (same_number_4 a.original_ttl b.original_ttl ha.original_ttl hb.original_ttl (ap (λ (x : List ℕ). take 4 (drop 4 x)) e))
    (same_number_4 a.expiration b.expiration ha.expiration hb.expiration (ap (λ (x : List ℕ). take 4 (drop 8 x)) e))
    (same_number_4 a.inception b.inception ha.inception hb.inception (ap (λ (x : List ℕ). take 4 (drop 12 x)) e))
    (same_number_2 a.tag b.tag ha.tag hb.tag (ap (λ (x : List ℕ). take 2 (drop 16 x)) e))
    end.0 end.1
