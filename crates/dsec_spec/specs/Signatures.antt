-- The signatures of sets by keys (RFC 4034 3, RFC 4035 2.2).
use Rattle.std.specs.Prelude.{◌≡◌, ◌^◌, ◌<◌, ◌≤◌, ℕ, List, [], ◌∷◌, length}
use Rattle.std.specs.List.{AllZip}
use Rattle.dsec_spec.specs.Names.{Labels, rrsig_label_count}
use Rattle.dsec_spec.specs.Numbers.{RRSIG}
use Rattle.dsec_spec.specs.Records.{Record, Key, Rrsig, rrsig_octets, set_of}
use Rattle.dsec_spec.specs.KeyTag.{key_tag}
use Rattle.dsec_spec.specs.Period.{seconds_after}
use Rattle.dsec_spec.specs.SignedBytes.{signed_bytes}
use Rattle.dsec_spec.specs.Trying.{pairs}

-- which octets are signatures over a message, by the key of a DNSKEY record
abbrev pub Signs : Type 1
Signs = Key → List ℕ → List ℕ → Type 0

-- who signs: a name, and the key of a DNSKEY record that stands there
pub record Signer : Type 0 where
  pub owner : Labels
  pub key : Key

-- the moments from which and up to which a signature counts (RFC 4034 3.1.5)
pub record Period : Type 0 where
  pub inception : ℕ
  pub expiration : ℕ

-- a signature may have the period: it ends less than 2 ^ 31 seconds after it begins, so that it isn't taken for one that ends before
-- it begins (RFC 4034 3.1.5, RFC 1982 3.2)
abbrev pub IsValidPeriod : Period → Type 0
IsValidPeriod period = seconds_after period.inception period.expiration < 2 ^ 31

-- what the data of the RRSIG record over the set of a record say, which with the others is the set: its type and TTL, the labels of its
-- owner without a leftmost asterisk, the period, and the signer's name, algorithm and tag (RFC 4034 3.1)
abbrev pub rrsig_for : Signer → Period → Record → List ℕ → Rrsig
rrsig_for by period first signature = record {
  covered = first.rtype;
  algorithm = by.key.algorithm;
  labels = rrsig_label_count first.owner;
  original_ttl = first.ttl;
  expiration = period.expiration;
  inception = period.inception;
  tag = key_tag by.key;
  signer = by.owner;
  signature = signature;
}

-- the record is an RRSIG record over the set of these records, by the signer: it has the set's owner, class and TTL, and its signature
-- is over the octets of RFC 4034 3.1.8.1, to which the signature itself adds nothing (RFC 4035 2.2)
pub record IsSignatureOf (signs : Signs) (by : Signer) (period : Period) (first : Record) (others : List Record) (r : Record) : Type 0 where
  pub signature : List ℕ
  pub signed : signs by.key (signed_bytes (rrsig_for by period first []) (set_of first others)) signature
  pub at_most : length signature ≤ 60000
  pub is : r ≡ record { owner = first.owner; class = first.class; rtype = RRSIG; ttl = first.ttl; rdata = rrsig_octets (rrsig_for by period first signature) }

-- the same of a set as a list, which isn't empty
abbrev pub IsSignature : Signs → Period → List Record × Signer → Record → Type 0
IsSignature signs period ([], by) r = ⊥
IsSignature signs period (first ∷ others, by) r = IsSignatureOf signs by period first others r

-- the records are the signatures of each set by each signer: set by set, and of each set one by each signer, in order
abbrev pub AreSignatures : Signs → Period → List (List Record) → List Signer → List Record → Type 0
AreSignatures signs period sets signers signatures = AllZip (IsSignature signs period) (pairs sets signers) signatures
