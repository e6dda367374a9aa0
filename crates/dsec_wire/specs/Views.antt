-- What keys and signatures of the code say.
use Rattle.std.specs.Prelude.{Option, None, ◌==◌, if◌then◌else◌}
use Rattle.dsec_spec.specs.Numbers.{DNSKEY, RRSIG}
use Rattle.dsec_spec.specs.Records as records
use Rattle.dsec_spec.specs.Records.{key_of, rrsig_of}
use Rattle.dsec_name.specs.NameRefs.{name_view}
use Rattle.dsec_wire.specs.TypedData.{TypedData}
use Rattle.dsec_wire.specs.declared.dnskey.Dnskey.{Dnskey}
use Rattle.dsec_wire.specs.declared.rrsig.Rrsig.{Rrsig}

-- a key of the code
abbrev pub key_view : Dnskey → records.Key
key_view it = record { flags = it.flags; protocol = it.protocol; algorithm = it.algorithm; public_key = it.public_key.now }

-- a signature of the code
abbrev pub rrsig_view : Rrsig → records.Rrsig
rrsig_view it = record {
  covered = it.type_covered;
  algorithm = it.algorithm;
  labels = it.labels;
  original_ttl = it.original_ttl;
  expiration = it.expiration;
  inception = it.inception;
  tag = it.key_tag;
  signer = name_view it.signer_name;
  signature = it.signature.now;
}

-- the key that data say, where they are a DNSKEY record's
abbrev pub dnskey_in : TypedData → Option records.Key
dnskey_in it = if it.rtype == DNSKEY then key_of it.octets else None

-- the signature that data say, where they are an RRSIG record's
abbrev pub rrsig_in : TypedData → Option records.Rrsig
rrsig_in it = if it.rtype == RRSIG then rrsig_of it.octets else None
