-- What the data of SOA, CNAME, DNAME, NSEC, NSEC3, NSEC3PARAM and OPT records say.
use Rattle.std.specs.Prelude.{ℕ, ◌+◌, ◌*◌, List, [], ◌∷◌, ◌++◌, length, Option, Some, None}
use Rattle.std.specs.Int.{w16, w32, to_be_bytes}
use Rattle.dsec_spec.specs.Reading.{◌>>=◌, u32_at}
use Rattle.dsec_spec.specs.Names.{Labels, wire_octets}
use Rattle.dsec_spec.specs.RecordData.{octets_in, name_in}

-- the text of the string at the front, and the octets after it: a length octet, and so many octets (RFC 1035 3.3)
abbrev pub text_in : List ℕ → Option (List ℕ × List ℕ)
text_in [] = None
text_in (size ∷ x) = octets_in size x

-- the data of a CNAME or DNAME record: a name (RFC 1035 3.3.1, RFC 6672 2.1)
abbrev pub target_of : List ℕ → Option Labels
target_of x = do
  name ← name_in x
  Some name.0

-- the data of an SOA record; all but the serial are in seconds (RFC 1035 3.3.13)
pub record Soa : Type 0 where
  -- the name of the server that the zone's data come from
  pub mname : Labels
  -- the mailbox of the person responsible
  pub rname : Labels
  pub serial : ℕ
  pub refresh : ℕ
  pub retry : ℕ
  pub expire : ℕ
  pub minimum : ℕ

-- the 20 octets after the names
abbrev pub soa_numbers : Soa → List ℕ
soa_numbers soa =
    to_be_bytes w32 soa.serial ++ to_be_bytes w32 soa.refresh ++ to_be_bytes w32 soa.retry
    ++ to_be_bytes w32 soa.expire ++ to_be_bytes w32 soa.minimum

-- an SOA record's data
abbrev pub soa_octets : Soa → List ℕ
soa_octets soa = wire_octets soa.mname ++ wire_octets soa.rname ++ soa_numbers soa

-- what an SOA record's data say
unfoldable pub soa_of : List ℕ → Option Soa
soa_of x = do
  mname ← name_in x
  rname ← name_in mname.1
  serial ← u32_at rname.1 0
  refresh ← u32_at rname.1 4
  retry ← u32_at rname.1 8
  expire ← u32_at rname.1 12
  minimum ← u32_at rname.1 16
  Some (record {
    mname = mname.0;
    rname = rname.0;
    serial = serial;
    refresh = refresh;
    retry = retry;
    expire = expire;
    minimum = minimum;
  })

-- the data of an NSEC record (RFC 4034 4.1)
pub record Nsec : Type 0 where
  -- the next owner in the zone's canonical order
  pub next_name : Labels
  -- the bitmap of the types at the owner
  pub types : List ℕ

-- an NSEC record's data
abbrev pub nsec_octets : Nsec → List ℕ
nsec_octets nsec = wire_octets nsec.next_name ++ nsec.types

-- what an NSEC record's data say
abbrev pub nsec_of : List ℕ → Option Nsec
nsec_of x = do
  name ← name_in x
  Some (record { next_name = name.0; types = name.1 })

-- how an NSEC3 record's hashes are made: the hash, flags, how often it is taken again, and what is added to each (RFC 5155 3.1)
pub record Hashing : Type 0 where
  pub hash_algorithm : ℕ
  pub flags : ℕ
  pub iterations : ℕ
  pub salt : List ℕ

-- the octets that say how hashes are made
abbrev pub hashing_octets : Hashing → List ℕ
hashing_octets how = how.hash_algorithm ∷ how.flags ∷ to_be_bytes w16 how.iterations ++ length how.salt ∷ how.salt

-- how hashes are made, by the octets at the front, and the octets after them (RFC 5155 3.2, 4.2)
abbrev pub hashing_in : List ℕ → Option (Hashing × List ℕ)
hashing_in (hash_algorithm ∷ flags ∷ high ∷ low ∷ x) = do
  salt ← text_in x
  Some (record { hash_algorithm = hash_algorithm; flags = flags; iterations = high * 256 + low; salt = salt.0 }, salt.1)
hashing_in _ = None

-- what an NSEC3PARAM record's data say (RFC 5155 4.2)
abbrev pub nsec3param_of : List ℕ → Option Hashing
nsec3param_of x = do
  how ← hashing_in x
  Some how.0

-- the data of an NSEC3 record (RFC 5155 3.2)
pub record Nsec3 : Type 0 where
  pub hashing : Hashing
  -- the hash of the next owner in the order of hashes
  pub next_owner : List ℕ
  -- the bitmap of the types at the owner whose hash this is
  pub types : List ℕ

-- an NSEC3 record's data
abbrev pub nsec3_octets : Nsec3 → List ℕ
nsec3_octets nsec3 = hashing_octets nsec3.hashing ++ length nsec3.next_owner ∷ nsec3.next_owner ++ nsec3.types

-- what an NSEC3 record's data say
abbrev pub nsec3_of : List ℕ → Option Nsec3
nsec3_of x = do
  how ← hashing_in x
  next ← text_in how.1
  Some (record { hashing = how.0; next_owner = next.0; types = next.1 })

-- an option of an OPT record (RFC 6891 6.1.2)
pub record EdnsOption : Type 0 where
  pub code : ℕ
  pub octets : List ℕ

-- an option as it stands in the data: its code, how many octets it has, and these
abbrev pub option_octets : EdnsOption → List ℕ
option_octets option = to_be_bytes w16 option.code ++ to_be_bytes w16 (length option.octets) ++ option.octets

-- the option at the front, and the octets after it
abbrev pub option_in : List ℕ → Option (EdnsOption × List ℕ)
option_in (a ∷ b ∷ high ∷ low ∷ x) = do
  taken ← octets_in (high * 256 + low) x
  Some (record { code = a * 256 + b; octets = taken.0 }, taken.1)
option_in _ = None
