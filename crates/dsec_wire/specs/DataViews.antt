-- What the views of data say, and the octets that they borrow.
use Rattle.std.specs.Prelude.{ℕ, List, Option, Some, None, ◌==◌, if◌then◌else◌}
use Rattle.std.specs.Borrow.{Bor}
use Rattle.dsec_spec.specs.Names.{Labels}
use Rattle.dsec_spec.specs.Numbers.{CNAME, SOA, DNAME, OPT, DS, NSEC, NSEC3, NSEC3PARAM}
use Rattle.dsec_spec.specs.Records as records
use Rattle.dsec_spec.specs.Records.{ds_of}
use Rattle.dsec_spec.specs.RecordViews as views
use Rattle.dsec_spec.specs.RecordViews.{target_of, soa_of, nsec_of, Hashing, nsec3_of, nsec3param_of}
use Rattle.dsec_name.specs.NameRefs.{name_view}
use Rattle.dsec_wire.specs.TypedData.{TypedData}
use Rattle.dsec_wire.specs.declared.ds.Ds.{Ds}
use Rattle.dsec_wire.specs.declared.edns.EdnsOption.{EdnsOption}
use Rattle.dsec_wire.specs.declared.edns.Opt.{Opt}
use Rattle.dsec_wire.specs.declared.nsec.Nsec.{Nsec}
use Rattle.dsec_wire.specs.declared.nsec3.Nsec3.{Nsec3}
use Rattle.dsec_wire.specs.declared.nsec3.Nsec3param.{Nsec3param}
use Rattle.dsec_wire.specs.declared.soa.Soa.{Soa}
use Rattle.dsec_wire.specs.declared.target.Cname.{Cname}
use Rattle.dsec_wire.specs.declared.target.Dname.{Dname}

-- octets, and those after them
abbrev pub split_view : Bor (List ℕ) × Bor (List ℕ) → List ℕ × List ℕ
split_view it = (it.0.now, it.1.now)

-- the name that an alias leads to
abbrev pub cname_view : Cname → Labels
cname_view it = name_view it.cname

-- the name that the names below an owner lead below
abbrev pub dname_view : Dname → Labels
dname_view it = name_view it.dname

-- the start of a zone, as the code has it
abbrev pub soa_view : Soa → views.Soa
soa_view it = record {
  mname = name_view it.mname;
  rname = name_view it.rname;
  serial = it.serial;
  refresh = it.refresh;
  retry = it.retry;
  expire = it.expire;
  minimum = it.minimum;
}

-- a delegation signer of the code
abbrev pub ds_view : Ds → records.Ds
ds_view it = record { tag = it.key_tag; algorithm = it.algorithm; digest_type = it.digest_type; digest = it.digest.now }

-- an NSEC record's data, as the code has them
abbrev pub nsec_view : Nsec → views.Nsec
nsec_view it = record { next_name = name_view it.next_name; types = it.types.now }

-- how hashes are made, as the code has it
abbrev pub hashing_view : Nsec3param → Hashing
hashing_view it = record { hash_algorithm = it.hash_algorithm; flags = it.flags; iterations = it.iterations; salt = it.salt.now }

-- an NSEC3 record's data, as the code has them
abbrev pub nsec3_view : Nsec3 → views.Nsec3
nsec3_view it = record {
  hashing = record { hash_algorithm = it.hash_algorithm; flags = it.flags; iterations = it.iterations; salt = it.salt.now };
  next_owner = it.next_owner.now;
  types = it.types.now;
}

-- the options of an OPT record, as octets
abbrev pub opt_view : Opt → List ℕ
opt_view it = it.options.now

-- an option, and the octets after it
abbrev pub option_and_rest : EdnsOption × Bor (List ℕ) → views.EdnsOption × List ℕ
option_and_rest it = (record { code = it.0.code; octets = it.0.octets.now }, it.1.now)

-- the name that data say, where they are a CNAME record's
abbrev pub cname_in : TypedData → Option Labels
cname_in it = if it.rtype == CNAME then target_of it.octets else None

-- the name that data say, where they are a DNAME record's
abbrev pub dname_in : TypedData → Option Labels
dname_in it = if it.rtype == DNAME then target_of it.octets else None

-- the start of a zone that data say, where they are an SOA record's
abbrev pub soa_in : TypedData → Option views.Soa
soa_in it = if it.rtype == SOA then soa_of it.octets else None

-- the delegation signer that data say, where they are a DS record's
abbrev pub ds_in : TypedData → Option records.Ds
ds_in it = if it.rtype == DS then ds_of it.octets else None

-- what an NSEC record's data say
abbrev pub nsec_in : TypedData → Option views.Nsec
nsec_in it = if it.rtype == NSEC then nsec_of it.octets else None

-- what an NSEC3 record's data say
abbrev pub nsec3_in : TypedData → Option views.Nsec3
nsec3_in it = if it.rtype == NSEC3 then nsec3_of it.octets else None

-- what an NSEC3PARAM record's data say
abbrev pub nsec3param_in : TypedData → Option Hashing
nsec3param_in it = if it.rtype == NSEC3PARAM then nsec3param_of it.octets else None

-- the octets of the options, where the data are an OPT record's; OPT data are any octets (RFC 6891 6.1.2)
abbrev pub opt_in : TypedData → Option (List ℕ)
opt_in it = if it.rtype == OPT then Some it.octets else None
