-- By which signed records it is known that no zone begins at a name (RFC 1034 3.6.2, RFC 4034 4.1, RFC 4592 2.2.2, RFC 5155 3).
use Rattle.std.specs.Prelude.{◌≡◌, ◌⊎◌, ℕ, ◌&&◌, List, [], ◌∷◌, Some, false}
use Rattle.std.proofs.Math.Bool.{not}
use Rattle.dsec_spec.specs.Names.{Place, place, IsAtOrBelow, IsStrictlyBelow}
use Rattle.dsec_spec.specs.Numbers.{IN, NS, SOA, DS, CNAME, DNAME, NSEC}
use Rattle.dsec_spec.specs.Records.{Record, RecordSet, Rrsig, rrsig_of}
use Rattle.dsec_spec.specs.RecordViews.{Nsec, nsec_of}
use Rattle.dsec_spec.specs.DenyingRecords.{NsecAt, Matches, Covers, has, next_of, owner_of, MatchesHash, has_hashed}
use Rattle.dsec_spec.specs.Accepts.{Accepts}
use Rattle.dsec_spec.specs.SignedBytes.{IsExpansion}
use Rattle.dsec_spec.specs.Chain.{Link, IsSetLink, IsChain}
use Rattle.dsec_nodes.specs.SignedCauses.{nsec_at, IsHashed, nsec3_at}

-- one CNAME record at the name, beside which no DNSKEY set can stand (RFC 1034 3.6.2, RFC 2181 10.1)
pub record HasAlias (c : Place) (set : RecordSet) : Type 0 where
  pub of_type : set.rtype ≡ CNAME
  pub at : place set.owner ≡ c
  pub rdata : List ℕ
  pub alone : set.datas ≡ rdata ∷ []

-- one NSEC record of a set (RFC 4034 4)
pub record IsOneNsec (set : RecordSet) (r : NsecAt) : Type 0 where
  pub of_type : set.rtype ≡ NSEC
  pub rdata : List ℕ
  pub alone : set.datas ≡ rdata ∷ []
  pub nsec : Nsec
  pub reads : nsec_of rdata ≡ Some nsec
  pub is : r ≡ nsec_at set nsec

-- an NSEC record, the name's own, without NS, DS and SOA: neither a delegation nor a zone's apex (RFC 4034 4.1.2)
pub record HasNoCut (c : Place) (r : NsecAt) : Type 0 where
  pub matches : Matches r c
  pub no_delegation : has r NS ≡ false
  pub no_ds : has r DS ≡ false
  pub no_apex : has r SOA ≡ false

-- an NSEC record with the name in its gap, and its next name below it: the name is an empty non-terminal (RFC 4592 2.2.2); where the record
-- stands above the name, it is neither one with DNAME nor that of a delegation (RFC 6840 4.1)
pub record HasNamesBelow (c : Place) (r : NsecAt) : Type 0 where
  pub covers : Covers r c
  pub next_below : IsAtOrBelow (next_of r) c
  pub no_dname : IsStrictlyBelow c (owner_of r) → has r DNAME ≡ false
  pub no_delegation : IsStrictlyBelow c (owner_of r) → (has r NS && not (has r SOA)) ≡ false

-- an NSEC3 record of the zone that matches the name, without NS, DS and SOA: neither a delegation nor a zone's apex (RFC 5155 3.1.8)
pub record HasNoCutByHash (c zone : Place) (set : RecordSet) : Type 0 where
  pub hashed : IsHashed zone set
  pub matches : MatchesHash (nsec3_at zone set hashed) c
  pub no_delegation : has_hashed (nsec3_at zone set hashed) NS ≡ false
  pub no_ds : has_hashed (nsec3_at zone set hashed) DS ≡ false
  pub no_apex : has_hashed (nsec3_at zone set hashed) SOA ≡ false

-- what a set of a zone shows: that no zone begins at the name (RFC 1034 4.2)
abbrev pub ShowsNoZone : Place → Place → RecordSet → Type 0
ShowsNoZone c zone set =
    HasAlias c set ⊎ (((r : NsecAt) × IsOneNsec set r × (HasNoCut c r ⊎ HasNamesBelow c r)) ⊎ HasNoCutByHash c zone set)

-- A chain leads from the anchor by the links to the zone's keys, and by the last link one of these has signed a set of class IN that is no
-- expansion of a wildcard and shows that no zone begins at the name, which is below the zone (RFC 4035 5.2, 5.3.4)
pub record IsShownWithin (accepts : Accepts) (anchor : Record) (c zone : Place) (links : List Link) (last : Link) (t : ℕ) : Type 0 where
  pub keys : List (List ℕ)
  pub leads : IsChain accepts (anchor ∷ []) links zone keys t
  pub is_set : IsSetLink accepts zone keys last t
  pub below : IsStrictlyBelow c zone
  pub of_class : last.records.class ≡ IN
  pub signature : Rrsig
  pub reads : rrsig_of last.rrsig ≡ Some signature
  pub no_expansion : IsExpansion signature.labels last.records.owner → ⊥
  pub shows : ShowsNoZone c zone last.records
