-- The chain of denial that a zone gets.
use Rattle.std.specs.Prelude.{◌≡◌, ◌≢◌, ◌++◌, ◌∷◌, [], List, length}
use Rattle.dsec_spec.specs.Names.{Labels, place}
use Rattle.dsec_spec.specs.NsecChains.{IsNsecChain}
use Rattle.dsec_spec.specs.Nsec3Chains.{IsNsec3Chain}
use Rattle.dsec_spec.specs.RecordViews.{Hashing}
use Rattle.dsec_spec.specs.Records.{Record}
use Rattle.dsec_spec.specs.ZonesOfRecords.{soas_at}
use Rattle.dsec_chain.specs.declared.error.DenialError.TheVariants as chain_error
use Rattle.dsec_sorted.specs.declared.config.DenialConfig.{DenialConfig}
use Rattle.dsec_sorted.specs.declared.config.DenialConfig.TheVariants as denial
use Rattle.dsec_hashed.specs.Config.{hashing_of}
use Rattle.dsec_hashed.specs.Refusals.{Fits, IsRefusal}
use Rattle.dsec_rrsig.specs.declared.error.SigningError.{SigningError}
use Rattle.dsec_rrsig.specs.declared.error.SigningError.TheVariants as signing

-- the records are the NSEC3 records of the zone and its NSEC3PARAM record, and no two names share a hash
pub record AreNsec3Records (how : Hashing) (apex : Labels) (zone chain : List Record) : Type 0 where
  pub nsec3s : List Record
  pub param : Record
  pub is : chain ≡ nsec3s ++ param ∷ []
  pub are : IsNsec3Chain how apex zone nsec3s param
  pub fits : Fits how apex zone

-- the records are the chain that is asked for, of the zone that records make; none where it is there already
abbrev pub IsChainOf : DenialConfig → Labels → List Record → List Record → Type 0
IsChainOf denial.AlreadyPresent apex zone chain = chain ≡ []
IsChainOf denial.Nsec apex zone chain = IsNsecChain apex zone chain
IsChainOf (denial.Nsec3 config) apex zone chain = AreNsec3Records (hashing_of config) apex zone chain

-- why the NSEC records aren't made: the apex has no SOA record, or several; memory may be wanted at any time
abbrev pub IsNsecRefusal : Labels → List Record → SigningError → Type 0
IsNsecRefusal apex zone signing.SoaRecordCouldNotBeDetermined = length (soas_at (place apex) zone) ≢ 1
IsNsecRefusal apex zone signing.OutOfMemory = Unit {0}
IsNsecRefusal apex zone _ = ⊥

-- why the NSEC3 records aren't made: the same; else names that collide, else an owner that is too long
abbrev pub IsNsec3Refusal : Hashing → Labels → List Record → SigningError → Type 0
IsNsec3Refusal how apex zone signing.SoaRecordCouldNotBeDetermined = IsRefusal how apex zone chain_error.SoaRecordCouldNotBeDetermined
IsNsec3Refusal how apex zone (signing.Nsec3HashingError error) = IsRefusal how apex zone (chain_error.Nsec3Hashing error)
IsNsec3Refusal how apex zone signing.OutOfMemory = Unit {0}
IsNsec3Refusal how apex zone _ = ⊥

-- why the chain that is asked for isn't made
abbrev pub IsChainRefusal : DenialConfig → Labels → List Record → SigningError → Type 0
IsChainRefusal denial.AlreadyPresent apex zone error = ⊥
IsChainRefusal denial.Nsec apex zone error = IsNsecRefusal apex zone error
IsChainRefusal (denial.Nsec3 config) apex zone error = IsNsec3Refusal (hashing_of config) apex zone error
