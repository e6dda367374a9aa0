-- Why a record wasn't inserted.
use Rattle.std.specs.Prelude.{◌≡◌, ◌≤◌, ℕ, false, true, List, length}
use Rattle.std.specs.List.{list_any}
use Rattle.std.specs.List.Sorted.{IsPartitionPoint}
use Rattle.std.specs.declared.cmp.Ordering.TheVariants.{Less, Greater}
use Rattle.dsec_spec.specs.CanonicalRecords.{record_cmp}
use Rattle.dsec_spec.specs.Groups.{are_duplicates}
use Rattle.dsec_spec.specs.Records.{Record}
use Rattle.dsec_sorted.specs.declared.sorted.InsertError.{InsertError}
use Rattle.dsec_sorted.specs.declared.sorted.InsertError.TheVariants.{Duplicate, NoMemory}

-- a duplicate of the record is there, or isn't
abbrev pub IsPresent : Record → List Record → Type 0
IsPresent r records = list_any (are_duplicates r) records ≡ true

abbrev pub IsNew : Record → List Record → Type 0
IsNew r records = list_any (are_duplicates r) records ≡ false

-- the record is given back: where a duplicate is there as such, and else for want of memory
abbrev pub IsReason : InsertError → Record → List Record → Type 0
IsReason (Duplicate given) r records = (given ≡ r) × IsPresent r records
IsReason (NoMemory given) r records = (given ≡ r) × IsNew r records

-- the place of a record among others in order: those before it are less, and those from there on greater
pub record IsPlace (r : Record) (records : List Record) (at : ℕ) : Type 0 where
  pub within : at ≤ length records
  pub parts : IsPartitionPoint (λ s. record_cmp s r ≡ Less) (λ s. record_cmp s r ≡ Greater) records at
