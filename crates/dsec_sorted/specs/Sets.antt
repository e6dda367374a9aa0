-- Record sets, as records of a slice or at places of one (RFC 2181 5).
use Rattle.std.specs.Prelude.{◌≡◌, ◌<◌, ◌==◌, ◌&&◌, ℕ, List, [], ◌∷◌, Bool, false, Option, Some, None, Contains, All, IfSome, length, slice_get}
use Rattle.std.specs.Borrow.{Bor}
use Rattle.std.specs.List.{list_any}
use Rattle.std.proofs.Math.Bool.{not}
use Rattle.dsec_spec.specs.Names.{place}
use Rattle.dsec_spec.specs.Numbers.{RRSIG}
use Rattle.dsec_spec.specs.Records.{Record}

-- the records are of one owner, class and type
abbrev pub AreOfOneSet : List Record → Type 0
AreOfOneSet records = (r s : Record) → Contains records r → Contains records s → (place r.owner ≡ place s.owner) × (r.class ≡ s.class) × (r.rtype ≡ s.rtype)

-- each place is one of the records
abbrev pub AreWithin : List Record → List ℕ → Type 0
AreWithin records places = All (λ k. k < length records) places

-- a record, if there is one, before others
abbrev pub and_then : Option Record → List Record → List Record
and_then None others = others
and_then (Some r) others = r ∷ others

-- whether there is a record that passes
abbrev pub passes_in : (Record → Bool) → Option Record → Bool
passes_in test None = false
passes_in test (Some r) = test r

-- the records at these places, in their order
abbrev pub records_at : List Record → List ℕ → List Record
records_at records [] = []
records_at records (k ∷ places) = and_then (slice_get records k) (records_at records places)

-- the records, or those at the places
abbrev pub chosen : List Record → Option (Bor (List ℕ)) → List Record
chosen records None = records
chosen records (Some places) = records_at records places.now

-- where there are places, each is one of the records
abbrev pub ArePlaces : List Record → Option (Bor (List ℕ)) → Type 0
ArePlaces records places = IfSome places (λ p. AreWithin records p.now)

-- whether records of a set differ in TTL, which those of signatures may (RFC 2181 5.2, RFC 4034 3)
abbrev pub differ_in_ttl : List Record → Bool
differ_in_ttl [] = false
differ_in_ttl (first ∷ others) = not (first.rtype == RRSIG) && list_any (λ r. not (r.ttl == first.ttl)) others
