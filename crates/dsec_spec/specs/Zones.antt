-- Zones, as the types that each name owns (RFC 1034 4.2, RFC 4035 2, RFC 4592 2.2).
use Rattle.std.specs.Prelude.{◌≡◌, ◌≢◌, ℕ, List, [], ◌∷◌, ◌++◌, Contains, map}
use Rattle.std.specs.List.{flat_map}
use Rattle.dsec_spec.specs.Names.{Place, IsAtOrBelow, IsStrictlyBelow, asterisk}
use Rattle.dsec_spec.specs.Numbers.{NS, SOA, DS}

-- a zone: its apex, and each owner with each type that stands there
pub record Zone : Type 0 where
  pub apex : Place
  pub sets : List (Place × ℕ)

-- a set of this type stands at the name
abbrev pub Owns : Zone → Place → ℕ → Type 0
Owns z n t = Contains z.sets (n, t)

-- a set stands at the name
abbrev pub Stands : Zone → Place → Type 0
Stands z n = (t : ℕ) × Owns z n t

-- another zone begins at the name (RFC 1034 4.2, RFC 9499, delegation)
pub record IsDelegation (z : Zone) (n : Place) : Type 0 where
  pub ns : Owns z n NS
  pub below : n ≢ z.apex

-- another zone begins at the name, without DS (RFC 4035 5.2, RFC 5155 6)
abbrev pub IsInsecureDelegation : Zone → Place → Type 0
IsInsecureDelegation z n = IsDelegation z n × (Owns z n DS → ⊥)

-- the apex has SOA and NS, SOA stands nowhere else, and nothing stands outside, or below a delegation (RFC 1034 4.2.1, RFC 2181 6)
pub record IsZone (z : Zone) : Type 0 where
  pub soa : Owns z z.apex SOA
  pub ns : Owns z z.apex NS
  pub within : (n : Place) (t : ℕ) → Owns z n t → IsAtOrBelow n z.apex
  pub one_soa : (n : Place) → Owns z n SOA → n ≡ z.apex
  pub nothing_below_cuts : (cut n : Place) → IsDelegation z cut → IsStrictlyBelow n cut → Stands z n → ⊥

-- the name exists: it is in the zone, and a set stands at it or under it; where none stands at it, it is an empty non-terminal
-- (RFC 4592 2.2.2, 2.2.3)
pub record Exists (z : Zone) (n : Place) : Type 0 where
  pub within : IsAtOrBelow n z.apex
  pub owner : Place
  pub stands : Stands z owner
  pub at_or_below : IsAtOrBelow owner n

-- c is the longest of the names above n that exist (RFC 4592 3.3.1, RFC 5155 1.3)
pub record IsClosestEncloser (z : Zone) (n c : Place) : Type 0 where
  pub above : IsStrictlyBelow n c
  pub found : Exists z c
  pub longest : (m : Place) → IsStrictlyBelow n m → Exists z m → IsAtOrBelow c m

-- m is one label longer than c, towards n (RFC 5155 1.3)
pub record IsNextCloser (n c m : Place) : Type 0 where
  pub label : List ℕ
  pub is : m ≡ c ++ label ∷ []
  pub towards : IsAtOrBelow n m

-- `*` under a name (RFC 4592 2.1.1)
abbrev pub wildcard : Place → Place
wildcard c = c ++ asterisk ∷ []

-- the name with each of the types
abbrev pub each_type : List ℕ → Place → List (Place × ℕ)
each_type types n = map (λ (t : ℕ). (n, t)) types

-- the zone with these types added at each of its names
abbrev pub with_types : List ℕ → Zone → Zone
with_types types z = record { apex = z.apex; sets = z.sets ++ flat_map (λ (s : Place × ℕ). each_type types s.0) z.sets }
