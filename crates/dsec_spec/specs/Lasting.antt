-- For how long what a group shows may be kept (RFC 2181 5.2, RFC 4035 5.3.3).
use Rattle.std.specs.Prelude.{ℕ, nat_lt, min, max, List, [], ◌∷◌, Option, Some, None, if◌then◌else◌}
use Rattle.dsec_spec.specs.Groups.{Group}
use Rattle.dsec_spec.specs.Period.{seconds_after, in_period}
use Rattle.dsec_spec.specs.Records.{Record, Rrsig, rrsig_of}

-- the least TTL of records, and 0 of none
unfoldable pub least_ttl : List Record → ℕ
least_ttl [] = 0
least_ttl (r ∷ []) = r.ttl
least_ttl (r ∷ s ∷ rs) = min r.ttl (least_ttl (s ∷ rs))

-- the greatest TTL of records, and 0 of none
unfoldable pub greatest_ttl : List Record → ℕ
greatest_ttl [] = 0
greatest_ttl (r ∷ rs) = max r.ttl (greatest_ttl rs)

-- the greatest TTL in a group: of its records, its signatures and its extra records
abbrev pub greatest_ttl_in : Group → ℕ
greatest_ttl_in g = max (greatest_ttl g.records) (max (greatest_ttl g.signatures) (greatest_ttl g.extra))

-- how many seconds of a signature's period are left; none out of it (RFC 4034 3.1.5)
abbrev pub seconds_left : Rrsig → ℕ → ℕ
seconds_left sig t = if in_period sig.inception sig.expiration t then seconds_after t sig.expiration else 0

-- the least of a signature's TTL, its original TTL and what is left of its period
abbrev pub ttl_by : ℕ → ℕ → Option Rrsig → ℕ
ttl_by ttl t None = 0
ttl_by ttl t (Some sig) = min ttl (min sig.original_ttl (seconds_left sig t))

-- for how many seconds from the moment t what a signature record shows may be kept (RFC 4035 5.3.3)
abbrev pub ttl_for_sig : Record → ℕ → ℕ
ttl_for_sig r t = ttl_by r.ttl t (rrsig_of r.rdata)

-- the TTL that a group's records are cut to, where its signature may be kept for less than one of them says (RFC 4035 5.3.3)
abbrev pub adjusted_ttl : Group → ℕ → Option ℕ
adjusted_ttl g seconds = if nat_lt seconds (greatest_ttl_in g) then Some seconds else None
