-- One SOA record at the apex, none, or several.
use Rattle.std.proofs.Common.{◌≡◌, ◌≢◌, ◌==◌, ◌<◌, ◌≤◌, ℕ, Some, None, Bool, true, false, cond, List, [], ◌∷◌, length, refl, sym, ap, arith}
use Rattle.std.specs.Prelude.{if◌then◌else◌}
use Rattle.std.proofs.lemmas.Bool.{eqb-true, lt-ltb, le-ltb}
use Rattle.dsec_spec.specs.Names.{Place, place, same_place}
use Rattle.dsec_spec.specs.Numbers.{SOA}
use Rattle.dsec_spec.specs.Records.{Record}
use Rattle.dsec_spec.specs.RecordViews.{Soa, soa_of}
use Rattle.dsec_spec.specs.NsecChains.{lesser, IsChainTtl}
use Rattle.dsec_spec.specs.ZonesOfRecords.{is_soa_at, soas_at}
use Rattle.dsec_spec.proofs.Choosing.{both}
use Rattle.dsec_spec.proofs.Members.{from_filter, first_in}

pub soa_passes : (apex : Place) (r : Record) (rest : List Record) → is_soa_at apex r ≡ true → soas_at apex (r ∷ rest) ≡ r ∷ soas_at apex rest
soa_passes apex r rest h = ap (λ (b : Bool). cond b (r ∷ soas_at apex rest) (soas_at apex rest)) h

pub soa_fails : (apex : Place) (r : Record) (rest : List Record) → is_soa_at apex r ≡ false → soas_at apex (r ∷ rest) ≡ soas_at apex rest
soa_fails apex r rest h = ap (λ (b : Bool). cond b (r ∷ soas_at apex rest) (soas_at apex rest)) h

pub none_of : (xs : List Record) → xs ≡ [] → length xs ≢ 1
none_of xs e h = absurd (omega (arith, ap length e, h))

pub several : (xs ys zs : List Record) (r s : Record) → xs ≡ r ∷ ys → ys ≡ s ∷ zs → length xs ≢ 1
several xs ys zs r s e f h = absurd (omega (arith, ap length e, ap length f, h))

pub one_of : (xs : List Record) (r : Record) → xs ≡ r ∷ [] → length xs ≡ 1
one_of xs r e = omega (arith, ap length e)

-- the record found is an SOA record
pub is_soa : (apex : Place) (records : List Record) (soa : Record) → soas_at apex records ≡ soa ∷ [] → soa.rtype ≡ SOA
is_soa apex records soa one =
    let f = from_filter (is_soa_at apex) records soa (rw one (first_in soa [])) in
    let b = both (soa.rtype == SOA) (same_place (place soa.owner) apex) f.0 in
    eqb-true soa.rtype SOA b.0

-- how long the records of a chain are kept
pub ttl_is : (soa : Record) (start : Soa) (ttl : ℕ) → soa.rtype ≡ SOA → Some start ≡ (if soa.rtype == SOA then soa_of soa.rdata else None) → ttl ≡ lesser soa.ttl start.minimum → IsChainTtl soa ttl
ttl_is soa start ttl kind says is = record { start = start; says = sym (rw kind at says); is = is }

pub lesser_first : (m n : ℕ) → m < n → m ≡ lesser m n
lesser_first m n h = rw (lt-ltb m n h) refl

pub lesser_second : (m n : ℕ) → n ≤ m → n ≡ lesser m n
lesser_second m n h = rw (le-ltb m n h) refl
