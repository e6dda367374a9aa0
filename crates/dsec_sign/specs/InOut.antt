-- A zone that is to be signed, and where its chain and its signatures go.
use Rattle.std.specs.Prelude.{◌⊎◌, List, ⊤}
use Rattle.std.specs.Borrow.{Bor, MutBor}
use Rattle.std.proofs.Common.{inl, inr}
use Rattle.dsec_spec.specs.Records.{Record}
use Rattle.dsec_sign.specs.declared.in_out.SignableZoneInOut.{SignableZoneInOut}
use Rattle.dsec_sign.specs.declared.in_out.SignableZoneInOut.TheVariants.{SignInPlace, SignInto}

-- what a call leaves of it: the zone itself; or the zone as it was, and the other records
abbrev pub Left : Type 0 → Type 0 → Type 0
Left S T = (MutBor T × Unit {0}) ⊎ ((Bor S × (MutBor T × Unit {0})) ⊎ ⊥)

-- the records of the zone
abbrev pub zone_records : {S T : Type 0} → (S → List Record) → (T → List Record) → SignableZoneInOut S T → List Record
zone_records of_zone in_place (SignInPlace zone) = in_place zone.now
zone_records of_zone in_place (SignInto zone out) = of_zone zone.now

-- the records that the chain and the signatures are added to
abbrev pub old_records : {S T : Type 0} → (T → List Record) → (T → List Record) → SignableZoneInOut S T → List Record
old_records in_place of_out (SignInPlace zone) = in_place zone.now
old_records in_place of_out (SignInto zone out) = of_out out.now

-- what became of these holds to something
abbrev pub EndsAs : {S T : Type 0} → (T → List Record) → (T → List Record) → SignableZoneInOut S T → Left S T → (List Record → Type 0) → Type 0
EndsAs in_place of_out (SignInPlace _) (inl left) Holds = Holds (in_place left.0.now)
EndsAs in_place of_out (SignInto _ _) (inr (inl left)) Holds = Holds (of_out left.1.0.now)
EndsAs in_place of_out _ _ Holds = ⊥

-- the same, if the zone is signed in place
abbrev pub EndsInPlaceAs : {S T : Type 0} → (T → List Record) → SignableZoneInOut S T → Left S T → (List Record → Type 0) → Type 0
EndsInPlaceAs in_place (SignInPlace _) (inl left) Holds = Holds (in_place left.0.now)
EndsInPlaceAs in_place (SignInPlace _) _ Holds = ⊥
EndsInPlaceAs in_place (SignInto _ _) _ Holds = ⊤
