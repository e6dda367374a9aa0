-- NSEC3 records made one after the other are the chain of the names that were hashed.
use Rattle.std.proofs.Common.{◌≡◌, ℕ, suc, nat_eq, false, List, [], ◌∷◌, ◌++◌, map, refl, sym, ap, ◌∙◌, append_assoc, subst, arith}
use Rattle.std.specs.Prelude.{All}
use Rattle.std.specs.List.{list_any}
use Rattle.std.proofs.lemmas.List.{append-nil}
use Rattle.dsec_spec.specs.Names.{Labels, Place, place}
use Rattle.dsec_spec.specs.Records.{Record}
use Rattle.dsec_spec.specs.RecordViews.{Hashing}
use Rattle.dsec_spec.specs.Base32hex.{base32hex}
use Rattle.dsec_spec.specs.TypeBitmaps.{IsBitmapOf}
use Rattle.dsec_spec.specs.Zones.{Zone}
use Rattle.dsec_spec.specs.ZonesOfRecords.{soas_at}
use Rattle.dsec_spec.specs.DenyingRecords.{hash_by}
use Rattle.dsec_spec.specs.NsecChains.{IsChainTtl}
use Rattle.dsec_spec.specs.OwnersInside.{Inside}
use Rattle.dsec_spec.specs.HashedNames.{types_at, hashed_zone}
use Rattle.dsec_spec.specs.Nsec3Chains.{IsNsec3Of, first_name, AreNsec3sOf, nsec3param_record, IsNsec3Chain}
use Rattle.dsec_wire.specs.TypedData.{TypedData}
use Rattle.dsec_hashed.specs.HashedTypes.{Standing, hashed_as, hashed_types}
use Rattle.dsec_hashed.specs.Hashed.{place_of, AreHashed, has_twins}
use Rattle.dsec_hashed.specs.Nsec3Made.{IsMadeOf, hash_after, AreMade, AreMadeOf}
use Rattle.dsec_hashed.proofs.Assembled.{names_rise}

-- ---- one after the other

-- with whatever records of the names that are left, those that were made are the records of all
abbrev pub GoesOn : Hashing → Labels → ℕ → ℕ → List ℕ → List Standing → List Standing → List Record → Type 0
GoesOn how apex class ttl first all rest made = (more : List Record) → AreMade how apex class ttl first rest more → AreMade how apex class ttl first all (made ++ more)

pub one_more : (how : Hashing) (apex : Labels) (class ttl : ℕ) (first : List ℕ) (all : List Standing) (one : Standing) (rest : List Standing) (made : List Record) (r : Record)
    → GoesOn how apex class ttl first all (one ∷ rest) made → IsMadeOf how apex class ttl one (hash_after first rest) r → GoesOn how apex class ttl first all rest (made ++ r ∷ [])
one_more how apex class ttl first all one rest made r so is more h =
    subst (λ (xs : List Record). AreMade how apex class ttl first all xs) (sym (append_assoc made (r ∷ []) more)) (so (r ∷ more) (is, h))

pub all_made : (how : Hashing) (apex : Labels) (class ttl : ℕ) (first : List ℕ) (all : List Standing) (made : List Record) → GoesOn how apex class ttl first all [] made → AreMade how apex class ttl first all made
all_made how apex class ttl first all made so = subst (λ (xs : List Record). AreMade how apex class ttl first all xs) (append-nil made) (so [] tt)

-- ---- the records of names

of_types : (types others bitmap : List ℕ) → ((t : ℕ) → list_any (nat_eq t) types ≡ list_any (nat_eq t) others) → IsBitmapOf types bitmap → IsBitmapOf others bitmap
of_types types others bitmap same of = record { blocks = of.blocks; are = of.are; rise = of.rise; ends = of.ends; has = λ t small. of.has t small ∙ same t }

made_of : (how : Hashing) (apex : Labels) (z : Zone) (class ttl : ℕ) (o : Inside) (next : Place) (hash : List ℕ) (r : Record)
    → ((t : ℕ) → list_any (nat_eq t) (hashed_types (place apex) (hashed_as how o)) ≡ list_any (nat_eq t) (types_at z (place o.name))) → hash ≡ hash_by how next
    → IsMadeOf how apex class ttl (hashed_as how o) hash r → IsNsec3Of how apex z class ttl (place o.name) next r
made_of how apex z class ttl o next hash r types is made =
    let it = made.data_is in
    record {
      nsec3 = it.nsec3;
      hashing = it.hashing;
      next_is = it.next_is ∙ is;
      types = of_types (hashed_types (place apex) (hashed_as how o)) (types_at z (place o.name)) it.nsec3.types types it.bitmap;
      is = made.is ∙ ap (λ (d : TypedData). record { owner = base32hex (hash_by how (place o.name)) ∷ apex; class = class; rtype = d.rtype; ttl = ttl; rdata = d.octets }) it.is;
      owner = made.owner;
      says = it.says;
    }

module _ (how : Hashing) (apex : Labels) (z : Zone) (class ttl : ℕ) (first : Place) where
  next_is : (named : List Inside) → hash_after (hash_by how first) (map (hashed_as how) named) ≡ hash_by how (first_name first (map place_of named))
  next_is [] = refl
  next_is (o ∷ named) = refl

  each_made : (named : List Inside) (nsec3s : List Record)
      → All (λ (o : Inside). (t : ℕ) → list_any (nat_eq t) (hashed_types (place apex) (hashed_as how o)) ≡ list_any (nat_eq t) (types_at z (place o.name))) named
      → AreMade how apex class ttl (hash_by how first) (map (hashed_as how) named) nsec3s → AreNsec3sOf how apex z class ttl first (map place_of named) nsec3s
  each_made [] [] types made = tt
  each_made [] (r ∷ nsec3s) types made = made
  each_made (o ∷ named) [] types made = made
  each_made (o ∷ named) (r ∷ nsec3s) types made = (
    made_of how apex z class ttl o (first_name first (map place_of named)) (hash_after (hash_by how first) (map (hashed_as how) named)) r (types 0 o (omega arith)) (next_is named) made.0,
    each_made named nsec3s (λ k d lt. types (suc k) d (omega arith)) made.1,
  )

-- the same in a circle
circle_made : (how : Hashing) (apex : Labels) (z : Zone) (class ttl : ℕ) (named : List Inside) (nsec3s : List Record)
    → All (λ (o : Inside). (t : ℕ) → list_any (nat_eq t) (hashed_types (place apex) (hashed_as how o)) ≡ list_any (nat_eq t) (types_at z (place o.name))) named
    → AreMadeOf how apex class ttl (map (hashed_as how) named) nsec3s → AreNsec3sOf how apex z class ttl (first_name (place apex) (map place_of named)) (map place_of named) nsec3s
circle_made how apex z class ttl [] [] types made = tt
circle_made how apex z class ttl [] (r ∷ nsec3s) types made = made
circle_made how apex z class ttl (o ∷ named) nsec3s types made = each_made how apex z class ttl (place o.name) (o ∷ named) nsec3s types made

-- the chain
pub chained : (how : Hashing) (apex : Labels) (records nsec3s : List Record) (param : Record) (standing : List Standing) (soa : Record) (ttl : ℕ)
    → soas_at (place apex) records ≡ soa ∷ [] → IsChainTtl soa ttl → AreHashed how (place apex) records standing → has_twins standing ≡ false
    → AreMadeOf how apex soa.class ttl standing nsec3s → param ≡ nsec3param_record how apex soa.class ttl → IsNsec3Chain how apex records nsec3s param
chained how apex records nsec3s param standing soa ttl one kept are none made is = record {
  soa = soa;
  one = one;
  ttl = ttl;
  kept = kept;
  names = map place_of are.named;
  are = are.are;
  rise = names_rise how (place apex) records standing are none;
  each = circle_made how apex (hashed_zone (place apex) records) soa.class ttl are.named nsec3s are.types (subst (λ (xs : List Standing). AreMadeOf how apex soa.class ttl xs nsec3s) are.is made);
  param_is = is;
}
