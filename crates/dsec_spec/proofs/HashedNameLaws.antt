-- The names that a zone hashes exist; with what is added for its hashes no name is added; and what it doesn't hash is opted out.
use Rattle.std.proofs.Common.{◌≡◌, ℕ, Bool, true, false, ◌&&◌, ◌==◌, List, [], ◌∷◌, map, refl, sym, ap, ◌∙◌, subst, inl, inr, ◌⊎◌, arith, eqb-true, eq-eqb}
use Rattle.std.specs.Prelude.{Contains, filter}
use Rattle.std.specs.List.{list_any}
use Rattle.std.proofs.lemmas.Bool.{true≢false}
use Rattle.dsec_spec.specs.Names.{Place, place, same_place}
use Rattle.dsec_spec.specs.Numbers.{NS, DS, RRSIG, NSEC3PARAM}
use Rattle.dsec_spec.specs.Records.{Record}
use Rattle.dsec_spec.specs.RecordViews.{Hashing}
use Rattle.dsec_spec.specs.Zones.{Zone, Owns, Stands, IsInsecureDelegation, Exists}
use Rattle.dsec_spec.specs.ZonesOfRecords.{is_of_zone, set_key, zone_of, soas_at}
use Rattle.dsec_spec.specs.DenialTruth.{IsFree}
use Rattle.dsec_spec.specs.SetsToSign.{to_sign, is_to_sign}
use Rattle.dsec_spec.specs.HashedNames.{has_opt_out, IsHashed, HasCollision, types_at, signature_key, hashed_zone}
use Rattle.dsec_spec.proofs.CanonicalNames.{same_place_decides}
use Rattle.dsec_spec.proofs.Choosing.{both}
use Rattle.dsec_spec.proofs.Members.{in_more, in_front, in_either, in_map, from_map, in_filter, from_filter, some_passes, none_passes}
use Rattle.dsec_spec.proofs.ZoneOfLaws.{apex_stands}

-- ---- what stands, as tests

abbrev key_is : Place → ℕ → Place × ℕ → Bool
key_is n t s = same_place s.0 n && (s.1 == t)

key_same : (n : Place) (t : ℕ) (s : Place × ℕ) → key_is n t s ≡ true → s ≡ (n, t)
key_same n t s h =
    let b = both (same_place s.0 n) (s.1 == t) h in
    ap (λ (p : Place). (p, s.1)) ((same_place_decides s.0 n).0 b.0) ∙ ap (λ (u : ℕ). (n, u)) (eqb-true s.1 t b.1)

key_passes : (n : Place) (t : ℕ) → key_is n t (n, t) ≡ true
key_passes n t = rw ((same_place_decides n n).1 refl) (eq-eqb t t refl)

pub owns_or_not : (z : Zone) (n : Place) (t : ℕ) → Owns z n t ⊎ (Owns z n t → ⊥)
owns_or_not z n t = by (list_any (key_is n t) z.sets) refl
  where
    by : (b : Bool) → list_any (key_is n t) z.sets ≡ b → Owns z n t ⊎ (Owns z n t → ⊥)
    by true e = let f = some_passes (key_is n t) z.sets e in inl (subst (λ (s : Place × ℕ). Contains z.sets s) (key_same n t f.0 f.2) f.1)
    by false e = inr (λ h. true≢false (sym (key_passes n t) ∙ none_passes (key_is n t) z.sets e (n, t) h))

places_same : (m n : Place) → (m ≡ n) ⊎ (m ≡ n → ⊥)
places_same m n = by (same_place m n) refl
  where
    by : (b : Bool) → same_place m n ≡ b → (m ≡ n) ⊎ (m ≡ n → ⊥)
    by true e = inl ((same_place_decides m n).0 e)
    by false e = inr (λ h. true≢false (sym ((same_place_decides m n).1 h) ∙ e))

pub insecure_or_not : (z : Zone) (n : Place) → IsInsecureDelegation z n ⊎ (IsInsecureDelegation z n → ⊥)
insecure_or_not z n = elim (owns_or_not z n DS) [
  | inl ds ↦ inr (λ h. h.1 ds)
  | inr none ↦ elim (owns_or_not z n NS) [
    | inr no_cut ↦ inr (λ h. no_cut h.0.ns)
    | inl ns ↦ elim (places_same n z.apex) [
      | inl top ↦ inr (λ h. h.0.below top)
      | inr below ↦ inl (record { ns = ns; below = below }, none)
    ]
  ]
]

-- the types at a name are those that it owns
pub types_at_owned : (z : Zone) (n : Place) (t : ℕ) → Contains (types_at z n) t → Owns z n t
types_at_owned z n t h =
    let m = from_map (λ (s : Place × ℕ). s.1) (filter (λ (s : Place × ℕ). same_place s.0 n) z.sets) t h in
    let f = from_filter (λ (s : Place × ℕ). same_place s.0 n) z.sets m.0 m.1 in
    let is : m.0 ≡ (n, t) = ap (λ (p : Place). (p, m.0.1)) ((same_place_decides m.0.0 n).0 f.0) ∙ ap (λ (u : ℕ). (n, u)) m.2 in
    subst (λ (s : Place × ℕ). Contains z.sets s) is f.1

pub owned_types_at : (z : Zone) (n : Place) (t : ℕ) → Owns z n t → Contains (types_at z n) t
owned_types_at z n t h =
    in_map (λ (s : Place × ℕ). s.1) (filter (λ (s : Place × ℕ). same_place s.0 n) z.sets) (n, t)
    (in_filter (λ (s : Place × ℕ). same_place s.0 n) z.sets (n, t) h ((same_place_decides n n).1 refl))

-- ---- what the zone hashes

pub hashed_exists : (opt_out : Bool) (z : Zone) (n : Place) → IsHashed opt_out z n → Exists z n
hashed_exists opt_out z n h = record { within = h.within; owner = h.owner; stands = h.stands; at_or_below = h.at_or_below }

-- without Opt-Out each name that exists
pub exists_hashed : (z : Zone) (n : Place) → Exists z n → IsHashed false z n
exists_hashed z n e = record { within = e.within; owner = e.owner; stands = e.stands; owes = λ out h. true≢false (sym out); at_or_below = e.at_or_below }

-- where no two names share a hash, there is no collision
pub free_no_collision : (how : Hashing) (z : Zone) → IsFree how z (λ _. ⊥) → HasCollision how z → ⊥
free_no_collision how z free c =
    c.differ (free c.first c.second (inl (hashed_exists (has_opt_out how) z c.first c.hashes_first)) (inl (hashed_exists (has_opt_out how) z c.second c.hashes_second)) c.alike)

-- ---- what is added for the hashes

module _ (apex : Place) (records : List Record) where
  abbrev signed : List Record
  signed = filter (is_of_zone apex records) (to_sign apex records)

  -- what stood stands
  pub stands_still : (n : Place) (t : ℕ) → Owns (zone_of apex records) n t → Owns (hashed_zone apex records) n t
  stands_still n t h = in_front (n, t) (zone_of apex records).sets ((apex, NSEC3PARAM) ∷ map signature_key signed) h

  pub from_signed : (r : Record) → Contains (filter (is_of_zone apex records) (to_sign apex records)) r → Owns (zone_of apex records) (place r.owner) r.rtype
  from_signed r h =
      let f = from_filter (is_of_zone apex records) (to_sign apex records) r h in
      let g = from_filter (is_to_sign apex records) records r f.1 in
      in_map set_key (filter (is_of_zone apex records) records) r (in_filter (is_of_zone apex records) records r g.1 f.0)

  -- and what stands stood, or is NSEC3PARAM at the apex, or RRSIG where a set is signed
  pub stood_or_added : (n : Place) (t : ℕ) → Owns (hashed_zone apex records) n t → Owns (zone_of apex records) n t
      ⊎ (((n ≡ apex) × (t ≡ NSEC3PARAM)) ⊎ ((t ≡ RRSIG) × ((r : Record) × Contains (filter (is_of_zone apex records) (to_sign apex records)) r × (place r.owner ≡ n))))
  stood_or_added n t h = elim (in_either (n, t) (zone_of apex records).sets ((apex, NSEC3PARAM) ∷ map signature_key signed) h) [
    | inl old ↦ inl old
    | inr new ↦ inr (elim (in_more (apex, NSEC3PARAM) (n, t) (map signature_key signed) new) [
      | inl param ↦ inl (sym (ap (λ (s : Place × ℕ). s.0) param), sym (ap (λ (s : Place × ℕ). s.1) param))
      | inr later ↦ let m = from_map signature_key signed (n, t) later in inr (sym (ap (λ (s : Place × ℕ). s.1) m.2), (m.0, m.1, ap (λ (s : Place × ℕ). s.0) m.2))
    ])
  ]

  module _ (soa : Record) (one : soas_at apex records ≡ soa ∷ []) where
    -- no name is added
    pub stood : (n : Place) → Stands (hashed_zone apex records) n → Stands (zone_of apex records) n
    stood n s = elim (stood_or_added n s.0 s.1) [
      | inl old ↦ (s.0, old)
      | inr added ↦ elim added [
        | inl param ↦ subst (λ (p : Place). Stands (zone_of apex records) p) (sym param.0) (apex_stands apex records soa one)
        | inr by_set ↦ let r = by_set.1 in (r.0.rtype, subst (λ (p : Place). Owns (zone_of apex records) p r.0.rtype) r.2 (from_signed r.0 r.1))
      ]
    ]

    pub existed : (n : Place) → Exists (hashed_zone apex records) n → Exists (zone_of apex records) n
    existed n e = record { within = e.within; owner = e.owner; stands = stood e.owner e.stands; at_or_below = e.at_or_below }

  pub exists_still : (n : Place) → Exists (zone_of apex records) n → Exists (hashed_zone apex records) n
  exists_still n e = record { within = e.within; owner = e.owner; stands = (e.stands.0, stands_still e.owner e.stands.0 e.stands.1); at_or_below = e.at_or_below }

  pub insecure_still : (n : Place) → IsInsecureDelegation (zone_of apex records) n → IsInsecureDelegation (hashed_zone apex records) n
  insecure_still n h = (
    record { ns = stands_still n NS h.0.ns; below = h.0.below },
    λ ds. elim (stood_or_added n DS ds) [
      | inl old ↦ h.1 old
      | inr added ↦ elim added [
        | inl param ↦ absurd (let e = param.1 in omega (arith, e))
        | inr by_set ↦ absurd (let e = by_set.0 in omega (arith, e))
      ]
    ],
  )
