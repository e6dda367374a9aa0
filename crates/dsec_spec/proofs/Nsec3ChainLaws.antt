-- Each NSEC3 record of a chain is true of the zone, each name that is hashed has one, and no two names share a hash.
use Rattle.std.proofs.Common.{◌≡◌, ℕ, zero, suc, ◌+◌, ◌<◌, ◌≤◌, nat_eq, Bool, true, false, List, [], ◌∷◌, length, get_or, reverse, refl, sym, ap, ◌∙◌, subst, inl, inr, arith}
use Rattle.std.specs.Prelude.{All, Any, Contains}
use Rattle.std.specs.List.{list_any}
use Rattle.std.specs.Cmp.{nat_eq_equiv}
use Rattle.std.proofs.lemmas.Bool.{eqb-true}
use Rattle.std.proofs.lemmas.List.{get_or_default}
use Rattle.std.proofs.lemmas.Map.Views.{list_any-from_Contains, Contains-from_any}
use Rattle.dsec_spec.specs.Names.{Labels, Place, place, wire_octets}
use Rattle.dsec_spec.specs.Records.{Record}
use Rattle.dsec_spec.specs.RecordViews.{Hashing, nsec3_of}
use Rattle.dsec_spec.specs.Base32hex.{base32hex}
use Rattle.dsec_spec.specs.TypeBitmaps.{has_type}
use Rattle.dsec_spec.specs.Zones.{Zone, Owns}
use Rattle.dsec_spec.specs.ZonesOfRecords.{zone_of}
use Rattle.dsec_spec.specs.DenyingRecords.{hash_by, IsBetween}
use Rattle.dsec_spec.specs.DenialTruth.{IsTrueNsec3}
use Rattle.dsec_spec.specs.HashedNames.{has_opt_out, IsHashed, HasCollision, types_at, hashed_zone}
use Rattle.dsec_spec.specs.Nsec3Chains.{hashed_owner, IsNsec3Of, first_name, AreNsec3sOf, IsNsec3Chain}
use Rattle.dsec_spec.proofs.BitmapLaws.{reads_back}
use Rattle.dsec_spec.proofs.Base32hexLaws.{base32hex_back}
use Rattle.dsec_spec.proofs.HashOctets.{hash_octets}
use Rattle.dsec_spec.proofs.HashCircle.{one_name, none_between}
use Rattle.dsec_spec.proofs.HashedNameLaws.{insecure_or_not, types_at_owned, owned_types_at, exists_hashed, hashed_exists, stood, existed, exists_still, insecure_still}

-- the record is that of the name at an index
record IsLink (how : Hashing) (apex : Labels) (z : Zone) (class ttl : ℕ) (first : Place) (names : List Place) (k : ℕ) (r : Record) : Type 0 where
  pub name : Place
  pub here : (d : Place) → get_or names k d ≡ name
  pub next : Place
  pub is : IsNsec3Of how apex z class ttl name next r
  pub follows : k + 1 < length names → (d : Place) → get_or names (k + 1) d ≡ next
  pub ends : length names ≤ k + 1 → first ≡ next

module _ (how : Hashing) (apex : Labels) (z : Zone) (class ttl : ℕ) (first : Place) where
  -- there is one record of each name
  same_count : (names : List Place) (nsec3s : List Record) → AreNsec3sOf how apex z class ttl first names nsec3s → length nsec3s ≡ length names
  same_count [] [] h = refl
  same_count [] (r ∷ nsec3s) h = absurd h
  same_count (n ∷ names) [] h = absurd h
  same_count (n ∷ names) (r ∷ nsec3s) h = ap (λ (k : ℕ). suc k) (same_count names nsec3s h.1)

  link_of : (n : Place) (names : List Place) (r : Record) → IsNsec3Of how apex z class ttl n (first_name first names) r → IsLink how apex z class ttl first (n ∷ names) 0 r
  link_of n names r it = record {
    name = n;
    here = λ d. refl;
    next = first_name first names;
    is = it;
    follows = λ more d. follows names d (omega (arith, more));
    ends = λ none. ends names (omega (arith, none));
  }
    where
      follows : (names : List Place) (d : Place) → 0 < length names → get_or names 0 d ≡ first_name first names
      follows [] d lt = absurd (omega arith)
      follows (m ∷ names) d lt = refl

      ends : (names : List Place) → length names ≤ 0 → first ≡ first_name first names
      ends [] none = refl
      ends (m ∷ names) none = absurd (omega arith)

  link_after : (n : Place) (names : List Place) (k : ℕ) (r : Record) → IsLink how apex z class ttl first names k r → IsLink how apex z class ttl first (n ∷ names) (suc k) r
  link_after n names k r l = record {
    name = l.name;
    here = l.here;
    next = l.next;
    is = l.is;
    follows = λ more d.
        let e : suc (k + 1) ≡ suc k + 1 = omega arith in
        subst (λ (j : ℕ). get_or (n ∷ names) j d ≡ l.next) e (l.follows (omega (arith, more)) d);
    ends = λ none. l.ends (omega (arith, none));
  }

  links : (names : List Place) (nsec3s : List Record) → AreNsec3sOf how apex z class ttl first names nsec3s → (k : ℕ) (d : Record) → k < length names → IsLink how apex z class ttl first names k (get_or nsec3s k d)
  links [] nsec3s h k d lt = absurd (omega arith)
  links (n ∷ names) [] h k d lt = absurd h
  links (n ∷ names) (r ∷ nsec3s) h zero d lt = link_of n names r h.0
  links (n ∷ names) (r ∷ nsec3s) h (suc k) d lt = link_after n names k (get_or nsec3s k d) (links names nsec3s h.1 k d (omega arith))

-- the types of a bitmap are those of the zone at the name
types_are : (z : Zone) (n : Place) (bitmap : List ℕ) → ((t : ℕ) → t < 65536 → has_type bitmap t ≡ list_any (nat_eq t) (types_at z n)) → (t : ℕ) → t < 65536 → (has_type bitmap t ≡ true → Owns z n t) × (Owns z n t → has_type bitmap t ≡ true)
types_are z n bitmap reads t small = (
  λ set. types_at_owned z n t (Contains-from_any eqb-true t (types_at z n) (sym (reads t small) ∙ set)),
  λ owns. reads t small ∙ list_any-from_Contains nat_eq_equiv t (types_at z n) (owned_types_at z n t owns),
)

module _ (how : Hashing) (apex : Labels) (records nsec3s : List Record) (param : Record) (chain : IsNsec3Chain how apex records nsec3s param) where
  abbrev zone : Zone
  zone = zone_of (place apex) records

  abbrev full : Zone
  full = hashed_zone (place apex) records

  -- no name that is hashed is covered
  not_covered : (k : ℕ) (r : Record) → k < length chain.names → IsLink how apex full chain.soa.class chain.ttl (first_name (place apex) chain.names) chain.names k r
      → (link : IsLink how apex full chain.soa.class chain.ttl (first_name (place apex) chain.names) chain.names k r)
      → (n : Place) → IsHashed (has_opt_out how) zone n → IsBetween (hash_by how link.name) (hash_by how link.next) (hash_by how n) → ⊥
  not_covered k r lt _ link n hashed =
      none_between (hash_by how) chain.names chain.rise (place apex) k link.name link.next n lt (link.here (place apex)) (λ more. link.follows more (place apex))
      (λ none. first_is chain.names ∙ link.ends none) ((chain.are n).1 hashed)
    where
      first_is : (names : List Place) → get_or names 0 (place apex) ≡ first_name (place apex) names
      first_is [] = refl
      first_is (m ∷ names) = refl

  link_true : (k : ℕ) (r : Record) → k < length chain.names → IsLink how apex full chain.soa.class chain.ttl (first_name (place apex) chain.names) chain.names k r → IsTrueNsec3 full r
  link_true k r lt link =
      let it = link.is in
      let named : Contains chain.names link.name = (k, lt, link.here link.name) in
      let hashed : IsHashed (has_opt_out how) zone link.name = (chain.are link.name).0 named in
      let same : (n : Place) → hash_by it.nsec3.hashing n ≡ hash_by how n = λ n. ap (λ (h : Hashing). hash_by h n) it.hashing in
      let covers : (n : Place) → IsBetween (hash_by how link.name) it.nsec3.next_owner (hash_by it.nsec3.hashing n) → IsHashed (has_opt_out how) zone n → ⊥ =
      λ n c g. not_covered k r lt link link n g (subst (λ (x : List ℕ). IsBetween (hash_by how link.name) (hash_by how link.next) x) (same n) (subst (λ (x : List ℕ). IsBetween (hash_by how link.name) x (hash_by it.nsec3.hashing n)) it.next_is c)) in
      record {
        rtype = ap (λ (s : Record). s.rtype) it.is;
        label = base32hex (hash_by how link.name);
        above = apex;
        owner = ap (λ (s : Record). s.owner) it.is;
        owner_hash = hash_by how link.name;
        writes = base32hex_back (hash_by how link.name) (hash_octets how.salt (wire_octets (reverse link.name)) how.iterations);
        nsec3 = it.nsec3;
        says = ap (λ (s : Record). nsec3_of s.rdata) it.is ∙ it.says;
        holds = record {
          of_zone = refl;
          name = link.name;
          found = exists_still (place apex) records link.name (hashed_exists (has_opt_out how) zone link.name hashed);
          owner = same link.name;
          types = types_are full link.name it.nsec3.types (reads_back (types_at full link.name) it.nsec3.types it.types);
          gap = λ out n e c.
              let plain : has_opt_out how ≡ false = sym (ap has_opt_out it.hashing) ∙ out in
              covers n c (subst (λ (b : Bool). IsHashed b zone n) (sym plain) (exists_hashed zone n (existed (place apex) records chain.soa chain.one n e)));
          gap_but_opted_out = λ out n e c m s below.
              let old = existed (place apex) records chain.soa chain.one n e in
              let stands = stood (place apex) records chain.soa chain.one m s in
              elim (insecure_or_not zone m) [
                | inl insecure ↦ insecure_still (place apex) records m insecure
                | inr secure ↦ absurd (covers n c (record { within = old.within; owner = m; stands = stands; owes = λ _. secure; at_or_below = below }))
              ];
        };
      }

  -- each record of the chain is true of the zone, once NSEC3PARAM and the signatures stand
  pub nsec3s_true : All (IsTrueNsec3 (hashed_zone (place apex) records)) nsec3s
  nsec3s_true k d lt =
      let count = same_count how apex full chain.soa.class chain.ttl (first_name (place apex) chain.names) chain.names nsec3s chain.each in
      let below : k < length chain.names = omega (arith, count) in
      link_true k (get_or nsec3s k d) below (links how apex full chain.soa.class chain.ttl (first_name (place apex) chain.names) chain.names nsec3s chain.each k d below)

  -- each name that is hashed has one
  pub nsec3s_whole : (n : Place) → IsHashed (has_opt_out how) (zone_of (place apex) records) n → Any (λ r. r.owner ≡ hashed_owner how apex n) nsec3s
  nsec3s_whole n hashed =
      let at = (chain.are n).1 hashed in
      let count = same_count how apex full chain.soa.class chain.ttl (first_name (place apex) chain.names) chain.names nsec3s chain.each in
      let below : at.0 < length nsec3s = let lt = at.1 in omega (arith, count) in
      some_at nsec3s at.0 below (λ r.
      let link = links how apex full chain.soa.class chain.ttl (first_name (place apex) chain.names) chain.names nsec3s chain.each at.0 r at.1 in
      ap (λ (s : Record). s.owner) link.is.is ∙ ap (hashed_owner how apex) (sym (link.here n) ∙ at.2))
    where
      some_at : (xs : List Record) (k : ℕ) → k < length xs → ((r : Record) → (get_or xs k r).owner ≡ hashed_owner how apex n) → Any (λ r. r.owner ≡ hashed_owner how apex n) xs
      some_at [] k lt h = absurd (omega arith)
      some_at (x ∷ xs) k lt h = (k, get_or (x ∷ xs) k x, lt, get_or_default (x ∷ xs) k (get_or (x ∷ xs) k x) x lt, h x)

  -- and no two names have one hash
  pub chain_no_collision : HasCollision how (zone_of (place apex) records) → ⊥
  chain_no_collision c = c.differ (one_name (hash_by how) chain.names chain.rise (place apex) c.first c.second ((chain.are c.first).1 c.hashes_first) ((chain.are c.second).1 c.hashes_second) c.alike)
