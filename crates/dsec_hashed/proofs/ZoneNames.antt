-- The code's names of a zone are those that the zone hashes.
use Rattle.std.proofs.Common.{◌≡◌, ◌%◌, ◌==◌, Bool, true, false, cond, List, [], ◌∷◌, length, map, IsPermutation, refl, sym, ap, ◌∙◌, subst, arith}
use Rattle.std.specs.Prelude.{filter, if◌then◌else◌}
use Rattle.std.specs.Cmp.Lexicographic.{slice_cmp}
use Rattle.std.specs.Ordering.{nat_cmp, is_lt}
use Rattle.std.proofs.lemmas.List.Sorted.{IsPermutation-map}
use Rattle.dsec_spec.specs.Names.{Place}
use Rattle.dsec_spec.specs.Records.{Record}
use Rattle.dsec_spec.specs.ZonesOfRecords.{soas_at}
use Rattle.dsec_spec.specs.OwnersInside.{Inside, AreInside}
use Rattle.dsec_spec.specs.HashedNames.{has_opt_out}
use Rattle.dsec_spec.proofs.Choosing.{pairs_map}
use Rattle.dsec_sorted.specs.declared.config.Nsec3Config.{Nsec3Config}
use Rattle.dsec_chain.specs.Views.{inside_view}
use Rattle.dsec_chain.specs.declared.owners.InsideOwner.{InsideOwner}
use Rattle.dsec_hashed.specs.Config.{hashing_of}
use Rattle.dsec_hashed.specs.HashedList.{is_kept, names_of}
use Rattle.dsec_hashed.specs.HashedTypes.{Standing, hashed_as}
use Rattle.dsec_hashed.specs.HashedViews.{hashed_view, is_kept_view, rises}
use Rattle.dsec_hashed.specs.Hashed.{AreHashed}
use Rattle.dsec_hashed.specs.declared.names.HashedName.{HashedName}
use Rattle.dsec_hashed.proofs.Assembled.{assembled}

kept_views : (opt_out : Bool) (all : List InsideOwner) → map inside_view (filter (is_kept_view opt_out) all) ≡ filter (λ (o : Inside). is_kept opt_out o.cut o.records) (map inside_view all)
kept_views opt_out [] = refl
kept_views opt_out (o ∷ all) = by (kept_views opt_out all) (is_kept_view opt_out o)
  where
    by : map inside_view (filter (is_kept_view opt_out) all) ≡ filter (λ (p : Inside). is_kept opt_out p.cut p.records) (map inside_view all) → (b : Bool)
        → map inside_view (cond b (o ∷ filter (is_kept_view opt_out) all) (filter (is_kept_view opt_out) all))
        ≡ cond b (inside_view o ∷ filter (λ (p : Inside). is_kept opt_out p.cut p.records) (map inside_view all)) (filter (λ (p : Inside). is_kept opt_out p.cut p.records) (map inside_view all))
    by others true = ap (λ (xs : List Inside). inside_view o ∷ xs) others
    by others false = others

opt_out_is : (config : Nsec3Config) → has_opt_out (hashing_of config) ≡ config.opt_out
opt_out_is config = by config.opt_out
  where
    by : (b : Bool) → ((if b then 1 else 0) % 2 == 1) ≡ b
    by true = refl
    by false = refl

the_one : (soas : List Record) → length soas ≡ 1 → (soa : Record) × (soas ≡ soa ∷ [])
the_one [] e = absurd (omega (arith, e))
the_one (soa ∷ []) e = (soa, refl)
the_one (soa ∷ other ∷ soas) e = absurd (omega (arith, e))

pub zone_names : (config : Nsec3Config) (apex : Place) (records : List Record) (all owners : List InsideOwner) (names sorted : List HashedName)
    → AreInside apex records (map inside_view all) → length (soas_at apex records) ≡ 1 → owners ≡ filter (is_kept_view config.opt_out) all
    → map hashed_view names ≡ map (hashed_as (hashing_of config)) (names_of apex apex (map inside_view owners)) → IsPermutation names sorted → rises sorted
    → AreHashed (hashing_of config) apex records (map hashed_view sorted)
zone_names config apex records all owners names sorted are one kept hashed moved rise =
    let how = hashing_of config in
    let soa = the_one (soas_at apex records) one in
    let same : map inside_view owners ≡ filter (λ (o : Inside). is_kept (has_opt_out how) o.cut o.records) (map inside_view all) =
    ap (map inside_view) kept ∙ (kept_views config.opt_out all ∙ ap (λ (b : Bool). filter (λ (o : Inside). is_kept b o.cut o.records) (map inside_view all)) (sym (opt_out_is config))) in
    let is : map hashed_view names ≡ map (hashed_as how) (names_of apex apex (filter (λ (o : Inside). is_kept (has_opt_out how) o.cut o.records) (map inside_view all))) =
    hashed ∙ ap (λ (xs : List Inside). map (hashed_as how) (names_of apex apex xs)) same in
    assembled how apex records (map inside_view all) are soa.0 soa.1 (map hashed_view sorted)
    (subst (λ (xs : List Standing). IsPermutation xs (map hashed_view sorted)) is (IsPermutation-map hashed_view names sorted moved))
    (pairs_map (λ (a b : Standing). is_lt (slice_cmp nat_cmp b.hash a.hash) ≡ false) hashed_view sorted rise)
