-- How the zone of a group is told that has records, and of one that has none.
use Rattle.std.proofs.Common.{◌≡◌, ◌==◌, Bool, false, cond, List, [], ◌∷◌, length, refl, sym, ap, arith}
use Rattle.std.specs.Prelude.{◌≢◌}
use Rattle.std.proofs.lemmas.Bool.{ne_eqb}
use Rattle.dsec_spec.specs.Names.{Labels, place}
use Rattle.dsec_spec.specs.Records.{Record}
use Rattle.dsec_spec.specs.Groups.{Group}
use Rattle.dsec_spec.specs.Islands.{island}
use Rattle.dsec_found.specs.Letters.{told_zone, told_zone_for}

some_records : (rs : List Record) → rs ≢ [] → (length rs == 0) ≡ false
some_records [] some = absurd (some refl)
some_records (r ∷ rs) some = ne_eqb (length (r ∷ rs)) 0 (λ e. omega (arith, e))

module _ (anchors : List Record) (group : Group) where
  abbrev zone : Labels
  zone = told_zone group (island anchors (place group.owner) group.rtype)

  pub told_without_records : group.records ≡ [] → [] ≡ told_zone_for anchors group
  told_without_records none = sym (ap (λ (rs : List Record). cond (length rs == 0) [] zone) none)

  pub told_with_records : group.records ≢ [] → zone ≡ told_zone_for anchors group
  told_with_records some = sym (ap (λ (b : Bool). cond b [] zone) (some_records group.records some))
