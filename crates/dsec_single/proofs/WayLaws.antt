-- How a group is judged: at once, or by a walk.
use Rattle.std.proofs.Common.{◌≡◌, ◌==◌, Bool, true, false, cond, List, [], ◌∷◌, length, Some, None, refl, sym, ap, ◌∙◌, arith}
use Rattle.std.specs.Prelude.{◌≢◌}
use Rattle.std.proofs.lemmas.Bool.{eqb-true, eqb-false, ne_eqb}
use Rattle.dsec_spec.specs.Names.{Place, place}
use Rattle.dsec_spec.specs.Records.{Record}
use Rattle.dsec_spec.specs.Groups.{Group}
use Rattle.dsec_spec.specs.Islands.{island}
use Rattle.dsec_nodes.specs.World.{World}
use Rattle.dsec_nodes.specs.Judging.{Judged, has_no_set, is_indeterminate, target_of}
use Rattle.dsec_course.specs.Course.{Way, at_once, by_walk, way_under, way_of}

-- a group of signatures alone, and one without an island
abbrev pub no_set : Group → Judged
no_set group = record { group = group; signer = []; finding = has_no_set }

abbrev pub no_island : Group → Judged
no_island group = record { group = group; signer = target_of group None; finding = is_indeterminate }

some_records : (rs : List Record) → rs ≢ [] → (length rs == 0) ≡ false
some_records [] some = absurd (some refl)
some_records (r ∷ rs) some = ne_eqb (length (r ∷ rs)) 0 (λ e. omega (arith, e))

no_records : (rs : List Record) → length rs ≡ 0 → rs ≡ []
no_records [] e = refl
no_records (r ∷ rs) e = absurd cc

-- whether a group has a record, by the test of what is shown of it
pub none_of : (rs records : List Record) → true ≡ (length rs == 0) → rs ≡ records → records ≡ []
none_of rs records test same = sym same ∙ no_records rs (eqb-true (length rs) 0 (sym test))

pub some_of : (rs records : List Record) → false ≡ (length rs == 0) → rs ≡ records → records ≢ []
some_of rs records test same none = eqb-false (length rs) 0 (sym test) (ap length (same ∙ none))

by_choice : (b c : Bool) (x y : Way) → b ≡ c → cond b x y ≡ cond c x y
by_choice b c x y e = ap (λ (t : Bool). cond t x y) e

module _ (w : World) (group : Group) where
  chosen : (c : Bool) → (length group.records == 0) ≡ c
      → way_of w group ≡ cond c (at_once (no_set group)) (way_under group (island w.anchors (place group.owner) group.rtype))
  chosen c e = by_choice (length group.records == 0) c (at_once (no_set group)) (way_under group (island w.anchors (place group.owner) group.rtype)) e

  pub way_without_set : group.records ≡ [] → way_of w group ≡ at_once (no_set group)
  way_without_set e = chosen true (ap (λ (rs : List Record). length rs == 0) e)

  pub way_without_island : group.records ≢ [] → island w.anchors (place group.owner) group.rtype ≡ None → way_of w group ≡ at_once (no_island group)
  way_without_island some e = chosen false (some_records group.records some) ∙ ap (way_under group) e

  pub way_by_walk : (top : Place) → group.records ≢ [] → island w.anchors (place group.owner) group.rtype ≡ Some top → way_of w group ≡ by_walk top
  way_by_walk top some e = chosen false (some_records group.records some) ∙ ap (way_under group) e
