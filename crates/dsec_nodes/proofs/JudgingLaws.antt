-- Groups that are judged are those that were given, each at its place.
use Rattle.std.proofs.Common.{◌≡◌, ◌==◌, Bool, true, false, cond, List, [], ◌∷◌, length, map, Option, Some, None, refl, sym, ap, ◌∙◌}
use Rattle.dsec_spec.specs.Names.{Place, place}
use Rattle.dsec_spec.specs.Groups.{Group}
use Rattle.dsec_spec.specs.Islands.{island}
use Rattle.dsec_nodes.specs.World.{World, Replies}
use Rattle.dsec_nodes.specs.Judging.{Finding, is_shown, has_no_set, is_insecure, is_bogus, is_indeterminate, Judged, AllJudged, all, one_bogus, and_others, by_island, judged_of, judged_all}

-- a judged group is the group that was judged
pub judged_group : (w : World) (replies : Replies) (group : Group) → (judged_of w replies group).group ≡ group
judged_group w replies group = by_records (length group.records == 0)
  where
    by_top : (o : Option Place) → (by_island w replies group o).group ≡ group
    by_top None = refl
    by_top (Some top) = refl

    by_records : (b : Bool)
        → (cond b (record { group = group; signer = []; finding = has_no_set }) (by_island w replies group (island w.anchors (place group.owner) group.rtype))).group ≡ group
    by_records true = refl
    by_records false = by_top (island w.anchors (place group.owner) group.rtype)

-- where all are judged, so are those after the first
pub others : (j : Judged) (f : Finding) (rest : AllJudged) (js : List Judged) → and_others j f rest ≡ all js
    → (later : List Judged) × (rest ≡ all later) × (j ∷ later ≡ js)
others j (is_bogus cause links) rest js e = absurd cc
others j (is_shown links last signature) (all later) js e = (later, refl, cc)
others j has_no_set (all later) js e = (later, refl, cc)
others j (is_insecure cause signed) (all later) js e = (later, refl, cc)
others j is_indeterminate (all later) js e = (later, refl, cc)
others j (is_shown links last signature) (one_bogus cause other) js e = absurd cc
others j has_no_set (one_bogus cause other) js e = absurd cc
others j (is_insecure cause signed) (one_bogus cause2 other) js e = absurd cc
others j is_indeterminate (one_bogus cause other) js e = absurd cc

-- groups that are all judged are those that were given, in order
pub groups_same : (w : World) (replies : Replies) (groups : List Group) (js : List Judged) → judged_all w replies groups ≡ all js
    → map (λ (j : Judged). j.group) js ≡ groups
unfolding judged_all
groups_same w replies [] js e = let none : [] ≡ js = cc in ap (map (λ (j : Judged). j.group)) (sym none)
groups_same w replies (g ∷ gs) js e =
    let o = others (judged_of w replies g) (judged_of w replies g).finding (judged_all w replies gs) js e in
    ap (map (λ (j : Judged). j.group)) (sym o.2)
    ∙ (ap (λ (x : Group). x ∷ map (λ (j : Judged). j.group) o.0) (judged_group w replies g) ∙ ap (λ (xs : List Group). g ∷ xs) (groups_same w replies gs o.0 o.1))
