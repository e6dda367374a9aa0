-- What is made below zones that are alike is alike, and so is what they say.
use Rattle.std.proofs.Common.{◌≡◌, refl, sym, ap, ◌∙◌, subst}
use Rattle.dsec_spec.specs.Names.{Place}
use Rattle.dsec_spec.specs.Groups.{Group}
use Rattle.dsec_nodes.specs.World.{World, Replies}
use Rattle.dsec_nodes.specs.Nodes.{Node, Standing, apex, within, insecure, bogus}
use Rattle.dsec_nodes.specs.Walk.{child, Reached, held_keys, goes_on, after, next}
use Rattle.dsec_nodes.specs.Judging.{Finding, found_at, by_node}
use Rattle.dsec_nodes.specs.Likeness.{Likeness, wholly, but_for_times, untimed, Alike, AlikeReached}
use Rattle.dsec_nodes.proofs.MomentNext.{steady_below, next_still}

-- the next node is alike where the zones are
pub next_alike : (like : Likeness) (w : World) (replies : Replies) (a b : Reached) (name : Place) → Alike like a.zone b.zone
    → Alike like (next w replies a name) (next w replies b name)
next_alike wholly w replies a b name e = ap (λ (z : Node). child w replies z (held_keys z.standing) name) e
next_alike but_for_times w replies a b name e = next_still w w.now replies a b name (steady_below w replies name) e

-- nodes that are wholly alike are so but for times
pub less_alike : (a b : Node) → Alike wholly a b → Alike but_for_times a b
less_alike a b e = ap untimed e

pub standing_alike : (like : Likeness) (a b : Node) → Alike like a b → a.standing ≡ b.standing
standing_alike wholly a b e = ap (λ (n : Node). n.standing) e
standing_alike but_for_times a b e = ap (λ (n : Node). n.standing) e

-- a walk goes on at both, or at neither
pub goes_alike : (like : Likeness) (a b : Node) → Alike like a b → goes_on a ≡ goes_on b
goes_alike wholly a b e = ap (λ (n : Node). goes_on n) e
goes_alike but_for_times a b e = ap (λ (n : Node). goes_on n) e

-- what is reached with nodes that are alike is alike
pub after_alike : (like : Likeness) (zone other n m : Node) → Alike like zone other → Alike like n m
    → AlikeReached like (after zone n n.standing) (after other m m.standing)
after_alike like zone other n m e f =
    subst (λ (x : Standing). AlikeReached like (after zone n n.standing) (after other m x)) (standing_alike like n m f) (by n.standing)
  where
    by : (x : Standing) → AlikeReached like (after zone n x) (after other m x)
    by (apex keys) = (f, f)
    by (within last) = (e, f)
    by (insecure cause signed) = (e, f)
    by (bogus cause) = (e, f)

-- a group is judged by both alike
pub judged_alike : (like : Likeness) (w : World) (group : Group) (a b : Node) → Alike like a b → by_node w group a ≡ by_node w group b
judged_alike wholly w group a b e = ap (by_node w group) e
judged_alike but_for_times w group a b e = bare a ∙ (ap (by_node w group) e ∙ sym (bare b))
  where
    bare : (n : Node) → by_node w group n ≡ by_node w group (untimed n)
    bare n = ap (λ (x : Finding). record { group = group; signer = n.signer; finding = x }) (by n.standing)
      where
        by : (x : Standing) → found_at w group n x ≡ found_at w group (untimed n) x
        by (apex keys) = refl
        by (within last) = refl
        by (insecure cause signed) = refl
        by (bogus cause) = refl
