-- Below a name that an NSEC3 record shows to have DNAME nothing stands: a walk ends there, and what is to be signed below it is bogus.
use Rattle.std.proofs.Common.{◌≡◌, ℕ, ◌+◌, ◌-◌, ◌≤◌, true, Some, length, sym, ap, ◌∙◌, arith}
use Rattle.std.proofs.Math.Bool.{not}
use Rattle.dsec_spec.specs.Names.{Place}
use Rattle.dsec_spec.specs.Groups.{Group}
use Rattle.dsec_spec.specs.Chain.{Link}
use Rattle.dsec_nodes.specs.World.{World, Replies}
use Rattle.dsec_nodes.specs.Causes.{NoSignature}
use Rattle.dsec_nodes.specs.Nodes.{Node, Standing, within}
use Rattle.dsec_nodes.specs.Walk.{Reached, redirects_below, goes_on_at, way, node_of}
use Rattle.dsec_nodes.specs.Judging.{is_bogus, found_at, target_of, by_island}
use Rattle.dsec_nodes.proofs.WayLaws.{ended}

-- a walk ends at a name that redirects what is below it (RFC 5155 8.3, RFC 6672 2.4)
pub ends_at_dname : (w : World) (replies : Replies) (top name : Place) (k j : ℕ) (last : Link) → (way w replies top name k).node.standing ≡ within last
    → redirects_below (way w replies top name k).node.name last.records ≡ true → way w replies top name (k + j) ≡ way w replies top name k
ends_at_dname w replies top name k j last e f = ended w replies top name k j (ap (goes_on_at (way w replies top name k).node.name) e ∙ ap not f)

-- a group that a zone below such a name is to have signed is bogus, whatever the replies for names further down are: no record with Opt-Out
-- makes it insecure
pub bogus_below_dname : (w : World) (replies : Replies) (group : Group) (top : Place) (k : ℕ) (last : Link)
    → k ≤ length (target_of group (Some top)) - length top
    → (way w replies top (target_of group (Some top)) k).node.standing ≡ within last
    → redirects_below (way w replies top (target_of group (Some top)) k).node.name last.records ≡ true
    → (by_island w replies group (Some top)).finding ≡ is_bogus NoSignature (way w replies top (target_of group (Some top)) k).node.links
bogus_below_dname w replies group top k last le e f =
    ap (λ (n : Node). found_at w group n n.standing) stays ∙ ap (λ (s : Standing). found_at w group (way w replies top target k).node s) e
  where
    target : Place
    target = target_of group (Some top)

    rest : ℕ
    rest = length target - length top - k

    all : k + rest ≡ length target - length top
    all = omega (arith, le)

    stays : node_of w replies top target ≡ (way w replies top target k).node
    stays = ap (λ (m : ℕ). (way w replies top target m).node) (sym all) ∙ ap (λ (r : Reached). r.node) (ends_at_dname w replies top target k rest last e f)
