-- Where a walk by the recursion ends, and what it reaches by its next node.
use Rattle.std.proofs.Common.{◌≡◌, ℕ, zero, suc, ◌+◌, Bool, true, false, cond, length, take, refl, ap, ◌∙◌, arith}
use Rattle.std.proofs.lemmas.Bool.{true≢false, false≢true}
use Rattle.dsec_spec.specs.Names.{Place}
use Rattle.dsec_nodes.specs.World.{World, Replies}
use Rattle.dsec_nodes.specs.Nodes.{Node, Standing, apex, within, insecure, bogus}
use Rattle.dsec_nodes.specs.Walk.{Reached, goes_on, after, next, way}

-- a walk that has ended stays where it is
pub ended : (w : World) (replies : Replies) (top name : Place) (k j : ℕ) → goes_on (way w replies top name k).node ≡ false
    → way w replies top name (k + j) ≡ way w replies top name k
ended w replies top name k zero e = let none : k + 0 ≡ k = omega arith in ap (way w replies top name) none
ended w replies top name k (suc j) e =
    let more : k + suc j ≡ suc (k + j) = omega arith in
    let before = ended w replies top name k j e in
    ap (way w replies top name) more ∙ (by (goes_on (way w replies top name (k + j)).node) (ap (λ (r : Reached). goes_on r.node) before ∙ e) ∙ before)
  where
    by : (b : Bool) → b ≡ false
        → cond b (after (way w replies top name (k + j)).zone (next w replies (way w replies top name (k + j)) (take (length top + suc (k + j)) name)) (next w replies (way w replies top name (k + j)) (take (length top + suc (k + j)) name)).standing) (way w replies top name (k + j)) ≡ way w replies top name (k + j)
    by true f = absurd (true≢false f)
    by false f = refl

-- what is reached by the next node
pub arrives : (w : World) (replies : Replies) (top name : Place) (k : ℕ) (n : Node)
    → goes_on (way w replies top name k).node ≡ true
    → next w replies (way w replies top name k) (take (length top + suc k) name) ≡ n
    → way w replies top name (suc k) ≡ after (way w replies top name k).zone n n.standing
arrives w replies top name k n e f = by (goes_on (way w replies top name k).node) e ∙ ap (λ (x : Node). after (way w replies top name k).zone x x.standing) f
  where
    by : (b : Bool) → b ≡ true
        → cond b (after (way w replies top name k).zone (next w replies (way w replies top name k) (take (length top + suc k) name)) (next w replies (way w replies top name k) (take (length top + suc k) name)).standing) (way w replies top name k)
        ≡ after (way w replies top name k).zone (next w replies (way w replies top name k) (take (length top + suc k) name)) (next w replies (way w replies top name k) (take (length top + suc k) name)).standing
    by true f = refl
    by false f = absurd (false≢true f)

-- the node after a node is that one
pub after_node : (zone n : Node) (s : Standing) → (after zone n s).node ≡ n
after_node zone n (apex keys) = refl
after_node zone n (within last) = refl
after_node zone n (insecure cause signed) = refl
after_node zone n (bogus cause) = refl

-- and it was the next one, where the walk went on
pub was_next : (w : World) (replies : Replies) (top name : Place) (k : ℕ) → goes_on (way w replies top name k).node ≡ true
    → (way w replies top name (suc k)).node ≡ next w replies (way w replies top name k) (take (length top + suc k) name)
was_next w replies top name k e =
    let n = next w replies (way w replies top name k) (take (length top + suc k) name) in
    ap (λ (r : Reached). r.node) (arrives w replies top name k n e refl) ∙ after_node (way w replies top name k).zone n n.standing
