-- The node that a walk makes or gets next is the one that the recursion makes next.
use Rattle.std.proofs.Common.{◌≡◌, ℕ, suc, ◌+◌, ◌-◌, ◌≤◌, true, false, length, take, Option, Some, None, refl, sym, ap, ◌∙◌, subst, arith}
use Rattle.std.proofs.lemmas.Bool.{and_parts, leb-true}
use Rattle.std.proofs.lemmas.List.{length-take}
use Rattle.std.proofs.Math.Nat.{min-eq_left}
use Rattle.dsec_spec.specs.Names.{Place}
use Rattle.dsec_nodes.specs.World.{World, Replies}
use Rattle.dsec_nodes.specs.Nodes.{Node, bogus}
use Rattle.dsec_nodes.specs.Walk.{at_anchor, Reached, goes_on, goes_on_at, after, next, way, node_of}
use Rattle.dsec_nodes.specs.Machine.{Walking, name_at, arrived, IsFurther}
use Rattle.dsec_nodes.specs.Likeness.{Likeness, seen, Alike, AlikeReached}
use Rattle.dsec_nodes.specs.InStep.{ReachedIs}
use Rattle.dsec_nodes.proofs.WalkLaws.{way_to}
use Rattle.dsec_nodes.specs.Causes.{Cause}
use Rattle.dsec_nodes.proofs.WayLaws.{ended, arrives, after_node, was_next}
use Rattle.dsec_nodes.proofs.AlikeLaws.{next_alike, goes_alike, after_alike}

-- the node is like the one that the recursion makes next
abbrev pub NextIs : Likeness → World → Replies → Walking → Option Reached → Node → Type 0
NextIs like w replies s None n = Alike like (at_anchor w replies s.top) n
NextIs like w replies s (Some r) n = Alike like (next w replies r (name_at s)) n

-- the name that is next is within the target
pub within_target : (like : Likeness) (w : World) (replies : Replies) (s : Walking) (o : Option Reached) → length s.top ≤ length s.target
    → ReachedIs like w replies s o → IsFurther s o → length s.top + s.behind ≤ length s.target
within_target like w replies s None le f g = omega (arith, le, f)
within_target like w replies s (Some r) le f g = leb-true (length s.top + s.behind) (length s.target) (and_parts _ _ g).1

-- what is reached with a node is at this node
pub arrived_node : (o : Option Reached) (n : Node) → (arrived o n).node ≡ n
arrived_node None n = refl
arrived_node (Some r) n = after_node r.zone n n.standing

-- the way to the next name's node by that name alone
pub by_name : (w : World) (replies : Replies) (s : Walking) → s.top ≡ take (length s.top) s.target
    → length s.top + s.behind ≤ length s.target
    → (way w replies s.top (name_at s) (length (name_at s) - length s.top)).node ≡ (way w replies s.top s.target s.behind).node
by_name w replies s below le =
    let long : length (name_at s) - length s.top ≡ s.behind = omega (arith, le, length_taken (length s.top + s.behind) s.target le) in
    ap (λ (m : ℕ). (way w replies s.top (name_at s) m).node) long ∙ ap (λ (x : Reached). x.node) (way_to w replies s.top s.target s.behind (length s.top + s.behind) (omega arith))
  where
    length_taken : (m : ℕ) (xs : Place) → m ≤ length xs → length (take m xs) ≡ m
    length_taken m xs l = length-take m xs ∙ min-eq_left l

module _ (like : Likeness) (w : World) (replies : Replies) (s : Walking) where
  -- the recursion's next node, below what it has reached, is like the one that is made below what the walk has reached
  below_both : (r : Reached) (k : ℕ) → s.behind ≡ suc k → AlikeReached like (way w replies s.top s.target k) r
      → Alike like (next w replies (way w replies s.top s.target k) (take (length s.top + suc k) s.target)) (next w replies r (name_at s))
  below_both r k e same =
      next_alike like w replies (way w replies s.top s.target k) r (take (length s.top + suc k) s.target) same.0
      ∙ ap (λ (m : ℕ). seen like (next w replies r (take (length s.top + m) s.target))) (sym e)

  -- with the node that is next the recursion comes to what is like what a walk comes to
  pub reach : (o : Option Reached) (n : Node) → ReachedIs like w replies s o → IsFurther s o → NextIs like w replies s o n
      → AlikeReached like (way w replies s.top s.target s.behind) (arrived o n)
  reach None n f g e = (ap (λ (m : ℕ). seen like (way w replies s.top s.target m).zone) f ∙ e, ap (λ (m : ℕ). seen like (way w replies s.top s.target m).node) f ∙ e)
  reach (Some r) n f g e =
      let before : Reached = way w replies s.top s.target f.0 in
      let on : goes_on before.node ≡ true = goes_alike like before.node r.node f.3.1 ∙ (and_parts _ _ g).0 in
      let made : Node = next w replies before (take (length s.top + suc f.0) s.target) in
      let it : Alike like made n = below_both r f.0 f.1 f.3 ∙ e in
      subst (λ (x : Reached). AlikeReached like x (after r.zone n n.standing))
      (sym (ap (way w replies s.top s.target) f.1 ∙ arrives w replies s.top s.target f.0 made on refl))
      (after_alike like before.zone r.zone made n f.3.0 it)

  -- a node of the table at the next name is like the one that the recursion makes next
  pub got_next : (o : Option Reached) (n : Node) → s.top ≡ take (length s.top) s.target
      → length s.top ≤ length s.target → ReachedIs like w replies s o → IsFurther s o → n.name ≡ name_at s
      → Alike like (way w replies s.top n.name (length n.name - length s.top)).node n → NextIs like w replies s o n
  got_next o n below le f g named e = by o f g
    where
      there : (p : Option Reached) → ReachedIs like w replies s p → IsFurther s p → Alike like (way w replies s.top s.target s.behind).node n
      there p f g =
          ap (seen like) (sym (by_name w replies s below (within_target like w replies s p le f g)))
          ∙ (ap (λ (x : Place). seen like (way w replies s.top x (length x - length s.top)).node) (sym named) ∙ e)

      by : (p : Option Reached) → ReachedIs like w replies s p → IsFurther s p → NextIs like w replies s p n
      by None f g = ap (λ (m : ℕ). seen like (way w replies s.top s.target m).node) (sym f) ∙ there None f g
      by (Some r) f g =
          let on : goes_on (way w replies s.top s.target f.0).node ≡ true = goes_alike like (way w replies s.top s.target f.0).node r.node f.3.1 ∙ (and_parts _ _ g).0 in
          sym (below_both r f.0 f.1 f.3)
          ∙ (ap (seen like) (sym (was_next w replies s.top s.target f.0 on))
          ∙ (ap (λ (m : ℕ). seen like (way w replies s.top s.target m).node) (sym f.1) ∙ there (Some r) f g))

  -- where a node that was made next is reached, the walk stands there
  pub made_stands : (o : Option Reached) (n : Node) → s.top ≡ take (length s.top) s.target
      → length s.top ≤ length s.target → ReachedIs like w replies s o → IsFurther s o → NextIs like w replies s o n
      → (k : ℕ) × (suc s.behind ≡ suc k) × (length s.top + k ≤ length s.target) × AlikeReached like (way w replies s.top s.target k) (arrived o n)
  made_stands o n below le f g e = (s.behind, refl, within_target like w replies s o le f g, reach o n f g e)

  -- the node that was made next, by its name alone
  pub put_is : (o : Option Reached) (n : Node) → s.top ≡ take (length s.top) s.target
      → length s.top ≤ length s.target → ReachedIs like w replies s o → IsFurther s o → NextIs like w replies s o n
      → Alike like (way w replies s.top (name_at s) (length (name_at s) - length s.top)).node n
  put_is o n below le f g e =
      ap (seen like) (by_name w replies s below (within_target like w replies s o le f g)) ∙ ((reach o n f g e).1 ∙ ap (seen like) (arrived_node o n))

  -- a bogus node is the name's
  pub bogus_is : (o : Option Reached) (n : Node) (cause : Cause) → n.standing ≡ bogus cause
      → s.top ≡ take (length s.top) s.target → length s.top ≤ length s.target
      → ReachedIs like w replies s o → IsFurther s o → NextIs like w replies s o n → Alike like (node_of w replies s.top s.target) n
  bogus_is o n cause b below le f g e =
      let it : Alike like (way w replies s.top s.target s.behind).node n = (reach o n f g e).1 ∙ ap (seen like) (arrived_node o n) in
      let ends_there : goes_on (way w replies s.top s.target s.behind).node ≡ false =
      goes_alike like (way w replies s.top s.target s.behind).node n it ∙ ap (goes_on_at n.name) b in
      let rest : length s.target - length s.top ≡ s.behind + (length s.target - length s.top - s.behind) = omega (arith, within_target like w replies s o le f g) in
      ap (λ (m : ℕ). seen like (way w replies s.top s.target m).node) rest
      ∙ (ap (λ (x : Reached). seen like x.node) (ended w replies s.top s.target s.behind (length s.target - length s.top - s.behind) ends_there) ∙ it)
