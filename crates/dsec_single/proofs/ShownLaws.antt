-- What a node shows of a group is shown by each node that is like it.
use Rattle.std.proofs.Common.{ℕ, [], ◌∷◌, ◌++◌, Option, sym, ap, ◌∙◌, subst}
use Rattle.dsec_spec.specs.Groups.{Group}
use Rattle.dsec_link.specs.Shown.{ShownSet}
use Rattle.dsec_group.specs.declared.state.ValidationState.{ValidationState}
use Rattle.dsec_group.specs.declared.state.ValidationState.TheVariants.{Secure, Insecure, Bogus, Indeterminate}
use Rattle.dsec_nodes.specs.World.{World, moment}
use Rattle.dsec_nodes.specs.Nodes.{Node}
use Rattle.dsec_nodes.specs.Likeness.{but_for_times, Alike}
use Rattle.dsec_nodes.specs.Judging.{Finding, Judged, by_node}
use Rattle.dsec_nodes.proofs.AlikeLaws.{judged_alike}
use Rattle.dsec_by_node.specs.Answers.{Told}
use Rattle.dsec_by_node.specs.WithNode.{ShownAs, IsShownBy}

-- the links and the anchor of a node are those of a node that is like it
as_alike : (a b : Node) (t : ℕ) (finding : Finding) (shown : Option ShownSet) (state : ValidationState) → Alike but_for_times a b
    → ShownAs b t finding shown state → ShownAs a t finding shown state
as_alike a b t finding shown Secure e h = record {
  set = h.set;
  its = h.its;
  from_anchor = ap (λ (n : Node). n.anchor) e ∙ h.from_anchor;
  at = h.at;
  last = h.last;
  own = h.own;
  are = h.are ∙ ap (λ (n : Node). n.links ++ h.last ∷ []) (sym e);
}
as_alike a b t finding shown Insecure e h = h
as_alike a b t finding shown Bogus e h = h
as_alike a b t finding shown Indeterminate e h = h

-- what is shown by a node is shown by one that is like it but for times
pub shown_alike : (w : World) (group : Group) (a b : Node) (told : Told) → Alike but_for_times a b → IsShownBy w group b told → IsShownBy w group a told
shown_alike w group a b told e h =
    as_alike a b (moment w) (by_node w group a).finding told.shown told.answer.state e
    (subst (λ (j : Judged). ShownAs b (moment w) j.finding told.shown told.answer.state) (sym (judged_alike but_for_times w group a b e)) h)
