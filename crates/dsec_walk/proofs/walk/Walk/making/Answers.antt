use Rattle.std.proofs.Common.{◌≡◌, List, true, false, sym, ap, ◌∙◌, subst}
use Rattle.std.specs.Arc.{arc_value}
use Rattle.dsec_spec.specs.Names.{place}
use Rattle.dsec_nodes.specs.Nodes.{IsBogus}
use Rattle.dsec_nodes.specs.Machine as machine
use Rattle.dsec_walk.specs.Views.{here_view}
use Rattle.dsec_walk.proofs.Making.{walk_by, bogus_made, kept_made}
use Rattle.dsec_walk.proofs.walk.Walk.making.Goals as goal

pub returns-then-is_bogus-clause-step : goal.returns-then-is_bogus-clause-step
returns-then-is_bogus-clause-step g c =
    let s : machine.Walking = c.args.self.now in
    let asked : List machine.Question = machine.heard s c.args.rtype c.args.reply in
    let b : IsBogus c.args.node.standing ≡ true = sym (c.is_bogus-is_bogus.ensures ∙ ap IsBogus c.standing.ensures.value) ∙ c.if-is_bogus.true in
    let m = arc_value c.in_ok-node.node in
    let here = c.in_ok-here.ensures ∙ ap (λ (x : machine.Walking). machine.arrived x.reached m) c.self.view_is in
    subst (λ (x : machine.Walking). (walk_by x c.one_more-behind.result (here_view c.in_ok-here.here) machine.ends x.asked, machine.done m) ≡ machine.making s asked c.args.node)
    (sym (c.self-2.view_is ∙ c.in_ok-hear.ensures.ok))
    (bogus_made s c.args.node m c.one_more-behind.result (here_view c.in_ok-here.here) asked c.in_ok-node.ensures.ok c.one_more-behind.ensures here b)

pub returns-clause-step : goal.returns-clause-step
returns-clause-step g c =
    let s : machine.Walking = c.args.self.now in
    let asked : List machine.Question = machine.heard s c.args.rtype c.args.reply in
    let b : IsBogus c.args.node.standing ≡ false = sym (c.is_bogus-is_bogus.ensures ∙ ap IsBogus c.standing.ensures.value) ∙ c.if-is_bogus.false in
    let m = arc_value c.in_ok-node.node in
    let here = c.in_ok-here.ensures ∙ ap (λ (x : machine.Walking). machine.arrived x.reached m) c.self.view_is in
    subst (λ (x : machine.Walking). (walk_by x c.one_more-behind.result (here_view c.in_ok-here.here) machine.puts x.asked, machine.node_put (place c.in_ok-put.put) m) ≡ machine.making s asked c.args.node)
    (sym (c.self-2.view_is ∙ c.in_ok-hear.ensures.ok))
    (kept_made s c.args.node m (place c.in_ok-put.put) c.one_more-behind.result (here_view c.in_ok-here.here) asked c.in_ok-node.ensures.ok c.in_ok-put.ensures c.one_more-behind.ensures here b)
