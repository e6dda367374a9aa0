use Rattle.std.proofs.Common.{ℕ, [], ◌∷◌, sym, subst}
use Rattle.dsec_spec.specs.Records.{RecordSet}
use Rattle.dsec_spec.specs.Chain.{Holds}
use Rattle.dsec_nodes.specs.World.{on_circle}
use Rattle.dsec_by_node.proofs.TellingLaws.{rests_holds}
use Rattle.dsec_by_node.proofs.grounds.shown_by.Goals as goal

pub new-requires : goal.new-requires
new-requires g c =
    subst (λ (t : ℕ). (set : RecordSet) × Holds g.V.Verifier.accepts (c.in_ok-anchor.anchor ∷ []) c.in_ok-links.links set t) (sym c.from_seconds.ensures)
    (rests_holds g.V.Verifier.accepts c.args.judged.now.group c.args.node.now (on_circle c.args.now) c.args.judged.now.finding c.in_ok-anchor.anchor c.in_ok-links.links
    c.requires.shown c.in_ok-anchor.ensures c.in_ok-links.ensures c.requires.rests)
