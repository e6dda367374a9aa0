-- What a node that counts for a taker gives the taker: a zone that is held, and a chain from the taker's anchors.
use Rattle.std.proofs.Common.{◌≡◌, ℕ, List, sym, ◌∙◌, subst, arith}
use Rattle.std.specs.Prelude.{Contains}
use Rattle.std.proofs.lemmas.Option.{same_Some}
use Rattle.dsec_spec.specs.Names.{Place}
use Rattle.dsec_spec.specs.Chain.{IsChain}
use Rattle.dsec_nodes.specs.World.{World, moment}
use Rattle.dsec_nodes.specs.Nodes.{Node, apex, Kept}
use Rattle.dsec_nodes.specs.Held.{HeldZone}
use Rattle.dsec_nodes.specs.Taking.{Taken}
use Rattle.dsec_nodes.proofs.AmongLaws.{chain_among}
use Rattle.dsec_nodes.proofs.KeptLaws.{held}

-- a zone that counts for a taker is held (RFC 4035 4.5)
pub counted_zone : (w : World) (top name : Place) (n : Node) (keys : List (List ℕ)) → Kept w.accepts n → Taken w top name n → n.standing ≡ apex keys → HeldZone w n keys
counted_zone w top name n keys kept t is = held w n keys kept is t.from t.to

-- the links of a zone that counts for a taker are a chain from the taker's anchors to its keys, at the moment of judging (RFC 4035 5)
pub counted_chain : (w : World) (top name : Place) (n : Node) (keys : List (List ℕ)) → Kept w.accepts n → Taken w top name n → n.standing ≡ apex keys
    → IsChain w.accepts w.anchors n.links n.signer keys (moment w)
counted_chain w top name n keys kept t is =
    let zone = counted_zone w top name n keys kept t is in
    let same = same_Some t.rests.anchor zone.anchor (sym t.rests.its ∙ zone.its) in
    chain_among w.accepts zone.anchor w.anchors n.links n.signer keys (moment w) (subst (Contains w.anchors) same t.rests.is_listed) (zone.chain_to w.now (omega arith) (omega arith))
