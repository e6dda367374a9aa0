-- What a walk hears of a name below its zone.
use Rattle.std.proofs.Common.{◌≡◌, ℕ, List, [], Option, sym, ap, ◌∙◌}
use Rattle.dsec_spec.specs.Accepts.{Accepts}
use Rattle.dsec_spec.specs.Names.{Place}
use Rattle.dsec_spec.specs.Records.{Record}
use Rattle.dsec_nodes.specs.World.{Bounds}
use Rattle.dsec_nodes.specs.Nodes.{Node, apex}
use Rattle.dsec_nodes.specs.ByDs.{Below, Pending, by_ds_reply, by_key_reply}
use Rattle.dsec_nodes.specs.Replies.{read_reply}
use Rattle.dsec_nodes.specs.Walk.{held_keys}
use Rattle.dsec_node.specs.Views.{world_of}
use Rattle.dsec_walk.proofs.Worlds.{ds_reply_same, key_reply_same}

module _ (accepts : Accepts) (anchors : List Record) (bounds : Bounds) (now : ℕ) (zone : Node) where
  -- the reply to the question for a DS set, of which a copy was read
  pub ds_heard : (keys : List (List ℕ)) (at name : Place) (octets read : Option (List ℕ)) (b : Below) → zone.standing ≡ apex keys → name ≡ at → read ≡ octets
      → b ≡ by_ds_reply (world_of accepts [] bounds now) zone keys name (read_reply read)
      → by_ds_reply (world_of accepts anchors bounds now) zone (held_keys zone.standing) at (read_reply octets) ≡ b
  ds_heard keys at name octets read b e named same is =
      ds_reply_same accepts anchors bounds now zone (held_keys zone.standing) at (read_reply octets)
      ∙ (ap (λ (ks : List (List ℕ)). by_ds_reply (world_of accepts [] bounds now) zone ks at (read_reply octets)) (ap held_keys e)
      ∙ (ap (λ (p : Place). by_ds_reply (world_of accepts [] bounds now) zone keys p (read_reply octets)) (sym named)
      ∙ (ap (λ (o : Option (List ℕ)). by_ds_reply (world_of accepts [] bounds now) zone keys name (read_reply o)) (sym same) ∙ sym is)))

  -- the reply to the question for a DNSKEY set
  pub keys_heard : (pending : Pending) (octets read : Option (List ℕ)) (n : Node) → read ≡ octets
      → n ≡ by_key_reply (world_of accepts [] bounds now) zone pending (read_reply read)
      → by_key_reply (world_of accepts anchors bounds now) zone pending (read_reply octets) ≡ n
  keys_heard pending octets read n same is =
      key_reply_same accepts anchors bounds now zone pending (read_reply octets)
      ∙ (ap (λ (o : Option (List ℕ)). by_key_reply (world_of accepts [] bounds now) zone pending (read_reply o)) (sym same) ∙ sym is)
