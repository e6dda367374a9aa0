use Rattle.std.proofs.Common.{ap}
use Rattle.std.specs.Option.{option_map}
use Rattle.dsec_spec.specs.Numbers.{DNSKEY}
use Rattle.dsec_nodes.specs.Machine.{heard, making}
use Rattle.dsec_node.specs.Views.{bounds_of}
use Rattle.dsec_walk.proofs.Heard.{keys_heard}
use Rattle.dsec_walk.proofs.Worlds.{pending_same}
use Rattle.dsec_walk.proofs.walk.Walk.keys_below.Goals as goal

pub by_keys-requires-clause-ready : goal.by_keys-requires-clause-ready
by_keys-requires-clause-ready g c =
    let it = c.args.setting.now in
    let z = c.requires.counts in
    (z.keys, z.begins, pending_same g.V.Verifier.accepts it.anchors.now (bounds_of it.config.now) it.moment c.args.zone.now c.args.pending.now z.keys z.begins c.requires.pends)

pub returns-clause-next : goal.returns-clause-next
returns-clause-next g c =
    let it = c.args.setting.now in
    let s = c.args.self.now in
    ap (making s (heard s DNSKEY c.args.reply.now))
    (keys_heard g.V.Verifier.accepts it.anchors.now (bounds_of it.config.now) it.moment c.args.zone.now c.args.pending.now c.args.reply.now (option_map (λ octets. octets.items) c.in_ok-octets.octets) c.in_ok-node.node c.in_ok-octets.ensures c.in_ok-node.ensures.node)
