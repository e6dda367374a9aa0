use Rattle.std.proofs.Common.{ap, ◌∙◌}
use Rattle.std.specs.Option.{option_map}
use Rattle.dsec_spec.specs.Names.{place}
use Rattle.dsec_spec.specs.Numbers.{DS}
use Rattle.dsec_nodes.specs.Machine.{below_by, heard, name_at}
use Rattle.dsec_node.specs.Views.{bounds_of}
use Rattle.dsec_child.specs.Belows.{below_view}
use Rattle.dsec_walk.proofs.Heard.{ds_heard}
use Rattle.dsec_walk.proofs.walk.Walk.below_by.Goals as goal

pub returns-in-Made-clause-next : goal.returns-in-Made-clause-next
returns-in-Made-clause-next g c =
    let it = c.args.setting.now in
    let s = c.args.self.now in
    let z = c.requires.counts in
    let asked = heard s DS c.args.reply.now in
    ap (below_by s asked)
    (ds_heard g.V.Verifier.accepts it.anchors.now (bounds_of it.config.now) it.moment c.args.zone.now z.keys (name_at s) (place c.in_ok-name.name) c.args.reply.now (option_map (λ octets. octets.items) c.in_ok-octets.octets) (below_view c.in_ok-below.below) z.begins c.in_ok-name.ensures c.in_ok-octets.ensures (c.in_ok-below.ensures.below z.keys z.begins))
    ∙ ap (λ b. below_by s asked (below_view b)) c.in-Made.is

pub returns-clause-next : goal.returns-clause-next
returns-clause-next g c =
    let it = c.args.setting.now in
    let s = c.args.self.now in
    let z = c.requires.counts in
    let asked = heard s DS c.args.reply.now in
    ap (below_by s asked)
    (ds_heard g.V.Verifier.accepts it.anchors.now (bounds_of it.config.now) it.moment c.args.zone.now z.keys (name_at s) (place c.in_ok-name.name) c.args.reply.now (option_map (λ octets. octets.items) c.in_ok-octets.octets) (below_view c.in_ok-below.below) z.begins c.in_ok-name.ensures c.in_ok-octets.ensures (c.in_ok-below.ensures.below z.keys z.begins))
    ∙ ap (λ b. below_by s asked (below_view b)) c.in-Asks.is
