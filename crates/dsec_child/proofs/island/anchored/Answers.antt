use Rattle.std.proofs.Common.{ℕ, Vec, Global, Bor, sym, ap, ◌∙◌}
use Rattle.std.specs.Prelude.{find}
use Rattle.std.specs.Option.{option_map}
use Rattle.dsec_spec.specs.Groups.{Group}
use Rattle.dsec_spec.specs.Names.{place}
use Rattle.dsec_spec.specs.Numbers.{DNSKEY}
use Rattle.dsec_nodes.specs.Replies.{read_reply as reply_of}
use Rattle.dsec_nodes.specs.Signing.{is_set_at}
use Rattle.dsec_nodes.specs.Walk.{by_anchor_reply}
use Rattle.dsec_node.specs.Views.{bounds_of, world_of}
use Rattle.dsec_node.proofs.KeyData.{if_ok}
use Rattle.dsec_child.specs.Replied.{reply_view}
use Rattle.dsec_child.proofs.AnchoredSteps.{by_no_set}
use Rattle.dsec_child.proofs.island.anchored.Goals as goal

pub returns-in-Sections-clause-node : goal.returns-in-Sections-clause-node
returns-in-Sections-clause-node g c =
    let anchors = c.args.anchors.now in
    let top = place c.args.top.now in
    let w = world_of g.V.Verifier.accepts anchors (bounds_of c.args.config.now) c.args.now in
    let reply = reply_of (option_map (λ (v : Vec ℕ Global). v.items) c.args.reply) in
    let e = sym (ap reply_view c.in-Sections.is) ∙ c.in_ok-answers.ensures in
    let f = sym (ap (option_map (λ (b : Bor Group). b.now)) c.in-None.is) ∙ (c.set_at.ensures.first ∙ ap (find (is_set_at top DNSKEY)) c.as_slice.ensures.value) in
    if_ok c.bogus.result (λ n h. h anchors ∙ by_no_set w top reply c.in-Sections.answers.groups c.in-Sections.field-1.groups e f) c.bogus.ensures

pub returns-in-Failed-clause-node : goal.returns-in-Failed-clause-node
returns-in-Failed-clause-node g c =
    let anchors = c.args.anchors.now in
    let top = place c.args.top.now in
    let w = world_of g.V.Verifier.accepts anchors (bounds_of c.args.config.now) c.args.now in
    if_ok c.bogus-in-Failed.result (λ n h. h anchors ∙ ap (by_anchor_reply w top) (sym (ap reply_view c.in-Failed.is) ∙ c.in_ok-answers.ensures)) c.bogus-in-Failed.ensures

pub returns-clause-node : goal.returns-clause-node
returns-clause-node g c =
    let anchors = c.args.anchors.now in
    let top = place c.args.top.now in
    let w = world_of g.V.Verifier.accepts anchors (bounds_of c.args.config.now) c.args.now in
    if_ok c.bogus-in-Unreadable.result (λ n h. h anchors ∙ ap (by_anchor_reply w top) (sym (ap reply_view c.in-Unreadable.is) ∙ c.in_ok-answers.ensures)) c.bogus-in-Unreadable.ensures
