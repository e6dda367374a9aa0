use Rattle.std.proofs.Common.{ℕ, List, [], sym, ap, ◌∙◌, subst}
use Rattle.dsec_spec.specs.Names.{place}
use Rattle.dsec_nodes.specs.ByDs.{made, by_ds_reply}
use Rattle.dsec_nodes.specs.Held.{IsPending}
use Rattle.dsec_nodes.specs.Replies.{sections}
use Rattle.dsec_node.specs.Views.{bounds_of, standing_view, world_of}
use Rattle.dsec_node.proofs.KeyData.{if_ok}
use Rattle.dsec_child.specs.Belows.{below_view}
use Rattle.dsec_child.specs.Replied.{reply_view}
use Rattle.dsec_child.proofs.BelowSteps.{follows_pending, same_keys}
use Rattle.dsec_child.proofs.below.by_ds_reply.Goals as goal

pub returns-in-Sections-clause-pending : goal.returns-in-Sections-clause-pending
returns-in-Sections-clause-pending g c =
    let a = c.args in
    let w = world_of g.V.Verifier.accepts [] (bounds_of a.config.now) a.now in
    let its = c.in-Apex.keys in
    let begins = sym c.standing.ensures.value ∙ ap standing_view c.in-Apex.is in
    if_ok c.by_sections.result (λ it h keys pending says asked.
    subst (λ (ks : List (List ℕ)). IsPending w a.zone.now ks pending) (same_keys its keys (sym begins ∙ says))
    (follows_pending w a.zone.now its (place a.name.now) (sections c.as_slice.result.now c.as_slice-in-Sections.result.now) c.standing.ensures.kept begins c.requires.made c.requires.counts c.requires.under (below_view it) h pending asked))
    c.by_sections.ensures.below

pub returns-in_ok-bogus-in-Failed-clause-below : goal.returns-in_ok-bogus-in-Failed-clause-below
returns-in_ok-bogus-in-Failed-clause-below g c = λ keys says.
    let a = c.args in
    let w = world_of g.V.Verifier.accepts [] (bounds_of a.config.now) a.now in
    ap (λ n. made n) (c.in_ok-bogus-in-Failed.ensures []) ∙ ap (by_ds_reply w a.zone.now keys (place a.name.now)) (sym (ap reply_view c.in-Failed.is) ∙ c.in_ok-answers.ensures)

pub returns-in_ok-bogus-in-Unreadable-clause-below : goal.returns-in_ok-bogus-in-Unreadable-clause-below
returns-in_ok-bogus-in-Unreadable-clause-below g c = λ keys says.
    let a = c.args in
    let w = world_of g.V.Verifier.accepts [] (bounds_of a.config.now) a.now in
    ap (λ n. made n) (c.in_ok-bogus-in-Unreadable.ensures []) ∙ ap (by_ds_reply w a.zone.now keys (place a.name.now)) (sym (ap reply_view c.in-Unreadable.is) ∙ c.in_ok-answers.ensures)
