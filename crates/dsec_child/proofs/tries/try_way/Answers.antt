use Rattle.std.proofs.Common.{◌≡◌, ◌∷◌, [], sym, ap, ◌∙◌, subst}
use Rattle.std.specs.Option.{option_map}
use Rattle.std.specs.Prelude.{slice_get}
use Rattle.std.proofs.lemmas.Option.{slice_get-map}
use Rattle.dsec_spec.specs.Names.{Labels, place}
use Rattle.dsec_spec.specs.Groups.{set_in}
use Rattle.dsec_spec.specs.Records.{Record, key_of}
use Rattle.dsec_spec.proofs.ReadingLemmas.{from_bind}
use Rattle.dsec_wire.specs.Views.{key_view}
use Rattle.dsec_link.specs.KeySearches.{search_view}
use Rattle.dsec_group.specs.Trials.{AreTries, left, pair_trial}
use Rattle.dsec_group.specs.declared.tries.Tries.TheVariants.{Good}
use Rattle.dsec_node.proofs.KeyTagLaws.{tag_there}
use Rattle.dsec_child.specs.Tries.{IsWayTry}
use Rattle.dsec_child.specs.declared.tries.WayTry.TheVariants as one
use Rattle.dsec_child.proofs.WaySteps.{key_found, key_left}
use Rattle.dsec_child.proofs.tries.try_way.Goals as goal

pub tag_at-tag-requires : goal.tag_at-tag-requires
tag_at-tag-requires g c =
    let group = c.args.group.now in
    let index = c.in-FoundAt.index in
    let key = key_view c.in-Some.key in
    let b = from_bind (slice_get group.records index) (λ r. key_of r.rdata) key (sym c.key_at.ensures ∙ ap (option_map key_view) c.in-Some.is) in
    tag_there c.args.tags.now (set_in group).datas index b.0.rdata key c.requires.tags (slice_get-map (λ (r : Record). r.rdata) group.records index ∙ ap (option_map (λ (r : Record). r.rdata)) b.1) (sym b.2)

pub returns-in-Good-clause-tries : goal.returns-in-Good-clause-tries
returns-in-Good-clause-tries g c =
    let accepts = g.V.Verifier.accepts in
    let group = c.args.group.now in
    let index = c.in-FoundAt.index in
    let key = key_view c.in-Some.key in
    let picked = sym c.pick.ensures ∙ ap search_view c.in-FoundAt.is in
    let b = from_bind (slice_get group.records index) (λ r. key_of r.rdata) key (sym c.key_at.ensures ∙ ap (option_map key_view) c.in-Some.is) in
    let h = subst (λ (n : Labels). AreTries group.signatures (key ∷ []) (Good c.in-Good.signature c.in-Good.field-1) (pair_trial accepts group (place n) c.args.t c.args.room group.signatures (key ∷ []))) c.owner.ensures
    (subst (λ r. AreTries group.signatures (key ∷ []) r (pair_trial accepts group (place c.owner.result.now) c.args.t c.args.room group.signatures (key ∷ []))) c.in-Good.is c.in_ok-signature.ensures.tries) in
    subst (λ s. IsWayTry accepts group c.args.bad c.args.t c.args.room c.args.way.now s (one.Good c.in-Good.signature index)) (sym picked)
    (key_found accepts group c.args.t c.args.bad c.args.room index c.in-Good.signature b.0 key c.args.way.now h.0 h.1 b.1 b.2 h.2 h.4)

pub returns-in-Left-clause-tries : goal.returns-in-Left-clause-tries
returns-in-Left-clause-tries g c =
    let accepts = g.V.Verifier.accepts in
    let group = c.args.group.now in
    let index = c.in-FoundAt.index in
    let key = key_view c.in-Some.key in
    let picked = sym c.pick.ensures ∙ ap search_view c.in-FoundAt.is in
    let b = from_bind (slice_get group.records index) (λ r. key_of r.rdata) key (sym c.key_at.ensures ∙ ap (option_map key_view) c.in-Some.is) in
    let h = subst (λ (n : Labels). pair_trial accepts group (place n) c.args.t c.args.room group.signatures (key ∷ []) ≡ left c.in-Left.more) c.owner.ensures
    (subst (λ r. AreTries group.signatures (key ∷ []) r (pair_trial accepts group (place c.owner.result.now) c.args.t c.args.room group.signatures (key ∷ []))) c.in-Left.is c.in_ok-signature.ensures.tries) in
    subst (λ s. IsWayTry accepts group c.args.bad c.args.t c.args.room c.args.way.now s (one.Left c.in-Left.more c.cause_after.result)) (sym picked)
    (key_left accepts group c.args.t c.args.bad c.args.room index c.in-Left.more b.0 key c.args.way.now c.cause_after.result b.1 b.2 h c.cause_after.ensures)
