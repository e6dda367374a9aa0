use Rattle.std.proofs.Common.{◌∙◌, sym, ap, subst}
use Rattle.dsec_spec.specs.Names.{place}
use Rattle.dsec_by_node.specs.Answers.{Told, CanBeTold, validated_by}
use Rattle.dsec_by_node.proofs.TellingLaws.{shows_group, secure_group, not_secure, because, unsecured_group}
use Rattle.dsec_by_node.proofs.told.Told.into_validated.Goals as goal

pub secure-requires : goal.secure-requires
secure-requires g c =
    let whole : Told = record { answer = record { state = c.self.inside.state; closest_encloser = c.self.inside.closest_encloser; cause = c.self.inside.cause; adjusted = c.self.inside.adjusted }; shown = c.self.inside.shown } in
    let can : CanBeTold g.V.Verifier.accepts c.args.group (place c.args.signer) whole = subst (CanBeTold g.V.Verifier.accepts c.args.group (place c.args.signer)) (sym c.self.view_is) c.requires in
    shows_group g.V.Verifier.accepts c.args.group c.args.signer whole can c.in-Some.shown c.in-Some.is

pub unsecured-requires-clause-other : goal.unsecured-requires-clause-other
unsecured-requires-clause-other g c =
    let whole : Told = record { answer = record { state = c.self.inside.state; closest_encloser = c.self.inside.closest_encloser; cause = c.self.inside.cause; adjusted = c.self.inside.adjusted }; shown = c.self.inside.shown } in
    let can : CanBeTold g.V.Verifier.accepts c.args.group (place c.args.signer) whole = subst (CanBeTold g.V.Verifier.accepts c.args.group (place c.args.signer)) (sym c.self.view_is) c.requires in
    not_secure g.V.Verifier.accepts c.args.group c.args.signer whole can c.in-None.is

pub unsecured-requires-clause-because : goal.unsecured-requires-clause-because
unsecured-requires-clause-because g c =
    let whole : Told = record { answer = record { state = c.self.inside.state; closest_encloser = c.self.inside.closest_encloser; cause = c.self.inside.cause; adjusted = c.self.inside.adjusted }; shown = c.self.inside.shown } in
    let can : CanBeTold g.V.Verifier.accepts c.args.group (place c.args.signer) whole = subst (CanBeTold g.V.Verifier.accepts c.args.group (place c.args.signer)) (sym c.self.view_is) c.requires in
    because g.V.Verifier.accepts c.args.group c.args.signer whole can c.in-None.is

pub returns-in-Some : goal.returns-in-Some
returns-in-Some g c =
    let whole : Told = record { answer = record { state = c.self.inside.state; closest_encloser = c.self.inside.closest_encloser; cause = c.self.inside.cause; adjusted = c.self.inside.adjusted }; shown = c.self.inside.shown } in
    let can : CanBeTold g.V.Verifier.accepts c.args.group (place c.args.signer) whole = subst (CanBeTold g.V.Verifier.accepts c.args.group (place c.args.signer)) (sym c.self.view_is) c.requires in
    c.secure.ensures ∙ (secure_group g.V.Verifier.accepts c.args.group c.args.signer whole can c.in-Some.shown c.in-Some.is ∙ ap (validated_by c.args.group c.args.signer) c.self.view_is)

pub returns-in-None : goal.returns-in-None
returns-in-None g c =
    let whole : Told = record { answer = record { state = c.self.inside.state; closest_encloser = c.self.inside.closest_encloser; cause = c.self.inside.cause; adjusted = c.self.inside.adjusted }; shown = c.self.inside.shown } in
    let can : CanBeTold g.V.Verifier.accepts c.args.group (place c.args.signer) whole = subst (CanBeTold g.V.Verifier.accepts c.args.group (place c.args.signer)) (sym c.self.view_is) c.requires in
    c.unsecured.ensures ∙ (unsecured_group g.V.Verifier.accepts c.args.group c.args.signer whole can c.in-None.is ∙ ap (validated_by c.args.group c.args.signer) c.self.view_is)
