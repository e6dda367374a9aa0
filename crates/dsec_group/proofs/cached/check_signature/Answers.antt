use Rattle.std.proofs.Common.{◌≡◌, ◌∙◌}
use Rattle.dsec_spec.specs.Groups.{set_in}
use Rattle.dsec_spec.specs.Names.{place}
use Rattle.dsec_spec.specs.SignedBytes.{signed_bytes}
use Rattle.dsec_link.specs.TaggedKeys.{tagged_view}
use Rattle.dsec_wire.specs.Views.{rrsig_view}
use Rattle.dsec_group.proofs.CheckLaws.{heard, signed_by_answer, unsigned_by_name, unsigned_by_test}
use Rattle.dsec_group.proofs.cached.check_signature.Goals as goal

pub returns-then-not-may_sign : goal.returns-then-not-may_sign
returns-then-not-may_sign g c =
    unsigned_by_test g.V.Verifier.accepts (set_in c.args.group.now) (rrsig_view c.args.rrsig.now) (tagged_view c.args.key.now) (place c.args.zone.now) c.args.t c.may_sign.result c.if-not-may_sign.true
    (rw (c.owner-owner.ensures, c.rtype-rtype.ensures) at c.may_sign.ensures)

pub returns-then-not-names_key : goal.returns-then-not-names_key
returns-then-not-names_key g c =
    unsigned_by_name g.V.Verifier.accepts (set_in c.args.group.now) (rrsig_view c.args.rrsig.now) (tagged_view c.args.key.now) (place c.args.zone.now) c.args.t c.names_key.result c.if-not-names_key.true c.names_key.ensures

pub returns : goal.returns
returns g c =
    let sig = rrsig_view c.args.rrsig.now in
    let key = tagged_view c.args.key.now in
    let set = set_in c.args.group.now in
    let message : c.deref.result.now ≡ signed_bytes sig set =
    c.deref.ensures.value ∙ rw (← c.owner-owner.ensures, ← c.class.ensures, ← c.rtype-rtype.ensures, ← c.rr_set.ensures.records) c.in_ok-message.ensures in
    signed_by_answer g.V.Verifier.accepts set sig key (place c.args.zone.now) c.args.t c.may_sign.result c.names_key.result c.is_accepted.result c.if-not-may_sign.false
    (rw (c.owner-owner.ensures, c.rtype-rtype.ensures) at c.may_sign.ensures) c.if-not-names_key.false c.names_key.ensures
    (heard g.V.Verifier.accepts set sig key (place c.args.zone.now) c.args.t c.is_accepted.result c.deref.result.now c.is_accepted.ensures message)
