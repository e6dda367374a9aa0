use Rattle.std.proofs.Common.{◌≡◌, ◌∙◌, ap, arith, subst, sym}
use Rattle.dsec_spec.specs.Names.{place}
use Rattle.dsec_spec.specs.Outside.{Rose}
use Rattle.dsec_spec.specs.Signatures.{Period}
use Rattle.dsec_sorted.specs.SetViews.{members_of}
use Rattle.dsec_sorted.specs.Sets.{AreOfOneSet, records_at}
use Rattle.dsec_rrsig.specs.Made.{IsSetRefusal}
use Rattle.dsec_rrsig.specs.Messages.{first_type}
use Rattle.dsec_signing.specs.Signed.{IsKeySetRefusal, keys_at}
use Rattle.dsec_signing.proofs.KeySets.{if_err, of_one_set, refusal_of_set}
use Rattle.dsec_signing.proofs.key_set.sign_key_set.Goals as goal

pub new_from_refs-requires-clause-set : goal.new_from_refs-requires-clause-set
new_from_refs-requires-clause-set c =
    let same = ap (records_at c.args.records.now) c.deref.ensures.value ∙ c.in_ok-places.ensures.set in
    subst AreOfOneSet (sym same) (of_one_set (place c.args.apex.now) c.args.records.now)

pub returns-clause-why : goal.returns-clause-why
returns-clause-why c =
    let period : Period = record { inception = c.args.inception; expiration = c.args.expiration } in
    let keys = members_of c.in_ok-set.set in
    let same : keys ≡ keys_at (place c.args.apex.now) c.args.records.now = c.in_ok-set.ensures.set ∙ (ap (records_at c.args.records.now) c.deref.ensures.value ∙ c.in_ok-places.ensures.set) in
    if_err (IsSetRefusal (first_type keys) period (Rose 0 0)) (IsKeySetRefusal period (keys_at (place c.args.apex.now) c.args.records.now)) c.sign_rrset.result
    (λ e why. refusal_of_set (place c.args.apex.now) c.args.records.now keys period (Rose 0 0) e (λ rose. omega (arith, rose)) same why) c.sign_rrset.ensures.why
