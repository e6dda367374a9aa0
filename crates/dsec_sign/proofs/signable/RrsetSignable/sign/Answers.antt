use Rattle.std.proofs.Common.{◌∙◌, List, sym, subst, rules}
use Rattle.dsec_spec.specs.Names.{place}
use Rattle.dsec_spec.specs.SignedZones.{sets_to_sign}
use Rattle.dsec_spec.specs.CanonicalRecords.{AreOfOneClass}
use Rattle.dsec_spec.specs.Records.{Record}
use Rattle.dsec_sorted.specs.SetViews.{members_of}
use Rattle.dsec_rrsig.specs.declared.error.SigningError.TheVariants as signing
use Rattle.dsec_sign.specs.SignerAsks.{all_asked}
use Rattle.dsec_sign.proofs.AskSteps.{refused_unasked}
use Rattle.dsec_sign.proofs.SetClass.{class_of_set}
use Rattle.dsec_sign.proofs.signable.RrsetSignable.sign.Goals as goal

pub owners_of-requires-clause-class : goal.owners_of-requires-clause-class
owners_of-requires-clause-class g c =
    subst (λ (xs : List Record). AreOfOneClass xs) (sym (c.deref.ensures.value ∙ c.in_ok-records.ensures))
    (class_of_set (members_of c.args.self.now) c.args.self.now.one_set)

pub sign_sorted_zone_records-requires-clause-class : goal.sign_sorted_zone_records-requires-clause-class
sign_sorted_zone_records-requires-clause-class g c =
    subst (λ (xs : List Record). AreOfOneClass xs) (sym (c.owners_of.ensures ∙ (c.deref.ensures.value ∙ c.in_ok-records.ensures)))
    (class_of_set (members_of c.args.self.now) c.args.self.now.one_set)

pub returns-in_err-records-clause-asks : goal.returns-in_err-records-clause-asks
returns-in_err-records-clause-asks g c =
    refused_unasked (record { inception = c.args.inception; expiration = c.args.expiration }) (sets_to_sign (place c.args.apex.now) (members_of c.args.self.now)) (all_asked g.I.SignRaw.key g.I.SignRaw.asked g.I.SignRaw.given c.args.keys.now) c.from_residual.result signing.OutOfMemory (search rules)
