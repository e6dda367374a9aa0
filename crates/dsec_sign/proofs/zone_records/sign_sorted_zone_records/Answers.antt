use Rattle.std.proofs.Common.{rules}
use Rattle.dsec_spec.specs.Names.{place}
use Rattle.dsec_spec.specs.SignedZones.{sets_to_sign}
use Rattle.dsec_sorted.specs.IterViews.{left_of}
use Rattle.dsec_rrsig.specs.Signers.{period_of}
use Rattle.dsec_rrsig.specs.declared.error.SigningError.TheVariants as signing
use Rattle.dsec_sign.specs.SignerAsks.{all_asked}
use Rattle.dsec_sign.proofs.AskSteps.{refused_unasked}
use Rattle.dsec_sign.proofs.SignableSets.{all_signable}
use Rattle.dsec_sign.proofs.zone_records.sign_sorted_zone_records.Goals as goal

pub sign_sets-requires : goal.sign_sets-requires
sign_sets-requires g c =
    let ttls = rw (c.as_slice.ensures, c.deref.ensures.value) at c.in_ok-allow.ensures.allowed.ttls in
    rw (c.deref-2.ensures.value, c.as_slice-2.ensures) (all_signable (left_of c.args.records) c.in_ok-sets.sets.items c.requires.canonical c.in_ok-sets.ensures.found c.in_ok-sets.ensures.one ttls)

pub returns-in_err-sets-clause-asks : goal.returns-in_err-sets-clause-asks
returns-in_err-sets-clause-asks g c =
    refused_unasked (period_of c.args.config.now) (sets_to_sign (place c.args.apex.now) (left_of c.args.records)) (all_asked g.I.SignRaw.key g.I.SignRaw.asked g.I.SignRaw.given c.args.keys.now) c.from_residual.result signing.OutOfMemory (search rules)

pub returns-in_err-allow-clause-asks : goal.returns-in_err-allow-clause-asks
returns-in_err-allow-clause-asks g c =
    refused_unasked (period_of c.args.config.now) (sets_to_sign (place c.args.apex.now) (left_of c.args.records)) (all_asked g.I.SignRaw.key g.I.SignRaw.asked g.I.SignRaw.given c.args.keys.now) c.from_residual-in_err-allow.result c.in_err-allow.field-0.0 (search rules)
