use Rattle.std.proofs.Common.{map, rules}
use Rattle.dsec_rrsig.specs.Signers.{period_of}
use Rattle.dsec_rrsig.specs.declared.error.SignError.TheVariants as sign
use Rattle.dsec_sign.specs.Places.{set_at}
use Rattle.dsec_sign.specs.SignerAsks.{all_asked}
use Rattle.dsec_sign.proofs.AskSteps.{asks_as, none_at_most}
use Rattle.dsec_sign.proofs.signing.sign_sets.Goals as goal

pub returns-in_err-tags-clause-asks : goal.returns-in_err-tags-clause-asks
returns-in_err-tags-clause-asks g c =
    let period = period_of c.args.config.now in
    let sets = map (set_at c.args.records.now) c.args.sets.now in
    let asks = all_asked g.I.SignRaw.key g.I.SignRaw.asked g.I.SignRaw.given c.args.keys.now in
    asks_as period sets asks asks c.from_residual.result sign.NoMemory (search rules) (none_at_most period sets asks)

pub returns-in_err-all-clause-asks : goal.returns-in_err-all-clause-asks
returns-in_err-all-clause-asks g c =
    let period = period_of c.args.config.now in
    let sets = map (set_at c.args.records.now) c.args.sets.now in
    let asks = all_asked g.I.SignRaw.key g.I.SignRaw.asked g.I.SignRaw.given c.args.keys.now in
    asks_as period sets asks asks c.from_residual-in_err-all.result sign.NoMemory (search rules) (none_at_most period sets asks)
