use Rattle.std.proofs.Common.{take, ap, ◌∙◌}
use Rattle.dsec_spec.specs.Names.{place}
use Rattle.dsec_spec.proofs.PlaceLemmas.{front_of_place}
use Rattle.dsec_nsec3_calls.specs.Walked.{shown_by}
use Rattle.dsec_nsec3_calls.proofs.ToldLaws.{gone_open, gone_closed}
use Rattle.dsec_nsec3_calls.proofs.missing.told_of_gone.Goals as goal

pub returns-then-gone-clause-value : goal.returns-then-gone-clause-value
returns-then-gone-clause-value c =
    let gone = c.args.gone.now in
    let n = place c.args.target.now in
    gone_open (place c.in_ok-encloser.encloser) (take gone.labels n) c.used.result (shown_by gone.at_encloser gone.around) gone.opt_out
    (ap place c.in_ok-encloser.ensures ∙ front_of_place gone.labels c.args.target.now) c.used.ensures c.if-gone.true

pub returns-clause-value : goal.returns-clause-value
returns-clause-value c =
    let gone = c.args.gone.now in
    let n = place c.args.target.now in
    gone_closed (place c.in_ok-encloser.encloser) (take gone.labels n) c.used-2.result (shown_by gone.at_encloser gone.around) gone.opt_out
    (ap place c.in_ok-encloser.ensures ∙ front_of_place gone.labels c.args.target.now) c.used-2.ensures c.if-gone.false
