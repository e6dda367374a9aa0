use Rattle.std.proofs.Common.{◌-◌, Bool, sym, ap, ◌∙◌, arith}
use Rattle.dsec_nsec3.specs.Walks.{covered}
use Rattle.dsec_nsec3_calls.specs.Views.{nsec3_at}
use Rattle.dsec_nsec3_calls.proofs.LookLaws.{top_plain, top_full, top_own, top_other}
use Rattle.dsec_nsec3_calls.proofs.by_record.covered_at_top.Goals as goal

pub returns-then-not-has-clause-look : goal.returns-then-not-has-clause-look
returns-then-not-has-clause-look g c = λ signer z.
    ap (λ (o : Bool). covered c.args.index c.args.left o) (c.opts_out-opt_out.ensures signer c.args.owner.now)
    ∙ top_plain signer c.args.index c.args.left (nsec3_at signer c.args.owner.now c.args.nsec3.now) (sym c.has.ensures ∙ c.if-not-has.true)

pub returns-then-left-eq0-clause-look : goal.returns-then-left-eq0-clause-look
returns-then-left-eq0-clause-look g c = λ signer z.
    top_full signer c.args.index c.args.left (nsec3_at signer c.args.owner.now c.args.nsec3.now) (sym c.has.ensures ∙ c.if-not-has.false) c.if-left-eq0.true

pub returns-then-matches-clause-look : goal.returns-then-matches-clause-look
returns-then-matches-clause-look g c = λ signer z.
    top_own signer c.args.index c.args.left (nsec3_at signer c.args.owner.now c.args.nsec3.now) (sym c.has.ensures ∙ c.if-not-has.false) (λ h. let some = c.if-left-eq0.false in absurd (omega (arith, some, h)))
    (sym (c.matches.ensures signer signer z) ∙ c.if-matches.true)

pub returns-else-matches-clause-look : goal.returns-else-matches-clause-look
returns-else-matches-clause-look g c = λ signer z.
    ap (λ (o : Bool). covered c.args.index (c.args.left - 1) o) (c.opts_out-opt_out.ensures signer c.args.owner.now)
    ∙ top_other signer c.args.index c.args.left (nsec3_at signer c.args.owner.now c.args.nsec3.now) (sym c.has.ensures ∙ c.if-not-has.false) (λ h. let some = c.if-left-eq0.false in absurd (omega (arith, some, h)))
    (sym (c.matches.ensures signer signer z) ∙ c.if-matches.false)
