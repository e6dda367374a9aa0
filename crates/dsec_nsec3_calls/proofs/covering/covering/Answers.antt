use Rattle.std.proofs.Common.{sym, ◌∙◌}
use Rattle.dsec_nsec3_calls.specs.Views.{nsec3_at}
use Rattle.dsec_nsec3_calls.proofs.ToldLaws.{cover_opens, cover_disproves}
use Rattle.dsec_nsec3_calls.proofs.covering.covering.Goals as goal

pub returns-then-opts_out : goal.returns-then-opts_out
returns-then-opts_out g c = λ signer n z.
    cover_opens signer n c.args.index (nsec3_at signer c.args.owner.now c.args.nsec3.now) (sym (c.is_own_dname.ensures signer z) ∙ c.if-is_own_dname.false) (sym (c.opts_out.ensures signer c.args.owner.now) ∙ c.if-opts_out.true)

pub returns-else-opts_out : goal.returns-else-opts_out
returns-else-opts_out g c = λ signer n z.
    cover_disproves signer n c.args.index (nsec3_at signer c.args.owner.now c.args.nsec3.now) (sym (c.is_own_dname.ensures signer z) ∙ c.if-is_own_dname.false) (sym (c.opts_out.ensures signer c.args.owner.now) ∙ c.if-opts_out.false)
