use Rattle.dsec_nsec3_calls.specs.Views.{nsec3_at}
use Rattle.dsec_nsec3_calls.proofs.ToldLaws.{not_top}
use Rattle.dsec_nsec3_calls.proofs.by_record.covered.Goals as goal

pub returns-else-asked-clause-look : goal.returns-else-asked-clause-look
returns-else-asked-clause-look g c = λ zone z.
    not_top (nsec3_at zone c.args.owner.now c.args.nsec3.now) c.args.index c.args.left c.args.asked.now.is_top zone c.opts_out.result c.if-asked.false (c.opts_out.ensures zone c.args.owner.now)
