use Rattle.std.proofs.Common.{arith}
use Rattle.dsec_context.proofs.FewLaws.{groups_counted}
use Rattle.dsec_context.proofs.judging.most_asked.Goals as goal

pub returns-clause-enough : goal.returns-clause-enough
returns-clause-enough c = λ anchors most.
    omega (arith, groups_counted anchors most c.args.message.now c.header-header.result c.header-header.ensures, c.ancount.ensures, c.nscount.ensures)
