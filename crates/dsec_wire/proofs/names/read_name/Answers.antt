use Rattle.dsec_wire.proofs.NameReads.{found_name, only_name}
use Rattle.dsec_wire.proofs.names.read_name.Goals as goal

pub returns-clause-found : goal.returns-clause-found
returns-clause-found c = found_name c.args.message.now c.args.at c.name_at.result c.name_at.ensures.exact

pub returns-clause-only : goal.returns-clause-only
returns-clause-only c = only_name c.args.message.now c.args.at c.name_at.result c.name_at.ensures.exact
