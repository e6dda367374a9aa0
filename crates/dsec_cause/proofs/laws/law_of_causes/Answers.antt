use Rattle.dsec_cause.proofs.CauseLemmas.{told_apart}
use Rattle.dsec_cause.proofs.laws.law_of_causes.Goals as goal

pub returns : goal.returns
returns c = told_apart
