use Rattle.std.proofs.Common.{rules}
use Rattle.std.proofs.lemmas.Fn.{filter_same}
use Rattle.dsec_chain.specs.Views.{is_typed}
use Rattle.dsec_chain.proofs.nsec.keep_typed.Goals as goal

pub returns : goal.returns
returns c = filter_same _ is_typed _ (λ x b f' k. search rules) _ _ c.retain.ensures.filtered
