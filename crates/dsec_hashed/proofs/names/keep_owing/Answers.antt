use Rattle.std.proofs.Common.{rules}
use Rattle.std.proofs.lemmas.Fn.{filter_same}
use Rattle.dsec_hashed.specs.HashedViews.{is_kept_view}
use Rattle.dsec_hashed.proofs.names.keep_owing.Goals as goal

pub returns : goal.returns
returns c = filter_same _ (is_kept_view c.args.opt_out) _ (λ x b f' k. search rules) _ _ c.retain.ensures.filtered
