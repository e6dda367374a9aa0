use Rattle.std.proofs.Common.{sym, ◌∙◌}
use Rattle.dsec_rewrite.specs.Cutting.{is_changed}
use Rattle.dsec_rewrite.specs.Views.{bounded_view}
use Rattle.dsec_rewrite.proofs.CuttingLaws.{any_viewed}
use Rattle.dsec_rewrite.proofs.rewriting.any_differs.Goals as goal

pub returns : goal.returns
returns c = c.one_differs.ensures ∙ sym (any_viewed is_changed bounded_view c.args.groups.now)
