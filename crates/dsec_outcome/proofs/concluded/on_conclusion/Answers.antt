use Rattle.std.proofs.Common.{sym, ap, ◌∙◌}
use Rattle.std.specs.Prelude.{filter_map}
use Rattle.dsec_nodes.specs.ByDenial.{used_at}
use Rattle.dsec_found.proofs.FoundSteps.{if_ok}
use Rattle.dsec_outcome.proofs.ConclusionSteps.{proved_by}
use Rattle.dsec_outcome.proofs.concluded.on_conclusion.Goals as goal

pub returns-in_ok-used-in-Proved : goal.returns-in_ok-used-in-Proved
returns-in_ok-used-in-Proved g c =
    let authorities = c.args.authorities.now in
    if_ok c.secure_by.result (λ outcome h d e.
    proved_by authorities c.args.judged.now d c.in-Proved.used c.in_ok-used-in-Proved.used.items outcome (sym e ∙ c.in-Proved.is)
    (c.in_ok-used-in-Proved.ensures ∙ ap (filter_map (used_at authorities)) c.as_slice.ensures) h) c.secure_by.ensures
