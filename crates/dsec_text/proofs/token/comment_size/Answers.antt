use Rattle.std.proofs.Common.{◌∙◌, ap, ℕ, Option, length}
use Rattle.std.specs.Option.{unwrap_or}
use Rattle.dsec_text.proofs.TokenLemmas.{line_or_end}
use Rattle.dsec_text.proofs.token.comment_size.Goals as goal

pub returns-clause-size : goal.returns-clause-size
returns-clause-size c =
    c.unwrap_or.ensures ∙ (ap (λ (found : Option ℕ). unwrap_or found (length c.args.text.now)) c.line_end.ensures ∙ line_or_end c.args.text.now)
