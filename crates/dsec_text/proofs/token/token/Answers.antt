use Rattle.dsec_text.proofs.TokenLemmas.{token_some, token_within}
use Rattle.dsec_text.proofs.token.token.Goals as goal

pub returns-clause-some : goal.returns-clause-some
returns-clause-some c = rw c.read_token.ensures (token_some c.args.text.now c.requires)

pub returns-clause-within : goal.returns-clause-within
returns-clause-within c = rw c.read_token.ensures (token_within c.args.text.now c.requires)
