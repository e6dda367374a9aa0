use Rattle.std.proofs.Common.{List, ℕ, ap, ◌∙◌}
use Rattle.std.specs.Str.{bytes_eq}
use Rattle.dsec_nsec3_calls.proofs.shown.matches.Goals as goal

pub returns : goal.returns
returns g c = λ zone n e. c.is_owner.ensures ∙ ap (λ (hash : List ℕ). bytes_eq hash c.args.owner.now) (c.hash_for.ensures n e)
