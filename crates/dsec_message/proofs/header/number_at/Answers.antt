use Rattle.std.proofs.Common.{◌∙◌, sym, ap, ℕ, Option, Some}
use Rattle.std.specs.Prelude.{unwrap_or}
use Rattle.dsec_spec.proofs.RecordViewLemmas.{number_there}
use Rattle.dsec_message.proofs.header.number_at.Goals as goal

pub returns : goal.returns
returns c =
    let there = number_there c.args.message.now c.args.at c.requires in
    there.1 ∙ ap (λ (n : ℕ). Some n) (sym (c.unwrap_or.ensures ∙ ap (λ (o : Option ℕ). unwrap_or o 0) (c.u16_at.ensures ∙ there.1)))
