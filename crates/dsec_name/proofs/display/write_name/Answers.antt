use Rattle.std.proofs.Output.{has_written_of_eq}
use Rattle.dsec_name.proofs.NameShown.{shown_name}
use Rattle.dsec_name.proofs.display.write_name.Goals as goal

pub returns : goal.returns
returns g c =
    λ p o.
    let whole = shown_name c.args.name.now c.octets.result.now (λ e. let t = c.is_root.ensures.1 e in let f = c.if-is_root.false in absurd cc) c.octets.ensures.octets in
    has_written_of_eq _ _ _ _ _ whole (c.write_labels.ensures p o)
