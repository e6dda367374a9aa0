use Rattle.std.proofs.Common.{◌∙◌, ◌==◌}
use Rattle.std.proofs.Math.Bool.{not}
use Rattle.dsec_spec.specs.Records.{Record}
use Rattle.dsec_sorted.proofs.SetLaws.{any_at}
use Rattle.dsec_sorted.proofs.rrset.has_other_ttl_at.Goals as goal

pub returns : goal.returns
returns c = c.is_other_ttl_among.ensures ∙ any_at (λ (r : Record). not (r.ttl == c.args.first.now.ttl)) c.args.records.now c.args.places.now
