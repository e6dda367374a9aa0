use Rattle.std.proofs.Common.{◌∙◌, ap, map, ℕ, Option}
use Rattle.std.specs.Prelude.{unwrap_or}
use Rattle.dsec_wire.specs.Fields.{field_view}
use Rattle.dsec_wire.proofs.SignedOctetsLaws.{no_more, at_end, at_next}
use Rattle.dsec_wire.proofs.signed_octets.SignedOctets.next_part.Goals as goal

pub returns-in_default-clause-end : goal.returns-in_default-clause-end
returns-in_default-clause-end c =
    let it = c.args.self.now in
    at_end it.is_lowered it.part.now (map field_view it.fields.now) it.rest.now c.requires.empty (ap (map field_view) (no_more it.fields.now c.in_default.ensures.cases)) c.requires.readable

pub returns-clause-same : goal.returns-clause-same
returns-clause-same c =
    let it = c.args.self.now in
    rw (c.split_at.ensures.front, c.split_at.ensures.back)
    (at_next it.is_lowered c.is_lowered.result it.part.now (field_view c.in-Some.field.now) (map field_view c.in-Some.fields.now) (map field_view it.fields.now) it.rest.now c.unwrap_or-size.result
    c.requires.empty (ap (map field_view) c.in-Some.ensures.cases.0) c.is_lowered.ensures (c.unwrap_or-size.ensures ∙ ap (λ (o : Option ℕ). unwrap_or o 0) c.part_size.ensures.exact) c.requires.readable)
