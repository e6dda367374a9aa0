use Rattle.std.proofs.Common.{◌≡◌, ◌<◌, ◌^◌, All, List, ℕ, Ok, ap, ◌∙◌, subst}
use Rattle.dsec_spec.specs.Names.{Labels}
use Rattle.dsec_name.specs.NameDisplay.{name_text}
use Rattle.dsec_name.specs.TextReading.{name_of_text_in}
use Rattle.dsec_wire.specs.TypedData.{TypedData}
use Rattle.dsec_record_text.proofs.laws.writable.Goals as goal

pub returns : goal.returns
returns c =
    let it = c.args.it.now in
    record {
      name = λ origin. subst (λ (name : Labels). name_of_text_in origin (name_text name) ≡ Ok name) c.owner.ensures (c.law_of_display.ensures.in_zone origin);
      owner = subst (All (λ (label : List ℕ). All (λ octet. octet < 256) label)) c.owner.ensures c.law_of_display.ensures.octets;
      ttl = subst (λ n. n < 2 ^ 32) (c.as_secs.ensures ∙ c.ttl.ensures) c.is_long.ensures;
      class = subst (λ n. n < 2 ^ 16) (c.to_int.ensures ∙ c.class.ensures) c.is_short.ensures;
      rtype = subst (λ n. n < 2 ^ 16) (c.to_int-2.ensures ∙ c.rtype.ensures) c.is_short-2.ensures;
      octets = subst (All (λ octet. octet < 256)) (c.as_slice.ensures ∙ c.octets.ensures.value ∙ ap (λ (d : TypedData). d.octets) c.rdata.ensures.value) c.in_range.ensures;
      readable = c.rdata.ensures.readable;
    }
