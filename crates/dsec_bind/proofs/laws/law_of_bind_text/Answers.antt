use Rattle.std.proofs.Common.{◌≡◌, ◌<◌, All, Ok, ap, ◌∙◌, subst}
use Rattle.dsec_spec.specs.Names.{Labels, canonical_octets}
use Rattle.dsec_name.specs.NameDisplay.{name_text}
use Rattle.dsec_name.specs.TextReading.{name_of_text}
use Rattle.dsec_wire.specs.TypedData.{TypedData}
use Rattle.dsec_bind.proofs.ReadBack.{record_back}
use Rattle.dsec_bind.proofs.laws.law_of_bind_text.Goals as goal

pub returns : goal.returns
returns c =
    let it = c.args.it.now in
    let owner : All (λ octet. octet < 256) (canonical_octets it.owner) =
    subst (All (λ octet. octet < 256)) (c.as_slice.ensures.value ∙ c.canonical_octets.ensures ∙ ap canonical_octets c.owner-2.ensures) c.in_range.ensures in
    let rdata : All (λ octet. octet < 256) it.rdata =
    subst (All (λ octet. octet < 256)) (c.as_slice-2.ensures ∙ c.octets.ensures.value ∙ ap (λ (d : TypedData). d.octets) c.rdata.ensures.value) c.in_range-2.ensures in
    let read : name_of_text (name_text it.owner) ≡ Ok it.owner =
    subst (λ (name : Labels). name_of_text (name_text name) ≡ Ok name) c.owner.ensures c.law_of_display.ensures.back in
    record_back it owner rdata read c.requires.class c.requires.dnskey c.rdata.ensures.readable.at_most
