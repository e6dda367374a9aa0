use Rattle.std.proofs.Common.{◌≡◌, ◌∙◌, sym, ap, ℕ, drop}
use Rattle.std.specs.Prelude.{Some}
use Rattle.dsec_spec.specs.Names.{Labels}
use Rattle.dsec_name.specs.Keys.{labels_of}
use Rattle.dsec_name.specs.Parts.{parent_of}
use Rattle.dsec_name.proofs.NameParts.{whole_split, others, parent_split, IsWhole-octets, labels_of-octets}
use Rattle.dsec_name.proofs.name.Name.parent.Goals as goal

pub keep-requires : goal.keep-requires
keep-requires c =
    let s = whole_split _ c.in-Some.field-0-0.now c.in-Some.after.now c.self.invariant (sym c.deref.ensures.value ∙ c.in-Some.ensures.cases.0) in
    let e = others _ _ _ c.in_ok-from_slice.field-0.items s (c.in_ok-from_slice.ensures.items ∙ (c.split_at.ensures.back ∙ ap (λ (n : ℕ). drop n c.in-Some.after.now) c.from.ensures)) in
    rw e (IsWhole-octets s.rest s.named)

pub returns : goal.returns
returns c =
    let s = whole_split _ c.in-Some.field-0-0.now c.in-Some.after.now c.self.invariant (sym c.deref.ensures.value ∙ c.in-Some.ensures.cases.0) in
    let e = others _ _ _ c.in_ok-from_slice.field-0.items s (c.in_ok-from_slice.ensures.items ∙ (c.split_at.ensures.back ∙ ap (λ (n : ℕ). drop n c.in-Some.after.now) c.from.ensures)) in
    let rest : c.keep.result ≡ s.rest = c.keep.ensures ∙ (ap labels_of e ∙ labels_of-octets s.rest) in
    ap (λ (name : Labels). Some name) rest ∙ sym (ap parent_of (sym c.self.view_is) ∙ parent_split _ _ _ s)
